-- `retest::check_retest` meets its contract: what is read of the two records and the test of the position say what the rules say.
use mathlib.Core.Path.{sym, ◌∙◌}
use Rattle.house.proofs.Forms.{passed_on}
use Rattle.house.proofs.Records.{rules_refuse, rules_pass}
use Rattle.retest.proofs.Retests.{rules_first, rules_second, rules_position, rules_fine}
use Rattle.retest.proofs.check_retest.Goals as goal

pub returns-in_err-count : goal.returns-in_err-count
returns-in_err-count c =
    let e = rules_first c.args.first.now c.args.retest.now c.args.position (rules_refuse _ (sym c.read_record.ensures ∙ c.in_err-count.was)) in
    passed_on c.from_residual.result c.from_residual.ensures.1 ∙ rw e

pub returns-in_err-again : goal.returns-in_err-again
returns-in_err-again c =
    let f = rules_pass _ (sym c.read_record.ensures ∙ c.in_ok-count.was) in
    let e = rules_second c.args.first.now c.args.retest.now c.args.position f.0 (rules_refuse _ (sym c.read_record-2.ensures ∙ c.in_err-again.was)) in
    passed_on c.from_residual-in_err-again.result c.from_residual-in_err-again.ensures.1 ∙ rw e

pub returns-then-count-position : goal.returns-then-count-position
returns-then-count-position c =
    let f = rules_pass _ (sym c.read_record.ensures ∙ c.in_ok-count.was) in
    let g = rules_pass _ (sym c.read_record-2.ensures ∙ c.in_ok-again.was) in
    rw (rules_position _ _ _ f.0 g.0 f.1 c.if-count-position.true)

pub returns : goal.returns
returns c =
    let f = rules_pass _ (sym c.read_record.ensures ∙ c.in_ok-count.was) in
    let g = rules_pass _ (sym c.read_record-2.ensures ∙ c.in_ok-again.was) in
    rw (rules_fine _ _ _ f.0 g.0 f.1 c.if-count-position.false, f.1, g.1)
