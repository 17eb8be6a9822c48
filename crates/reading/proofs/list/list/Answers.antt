-- `reading::list::list` meets its contract: each refusal is its rule's, and else what is written and answered is what the callees ensure.
use mathlib.Core.Path.{sym, ap, ◌∙◌}
use Rattle.house.proofs.Forms.{passed_on}
use Rattle.memory.proofs.Formed.{formed_held, formed_tallied}
use Rattle.memory.proofs.Known.{told_fine, rules_formed}
use Rattle.reading.specs.Reads.{listed}
use Rattle.reading.proofs.Listed.{list_refused, list_short, list_done}
use Rattle.reading.proofs.list.list.Goals as goal

pub returns-in_err-check_form : goal.returns-in_err-check_form
returns-in_err-check_form c =
    ap (λ r. listed r c.args.out.now) (passed_on c.from_residual.result c.from_residual.ensures.1)
    ∙ list_refused c.args.session.now c.args.tallies.now c.args.out.now (sym c.check_form.ensures ∙ c.in_err-check_form.was)

pub invariant_of-held : goal.invariant_of-held
invariant_of-held c = record { known = formed_held _ _ (rules_formed _ _ (told_fine _ c.check_form.ensures c.in_ok-check_form.was)) }

pub count_listed-count-requires : goal.count_listed-count-requires
count_listed-count-requires c = formed_tallied _ _ (rules_formed _ _ (told_fine _ c.check_form.ensures c.in_ok-check_form.was))

pub returns-then-out-count : goal.returns-then-out-count
returns-then-out-count c = list_short _ _ c.args.out.now (sym c.check_form.ensures ∙ c.in_ok-check_form.was) c.count_listed-count.ensures.value c.if-out-count.true

pub write_list-requires-clause-tallies_in_bounds : goal.write_list-requires-clause-tallies_in_bounds
write_list-requires-clause-tallies_in_bounds c = formed_tallied _ _ (rules_formed _ _ (told_fine _ c.check_form.ensures c.in_ok-check_form.was))

pub returns : goal.returns
returns c =
    list_done _ _ c.args.out.now (sym c.check_form.ensures ∙ c.in_ok-check_form.was) c.count_listed-count.ensures.value c.if-out-count.false c.write_list.ensures c.is_some_failing.ensures c.verdict_by-verdict.ensures
