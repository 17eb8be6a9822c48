-- `session::calls::check_room_for` meets its contract: the cases' refusals first, then whether there are fewer free places than cases.
use mathlib.Core.Path.{sym, ap, ◌∙◌}
use Rattle.shapes.proofs.Refusals.{ruling_here, ruling_past, ruling_end}
use Rattle.house.specs.Refusal.{checked}
use Rattle.house.proofs.Forms.{passed_on}
use Rattle.house.proofs.Records.{rules_pass}
use Rattle.session.specs.Calls.{room_for_rules}
use Rattle.memory.proofs.Known.{part_fine, part_refused}
use Rattle.session.proofs.Refused.{cases_told, crowded, uncrowded}
use Rattle.session.proofs.calls.check_room_for.Goals as goal

pub returns-in_err-check_cases : goal.returns-in_err-check_cases
unfolding room_for_rules
returns-in_err-check_cases c =
    passed_on c.from_residual.result c.from_residual.ensures.1 ∙ sym (ap checked (part_refused _ _ (cases_told c.args.session.now c.head_of.ensures _ _ c.check_cases.ensures) c.in_err-check_cases.was))

pub returns-then-count_held-record : goal.returns-then-count_held-record
unfolding room_for_rules
returns-then-count_held-record c =
    let count = (rules_pass _ c.args.record.now.read).1 in
    sym
    (ap checked
    (part_fine _ _ (cases_told c.args.session.now c.head_of.ensures _ _ c.check_cases.ensures) c.in_ok-check_cases.was
    ∙ ruling_here _ _ (crowded c.args.session.now c.args.record.now.bytes.now c.count_held.ensures.value count c.if-count_held-record.true)))

pub returns : goal.returns
unfolding room_for_rules
returns c =
    let count = (rules_pass _ c.args.record.now.read).1 in
    sym
    (ap checked
    (part_fine _ _ (cases_told c.args.session.now c.head_of.ensures _ _ c.check_cases.ensures) c.in_ok-check_cases.was
    ∙ ruling_past _ _ (uncrowded c.args.session.now c.args.record.now.bytes.now c.count_held.ensures.value count c.if-count_held-record.false)
    ∙ ruling_end))
