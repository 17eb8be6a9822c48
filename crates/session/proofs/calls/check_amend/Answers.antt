-- `session::calls::check_amend` meets its contract: the place's refusals first, then the new case's, then whether the old one can be taken away.
use mathlib.Core.Path.{sym, ap, ◌∙◌}
use mathlib.Core.Bool.{not}
use Rattle.shapes.proofs.Refusals.{ruling_join_refused, ruling_join_fine, ruling_here, ruling_past, ruling_end}
use Rattle.shapes.proofs.Tests.{lacks, holds}
use Rattle.house.specs.Refusal.{checked}
use Rattle.house.proofs.Forms.{passed_on}
use Rattle.machine.specs.Runs.{Bench}
use Rattle.session.specs.Calls.{amend_rules}
use Rattle.memory.proofs.Formed.{formed_held}
use Rattle.memory.proofs.Held.{slot_held}
use Rattle.memory.proofs.Known.{told_fine, told_refused, rules_slot, slot_room, part_fine, part_refused}
use Rattle.memory.proofs.Runs.{run_some, run_held}
use Rattle.session.proofs.Refused.{case_told, slot_some, take_room, take_told}
use Rattle.session.proofs.calls.check_amend.Goals as goal

pub returns-in_err-check_slot : goal.returns-in_err-check_slot
unfolding amend_rules
returns-in_err-check_slot c =
    passed_on c.from_residual.result c.from_residual.ensures.1
    ∙ sym (ap checked (ruling_join_refused _ _ _ (told_refused _ c.check_slot.ensures c.in_err-check_slot.was)))

pub invariant_of-held : goal.invariant_of-held
invariant_of-held c = record { known = formed_held _ _ (rules_slot _ _ _ (told_fine _ c.check_slot.ensures c.in_ok-check_slot.was)).0 }

pub run_at-requires : goal.run_at-requires
run_at-requires c = (slot_room _ _ _ (rules_slot _ _ _ (told_fine _ c.check_slot.ensures c.in_ok-check_slot.was))).1

pub unwrap-run-requires : goal.unwrap-run-requires
unwrap-run-requires c = run_some c.args.session.now c.args.place _ c.run_at.ensures (slot_held _ _ (rules_slot _ _ _ (told_fine _ c.check_slot.ensures c.in_ok-check_slot.was)).1)

pub can_take-requires-clause-room : goal.can_take-requires-clause-room
can_take-requires-clause-room c =
    take_room c.args.session.now _ c.args.place _ (run_held c.args.session.now c.args.place _ c.run_at.ensures c.unwrap-run.ensures).1 (rules_slot _ _ _ (told_fine _ c.check_slot.ensures c.in_ok-check_slot.was)).0

pub can_take-requires-clause-some : goal.can_take-requires-clause-some
can_take-requires-clause-some c = slot_some _ _ _ (rules_slot _ _ _ (told_fine _ c.check_slot.ensures c.in_ok-check_slot.was))

pub returns-in_err-check_case : goal.returns-in_err-check_case
unfolding amend_rules
returns-in_err-check_case c =
    passed_on c.from_residual-in_err-check_case.result c.from_residual-in_err-check_case.ensures.1
    ∙ sym (ap checked (ruling_join_fine _ _ (told_fine _ c.check_slot.ensures c.in_ok-check_slot.was) ∙ part_refused _ _ (case_told c.args.session.now (ap (λ (b : Bench). b.head) (run_held c.args.session.now c.args.place _ c.run_at.ensures c.unwrap-run.ensures).1) _ _ c.check_case.ensures) c.in_err-check_case.was))

pub returns-then-not-can_take : goal.returns-then-not-can_take
unfolding amend_rules
returns-then-not-can_take c =
    sym
    (ap checked
    (ruling_join_fine _ _ (told_fine _ c.check_slot.ensures c.in_ok-check_slot.was)
    ∙ part_fine _ _ (case_told c.args.session.now (ap (λ (b : Bench). b.head) (run_held c.args.session.now c.args.place _ c.run_at.ensures c.unwrap-run.ensures).1) _ _ c.check_case.ensures) c.in_ok-check_case.was
    ∙ ruling_here _ _ (ap not (lacks (take_told c.args.session.now c.args.tallies.now c.args.place _ (run_held c.args.session.now c.args.place _ c.run_at.ensures c.unwrap-run.ensures).1 c.can_take.ensures) c.if-not-can_take.true))))

pub returns : goal.returns
unfolding amend_rules
returns c =
    sym
    (ap checked
    (ruling_join_fine _ _ (told_fine _ c.check_slot.ensures c.in_ok-check_slot.was)
    ∙ part_fine _ _ (case_told c.args.session.now (ap (λ (b : Bench). b.head) (run_held c.args.session.now c.args.place _ c.run_at.ensures c.unwrap-run.ensures).1) _ _ c.check_case.ensures) c.in_ok-check_case.was
    ∙ ruling_past _ _ (ap not (holds (take_told c.args.session.now c.args.tallies.now c.args.place _ (run_held c.args.session.now c.args.place _ c.run_at.ensures c.unwrap-run.ensures).1 c.can_take.ensures) c.if-not-can_take.false))
    ∙ ruling_end))
