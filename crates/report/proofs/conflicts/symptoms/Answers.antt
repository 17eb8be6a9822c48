-- `report::conflicts::symptoms` meets its contract: the run is of the place's case.
use mathlib.Core.Path.{◌∙◌}
use Rattle.house.proofs.Forms.{passed_on}
use Rattle.memory.proofs.Formed.{formed_held}
use Rattle.memory.proofs.Held.{slot_held}
use Rattle.memory.proofs.Known.{told_fine, told_refused, rules_slot, slot_room}
use Rattle.memory.proofs.Runs.{run_some, run_held}
use Rattle.report.proofs.Saved.{symptoms_refused, symptoms_shown}
use Rattle.report.proofs.conflicts.symptoms.Goals as goal

pub returns-in_err-check_slot : goal.returns-in_err-check_slot
returns-in_err-check_slot c =
    passed_on c.from_residual.result c.from_residual.ensures.1 ∙ symptoms_refused _ _ _ (told_refused _ c.check_slot.ensures c.in_err-check_slot.was)

pub invariant_of-run_at : goal.invariant_of-run_at
invariant_of-run_at c = record { known = formed_held _ _ (rules_slot _ _ _ (told_fine _ c.check_slot.ensures c.in_ok-check_slot.was)).0 }

pub run_at-requires : goal.run_at-requires
run_at-requires c = (slot_room _ _ _ (rules_slot _ _ _ (told_fine _ c.check_slot.ensures c.in_ok-check_slot.was))).1

pub unwrap-run-requires : goal.unwrap-run-requires
unwrap-run-requires c = run_some c.args.session.now c.args.place _ c.run_at.ensures (slot_held _ _ (rules_slot _ _ _ (told_fine _ c.check_slot.ensures c.in_ok-check_slot.was)).1)

pub returns : goal.returns
returns c = symptoms_shown c.args.session.now c.args.tallies.now c.args.place (told_fine _ c.check_slot.ensures c.in_ok-check_slot.was) _ (run_held c.args.session.now c.args.place _ c.run_at.ensures c.unwrap-run.ensures).1 c.symptoms.ensures
