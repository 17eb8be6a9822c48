-- `memory::slot::check_slot` meets its contract: the refusals for form first, then that of the place.
use mathlib.Core.Path.{sym, ap, ◌∙◌}
use Rattle.house.specs.Refusal.{checked}
use Rattle.house.proofs.Forms.{passed_on}
use Rattle.memory.proofs.Formed.{formed_held}
use Rattle.memory.proofs.Known.{told_fine, told_refused, rules_formed}
use Rattle.memory.proofs.Runs.{slot_by_form, slot_ruled, slot_fine}
use Rattle.memory.proofs.slot.check_slot.Goals as goal

pub returns-in_err-check_form : goal.returns-in_err-check_form
returns-in_err-check_form c =
    passed_on c.from_residual.result c.from_residual.ensures.1 ∙ sym (ap checked (slot_by_form _ _ _ (told_refused _ c.check_form.ensures c.in_err-check_form.was)))

pub invariant_of-slot : goal.invariant_of-slot
invariant_of-slot c = record { known = formed_held _ _ (rules_formed _ _ (told_fine _ c.check_form.ensures c.in_ok-check_form.was)) }

pub returns-in_err-slot : goal.returns-in_err-slot
returns-in_err-slot c =
    passed_on c.from_residual-in_err-slot.result c.from_residual-in_err-slot.ensures.1
    ∙ sym (ap checked (slot_ruled c.args.session.now c.args.tallies.now c.args.place (told_fine _ c.check_form.ensures c.in_ok-check_form.was) _ c.slot.ensures c.in_err-slot.was))

pub returns : goal.returns
returns c = sym (ap checked (slot_fine c.args.session.now c.args.tallies.now c.args.place (told_fine _ c.check_form.ensures c.in_ok-check_form.was) _ c.slot.ensures c.in_ok-slot.was))
