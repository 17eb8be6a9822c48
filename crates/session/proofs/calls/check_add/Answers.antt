-- `session::calls::check_add` meets its contract: the refusals for form first, then the case's, then whether a place is free.
use mathlib.Core.Path.{sym, ap, ◌∙◌}
use Rattle.shapes.proofs.Refusals.{ruling_here, ruling_past, ruling_end}
use Rattle.house.specs.Refusal.{checked}
use Rattle.house.proofs.Forms.{passed_on}
use Rattle.session.specs.Calls.{add_rules}
use Rattle.memory.proofs.Known.{told_fine, rules_formed, part_fine, part_refused}
use Rattle.session.proofs.Refused.{case_told, full_here, full_not}
use Rattle.session.proofs.calls.check_add.Goals as goal

pub returns-in_err-check_form : goal.returns-in_err-check_form
unfolding add_rules
returns-in_err-check_form c = passed_on c.from_residual.result c.from_residual.ensures.1 ∙ sym (ap checked (part_refused _ _ c.check_form.ensures c.in_err-check_form.was))

pub head_of-requires : goal.head_of-requires
head_of-requires c = (rules_formed _ _ (told_fine _ c.check_form.ensures c.in_ok-check_form.was)).session_room

pub returns-in_err-check_case : goal.returns-in_err-check_case
unfolding add_rules
returns-in_err-check_case c =
    passed_on c.from_residual-in_err-check_case.result c.from_residual-in_err-check_case.ensures.1
    ∙ sym (ap checked (part_fine _ _ c.check_form.ensures c.in_ok-check_form.was ∙ part_refused _ _ (case_told c.args.session.now c.head_of.ensures _ _ c.check_case.ensures) c.in_err-check_case.was))

pub free_place-requires : goal.free_place-requires
free_place-requires c = (rules_formed _ _ (told_fine _ c.check_form.ensures c.in_ok-check_form.was)).session_room

pub returns-then-is_none : goal.returns-then-is_none
unfolding add_rules
returns-then-is_none c =
    sym
    (ap checked
    (part_fine _ _ c.check_form.ensures c.in_ok-check_form.was
    ∙ part_fine _ _ (case_told c.args.session.now c.head_of.ensures _ _ c.check_case.ensures) c.in_ok-check_case.was
    ∙ ruling_here _ _ (full_here _ _ c.free_place.ensures c.if-is_none.ensures)))

pub returns : goal.returns
unfolding add_rules
returns c =
    sym
    (ap checked
    (part_fine _ _ c.check_form.ensures c.in_ok-check_form.was
    ∙ part_fine _ _ (case_told c.args.session.now c.head_of.ensures _ _ c.check_case.ensures) c.in_ok-check_case.was
    ∙ ruling_past _ _ (full_not _ _ c.free_place.ensures c.if-is_none.ensures)
    ∙ ruling_end))
