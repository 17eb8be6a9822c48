-- `session::calls::check_load` meets its contract: the refusals for form first, then the record's, then those of its cases.
use mathlib.Core.Path.{sym, ◌∙◌}
use Rattle.shapes.proofs.Refusals.{ruling_join_fine, ruling_join_refused}
use Rattle.house.proofs.Forms.{passed_on}
use Rattle.house.proofs.Records.{rules_refuse, rules_pass}
use Rattle.session.specs.Calls.{load_rules}
use Rattle.memory.proofs.Known.{told_fine, told_refused, rules_formed, part_fine, part_refused}
use Rattle.session.proofs.Refused.{check_load_refused, check_load_counted}
use Rattle.session.proofs.calls.check_load.Goals as goal

pub returns-in_err-check_form : goal.returns-in_err-check_form
unfolding load_rules
returns-in_err-check_form c =
    passed_on c.from_residual.result c.from_residual.ensures.1 ∙ check_load_refused _ _ (part_refused _ _ c.check_form.ensures c.in_err-check_form.was)

pub returns-in_err-count : goal.returns-in_err-count
unfolding load_rules
returns-in_err-count c =
    passed_on c.from_residual-in_err-count.result c.from_residual-in_err-count.ensures.1
    ∙ check_load_refused _ _
    (part_fine _ _ c.check_form.ensures c.in_ok-check_form.was ∙ ruling_join_refused _ _ _ (rules_refuse _ (sym c.read_record.ensures ∙ c.in_err-count.was)))

pub check_room_for-requires : goal.check_room_for-requires
check_room_for-requires c = (rules_formed _ _ (told_fine _ c.check_form.ensures c.in_ok-check_form.was)).session_room

pub returns-in_err-check_room_for : goal.returns-in_err-check_room_for
unfolding load_rules
returns-in_err-check_room_for c =
    passed_on c.from_residual-in_err-check_room_for.result c.from_residual-in_err-check_room_for.ensures.1
    ∙ check_load_refused _ _
    (part_fine _ _ c.check_form.ensures c.in_ok-check_form.was ∙ ruling_join_fine _ _ (rules_pass _ (sym c.read_record.ensures ∙ c.in_ok-count.was)).0 ∙ told_refused _ c.check_room_for.ensures c.in_err-check_room_for.was)

pub returns : goal.returns
unfolding load_rules
returns c =
    check_load_counted _
    (part_fine _ _ c.check_form.ensures c.in_ok-check_form.was ∙ ruling_join_fine _ _ (rules_pass _ (sym c.read_record.ensures ∙ c.in_ok-count.was)).0 ∙ told_fine _ c.check_room_for.ensures c.in_ok-check_room_for.was)
    (rules_pass _ (sym c.read_record.ensures ∙ c.in_ok-count.was)).1
