-- `memory::form::check_form` meets its contract: the refusal for room first, then the one for form.
use mathlib.Core.Path.{sym, ◌∙◌}
use Rattle.shapes.proofs.Tests.{lacks, holds}
use Rattle.house.proofs.Forms.{passed_on}
use Rattle.memory.proofs.Checks.{form_short, room_known, form_damaged, form_fine}
use Rattle.memory.proofs.form.check_form.Goals as goal

pub returns-in_err-check_room : goal.returns-in_err-check_room
returns-in_err-check_room c = passed_on c.from_residual.result c.from_residual.ensures.1 ∙ sym (form_short c.args.session.now c.args.tallies.now (sym c.check_room.ensures ∙ c.in_err-check_room.was))

pub is_formed-requires : goal.is_formed-requires
is_formed-requires c = room_known c.args.session.now c.args.tallies.now (sym c.check_room.ensures ∙ c.in_ok-check_room.was)

pub returns-then-not-is_formed : goal.returns-then-not-is_formed
returns-then-not-is_formed c = sym (form_damaged c.args.session.now c.args.tallies.now (sym c.check_room.ensures ∙ c.in_ok-check_room.was) (lacks c.is_formed.ensures c.if-not-is_formed.true))

pub returns : goal.returns
returns c = sym (form_fine c.args.session.now c.args.tallies.now (sym c.check_room.ensures ∙ c.in_ok-check_room.was) (holds c.is_formed.ensures c.if-not-is_formed.false))
