-- `session::calls::check_start` meets its contract: the refusal for room first, then the one of the table file.
use mathlib.Core.Path.{sym, ap, ◌∙◌}
use Rattle.house.specs.Refusal.{checked}
use Rattle.house.proofs.Forms.{passed_on}
use Rattle.session.specs.Calls.{start_rules}
use Rattle.memory.proofs.Known.{part_fine, part_refused}
use Rattle.session.proofs.Refused.{table_told_refused, table_told_fine}
use Rattle.session.proofs.calls.check_start.Goals as goal

pub returns-in_err-check_room : goal.returns-in_err-check_room
unfolding start_rules
returns-in_err-check_room c = passed_on c.from_residual.result c.from_residual.ensures.1 ∙ sym (ap checked (part_refused _ _ c.check_room.ensures c.in_err-check_room.was))

pub returns-in_err-read_table : goal.returns-in_err-read_table
unfolding start_rules
returns-in_err-read_table c =
    passed_on c.from_residual-in_err-read_table.result c.from_residual-in_err-read_table.ensures.1
    ∙ sym (ap checked (part_fine _ _ c.check_room.ensures c.in_ok-check_room.was ∙ table_told_refused _ c.read_table.ensures c.in_err-read_table.was))

pub returns : goal.returns
unfolding start_rules
returns c = sym (ap checked (part_fine _ _ c.check_room.ensures c.in_ok-check_room.was ∙ table_told_fine _ c.read_table.ensures c.in_ok-read_table.was))
