-- `session::calls::start` meets its contract: a refusal leaves everything, and else the table is stored and the tallies are cleared, for which there is room.
use mathlib.Core.Path.{ap, ◌∙◌}
use Rattle.house.proofs.Forms.{passed_on}
use Rattle.session.specs.Calls.{after}
use Rattle.session.proofs.Refused.{start_refused, start_room, start_done}
use Rattle.session.proofs.calls.start.Goals as goal

pub returns-in_err-check_start : goal.returns-in_err-check_start
returns-in_err-check_start c =
    ap (λ r. after r c.args.session.now c.args.tallies.now) (passed_on c.from_residual.result c.from_residual.ensures.1) ∙ start_refused _ _ _ c.check_start.ensures c.in_err-check_start.was

pub store_table-requires : goal.store_table-requires
store_table-requires c = (start_room _ _ _ c.check_start.ensures c.in_ok-check_start.was).0

pub clear_tallies-requires : goal.clear_tallies-requires
clear_tallies-requires c = (start_room _ _ _ c.check_start.ensures c.in_ok-check_start.was).1

pub returns : goal.returns
returns c = start_done _ _ _ c.check_start.ensures c.in_ok-check_start.was c.store_table.ensures c.clear_tallies.ensures
