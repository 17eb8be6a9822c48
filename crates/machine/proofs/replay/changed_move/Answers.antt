-- `machine::replay::changed_move` meets its contract: at the changed cell the change's move, elsewhere the specified one.
use Rattle.machine.proofs.Moves.{specified_move, changed_here, changed_elsewhere}
use Rattle.machine.proofs.replay.changed_move.Goals as goal

pub returns-then-cell-change-clause-moves : goal.returns-then-cell-change-clause-moves
returns-then-cell-change-clause-moves c = changed_here _ _ _ _ c.cell_of-cell.ensures.value c.if-cell-change.true

pub returns-clause-moves : goal.returns-clause-moves
returns-clause-moves c = let m = specified_move _ _ c.args.table.now.sound _ _ _ _ c.requires.state_lt_states.0 c.requires.state_lt_states.1 c.cell_of-cell.ensures.value c.cell_of-cell.ensures.upper_bound c.completed_move.ensures in changed_elsewhere _ _ _ _ _ c.cell_of-cell.ensures.value c.if-cell-change.false m.0

pub returns-clause-state : goal.returns-clause-state
returns-clause-state c = let m = specified_move _ _ c.args.table.now.sound _ _ _ _ c.requires.state_lt_states.0 c.requires.state_lt_states.1 c.cell_of-cell.ensures.value c.cell_of-cell.ensures.upper_bound c.completed_move.ensures in m.1
