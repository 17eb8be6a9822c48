-- `machine::table::Table::specified_move` meets its contract: the move is the completed one of the cell, and leads to a state.
use Rattle.machine.proofs.Moves.{specified_move}
use Rattle.machine.proofs.table.Table.specified_move.Goals as goal

pub returns-clause-moves : goal.returns-clause-moves
returns-clause-moves c = (specified_move _ _ c.args.self.now.sound _ _ _ _ c.requires.0 c.requires.1 c.cell_of.ensures.value c.cell_of.ensures.upper_bound c.completed_move.ensures).0

pub returns-clause-state : goal.returns-clause-state
returns-clause-state c = (specified_move _ _ c.args.self.now.sound _ _ _ _ c.requires.0 c.requires.1 c.cell_of.ensures.value c.cell_of.ensures.upper_bound c.completed_move.ensures).1
