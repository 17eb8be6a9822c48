-- `machine::replay::Run::is_expected` meets its contract: a change to what the table has anyway leaves the machine the same.
use native.Mathlib.Nat.{mul-pos}
use Rattle.machine.proofs.Faults.{first_cell_same}
use Rattle.machine.proofs.Moves.{completed_in}
use Rattle.machine.proofs.replay.Run.is_expected.Goals as goal

pub is_reproduced_under-requires : goal.is_reproduced_under-requires
is_reproduced_under-requires c = rw c.completed_move-to.ensures (completed_in _ _ c.args.self.now.table.sound 0 0 c.args.self.now.table.sound.head.some_states (mul-pos c.args.self.now.table.sound.head.some_states c.args.self.now.table.sound.head.some_inputs))

pub returns : goal.returns
returns c = rw (first_cell_same _ _ _ c.completed_move-to.ensures) at c.is_reproduced_under.ensures
