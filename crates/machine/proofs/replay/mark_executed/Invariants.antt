-- `machine::replay::mark_executed` meets its contract. The invariant: what is left to mark, marked into what was marked so far, is the whole marked.
use Rattle.machine.specs.Tested.{table_machine}
use Rattle.machine.proofs.Marks.{Marking}
use Rattle.machine.proofs.replay.mark_executed.Given as goal

abbrev pub invariant-loop-input : goal.invariant-loop-input
invariant-loop-input l = Marking l.table.head (table_machine l.table) l.inputs l.fn.out l.input-index l.state l.out
