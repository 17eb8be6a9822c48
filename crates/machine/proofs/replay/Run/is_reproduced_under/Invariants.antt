-- `machine::replay::Run::is_reproduced_under` meets its contract. The invariant: the replay has met no symptom, and gone on with to the end, it ends as a fresh one does.
use mathlib.Core.Path.{◌≡◌}
use Rattle.machine.specs.Fault.{under}
use Rattle.machine.specs.Tested.{table_machine}
use Rattle.machine.proofs.Replayed.{Underway}
use Rattle.machine.proofs.replay.Run.is_reproduced_under.Given as goal

abbrev pub invariant-loop-done : goal.invariant-loop-done
invariant-loop-done l = Underway l.self.table.head (under (table_machine l.self.table) l.change) l.self.inputs.now l.self.outputs.now l.done l.replay × (l.replay.symptoms ≡ 0)
