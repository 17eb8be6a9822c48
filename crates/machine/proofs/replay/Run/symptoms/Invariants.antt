-- `machine::replay::Run::symptoms` meets its contract. The invariant: the replay, gone on with to the end, ends as a fresh one does.
use Rattle.machine.specs.Tested.{table_machine}
use Rattle.machine.proofs.Replayed.{Underway}
use Rattle.machine.proofs.replay.Run.symptoms.Given as goal

abbrev pub invariant-loop-step : goal.invariant-loop-step
invariant-loop-step l = Underway l.self.table.head (table_machine l.self.table) l.self.inputs.now l.self.outputs.now l.step l.replay
