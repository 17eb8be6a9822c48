-- `machine::replay::Run::is_reproduced` meets its contract: the change is the number's, and leads to a state.
use Rattle.machine.specs.Fault.{changed}
use Rattle.machine.proofs.Faults.{change_in}
use Rattle.machine.proofs.replay.Run.is_reproduced.Goals as goal

pub is_reproduced_under-requires : goal.is_reproduced_under-requires
is_reproduced_under-requires c = rw c.change.ensures (change_in _ _ _ c.args.self.now.table.sound c.numbered-fault.ensures.known)

pub returns : goal.returns
unfolding changed
returns c = rw (← c.numbered-fault.ensures.fault, ← c.change.ensures) c.is_reproduced_under.ensures
