-- `machine::fault::Fault::numbered` meets its contract: the remainder's test says of which kind the fault is.
use borrow.Author.Tests.{lt-ltb, le-ltb}
use Rattle.machine.specs.Fault.{fault_of}
use Rattle.machine.proofs.Faults.{fault_in}
use Rattle.machine.proofs.fault.Fault.numbered.Goals as goal

pub returns-then-value-head-clause-fault : goal.returns-then-value-head-clause-fault
unfolding fault_of
returns-then-value-head-clause-fault c = let f = fault_in _ c.requires.head_in _ (lt-ltb _ _ c.requires.number_bound) in rw (lt-ltb _ _ c.if-value-head.true)

pub returns-clause-fault : goal.returns-clause-fault
unfolding fault_of
returns-clause-fault c = let f = fault_in _ c.requires.head_in _ (lt-ltb _ _ c.requires.number_bound) in rw (le-ltb _ _ c.if-value-head.false)
