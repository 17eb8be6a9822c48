-- `machine::fault::Fault::new` meets its contract: the test says whether the number is in use.
use borrow.Author.Tests.{lt-ltb, le-ltb}
use Rattle.machine.specs.Fault.{made_fault}
use Rattle.machine.proofs.fault.Fault.new.Goals as goal

pub returns-then-numbers-number-clause-made : goal.returns-then-numbers-number-clause-made
unfolding made_fault
returns-then-numbers-number-clause-made c = rw (le-ltb _ _ (rw c.numbers.ensures.value at c.if-numbers-number.true))

pub returns-clause-made : goal.returns-clause-made
unfolding made_fault
returns-clause-made c = rw (lt-ltb _ _ (rw c.numbers.ensures.value at c.if-numbers-number.false), c.numbered.ensures.fault)
