-- `session::calls::hold_all` meets its contract. The invariant: the cases left make of the memory here what all of them make of the memory at entry.
use Rattle.house.specs.Cases.{cases_in}
use Rattle.house.specs.Left.{parts_left}
use Rattle.house.proofs.Left.{cases_of}
use Rattle.session.proofs.Changed.{Holding}
use Rattle.session.proofs.calls.hold_all.Given as goal

abbrev pub invariant-loop-case : goal.invariant-loop-case
invariant-loop-case l = Holding l.fn.session l.fn.tallies (cases_in l.record.bytes.now) (cases_of (parts_left l.case-iterator)) l.session l.tallies
