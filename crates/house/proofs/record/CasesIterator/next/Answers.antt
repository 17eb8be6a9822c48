-- `house::record::Cases` gives the cases that are left, one after the other.
use mathlib.Core.Path.{ap}
use native.Mathlib.Omega.{arith}
use lib.ListN.{length}
use Rattle.std.proofs.Common.{rules}
use Rattle.house.proofs.Left.{left_none, left_fits, left_inside, left_steps, left_place, left_next}
use Rattle.house.proofs.record.CasesIterator.next.Goals as goal

pub returns-then-self-clause-steps : goal.returns-then-self-clause-steps
returns-then-self-clause-steps c = (left_none c.args.self.now c.if-self.true, left_none c.args.self.now c.if-self.true)

pub case_there-case-requires : goal.case_there-case-requires
case_there-case-requires c = left_fits c.args.self.now c.if-self.false

pub overflow_add-self-2 : goal.overflow_add-self-2
overflow_add-self-2 c = omega (arith, left_inside c.args.self.now c.if-self.false)

pub overflow_add-self-3 : goal.overflow_add-self-3
overflow_add-self-3 c = omega (arith, left_inside c.args.self.now c.if-self.false, left_steps c.args.self.now c.if-self.false _ _ c.case_there-case.ensures.case)

pub invariant_of-self : goal.invariant_of-self
invariant_of-self c = record { place = left_place c.args.self.now c.if-self.false _ _ c.case_there-case.ensures.case; few = omega arith }

pub returns-clause-steps : goal.returns-clause-steps
returns-clause-steps c = left_next c.args.self.now c.if-self.false _ _ c.case_there-case.ensures.case _ c.case_there-case.ensures.begins

pub returns-clause-goes : goal.returns-clause-goes
returns-clause-goes c = let shorter = ap length (left_next c.args.self.now c.if-self.false _ _ c.case_there-case.ensures.case _ c.case_there-case.ensures.begins) in search rules
