-- `diagnosis::walk::Walk::of` meets its contract: what was marked says which cells were not executed.
use Rattle.std.proofs.Common.{rules}
use Rattle.machine.proofs.Cases.{case_step}
use Rattle.diagnosis.proofs.Walks.{walked}
use Rattle.diagnosis.proofs.walk.Walk.of.Goals as goal

pub mark_executed-requires-clause-inputs_in : goal.mark_executed-requires-clause-inputs_in
mark_executed-requires-clause-inputs_in c = case_step _ _ _ c.args.run.now.fits

pub invariant_of-result : goal.invariant_of-result
invariant_of-result c = record { walked = walked _ _ _ _ _ c.is_failing.ensures (search rules) c.mark_executed.ensures }
