-- `diagnosis::narrow` meets its contract: a passing case leaves all; of a failing one, what was marked up to its first symptom is kept.
use mathlib.Core.Path.{refl, sym}
use native.Mathlib.Omega.{arith}
use lib.Seq.{length-take-le}
use Rattle.machine.specs.Runs.{run_case}
use Rattle.diagnosis.proofs.Conflicts.{no_symptom, a_symptom, inputs_in, narrows_out, narrows_none}
use Rattle.diagnosis.proofs.narrow.Goals as goal

pub returns-then-found-eq0 : goal.returns-then-found-eq0
returns-then-found-eq0 c = sym (narrows_none _ _ _ (no_symptom _ _ _ c.symptoms-found.ensures c.if-found-eq0.true))

pub overflow_add-steps : goal.overflow_add-steps
overflow_add-steps c = let f = a_symptom _ (run_case c.args.run.now) _ c.symptoms-found.ensures c.if-found-eq0.false in omega (arith, f.1)

pub slice_bounds-mark_executed-end : goal.slice_bounds-mark_executed-end
slice_bounds-mark_executed-end c = let f = a_symptom _ (run_case c.args.run.now) _ c.symptoms-found.ensures c.if-found-eq0.false in sym (length-take-le _ _ (omega (arith, f.1)))

pub mark_executed-requires-clause-inputs_in : goal.mark_executed-requires-clause-inputs_in
mark_executed-requires-clause-inputs_in c = inputs_in _ _ _ c.args.run.now.fits _

pub returns : goal.returns
returns c = let f = a_symptom _ (run_case c.args.run.now) _ c.symptoms-found.ensures c.if-found-eq0.false in narrows_out _ _ c.args.run.now.table.sound _ c.args.run.now.fits _ c.requires _ c.symptoms-found.ensures f.0 _ refl _ _ c.mark_executed.ensures c.sweep.ensures
