-- `machine::case::is_case` meets its contract: the tests are those of `good_case`.
use mathlib.Core.Path.{sym, ap, ◌∙◌}
use Rattle.std.proofs.Common.{rules}
use borrow.Author.Tests.{eq-eqb}
use Rattle.std.specs.Option.{is_none}
use Rattle.shapes.proofs.Found.{found_none}
use Rattle.machine.specs.Case.{good_case, first_bad_step, bad_step}
use Rattle.machine.proofs.case.is_case.Goals as goal

pub returns-then-outputs-inputs : goal.returns-then-outputs-inputs
unfolding good_case first_bad_step
returns-then-outputs-inputs c = let w = sym c.is_within.ensures ∙ c.if-outputs-inputs.true.0 in rw (w, eq-eqb _ _ c.if-outputs-inputs.true.1) (search rules ∙ ap is_none c.first_bad_step.ensures ∙ found_none (bad_step c.args.head c.args.inputs.now c.args.outputs.now) _)
