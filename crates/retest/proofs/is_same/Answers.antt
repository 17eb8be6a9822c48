-- `retest::is_same` meets its contract: `==` of two slices tells whether they hold the same numbers.
use mathlib.Core.Path.{◌∙◌}
use Rattle.retest.specs.Retest.{same_inputs}
use Rattle.retest.proofs.Retests.{same_slices}
use Rattle.retest.proofs.is_same.Goals as goal

pub returns : goal.returns
unfolding same_inputs
returns c = c.eq.ensures ∙ same_slices _ _
