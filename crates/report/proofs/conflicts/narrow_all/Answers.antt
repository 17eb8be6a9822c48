use mathlib.Core.Path.{◌≡◌}
use Rattle.memory.specs.Layout.{places_most, cases}
use Rattle.report.proofs.Saved.{bits_narrowed, narrow_begins, narrow_turn}
use native.Mathlib.Omega.{arith}
use Rattle.report.proofs.conflicts.narrow_all.Goals as goal

pub loop-place-init : goal.loop-place-init
loop-place-init c = narrow_begins _ _ _

pub narrow_at-requires-clause-bits : goal.narrow_at-requires-clause-bits
narrow_at-requires-clause-bits c = bits_narrowed _ _ _ _ c.loop-place.invariant c.requires

pub loop-place-preserved : goal.loop-place-preserved
loop-place-preserved c = narrow_turn _ _ _ _ _ _ c.loop-place.invariant c.narrow_at.ensures

pub returns : goal.returns
unfolding cases
returns c = let e : c.loop-place.place ≡ places_most = omega arith in rw e at c.loop-place.invariant
