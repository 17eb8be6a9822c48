use mathlib.Core.Path.{◌≡◌, refl, ◌∙◌}
use Rattle.memory.specs.Layout.{places_most, cases}
use Rattle.report.proofs.Saved.{filled_none, rest_begins, rest_turn, rest_room, rest_written}
use native.Mathlib.Omega.{arith}
use Rattle.report.proofs.save.write_cases.Goals as goal

pub loop-place-init : goal.loop-place-init
loop-place-init c = (rw rest_begins, rw (rest_begins, filled_none))

pub write_case-at-requires-clause-place_in_bounds : goal.write_case-at-requires-clause-place_in_bounds
write_case-at-requires-clause-place_in_bounds c = rest_room _ _ _ _ _ (omega arith) c.loop-place.invariant.0 c.loop-place.invariant.1 c.requires

pub loop-place-preserved : goal.loop-place-preserved
loop-place-preserved c = (c.write_case-at.ensures.next ∙ rest_turn _ _ _ _ c.loop-place.invariant.0 refl, rest_written _ _ _ _ _ _ c.loop-place.invariant.0 c.loop-place.invariant.1 c.write_case-at.ensures.written)

pub returns : goal.returns
unfolding cases
returns c = let e : c.loop-place.place ≡ places_most = omega arith in rw e at c.loop-place.invariant.1
