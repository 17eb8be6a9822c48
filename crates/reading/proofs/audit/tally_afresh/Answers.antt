use mathlib.Core.Path.{◌≡◌, refl}
use native.Mathlib.Omega.{arith}
use Rattle.shapes.specs.Keep as keep-specs
use Rattle.diagnosis.specs.Diagnosis.{tally}
use Rattle.memory.specs.Layout.{places_most, held_to, cases}
use Rattle.reading.proofs.Listed.{tally_turn}
use Rattle.reading.proofs.audit.tally_afresh.Goals as goal

pub loop-place-init : goal.loop-place-init
unfolding held_to tally keep-specs.count
loop-place-init c = (refl, omega arith)

pub loop-place-preserved : goal.loop-place-preserved
loop-place-preserved c = (tally_turn c.args.held.now.bytes.now _ c.loop-place.place c.loop-place.count c.missed_at-count.result c.loop-place.invariant.0 c.missed_at-count.ensures.value, omega arith)

pub returns : goal.returns
unfolding cases
returns c = let e : c.loop-place.place ≡ places_most = omega arith in rw e at c.loop-place.invariant.0
