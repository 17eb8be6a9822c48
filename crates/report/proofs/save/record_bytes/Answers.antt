use mathlib.Core.Path.{◌≡◌, sym, ◌∙◌}
use Rattle.house.proofs.Records.{record_size}
use Rattle.memory.specs.Layout.{places_most, cases}
use Rattle.report.proofs.Saved.{rest_begins, rest_turn}
use native.Mathlib.Omega.{arith}
use Rattle.report.proofs.save.record_bytes.Goals as goal

pub loop-place-init : goal.loop-place-init
loop-place-init c = (rw rest_begins, omega arith)

pub loop-place-preserved : goal.loop-place-preserved
loop-place-preserved c = (rest_turn _ _ _ _ c.loop-place.invariant.0 c.case_bytes-bytes.ensures.value, omega arith)

pub returns-clause-value : goal.returns-clause-value
unfolding cases
returns-clause-value c = let e : c.loop-place.place ≡ places_most = omega arith in rw e at c.loop-place.invariant.0 ∙ sym (record_size _)
