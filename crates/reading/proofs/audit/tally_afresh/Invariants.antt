-- `reading::audit::tally_afresh` meets its contract. The invariant: the count is the tally of the cases held below the place.
use Prim.Native.Nat.{◌≤◌}
use mathlib.Core.Path.{◌≡◌}
use Rattle.diagnosis.specs.Diagnosis.{tally}
use Rattle.memory.specs.Layout.{head_of, cells_of, held_to}
use Rattle.reading.proofs.audit.tally_afresh.Given as goal

abbrev pub invariant-loop-place : goal.invariant-loop-place
invariant-loop-place l = (l.count ≡ tally (head_of l.held.bytes.now) (cells_of l.held.bytes.now) (held_to l.held.bytes.now l.place) l.number) × (l.count ≤ l.place)
