-- `report::save::record_bytes` meets its contract. The loop's invariant: the bytes are the three of the head and those of the cases held
-- below the place, for each at most as many as a place has.
use Prim.Native.Nat.{◌+◌, ◌*◌, ◌≤◌}
use mathlib.Core.Path.{◌≡◌}
use lib.ListN.{length}
use Rattle.house.specs.File.{rest_at}
use Rattle.house.specs.Cases.{rest_of}
use Rattle.memory.specs.Layout.{place_size, held_to}
use Rattle.report.proofs.save.record_bytes.Given as goal

abbrev pub invariant-loop-place : goal.invariant-loop-place
invariant-loop-place l = (l.bytes ≡ rest_at + length (rest_of (held_to l.held.bytes.now l.place))) × (l.bytes ≤ rest_at + place_size * l.place)
