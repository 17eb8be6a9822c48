-- `report::save::write_cases` meets its contract. The loop's invariant: the cases held below the place are written one after the other,
-- and `at` is the place after them.
use Prim.Native.Nat.{◌+◌}
use mathlib.Core.Path.{◌≡◌}
use lib.ListN.{length}
use Rattle.shapes.specs.Edit.{filled}
use Rattle.house.specs.File.{rest_at}
use Rattle.house.specs.Cases.{rest_of}
use Rattle.memory.specs.Layout.{held_to}
use Rattle.report.proofs.save.write_cases.Given as goal

abbrev pub invariant-loop-place : goal.invariant-loop-place
invariant-loop-place l = (l.at ≡ rest_at + length (rest_of (held_to l.held.bytes.now l.place))) × (l.out ≡ filled l.fn.out rest_at (rest_of (held_to l.held.bytes.now l.place)))
