-- `reading::list::count_listed` meets its contract. The invariant: the count is that of the numbers passed that are listed.
use Prim.Native.Nat.{◌≤◌}
use mathlib.Core.Path.{◌≡◌}
use lib.ListN.{length}
use Rattle.shapes.specs.Keep.{keep_to}
use Rattle.reading.proofs.Listed.{listed_at}
use Rattle.reading.proofs.list.count_listed.Given as goal

abbrev pub invariant-loop-number : goal.invariant-loop-number
invariant-loop-number l = (l.count ≡ length (keep_to (listed_at l.held.bytes.now l.tallies) l.number)) × (l.count ≤ l.number)
