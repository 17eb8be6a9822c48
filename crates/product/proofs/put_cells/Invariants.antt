-- `product::put_cells` meets its contract. The loop's invariant: the numbers of the cells passed are written.
use Prim.Native.Nat.{◌*◌}
use mathlib.Core.Path.{◌≡◌}
use Rattle.product.proofs.Entries.{put_to}
use Rattle.product.proofs.put_cells.Given as goal

abbrev pub invariant-loop-cell : goal.invariant-loop-cell
invariant-loop-cell l = l.out ≡ put_to l.product (2 * l.cell) l.fn.out
