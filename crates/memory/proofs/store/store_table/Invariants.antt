-- `memory::store::store_table` meets its contract. The invariant: the bytes passed are written, and no other.
use Prim.Native.Nat.{◌+◌}
use mathlib.Core.Path.{◌≡◌}
use lib.ListN.{get_or}
use Rattle.shapes.specs.Edit.{edit}
use Rattle.house.specs.File.{rest_at}
use Rattle.memory.proofs.store.store_table.Given as goal

abbrev pub invariant-loop-i : goal.invariant-loop-i
invariant-loop-i l = l.session ≡ edit (λ j old. get_or l.file (rest_at + j) 0) 0 l.i l.fn.session
