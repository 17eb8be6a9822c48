-- `memory::store::store_steps` meets its contract. The invariant: the bytes passed are written, and no other.
use mathlib.Core.Path.{◌≡◌}
use lib.ListN.{get_or}
use Rattle.shapes.specs.Edit.{edit}
use Rattle.memory.proofs.store.store_steps.Given as goal

abbrev pub invariant-loop-i : goal.invariant-loop-i
invariant-loop-i l = l.session ≡ edit (λ j old. get_or l.from j 0) l.at l.i l.fn.session
