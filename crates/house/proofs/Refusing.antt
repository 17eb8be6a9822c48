-- What a refusal is: the paper's table of numbers, by computation; and that it leaves the buffer that was lent, said once over any ruling.
-- Assumes nothing.
use Prim.Native.Nat.{ℕ}
use mathlib.Core.Path.{◌≡◌, refl}
use mathlib.Core.List.{List}
use Rattle.std.specs.Prelude.{Err}
use Rattle.shapes.specs.Refusals.{Ruling, refused}
use Rattle.house.specs.Refusal.{PaperRefusals, wrote, written_or}
use Rattle.house.specs.declared.refusal.Refusal.{Refusal}

-- each refusal has the paper's number, and carries what the paper says
pub paper_refusals : PaperRefusals
paper_refusals =
    record {
      short_number = λ n. refl;
      version_number = refl;
      length_number = refl;
      size_number = refl;
      cell_number_law = λ n. refl;
      step_number = refl;
      full_number = refl;
      slot_number = refl;
      damaged_number = refl;
      record_number = refl;
      number_number = refl;
      short_carries = λ n. refl;
      cell_carries = λ n. refl;
      version_carries = refl;
      length_carries = refl;
      size_carries = refl;
      step_carries = refl;
      full_carries = refl;
      slot_carries = refl;
      damaged_carries = refl;
      record_carries = refl;
      number_carries = refl;
    }

-- whatever a call that writes a buffer refuses, it leaves the buffer
pub refusal_leaves : (v : Ruling Refusal) (r : Refusal) (n : ℕ) (old new : List ℕ) → v ≡ refused r → written_or v n old new ≡ wrote (Err r) old
refusal_leaves v r n old new e = rw e
