-- The built-in constants hold the paper's cells, and a loop that stores two numbers a turn writes them.
-- Assumes nothing.
use Prim.Native.Nat.{ℕ, zero, suc, ◌+◌, ◌*◌}
use mathlib.Core.Path.{◌≡◌, refl, sym}
use mathlib.Core.List.{List, [], ◌∷◌}
use native.Mathlib.Omega.{arith}
use lib.ListN.{length, get_or, set}
use Rattle.shapes.specs.Edit.{edit, filled}
use Rattle.shapes.proofs.Edit.{edit_none, edit_turn}
use Rattle.machine.specs.Head.{cell_count}
use Rattle.machine.specs.Cell.{next_byte, output_byte}
use Rattle.house.specs.Table.{file_cells_at}
use Rattle.product.specs.Tables.{product_head, product_cells}
use Rattle.product.specs.declared.Entry.{Entry}
use Rattle.product.specs.declared.Product.{Product}
use Rattle.product.specs.declared.Product.TheVariants.{FiveLitre, EightLitre}

-- twice the next number
twice : (i : ℕ) → 2 * suc i ≡ suc (suc (2 * i))
twice i = omega arith

twice_next : (i : ℕ) → 2 * suc i + 1 ≡ suc (suc (2 * i + 1))
twice_next i = omega arith

-- numbers as entries, next state before output
abbrev pub paired : List ℕ → List Entry
paired [] = []
paired (a ∷ []) = record { next = a; output = 0 } ∷ []
paired (a ∷ b ∷ l) = record { next = a; output = b } ∷ paired l

-- an entry holds the two numbers at twice its place
abbrev pub EntryAt : Entry → List ℕ → ℕ → Type 0
EntryAt e cells i = (e.next ≡ next_byte cells i) × (e.output ≡ output_byte cells i)

-- entry i of numbers as entries does
paired_holds : (cells : List ℕ) (i : ℕ) → EntryAt (get_or (paired cells) i (record { next = 0; output = 0 })) cells i
paired_holds [] i = (refl, refl)
paired_holds (a ∷ []) zero = (refl, refl)
paired_holds (a ∷ []) (suc i) = (rw (twice i), rw (twice_next i))
paired_holds (a ∷ b ∷ l) zero = (refl, refl)
paired_holds (a ∷ b ∷ l) (suc i) = let h = paired_holds l i in (rw (twice i) h.0, rw (twice_next i) h.1)

-- so a constant that is a product's cells as entries holds these
pub entry_held : {m told : Product} (i : ℕ) → m ≡ told → EntryAt (get_or (paired (product_cells told)) i (record { next = 0; output = 0 })) (product_cells m) i
entry_held {told = told} i e = rw e (paired_holds (product_cells told) i)

-- a product's cells have two numbers each
pub cells_even : (m : Product) → 2 * cell_count (product_head m) ≡ length (product_cells m)
cells_even FiveLitre = refl
cells_even EightLitre = refl

-- the first n numbers of a product's cells written where they stand
pub put_to : Product → ℕ → List ℕ → List ℕ
put_to m n l = edit (λ i old. get_or (product_cells m) i 0) file_cells_at n l

module _ (m : Product) (l : List ℕ) where
  -- a loop's start: none is written
  pub put_none : l ≡ put_to m 0 l
  unfolding put_to edit
  put_none = sym (edit_none (λ i old. get_or (product_cells m) i 0) file_cells_at l)

  -- a loop's turn: two numbers more are stored
  pub put_turn : {done : List ℕ} (cell : ℕ) {a b : ℕ} → done ≡ put_to m (2 * cell) l → a ≡ get_or (product_cells m) (2 * cell) 0
      → b ≡ get_or (product_cells m) (2 * cell + 1) 0
      → set (set done (file_cells_at + 2 * cell) a) (file_cells_at + 2 * cell + 1) b ≡ put_to m (2 * (cell + 1)) l
  unfolding put_to edit
  put_turn cell e ea eb =
      let first = edit_turn (λ i old. get_or (product_cells m) i 0) file_cells_at (2 * cell) l _ _ _ e refl ea in
      let n : 2 * (cell + 1) ≡ 2 * cell + 1 + 1 = omega arith in
      rw n (edit_turn (λ i old. get_or (product_cells m) i 0) file_cells_at (2 * cell + 1) l _ _ _ first (omega arith) eb)

  -- a loop's end: all are written
  pub put_all : {last : List ℕ} (cell : ℕ) → last ≡ put_to m (2 * cell) l → cell ≡ cell_count (product_head m) → last ≡ filled l file_cells_at (product_cells m)
  unfolding put_to filled
  put_all cell e n = rw (e, n, cells_even m)
