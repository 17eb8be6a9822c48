-- The cells of a table as bytes: next state before output, 255 and 255 for undefined (document 01, "Machine", "House files", CELL).
use Rattle.std.specs.Prelude.{ℕ, ◌+◌, ◌*◌, ◌≤◌, ◌<◌, ◌≡◌, List, Bool, not, ◌&&◌, ◌||◌, eqb, leb, Option, length, get_or}
use Rattle.shapes.specs.First.{first, found}
use Rattle.machine.specs.Head.{HeadIn, cell_count}
use Rattle.machine.specs.declared.head.Head.{Head}

-- both bytes of an undefined cell
abbrev pub undefined_byte : ℕ
undefined_byte = 255

-- cell c's next state and output, as the bytes have them
abbrev pub next_byte : List ℕ → ℕ → ℕ
next_byte cells c = get_or cells (2 * c) 0

abbrev pub output_byte : List ℕ → ℕ → ℕ
output_byte cells c = get_or cells (2 * c + 1) 0

-- "or 255 and 255 for undefined"
unfoldable pub undefined : List ℕ → ℕ → Bool
undefined cells c = eqb (next_byte cells c) undefined_byte && eqb (output_byte cells c) undefined_byte

-- CELL: "next ≥ n or output ≥ m, except 255 with 255"
unfoldable pub bad_cell : Head → List ℕ → ℕ → Bool
bad_cell h cells c = not (undefined cells c) && (leb h.states (next_byte cells c) || leb h.outputs (output_byte cells c))

-- the lowest bad cell; the count of the cells where none is bad
unfoldable pub first_bad : Head → List ℕ → ℕ
first_bad h cells = first (bad_cell h cells) 0 (cell_count h)

-- that cell, if there is one
unfoldable pub bad_in : Head → List ℕ → Option ℕ
bad_in h cells = found (first_bad h cells) (cell_count h)

-- two lists of bytes hold the same cells of a table: they agree as far as the table goes
abbrev pub SameCells : Head → List ℕ → List ℕ → Type 0
SameCells h cells cells' = (i : ℕ) → i < 2 * cell_count h → get_or cells i 0 ≡ get_or cells' i 0

-- what is known of a table that was tested
pub record TableIn (h : Head) (cells : List ℕ) : Type 0 where
  pub head : HeadIn h
  pub room : 2 * cell_count h ≤ length cells
  pub sound : first_bad h cells ≡ cell_count h
