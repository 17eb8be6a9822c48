-- The table file: "n, k, m, then n × k cells in rising number, next state before output. The rest is 3 + 2nk bytes."
use Rattle.std.specs.Prelude.{ℕ, ◌+◌, ◌-◌, ◌*◌, List, [], ◌∷◌, ◌++◌, Bool, not, ◌||◌, eqb, ltb, length, get_or, take, drop, Result}
use Rattle.shapes.specs.Refusals.{Rule, when, ruling}
use Rattle.machine.specs.Head.{good_head, cell_count}
use Rattle.machine.specs.Cell.{first_bad}
use Rattle.machine.specs.declared.head.Head.{Head}
use Rattle.house.specs.File.{version, rest_at, file_rules, file_head}
use Rattle.house.specs.declared.refusal.Refusal.{Refusal}
use Rattle.house.specs.declared.refusal.Refusal.TheVariants.{Size, Cell}
use Rattle.house.specs.Refusal.{ruled}

-- where the cells stand
abbrev pub file_cells_at : ℕ
file_cells_at = 6

-- the head that the file names
abbrev pub head_in : List ℕ → Head
head_in file = record { states = get_or file 3 0; inputs = get_or file 4 0; outputs = get_or file 5 0 }

-- the cells that the file holds
abbrev pub cells_in : List ℕ → List ℕ
cells_in file = drop file_cells_at file

-- SIZE: "n, k or m outside 1 to 16 or missing, or the rest isn't 3 + 2nk"
unfoldable pub bad_size : List ℕ → Bool
bad_size file = ltb (length file) file_cells_at || not (good_head (head_in file)) || not (eqb (length file - rest_at) (3 + 2 * cell_count (head_in file)))

-- CELL, with "the lowest such cell"
unfoldable pub bad_cells : List ℕ → Bool
bad_cells file = ltb (first_bad (head_in file) (cells_in file)) (cell_count (head_in file))

-- the refusals of a table file, in order
unfoldable pub table_rules : List ℕ → List (Rule Refusal)
table_rules file =
    file_rules version file
    ++ (when (bad_size file) Size
    ∷ when (bad_cells file) (Cell (first_bad (head_in file) (cells_in file))) ∷ [])

-- what reading a table file answers: its head where no rule refuses, else the refusal
unfoldable pub table_read : List ℕ → Result Head Refusal
table_read file = ruled (ruling (table_rules file)) (head_in file)

-- how many bytes a table file has
abbrev pub table_bytes : Head → ℕ
table_bytes h = file_cells_at + 2 * cell_count h

-- what it has before its cells
unfoldable pub table_head_bytes : Head → List ℕ
table_head_bytes h = file_head version (3 + 2 * cell_count h) ++ (h.states ∷ h.inputs ∷ h.outputs ∷ [])

-- the table as a file
unfoldable pub table_file : Head → List ℕ → List ℕ
table_file h cells = table_head_bytes h ++ take (2 * cell_count h) cells
