-- The session's memory (document 01, "Session memory"): "8,771 bytes: n, k, m; 512 bytes of cells, zero after those used; 64 places of 129
-- bytes, each a length (0 free), 64 inputs, 64 outputs, zero where unused." What the bytes stand for.
use Rattle.std.specs.Prelude.{ℕ, zero, suc, ◌+◌, ◌-◌, ◌*◌, List, [], ◌∷◌, ◌++◌, Bool, true, false, cond, not, eqb, ltb, length, get_or, take, drop}
use Rattle.shapes.specs.First.{first}
use Rattle.machine.specs.Limits.{cells_most, numbers_most, steps_most}
use Rattle.machine.specs.Case.{Case, as_case}
use Rattle.machine.specs.declared.head.Head.{Head}

abbrev pub places_most : ℕ
places_most = 64

-- where the cells stand, and their room
abbrev pub session_cells_at : ℕ
session_cells_at = 3

abbrev pub cells_room : ℕ
cells_room = 2 * cells_most

-- where the places stand, and the bytes of one
abbrev pub places_at : ℕ
places_at = session_cells_at + cells_room

abbrev pub place_size : ℕ
place_size = 1 + 2 * steps_most

-- how many bytes a session needs, and how many tallies
abbrev pub session_size : ℕ
session_size = places_at + places_most * place_size

abbrev pub tallies_size : ℕ
tallies_size = numbers_most

-- the head of the session's table
abbrev pub head_of : List ℕ → Head
head_of s = record { states = get_or s 0 0; inputs = get_or s 1 0; outputs = get_or s 2 0 }

-- its cells, with the zeros after those used
abbrev pub cells_of : List ℕ → List ℕ
cells_of s = take cells_room (drop session_cells_at s)

-- where place p stands
abbrev pub place_at : ℕ → ℕ
place_at p = places_at + place_size * p

-- the length byte of a place
abbrev pub steps_of : List ℕ → ℕ → ℕ
steps_of s p = get_or s (place_at p) 0

-- a place holds a case: "a length (0 free)"
abbrev pub is_held : List ℕ → ℕ → Bool
is_held s p = not (eqb (steps_of s p) 0)

-- the case that a place holds
unfoldable pub case_of : List ℕ → ℕ → Case
case_of s p =
    as_case (take (steps_of s p) (drop (place_at p + 1) s)) (take (steps_of s p) (drop (place_at p + 1 + steps_most) s))

-- one case, or none
abbrev pub case_if : Bool → Case → List Case
case_if true c = c ∷ []
case_if false c = []

-- the case of a place that holds one, or none
abbrev pub cases_at : List ℕ → ℕ → List Case
cases_at s p = case_if (is_held s p) (case_of s p)

-- the cases held below place n, "by rising place"
unfoldable pub held_to : List ℕ → ℕ → List Case
held_to s zero = []
held_to s (suc n) = held_to s n ++ cases_at s n

-- the cases that count: all that are held
unfoldable pub cases : List ℕ → List Case
cases s = held_to s places_most

-- "the lowest free place"; 64 where none is free
unfoldable pub free_place : List ℕ → ℕ
free_place s = first (λ p. not (is_held s p)) 0 places_most

-- byte i of a place that holds a case: its length, its inputs, its outputs, zero where unused
unfoldable pub place_byte : Case → ℕ → ℕ
place_byte c i =
    cond (eqb i 0) (length c.inputs)
    (cond (ltb i (1 + steps_most)) (get_or c.inputs (i - 1) 0)
    (get_or c.outputs (i - (1 + steps_most)) 0))
