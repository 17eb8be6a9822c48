-- The form of a session (document 01, "Session memory", Well-formed): "the table part has n, k, m in range, cells as under CELL and zeros
-- after; every place is free and all zero, or a case that STEP would accept with zeros after; no tally exceeds the count of held cases;
-- unused tallies are zero." And the rules that every session call begins with.
use Rattle.std.specs.Prelude.{ℕ, ◌+◌, ◌-◌, ◌*◌, ◌≤◌, ◌≡◌, List, [], ◌∷◌, ◌++◌, Bool, true, cond, not, ◌&&◌, ◌||◌, eqb, ltb, leb, length, get_or}
use Rattle.shapes.specs.First.{all_to, zeros}
use Rattle.machine.specs.Limits.{steps_most}
use Rattle.machine.specs.Head.{good_head, cell_count, numbers}
use Rattle.machine.specs.Cell.{first_bad}
use Rattle.machine.specs.Case.{good_case}
use Rattle.memory.specs.Layout.{places_most, session_cells_at, cells_room, session_size, tallies_size, head_of, cells_of, place_at, steps_of, is_held, case_of, cases}
use Rattle.shapes.specs.Refusals.{Rule, when}
use Rattle.house.specs.declared.refusal.Refusal.{Refusal}
use Rattle.house.specs.declared.refusal.Refusal.TheVariants.{Short, Slot, Damaged}

-- n, k, m in range, cells as under CELL and zeros after
unfoldable pub good_table : List ℕ → Bool
good_table s =
    good_head (head_of s)
    && (eqb (first_bad (head_of s) (cells_of s)) (cell_count (head_of s))
    && zeros s (session_cells_at + 2 * cell_count (head_of s)) (cells_room - 2 * cell_count (head_of s)))

-- the bytes of a place after its inputs and after its outputs are zero
unfoldable pub zeros_after : List ℕ → ℕ → Bool
zeros_after s p =
    zeros s (place_at p + 1 + steps_of s p) (steps_most - steps_of s p)
    && zeros s (place_at p + 1 + steps_most + steps_of s p) (steps_most - steps_of s p)

-- free and all zero, or a case that STEP would accept with zeros after
unfoldable pub good_place : List ℕ → ℕ → Bool
good_place s p =
    leb (steps_of s p) steps_most
    && (zeros_after s p && (not (is_held s p) || good_case (head_of s) (case_of s p).inputs (case_of s p).outputs))

-- and so at every place
abbrev pub good_places : List ℕ → Bool
good_places s = all_to (good_place s) places_most

-- the most that tally f may be with so many numbers in use and cases held: the cases held, 0 where f is not in use
abbrev pub most_for : ℕ → ℕ → ℕ → ℕ
most_for f used held = cond (ltb f used) held 0

-- and in a session
unfoldable pub tally_most : List ℕ → ℕ → ℕ
tally_most s f = most_for f (numbers (head_of s)) (length (cases s))

-- no tally exceeds it
unfoldable pub good_tallies : List ℕ → List ℕ → Bool
good_tallies s t = all_to (λ f. leb (get_or t f 0) (tally_most s f)) tallies_size

-- the session's form
unfoldable pub well_formed : List ℕ → List ℕ → Bool
well_formed s t = good_table s && (good_places s && good_tallies s t)

-- what is known of a session that is long enough and well-formed
pub record Formed (s t : List ℕ) : Type 0 where
  pub session_room : session_size ≤ length s
  pub tallies_room : tallies_size ≤ length t
  pub form : well_formed s t ≡ true

-- what is known of a session whose table and places were tested, whatever its tallies
pub record HeldIn (s : List ℕ) : Type 0 where
  pub room : session_size ≤ length s
  pub table : good_table s ≡ true
  pub places : good_places s ≡ true

-- "SHORT for session and tallies"
unfoldable pub room_rules : List ℕ → List ℕ → List (Rule Refusal)
room_rules s t = when (ltb (length s) session_size) (Short 0) ∷ when (ltb (length t) tallies_size) (Short 0) ∷ []

-- "then (except at start) DAMAGED for form"
unfoldable pub form_rules : List ℕ → List ℕ → List (Rule Refusal)
form_rules s t = room_rules s t ++ (when (not (well_formed s t)) Damaged ∷ [])

-- then SLOT: "place over 63 or free"
unfoldable pub is_slot : List ℕ → ℕ → Bool
is_slot s p = ltb p places_most && is_held s p

unfoldable pub slot_rules : List ℕ → List ℕ → ℕ → List (Rule Refusal)
slot_rules s t p = form_rules s t ++ (when (not (is_slot s p)) Slot ∷ [])
