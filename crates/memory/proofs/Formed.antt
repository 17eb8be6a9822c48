-- What is known of the parts of a session that is well-formed: its table, its places, its tallies and the cases held in it.
-- Assumes nothing.
use Prim.Native.Nat.{ℕ, zero, suc, ◌+◌, ◌*◌, ◌≤◌, ◌<◌}
use mathlib.Core.Path.{◌≡◌, refl}
use mathlib.Core.List.{List, [], ◌∷◌, ◌++◌}
use mathlib.Core.Bool.{Bool, true, false, not, ◌&&◌, ◌||◌}
use native.Mathlib.Omega.{arith}
use lib.Dec.{leb}
use lib.ListN.{length, get_or, drop, length-append, length-drop}
use lib.Seq.{length-take-le}
use borrow.Author.Tests.{eqb-true, leb-true, le-leb, not-true, not-false}
use Rattle.shapes.specs.Keep.{every}
use Rattle.shapes.proofs.First.{first_holds, first_before, all_from, all_at}
use Rattle.shapes.proofs.Tests.{and_true}
use Rattle.machine.specs.Limits.{steps_most}
use Rattle.machine.specs.Head.{HeadIn, cell_count, numbers}
use Rattle.machine.specs.Cell.{TableIn}
use Rattle.machine.specs.Case.{good_case, CaseIn, all_good}
use Rattle.machine.proofs.Sound.{cells_few}
use Rattle.machine.proofs.Cases.{head_in_law, case_in}
use Rattle.machine.proofs.Sound.{numbers_few}
use Rattle.memory.specs.Layout.{places_most, session_cells_at, cells_room, session_size, tallies_size, head_of, cells_of, steps_of, is_held, case_of, case_if, held_to, cases, free_place, cases_at}
use Rattle.memory.specs.Form.{good_table, zeros_after, good_place, tally_most, good_tallies, well_formed, Formed, good_places, HeldIn}

-- the cells of a session are as many bytes as they have room
cells_length : (s : List ℕ) → session_size ≤ length s → length (cells_of s) ≡ cells_room
cells_length s room = length-take-le cells_room (drop session_cells_at s) (omega (arith, length-drop session_cells_at s))

-- so there is room for those of its head
cells_fit : (s : List ℕ) → session_size ≤ length s → HeadIn (head_of s) → 2 * cell_count (head_of s) ≤ length (cells_of s)
cells_fit s room h =
    rw (cells_length s room) (omega (arith, cells_few (head_of s) h))

-- a good table is a table that was tested
pub table_good : (s : List ℕ) → session_size ≤ length s → good_table s ≡ true → TableIn (head_of s) (cells_of s)
unfolding good_table
table_good s room e =
    let a = and_true _ _ e in
    let b = and_true _ _ a.1 in
    let h = head_in_law (head_of s) a.0 in
    record { head = h; room = cells_fit s room h; sound = eqb-true _ _ b.0 }

-- the form's three parts
form_parts : (s t : List ℕ) → well_formed s t ≡ true
    → (good_table s ≡ true) × (good_places s ≡ true) × (good_tallies s t ≡ true)
unfolding well_formed
form_parts s t e =
    let a = and_true (good_table s) (good_places s && good_tallies s t) e in
    let b = and_true (good_places s) (good_tallies s t) a.1 in (a.0, b.0, b.1)

-- in a well-formed session the table is good, ..
pub formed_table : (s t : List ℕ) → Formed s t → good_table s ≡ true
formed_table s t k = (form_parts s t k.form).0

-- .. so are all the places, ..
pub formed_places : (s t : List ℕ) → Formed s t → good_places s ≡ true
formed_places s t k = (form_parts s t k.form).1

-- .. each of them, ..
pub formed_place : (s t : List ℕ) → Formed s t → (p : ℕ) → p < places_most → good_place s p ≡ true
formed_place s t k = all_at (good_place s) places_most (formed_places s t k)

-- .. and no tally is above its most
pub formed_tally : (s t : List ℕ) → Formed s t → (f : ℕ) → f < tallies_size → get_or t f 0 ≤ tally_most s f
unfolding good_tallies
formed_tally s t k f l = leb-true _ _ (all_at (λ g. leb (get_or t g 0) (tally_most s g)) tallies_size (form_parts s t k.form).2 f l)

-- three tests that hold hold together
all_three : {a b c : Bool} → a ≡ true → b ≡ true → c ≡ true → a && (b && c) ≡ true
all_three x y z = rw (x, y, z)

-- and these together make the form
pub formed_from : (s t : List ℕ) → session_size ≤ length s → tallies_size ≤ length t → good_table s ≡ true
    → ((p : ℕ) → p < places_most → good_place s p ≡ true) → ((f : ℕ) → f < tallies_size → get_or t f 0 ≤ tally_most s f) → Formed s t
unfolding well_formed good_tallies
formed_from s t room tallies table places low =
    record {
      session_room = room;
      tallies_room = tallies;
      form = all_three table (all_from (good_place s) places_most places) (all_from (λ f. leb (get_or t f 0) (tally_most s f)) tallies_size (λ f l. le-leb _ _ (low f l)));
    }

-- a good place has at most 64 steps
pub place_few : (s : List ℕ) (p : ℕ) → good_place s p ≡ true → steps_of s p ≤ steps_most
unfolding good_place
place_few s p good = leb-true _ _ (and_true _ _ good).0

-- a good place that is held holds a case that can be run
pub place_good : (s : List ℕ) (p : ℕ) → good_place s p ≡ true → is_held s p ≡ true → good_case (head_of s) (case_of s p).inputs (case_of s p).outputs ≡ true
unfolding good_place
place_good s p e held =
    rw held at (and_true (zeros_after s p) (not (is_held s p) || good) (and_true (leb (steps_of s p) steps_most) (zeros_after s p && (not (is_held s p) || good)) e).1).1
  where
    good : Bool
    good = good_case (head_of s) (case_of s p).inputs (case_of s p).outputs

-- so what is known of a case is known of it
pub place_case : (s : List ℕ) (p : ℕ) → good_place s p ≡ true → is_held s p ≡ true → CaseIn (head_of s) (case_of s p).inputs (case_of s p).outputs
place_case s p e held = case_in _ _ _ (place_good s p e held)

-- what holds for every one of two lists holds for every one of both
every_append : {A : Type 0} (t : A → Bool) (l r : List A) → every t l ≡ true → every t r ≡ true → every t (l ++ r) ≡ true
unfolding every
every_append t [] r x y = y
every_append t (a ∷ l) r x y =
    let k = and_true (t a) (every t l) x in rw k.0 (every_append t l r k.1 y)

-- the cases held below a place can be run where every place is good
held_good : (s : List ℕ) (n : ℕ) → ((p : ℕ) → p < n → good_place s p ≡ true) → all_good (head_of s) (held_to s n) ≡ true
unfolding held_to all_good every
held_good s zero each = refl
held_good s (suc n) each =
    every_append _ (held_to s n) _ (held_good s n (λ p l. each p (omega arith))) (last (is_held s n) refl)
  where
    last : (b : Bool) → is_held s n ≡ b → every (λ c. good_case (head_of s) c.inputs c.outputs) (case_if b (case_of s n)) ≡ true
    last true e = rw (place_good s n (each n (omega arith)) e)
    last false e = refl

-- the cases of a well-formed session can be run
pub cases_good : (s t : List ℕ) → Formed s t → all_good (head_of s) (cases s) ≡ true
unfolding cases
cases_good s t f = held_good s places_most (formed_place s t f)

-- the count of the cases held below the next place
held_count : (s : List ℕ) (n : ℕ) → length (held_to s (suc n)) ≡ length (held_to s n) + length (cases_at s n)
unfolding held_to
held_count s n = length-append (held_to s n) _

-- at most as many are held as there are places
pub cases_few : (s : List ℕ) (n : ℕ) → length (held_to s n) ≤ n
unfolding held_to
cases_few s zero = omega arith
cases_few s (suc n) = rw (held_count s n) (go (is_held s n) (cases_few s n))
  where
    go : (b : Bool) → length (held_to s n) ≤ n → length (held_to s n) + length (case_if b (case_of s n)) ≤ suc n
    go true h = omega arith
    go false h = omega arith

-- so at most 64
pub cases_most_law : (s : List ℕ) → length (cases s) ≤ places_most
unfolding cases
cases_most_law s = cases_few s places_most

-- as many as there are places where every place is held
held_all : (s : List ℕ) (n : ℕ) → ((p : ℕ) → p < n → is_held s p ≡ true) → length (held_to s n) ≡ n
unfolding held_to
held_all s zero each = refl
held_all s (suc n) each =
    let e = held_all s n (λ p l. each p (omega arith)) in
    rw (held_count s n, each n (omega arith)) (omega arith)

-- the lowest free place is free where there is one
pub free_low : (s : List ℕ) → free_place s < places_most → is_held s (free_place s) ≡ false
unfolding free_place
free_low s l = not-true _ (first_holds (λ p. not (is_held s p)) 0 places_most (omega arith))

-- where there is none every place is held
pub free_none : (s : List ℕ) → places_most ≤ free_place s → length (cases s) ≡ places_most
unfolding free_place cases
free_none s l =
    held_all s places_most (λ p k. not-false _ (first_before (λ p. not (is_held s p)) 0 places_most p (omega arith) (omega arith)))

-- a well-formed session has a table and places that are
pub formed_held : (s t : List ℕ) → Formed s t → HeldIn s
formed_held s t k = record { room = k.session_room; table = formed_table s t k; places = formed_places s t k }

-- and each of its places is good
pub held_place : (s : List ℕ) → HeldIn s → (p : ℕ) → p < places_most → good_place s p ≡ true
held_place s k p l = all_at (good_place s) places_most k.places p l

-- and a tally for each number that is in use
pub formed_tallied : (s t : List ℕ) → Formed s t → numbers (head_of s) ≤ length t
formed_tallied s t k =
    let few = numbers_few (head_of s) (table_good s k.session_room (formed_table s t k)).head in
    let room = k.tallies_room in
    omega arith
