-- What a place that is written changes in the cases held, and that it keeps the form where the place is good and each tally is held against the
-- cases that are then held. Assumes nothing.
use Prim.Native.Nat.{ℕ, ◌+◌, ◌≤◌, ◌<◌}
use mathlib.Core.Path.{◌≡◌, refl, sym, ap, ◌∙◌}
use mathlib.Core.List.{List, ◌∷◌, ◌++◌}
use mathlib.Core.Bool.{Bool, true, false, cond, not}
use native.Mathlib.Omega.{arith}
use lib.Dec.{eqb, ltb}
use lib.ListN.{length, get_or, length-append}
use borrow.Author.Tests.{eqb-true, eqb-false, ne_eqb, ltb-true, ltb-false}
use Rattle.shapes.specs.Keep.{bit, count}
use Rattle.shapes.proofs.Keep.{count_among}
use Rattle.shapes.proofs.Tests.{and_true}
use Rattle.machine.specs.Limits.{steps_most}
use Rattle.machine.specs.Head.{numbers}
use Rattle.machine.specs.Case.{Case, good_case, no_case}
use Rattle.machine.specs.declared.head.Head.{Head}
use Rattle.machine.proofs.Cases.{case_in}
use Rattle.memory.specs.Layout.{places_most, session_size, tallies_size, head_of, steps_of, is_held, case_of, cases, free_place}
use Rattle.memory.specs.Form.{good_place, tally_most, Formed, is_slot}
use Rattle.memory.specs.Store.{placed}
use Rattle.memory.proofs.Formed.{table_good, formed_table, formed_place, formed_tally, formed_from, place_few, free_low, free_none}
use Rattle.memory.proofs.Stored.{Fits, no_fits, length_placed, head_placed, table_placed, place_elsewhere, cases_around}
use Rattle.machine.proofs.Sound.{numbers_few}

-- a list of cases with one more somewhere in it
pub record OneMore (c : Case) (few many : List Case) : Type 0 where
  pub below : List Case
  pub above : List Case
  pub without : few ≡ below ++ above
  pub with_it : many ≡ below ++ (c ∷ above)

-- is one longer,
pub length_more : {c : Case} {few many : List Case} → OneMore c few many → length many ≡ length few + 1
length_more o = rw (o.with_it, o.without, length-append, length-append) (omega arith)

-- and one more counts by whether the test holds for it
pub count_more : {c : Case} {few many : List Case} (p : Case → Bool) → OneMore c few many → count p many ≡ bit (p c) + count p few
count_more {c} p o = rw (o.with_it, o.without) (count_among p o.below c o.above)

-- a case that can be run fits in a place,
pub good_fits : (h : Head) (c : Case) → good_case h c.inputs c.outputs ≡ true → Fits c
good_fits h c e = let k = case_in h c.inputs c.outputs e in record { few = k.few_steps; even = k.even }

-- and fills it;
pub good_fills : (h : Head) (c : Case) → good_case h c.inputs c.outputs ≡ true → not (eqb (length c.inputs) 0) ≡ true
good_fills h c e = let l = (case_in h c.inputs c.outputs e).some_steps in rw (ne_eqb (length c.inputs) 0 (λ z. omega arith))

-- a place that can be withdrawn or amended is one of the 64, and holds a case
pub slot_inside : (s : List ℕ) (p : ℕ) → is_slot s p ≡ true → p < places_most
unfolding is_slot
slot_inside s p e = ltb-true p places_most (and_true _ _ e).0

pub slot_held : (s : List ℕ) (p : ℕ) → is_slot s p ≡ true → is_held s p ≡ true
unfolding is_slot
slot_held s p e = (and_true (ltb p places_most) _ e).1

module _ (s t : List ℕ) (k : Formed s t) where
  -- no place has more than 64 steps
  pub places_few : (q : ℕ) → q < places_most → steps_of s q ≤ steps_most
  places_few q l = place_few s q (formed_place s t k q l)

  module _ (p : ℕ) (l : p < places_most) where
    -- what a place holds is one more than is held without it,
    pub cases_taken : is_held s p ≡ true → OneMore (case_of s p) (cases (placed s p no_case)) (cases s)
    cases_taken h =
        let a = cases_around s k.session_room places_few p l in
        record { below = a.0; above = a.1; without = a.3 no_case no_fits; with_it = rw h at a.2 }

    -- which is what is held where the place is free,
    pub cases_free : is_held s p ≡ false → cases (placed s p no_case) ≡ cases s
    cases_free h =
        let a = cases_around s k.session_room places_few p l in
        a.3 no_case no_fits ∙ sym (rw h at a.2)

    -- and what is put into it is one more
    pub cases_put : (c : Case) → good_case (head_of s) c.inputs c.outputs ≡ true
        → OneMore c (cases (placed s p no_case)) (cases (placed s p c))
    cases_put c g =
        let a = cases_around s k.session_room places_few p l in
        record {
          below = a.0;
          above = a.1;
          without = a.3 no_case no_fits;
          with_it = rw (good_fills (head_of s) c g) at (a.3 c (good_fits (head_of s) c g));
        }

-- how many cases are held after an add,
pub add_count : (s t : List ℕ) (c : Case) → Formed s t → good_case (head_of s) c.inputs c.outputs ≡ true → free_place s < places_most
    → length (cases (placed s (free_place s) c)) ≡ length (cases s) + 1
add_count s t c k g l =
    length_more (cases_put s t k (free_place s) l c g) ∙ ap (λ (cs : List Case). length cs + 1) (cases_free s t k (free_place s) l (free_low s l))

-- a withdrawal
pub withdraw_count : (s t : List ℕ) (p : ℕ) → Formed s t → is_slot s p ≡ true → length (cases (placed s p no_case)) + 1 ≡ length (cases s)
withdraw_count s t p k slot = sym (length_more (cases_taken s t k p (slot_inside s p slot) (slot_held s p slot)))

-- and an amendment
pub amend_count : (s t : List ℕ) (p : ℕ) (c : Case) → Formed s t → is_slot s p ≡ true → good_case (head_of s) c.inputs c.outputs ≡ true
    → length (cases (placed s p c)) ≡ length (cases s)
amend_count s t p c k slot g = length_more (cases_put s t k p (slot_inside s p slot) c g) ∙ withdraw_count s t p k slot

-- a session with one place changed is well-formed where that place is good and each tally in use is at most the count of the cases then held
pub place_keeps : (s t : List ℕ) → Formed s t → (p : ℕ) → p < places_most → (c : Case) → Fits c → good_place (placed s p c) p ≡ true
    → (t' : List ℕ) → length t' ≡ length t
    → ((f : ℕ) → f < numbers (head_of s) → f < length t → get_or t f 0 ≤ length (cases s) → get_or t' f 0 ≤ length (cases (placed s p c)))
    → ((f : ℕ) → numbers (head_of s) ≤ f → get_or t' f 0 ≡ get_or t f 0) → Formed (placed s p c) t'
unfolding tally_most
place_keeps s t k p l c fits good t' same used unused =
    formed_from (placed s p c) t' (rw (length_placed s room p l c fits) room) (rw same k.tallies_room)
    (table_placed s room p l c fits ∙ formed_table s t k) (λ q m. place q m (eqb q p) refl)
    (λ f m. rw (ap numbers (head_placed s room p l c fits)) (tally f m (ltb f (numbers (head_of s))) refl (formed_tally s t k f m)))
  where
    room : session_size ≤ length s
    room = k.session_room

    place : (q : ℕ) → q < places_most → (b : Bool) → eqb q p ≡ b → good_place (placed s p c) q ≡ true
    place q m true e = rw (eqb-true q p e) good
    place q m false e = place_elsewhere s room p l c fits q m (eqb-false q p e) ∙ formed_place s t k q m

    tally : (f : ℕ) → f < tallies_size → (b : Bool) → ltb f (numbers (head_of s)) ≡ b
        → get_or t f 0 ≤ cond (ltb f (numbers (head_of s))) (length (cases s)) 0 → get_or t' f 0 ≤ cond b (length (cases (placed s p c))) 0
    tally f m true e o = used f (ltb-true f (numbers (head_of s)) e) (omega (arith, k.tallies_room)) (rw e at o)
    tally f m false e o = rw (unused f (ltb-false f (numbers (head_of s)) e)) (rw e at o)

-- fewer cases than places leave a place free
pub free_left : (s : List ℕ) → length (cases s) < places_most → free_place s < places_most
free_left s l = go (ltb (free_place s) places_most) refl
  where
    go : (b : Bool) → ltb (free_place s) places_most ≡ b → free_place s < places_most
    go true e = ltb-true (free_place s) places_most e
    go false e = absurd (omega (arith, free_none s (ltb-false (free_place s) places_most e)))

-- so has the table of a session that is well-formed
pub formed_numbers : (s t : List ℕ) → Formed s t → numbers (head_of s) ≤ tallies_size
formed_numbers s t k = numbers_few (head_of s) (table_good s k.session_room (formed_table s t k)).head
