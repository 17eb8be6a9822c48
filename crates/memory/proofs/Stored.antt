-- What stands in a session after a case was stored in a place, or the place cleared: the case in the place, and everything else as it was.
-- Two places' bytes are apart, so a store changes none of another's.
-- Assumes nothing.
use Prim.Native.Nat.{ℕ, zero, suc, ◌+◌, ◌-◌, ◌*◌, ◌≤◌, ◌<◌}
use mathlib.Core.Path.{◌≡◌, refl, sym, ap, ◌∙◌}
use mathlib.Core.List.{List, [], ◌++◌, append_assoc, append-nil}
use mathlib.Core.Bool.{Bool, true, false, not, ◌&&◌, ◌||◌}
use native.Mathlib.Nat.{add-zero, add-suc}
use native.Mathlib.Omega.{arith}
use lib.Dec.{eqb, ltb, leb}
use lib.ListN.{length, get_or, take, drop, length-drop, get_or-eq_default}
use lib.Seq.{length-take-le, get_or-take, get_or-drop, ext_get_or}
use borrow.Author.Tests.{eq-eqb, ne_eqb, lt-ltb, le-ltb, le-leb, ltb-true, ltb-false, leb-true}
use Rattle.shapes.specs.First.{zeros}
use Rattle.shapes.proofs.First.{all_from, all_same}
use Rattle.shapes.proofs.Edit.{length_edit, edit_in, edit_out_below, edit_out_above}
use Rattle.machine.specs.Limits.{steps_most}
use Rattle.machine.specs.Head.{good_head, cell_count}
use Rattle.machine.specs.Cell.{first_bad}
use Rattle.machine.specs.Case.{Case, good_case, no_case}
use Rattle.machine.specs.declared.head.Head.{Head}
use Rattle.memory.specs.Layout.{places_most, session_cells_at, cells_room, places_at, place_size, session_size, head_of, cells_of, place_at, steps_of, is_held, case_of, case_if, held_to, cases, place_byte, cases_at}
use Rattle.memory.specs.Form.{good_table, zeros_after, good_place}
use Rattle.memory.specs.Store.{placed}

-- a case that a place has room for: the case of a free place too
pub record Fits (c : Case) : Type 0 where
  pub few : length c.inputs ≤ steps_most
  pub even : length c.outputs ≡ length c.inputs

-- a part of a list is a list that has the same numbers
part_is : (l v : List ℕ) (at n : ℕ) → at + n ≤ length l → length v ≡ n → ((i : ℕ) → i < n → get_or l (at + i) 0 ≡ get_or v i 0) → take n (drop at l) ≡ v
part_is l v at n fit long each = ext_get_or 0 (take n (drop at l)) v (size ∙ sym long) (λ i h. same i (rw size at h))
  where
    size : length (take n (drop at l)) ≡ n
    size = length-take-le n (drop at l) (omega (arith, length-drop at l))

    same : (i : ℕ) → i < n → get_or (take n (drop at l)) i 0 ≡ get_or v i 0
    same i h = get_or-take n (drop at l) i 0 h ∙ get_or-drop at l i 0 ∙ each i h

-- two lists that agree in a part have the same part ..
part_same : (l m : List ℕ) (at n : ℕ) → at + n ≤ length l → length m ≡ length l → ((i : ℕ) → i < n → get_or m (at + i) 0 ≡ get_or l (at + i) 0)
    → take n (drop at m) ≡ take n (drop at l)
part_same l m at n fit long each =
    part_is m (take n (drop at l)) at n (omega arith) (length-take-le n (drop at l) (omega (arith, length-drop at l)))
    (λ i h. each i h ∙ sym (get_or-take n (drop at l) i 0 h ∙ get_or-drop at l i 0))

-- .. and zeros there both, or neither
zeros_same : (l m : List ℕ) (at n : ℕ) → ((i : ℕ) → i < n → get_or m (at + i) 0 ≡ get_or l (at + i) 0) → zeros m at n ≡ zeros l at n
unfolding zeros
zeros_same l m at n each =
    all_same (λ i. eqb (get_or m (at + i) 0) 0) (λ i. eqb (get_or l (at + i) 0) 0) n (λ i h. ap (λ x. eqb x 0) (each i h))

-- a part of zeros
zeros_from : (l : List ℕ) (at n : ℕ) → ((i : ℕ) → i < n → get_or l (at + i) 0 ≡ 0) → zeros l at n ≡ true
unfolding zeros
zeros_from l at n each = all_from (λ i. eqb (get_or l (at + i) 0) 0) n (λ i h. eq-eqb (get_or l (at + i) 0) 0 (each i h))

-- the bytes of a place that holds a case: its length, ..
byte_length : (c : Case) → place_byte c 0 ≡ length c.inputs
unfolding place_byte
byte_length c = refl

-- .. its inputs, ..
pub byte_input : (c : Case) (i : ℕ) → i < steps_most → place_byte c (1 + i) ≡ get_or c.inputs i 0
unfolding place_byte
byte_input c i h =
    let e : 1 + i - 1 ≡ i = omega arith in
    rw (ne_eqb (1 + i) 0 (λ z. omega arith), lt-ltb (1 + i) (1 + steps_most) (omega arith), e)

-- .. its outputs
pub byte_output : (c : Case) (i : ℕ) → place_byte c (1 + steps_most + i) ≡ get_or c.outputs i 0
unfolding place_byte
byte_output c i =
    let e : 1 + steps_most + i - (1 + steps_most) ≡ i = omega arith in
    rw (ne_eqb (1 + steps_most + i) 0 (λ z. omega arith), le-ltb (1 + steps_most + i) (1 + steps_most) (omega arith), e)

-- what stands before the place stays, ..
byte_below : (s : List ℕ) (p : ℕ) (c : Case) (j : ℕ) → j < place_at p → get_or (placed s p c) j 0 ≡ get_or s j 0
unfolding placed
byte_below s p c j h = edit_out_below (λ i old. place_byte c i) (place_at p) place_size s j h

-- .. so does what stands after it, ..
byte_above : (s : List ℕ) (p : ℕ) (c : Case) (j : ℕ) → place_at p + place_size ≤ j → get_or (placed s p c) j 0 ≡ get_or s j 0
unfolding placed
byte_above s p c j h = edit_out_above (λ i old. place_byte c i) (place_at p) place_size s j h

-- .. and so do the bytes of another place
byte_elsewhere : (s : List ℕ) (p : ℕ) (c : Case) (q : ℕ) → (q ≡ p → ⊥) → (j : ℕ) → place_at q ≤ j → j < place_at q + place_size
    → get_or (placed s p c) j 0 ≡ get_or s j 0
byte_elsewhere s p c q other j low high = go (ltb q p) refl
  where
    go : (b : Bool) → ltb q p ≡ b → get_or (placed s p c) j 0 ≡ get_or s j 0
    go true e = let l = ltb-true q p e in byte_below s p c j (omega arith)
    go false e = let l = ltb-false q p e in byte_above s p c j (omega arith)

-- the place itself has the case's bytes
byte_placed : (s : List ℕ) → session_size ≤ length s → (p : ℕ) → p < places_most → (c : Case) (i j : ℕ) → i < place_size → j ≡ place_at p + i
    → get_or (placed s p c) j 0 ≡ place_byte c i
unfolding placed
byte_placed s room p inside c i j h e = rw e (edit_in (λ i old. place_byte c i) (place_at p) place_size s i h (omega arith))

-- what two sessions have in common that agree in the bytes before the places
module _ (s t : List ℕ) (room : session_size ≤ length s) (long : length t ≡ length s) (agree : (j : ℕ) → j < places_at → get_or t j 0 ≡ get_or s j 0) where
  -- the head
  same_head : head_of t ≡ head_of s
  same_head = λ i. record { states = agree 0 (omega arith) i; inputs = agree 1 (omega arith) i; outputs = agree 2 (omega arith) i }

  -- the cells
  same_cells : cells_of t ≡ cells_of s
  same_cells = part_same s t session_cells_at cells_room (omega arith) long (λ i h. agree (session_cells_at + i) (omega arith))

  -- whether the table is good
  same_table : good_table t ≡ good_table s
  unfolding good_table
  same_table =
      (λ i. table (same_head i) (same_cells i) (zeros t (session_cells_at + 2 * cell_count (same_head i)) (cells_room - 2 * cell_count (same_head i))))
      ∙ ap (table (head_of s) (cells_of s))
      (zeros_same s t (session_cells_at + 2 * cell_count (head_of s)) (cells_room - 2 * cell_count (head_of s)) (λ i h. agree _ (omega arith)))
    where
      table : Head → List ℕ → Bool → Bool
      table h cells z = good_head h && (eqb (first_bad h cells) (cell_count h) && z)

-- what two sessions have in common that agree in the bytes of a place
module _ (s t : List ℕ) (room : session_size ≤ length s) (long : length t ≡ length s) (q : ℕ) (inside : q < places_most)
    (agree : (j : ℕ) → place_at q ≤ j → j < place_at q + place_size → get_or t j 0 ≡ get_or s j 0) where
  -- its length byte
  same_steps : steps_of t q ≡ steps_of s q
  same_steps = agree (place_at q) (omega arith) (omega arith)

  -- its case
  same_case : steps_of s q ≤ steps_most → case_of t q ≡ case_of s q
  unfolding case_of
  same_case few = λ i. record { inputs = part (place_at q + 1) (omega arith) (omega arith) i; outputs = part (place_at q + 1 + steps_most) (omega arith) (omega arith) i }
    where
      part : (at : ℕ) → place_at q ≤ at → at + steps_most ≤ place_at q + place_size → take (steps_of t q) (drop at t) ≡ take (steps_of s q) (drop at s)
      part at low high =
          ap (λ n. take n (drop at t)) same_steps
          ∙ part_same s t at (steps_of s q) (omega arith) long (λ i h. agree (at + i) (omega arith) (omega arith))

  -- whether zeros follow it
  same_zeros : zeros_after t q ≡ zeros_after s q
  unfolding zeros_after
  same_zeros = λ i. part (place_at q + 1) (omega arith) (omega arith) i && part (place_at q + 1 + steps_most) (omega arith) (omega arith) i
    where
      part : (at : ℕ) → place_at q ≤ at → at + steps_most ≤ place_at q + place_size
          → zeros t (at + steps_of t q) (steps_most - steps_of t q) ≡ zeros s (at + steps_of s q) (steps_most - steps_of s q)
      part at low high =
          ap (λ n. zeros t (at + n) (steps_most - n)) same_steps
          ∙ zeros_same s t (at + steps_of s q) (steps_most - steps_of s q) (λ i h. agree (at + steps_of s q + i) (omega arith) (omega arith))

  -- whether it is good, where the heads are the same too
  same_place : head_of t ≡ head_of s → good_place t q ≡ good_place s q
  unfolding good_place
  same_place head = go (leb (steps_of s q) steps_most) refl
    where
      go : (b : Bool) → leb (steps_of s q) steps_most ≡ b → good_place t q ≡ good_place s q
      go true e =
          let c = same_case (leb-true _ _ e) in
          λ i. leb (same_steps i) steps_most && (same_zeros i && (not (not (eqb (same_steps i) 0)) || good_case (head i) (c i).inputs (c i).outputs))
      go false e = rw (same_steps, e)

module _ (s : List ℕ) (room : session_size ≤ length s) (p : ℕ) (inside : p < places_most) (c : Case) (fits : Fits c) where
  -- the length stays
  pub length_placed : length (placed s p c) ≡ length s
  unfolding placed
  length_placed = length_edit (λ i old. place_byte c i) (place_at p) place_size s

  -- the head stays
  pub head_placed : head_of (placed s p c) ≡ head_of s
  head_placed = same_head s (placed s p c) room length_placed (λ j h. byte_below s p c j (omega arith))

  -- the cells stay
  pub cells_placed : cells_of (placed s p c) ≡ cells_of s
  cells_placed = same_cells s (placed s p c) room length_placed (λ j h. byte_below s p c j (omega arith))

  -- so the table is as good as it was
  pub table_placed : good_table (placed s p c) ≡ good_table s
  table_placed = same_table s (placed s p c) room length_placed (λ j h. byte_below s p c j (omega arith))

  -- the place's length byte is the count of the case's steps
  pub steps_placed : steps_of (placed s p c) p ≡ length c.inputs
  steps_placed = byte_placed s room p inside c 0 (place_at p) (omega arith) (omega arith) ∙ byte_length c

  -- its input bytes are the case's, and zero after them ..
  input_placed : (i j : ℕ) → i < steps_most → j ≡ place_at p + 1 + i → get_or (placed s p c) j 0 ≡ get_or c.inputs i 0
  input_placed i j h e = byte_placed s room p inside c (1 + i) j (omega arith) (omega arith) ∙ byte_input c i h

  -- .. and so are its output bytes
  output_placed : (i j : ℕ) → i < steps_most → j ≡ place_at p + 1 + steps_most + i → get_or (placed s p c) j 0 ≡ get_or c.outputs i 0
  output_placed i j h e = byte_placed s room p inside c (1 + steps_most + i) j (omega arith) (omega arith) ∙ byte_output c i

  -- the place holds the case
  pub case_placed : case_of (placed s p c) p ≡ c
  unfolding case_of
  case_placed = λ i. record { inputs = ins i; outputs = outs i }
    where
      ins : take (steps_of (placed s p c) p) (drop (place_at p + 1) (placed s p c)) ≡ c.inputs
      ins =
          ap (λ n. take n (drop (place_at p + 1) (placed s p c))) steps_placed
          ∙ part_is (placed s p c) c.inputs (place_at p + 1) (length c.inputs) (omega (arith, length_placed, fits.few)) refl
          (λ i h. input_placed i (place_at p + 1 + i) (omega (arith, fits.few)) refl)

      outs : take (steps_of (placed s p c) p) (drop (place_at p + 1 + steps_most) (placed s p c)) ≡ c.outputs
      outs =
          ap (λ n. take n (drop (place_at p + 1 + steps_most) (placed s p c))) steps_placed
          ∙ part_is (placed s p c) c.outputs (place_at p + 1 + steps_most) (length c.inputs) (omega (arith, length_placed, fits.few)) fits.even
          (λ i h. output_placed i (place_at p + 1 + steps_most + i) (omega (arith, fits.few)) refl)

  -- and is held if the case has a step
  pub held_placed : is_held (placed s p c) p ≡ not (eqb (length c.inputs) 0)
  held_placed = ap (λ n. not (eqb n 0)) steps_placed

  -- another place's length byte stays
  pub steps_elsewhere : (q : ℕ) → q < places_most → (q ≡ p → ⊥) → steps_of (placed s p c) q ≡ steps_of s q
  steps_elsewhere q l other = same_steps s (placed s p c) room length_placed q l (byte_elsewhere s p c q other)

  -- so does its case
  pub case_elsewhere : (q : ℕ) → q < places_most → (q ≡ p → ⊥) → steps_of s q ≤ steps_most → case_of (placed s p c) q ≡ case_of s q
  case_elsewhere q l other few = same_case s (placed s p c) room length_placed q l (byte_elsewhere s p c q other) few

  -- and it is as good as it was
  pub place_elsewhere : (q : ℕ) → q < places_most → (q ≡ p → ⊥) → good_place (placed s p c) q ≡ good_place s q
  place_elsewhere q l other = same_place s (placed s p c) room length_placed q l (byte_elsewhere s p c q other) head_placed

  -- zeros follow the case
  zeros_placed : zeros_after (placed s p c) p ≡ true
  unfolding zeros_after
  zeros_placed = rw (steps_placed, ins, outs)
    where
      ins : zeros (placed s p c) (place_at p + 1 + length c.inputs) (steps_most - length c.inputs) ≡ true
      ins =
          zeros_from (placed s p c) (place_at p + 1 + length c.inputs) (steps_most - length c.inputs)
          (λ i h. input_placed (length c.inputs + i) _ (omega arith) (omega arith) ∙ get_or-eq_default c.inputs 0 (omega arith))

      outs : zeros (placed s p c) (place_at p + 1 + steps_most + length c.inputs) (steps_most - length c.inputs) ≡ true
      outs =
          zeros_from (placed s p c) (place_at p + 1 + steps_most + length c.inputs) (steps_most - length c.inputs)
          (λ i h. output_placed (length c.inputs + i) _ (omega arith) (omega arith) ∙ get_or-eq_default c.outputs 0 (omega (arith, fits.even)))

  -- the place is good if it is then free, or the case can be run
  good_placed : (not (not (eqb (length c.inputs) 0)) || good_case (head_of s) c.inputs c.outputs) ≡ true → good_place (placed s p c) p ≡ true
  unfolding good_place
  good_placed e =
      (λ i. leb (steps_placed i) steps_most && (zeros_placed i && (not (held_placed i) || good_case (head_placed i) (case_placed i).inputs (case_placed i).outputs)))
      ∙ rw (le-leb (length c.inputs) steps_most fits.few) e

  -- with a case that can be run it is good
  pub place_stored : good_case (head_of s) c.inputs c.outputs ≡ true → good_place (placed s p c) p ≡ true
  place_stored e = good_placed (either (not (not (eqb (length c.inputs) 0))) _ e)
    where
      either : (a b : Bool) → b ≡ true → (a || b) ≡ true
      either true b k = refl
      either false b k = k

-- the case of a free place fits
pub no_fits : Fits no_case
no_fits = record { few = omega arith; even = refl }

-- a place is good that was cleared
pub place_cleared : (s : List ℕ) → session_size ≤ length s → (p : ℕ) → p < places_most → good_place (placed s p no_case) p ≡ true
place_cleared s room p inside = good_placed s room p inside no_case no_fits refl

-- the cases of the n places from place p on
held_from : List ℕ → ℕ → ℕ → List Case
held_from s p zero = []
held_from s p (suc n) = held_from s p n ++ cases_at s (p + n)

-- the cases below a place, and those from it on
held_split : (s : List ℕ) (p n : ℕ) → held_to s (p + n) ≡ held_to s p ++ held_from s p n
unfolding held_to held_from
held_split s p zero = rw (add-zero, append-nil)
held_split s p (suc n) = rw (add-suc p n, held_split s p n, append_assoc)

-- the cases below a place, the one in it, those above
held_around : (s : List ℕ) (p n : ℕ) → held_to s (suc p + n) ≡ held_to s p ++ (cases_at s p ++ held_from s (suc p) n)
unfolding held_to
held_around s p n = held_split s (suc p) n ∙ append_assoc (held_to s p) (cases_at s p) (held_from s (suc p) n)

-- so all cases are split around a place
cases_split : (s : List ℕ) (p : ℕ) → p < places_most
    → cases s ≡ held_to s p ++ (cases_at s p ++ held_from s (suc p) (places_most - suc p))
unfolding cases
cases_split s p l =
    let e : places_most ≡ suc p + (places_most - suc p) = omega arith in
    ap (held_to s) e ∙ held_around s p (places_most - suc p)

-- two sessions hold the same below a place where they do so in each place below it ..
below_same : (s t : List ℕ) (n : ℕ) → ((q : ℕ) → q < n → steps_of t q ≡ steps_of s q) → ((q : ℕ) → q < n → case_of t q ≡ case_of s q)
    → held_to t n ≡ held_to s n
unfolding held_to
below_same s t zero steps case = refl
below_same s t (suc n) steps case =
    let l : n < suc n = omega arith in
    let e = below_same s t n (λ q h. steps q (omega arith)) (λ q h. case q (omega arith)) in
    λ i. e i ++ case_if (not (eqb (steps n l i) 0)) (case n l i)

-- .. and from it on where they do so in each place from it on
above_same : (s t : List ℕ) (p n : ℕ) → ((q : ℕ) → p ≤ q → q < p + n → steps_of t q ≡ steps_of s q)
    → ((q : ℕ) → p ≤ q → q < p + n → case_of t q ≡ case_of s q) → held_from t p n ≡ held_from s p n
unfolding held_from
above_same s t p zero steps case = refl
above_same s t p (suc n) steps case =
    let a : p ≤ p + n = omega arith in
    let l : p + n < p + suc n = omega arith in
    let e = above_same s t p n (λ q k h. steps q k (omega arith)) (λ q k h. case q k (omega arith)) in
    λ i. e i ++ case_if (not (eqb (steps (p + n) a l i) 0)) (case (p + n) a l i)

-- the cases held before and after a store: the same below the place and above it
pub cases_around : (s : List ℕ) → session_size ≤ length s → ((q : ℕ) → q < places_most → steps_of s q ≤ steps_most) → (p : ℕ) → p < places_most
    → (below : List Case) × (above : List Case) × (cases s ≡ below ++ (cases_at s p ++ above))
    × ((c : Case) → Fits c → cases (placed s p c) ≡ below ++ (case_if (not (eqb (length c.inputs) 0)) c ++ above))
cases_around s room few p inside = (held_to s p, held_from s (suc p) (places_most - suc p), cases_split s p inside, after)
  where
    after : (c : Case) → Fits c
        → cases (placed s p c) ≡ held_to s p ++ (case_if (not (eqb (length c.inputs) 0)) c ++ held_from s (suc p) (places_most - suc p))
    after c fits =
        cases_split (placed s p c) p inside
        ∙ (λ i. below i ++ (case_if (held_placed s room p inside c fits i) (case_placed s room p inside c fits i) ++ above i))
      where
        below : held_to (placed s p c) p ≡ held_to s p
        below =
            below_same s (placed s p c) p (λ q l. steps_elsewhere s room p inside c fits q (omega arith) (λ e. omega arith))
            (λ q l. case_elsewhere s room p inside c fits q (omega arith) (λ e. omega arith) (few q (omega arith)))

        above : held_from (placed s p c) (suc p) (places_most - suc p) ≡ held_from s (suc p) (places_most - suc p)
        above =
            above_same s (placed s p c) (suc p) (places_most - suc p)
            (λ q k l. steps_elsewhere s room p inside c fits q (omega arith) (λ e. omega arith))
            (λ q k l. case_elsewhere s room p inside c fits q (omega arith) (λ e. omega arith) (few q (omega arith)))
