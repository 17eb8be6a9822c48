-- What each test of a session's form says of the definition that it tests, and what is known of a place and of a head that were read.
-- Assumes nothing.
use Prim.Native.Nat.{ℕ, ◌+◌, ◌-◌, ◌*◌, ◌≤◌, zero, suc}
use mathlib.Core.Path.{◌≡◌, refl, sym, ◌∙◌, ap}
use mathlib.Core.Bool.{Bool, true, false, cond, not}
use mathlib.Core.List.{List}
use borrow.Author.Tests.{ltb-true, ltb-false, le-leb, eq-eqb, ne_eqb}
use native.Mathlib.Omega.{arith}
use lib.Dec.{eqb, ltb, leb}
use lib.ListN.{length, get_or, take, drop, length-append, length-take, length-drop}
use mir.Val.{bool_byte}
use Rattle.std.specs.Prelude.{Option, Some, None, Ok, Err}
use Rattle.std.specs.List.{filter, range_with_len}
use Rattle.shapes.specs.First.{first, found, all_to}
use Rattle.shapes.specs.Keep.{keep_if, keep_to}
use Rattle.shapes.specs.Refusals.{ruling}
use Rattle.shapes.proofs.Refusals.{ruling_join_refused, ruling_join_fine, fine_when}
use Rattle.shapes.proofs.First.{first_same}
use Rattle.shapes.proofs.Ranges.{keep_listed}
use Rattle.std.specs.Option.{is_none}
use Rattle.shapes.proofs.Tests.{and_true}
use Rattle.machine.specs.Limits.{cells_most, steps_most}
use Rattle.machine.specs.Head.{good_head, HeadIn, made_head, cell_count, numbers}
use Rattle.machine.specs.Cell.{first_bad, bad_in}
use Rattle.machine.specs.Case.{good_case}
use Rattle.machine.specs.declared.head.Head.{Head}
use Rattle.machine.proofs.Cases.{head_in_law, made_head_law, made_no_head}
use Rattle.machine.proofs.Sound.{bad_few}
use Rattle.house.specs.Refusal.{checked}
use Rattle.house.specs.declared.refusal.Refusal.{Refusal}
use Rattle.house.specs.declared.refusal.Refusal.TheVariants.{Damaged}
use Rattle.house.proofs.Forms.{checked_fine, checked_refused}
use Rattle.memory.specs.Layout.{session_cells_at, places_at, session_size, tallies_size, head_of, cells_of, place_at, steps_of, is_held, case_of, case_if, held_to, cases, places_most, free_place}
use Rattle.memory.specs.Form.{good_table, zeros_after, good_place, tally_most, good_tallies, well_formed, room_rules, form_rules, most_for}
use Rattle.memory.specs.declared.layout.Place.{Place}
use Rattle.memory.specs.Loops.{read_place}

-- of numbers that are at most n, only n itself is none that lies below it
none_past : (x n : ℕ) → x ≤ n → is_none (found x n) ≡ eqb x n
none_past x n l = go (ltb x n) refl
  where
    go : (b : Bool) → ltb x n ≡ b → is_none (cond b (Some x) None) ≡ eqb x n
    go true e = let low = ltb-true x n e in sym (ne_eqb x n (λ same. omega arith))
    go false e = let high = ltb-false x n e in sym (eq-eqb x n (omega arith))

-- the places that hold a case are as many as the cases held,
held_kept : (s : List ℕ) (n : ℕ) → length (keep_to (is_held s) n) ≡ length (held_to s n)
unfolding keep_to held_to
held_kept s zero = refl
held_kept s (suc n) = rw (length-append (keep_to (is_held s) n), length-append (held_to s n), held_kept s n) (go (is_held s n))
  where
    go : (b : Bool) → length (held_to s n) + length (keep_if b n) ≡ length (held_to s n) + length (case_if b (case_of s n))
    go true = refl
    go false = refl

-- and so are those that a filter leaves
pub held_listed : (s : List ℕ) (n : ℕ) → length (filter (is_held s) (range_with_len 0 n)) ≡ length (held_to s n)
held_listed s n = rw keep_listed (held_kept s n)

-- a place holds no case where its length byte is 0
pub free_same : (s : List ℕ) → first (λ p. eqb (steps_of s p) 0) 0 places_most ≡ free_place s
unfolding free_place
free_same s = first_same _ _ 0 places_most (λ p l k. go (eqb (steps_of s p) 0))
  where
    go : (b : Bool) → b ≡ not (not b)
    go true = refl
    go false = refl

-- a test counts as one at most
pub byte_few : (b : Bool) → bool_byte b ≤ 1
byte_few true = omega arith
byte_few false = omega arith

module _ (s : List ℕ) (p : ℕ) {here : Place} (e : here ≡ read_place s p) where
  -- a place that was read: where it stands, and its length byte
  pub place_read : (here.at ≡ place_at p) × (here.steps ≡ steps_of s p)
  place_read = (rw e, rw e)

  -- it is free where its length byte is 0,
  pub free_here : here.steps ≡ 0 → not (is_held s p) ≡ true
  free_here z = let z' : steps_of s p ≡ 0 = rw e at z in rw (eq-eqb (steps_of s p) 0 z')

  -- and else it holds a case
  pub held_here : (here.steps ≡ 0 → ⊥) → not (is_held s p) ≡ false
  held_here z = let z' : steps_of s p ≡ 0 → ⊥ = rw e at z in rw (ne_eqb (steps_of s p) 0 z')

-- a clean place that holds a case is good where its case is
pub place_held : (s : List ℕ) (p : ℕ) → steps_of s p ≤ steps_most → zeros_after s p ≡ true → (steps_of s p ≡ 0 → ⊥)
    → good_place s p ≡ good_case (head_of s) (case_of s p).inputs (case_of s p).outputs
unfolding good_place
place_held s p l z e = rw (le-leb _ _ l, z, ne_eqb (steps_of s p) 0 e)

-- the head that was made is the one that the session names
pub record Headed (s : List ℕ) (h : Head) : Type 0 where
  pub good : good_head (head_of s) ≡ true
  pub same : h ≡ head_of s

module _ (s : List ℕ) where
  -- three bytes that make a head make the one that the session names
  pub head_made : {named : Head} {made : Option Head} {h : Head} → named ≡ head_of s
      → made ≡ made_head named.states named.inputs named.outputs → made ≡ Some h → Headed s h
  head_made {h = h} n e d =
      let m = made_head_law (get_or s 0 0) (get_or s 1 0) (get_or s 2 0) h (sym (rw n at e) ∙ d) in
      record { good = m.0; same = m.1 }

  -- three bytes that make none leave the table bad
  pub table_no_head : {named : Head} {made : Option Head} → named ≡ head_of s
      → made ≡ made_head named.states named.inputs named.outputs → made ≡ None → good_table s ≡ false
  unfolding good_table
  table_no_head n e d =
      let g = made_no_head (get_or s 0 0) (get_or s 1 0) (get_or s 2 0) (sym (rw n at e) ∙ d) in rw g

  -- the head that was made is within the limits
  pub headed_in : {h : Head} → Headed s h → HeadIn h
  headed_in n = rw n.same (head_in_law _ n.good)

  -- a session has room for the cells
  pub session_cells_room : {n : ℕ} → session_size ≤ length s → n ≤ cells_most → 2 * n ≤ length (take (places_at - session_cells_at) (drop session_cells_at s))
  session_cells_room r l = simp (length-take, length-drop) (omega arith)

  module _ {h : Head} {b : Option ℕ} (k : Headed s h) (e : b ≡ bad_in h (take (places_at - session_cells_at) (drop session_cells_at s))) where
    -- whether no cell is bad is told of the session's own
    pub cells_told : is_none b ≡ eqb (first_bad (head_of s) (cells_of s)) (cell_count (head_of s))
    unfolding bad_in
    cells_told = ap is_none e ∙ rw k.same (none_past _ _ (bad_few (head_of s) (cells_of s)))

  -- the head of a good table is within the limits
  pub table_head : good_table s ≡ true → HeadIn (head_of s)
  unfolding good_table
  table_head e = head_in_law _ (and_true _ _ e).0

  -- the tallies are tested by the counts that the code finds
  pub tallies_told : (t : List ℕ) {n c : ℕ} → n ≡ numbers (head_of s) → c ≡ length (cases s)
      → all_to (λ f. leb (get_or t f 0) (most_for f n c)) tallies_size ≡ good_tallies s t
  unfolding good_tallies tally_most
  tallies_told t a b = rw (a, b)

module _ (s t : List ℕ) where
  -- a session or tallies too short are refused so,
  pub form_short : {r : Refusal} → checked (ruling (room_rules s t)) ≡ Err r → checked (ruling (form_rules s t)) ≡ Err r
  unfolding form_rules
  form_short e = rw (ruling_join_refused (room_rules s t) _ _ (checked_refused _ e))

  module _ (e : checked (ruling (room_rules s t)) ≡ Ok tt) where
    -- and else there is room,
    pub room_known : (session_size ≤ length s) × (tallies_size ≤ length t)
    unfolding room_rules
    room_known = let a = (fine_when (room_rules s t)).0 (checked_fine _ e) in (ltb-false _ _ a.0, ltb-false _ _ a.1.0)

    -- a session that is not well-formed is damaged,
    pub form_damaged : well_formed s t ≡ false → checked (ruling (form_rules s t)) ≡ Err Damaged
    unfolding form_rules ruling
    form_damaged f = rw (ruling_join_fine (room_rules s t) _ (checked_fine _ e), f)

    -- and one that is is fine
    pub form_fine : well_formed s t ≡ true → checked (ruling (form_rules s t)) ≡ Ok tt
    unfolding form_rules ruling
    form_fine f = rw (ruling_join_fine (room_rules s t) _ (checked_fine _ e), f)
