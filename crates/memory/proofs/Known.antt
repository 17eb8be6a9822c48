-- What a check that found nothing tells, of a session and of a place in it; and what is read at a place: whether it holds a case, how long
-- that is, the two parts of the session that are the case, and that it can be run against the session's table.
-- Assumes nothing.
use Prim.Native.Nat.{ℕ, ◌+◌, ◌-◌, ◌≤◌, ◌<◌}
use mathlib.Core.Path.{◌≡◌, sym, ap, ◌∙◌}
use mathlib.Core.Bool.{true, false, not}
use mathlib.Core.List.{List, ◌++◌}
use borrow.Author.Tests.{not-true, not-false, le-ltb}
use native.Mathlib.Omega.{arith}
use lib.ListN.{length, take, drop}
use Rattle.std.specs.Prelude.{Result, Ok, Err, Some}
use Rattle.shapes.specs.Refusals.{Ruling, fine, refused, ruling, Rule}
use Rattle.shapes.proofs.Refusals.{ruling_joined, fine_when, ruling_join_refused, ruling_join_fine}
use Rattle.machine.specs.Limits.{steps_most}
use Rattle.machine.specs.Cell.{TableIn}
use Rattle.machine.specs.Case.{Case, good_case, CaseIn, as_case}
use Rattle.machine.specs.declared.head.Head.{Head}
use Rattle.house.specs.Refusal.{checked}
use Rattle.house.specs.declared.refusal.Refusal.{Refusal}
use Rattle.house.proofs.Forms.{checked_fine, checked_refused}
use Rattle.memory.specs.Layout.{places_most, session_size, head_of, cells_of, place_at, steps_of, is_held, case_of, tallies_size}
use Rattle.memory.specs.Form.{good_table, good_place, Formed, room_rules, form_rules, is_slot, slot_rules}
use Rattle.memory.specs.declared.layout.Place.{Place}
use Rattle.memory.specs.Loops.{read_place}
use Rattle.memory.proofs.Checks.{room_known, place_read, free_here, held_here}
use Rattle.memory.proofs.Formed.{table_good, place_few, place_case, formed_table, formed_place}
use Rattle.memory.specs.Held.{bench_at}
use Rattle.memory.proofs.Held.{slot_held, slot_inside}

module _ (v : Ruling Refusal) {x : Result (Unit {0}) Refusal} (e : x ≡ checked v) where
  -- what a check answered its rules say: nothing,
  pub told_fine : x ≡ Ok tt → v ≡ fine
  told_fine d = checked_fine v (sym e ∙ d)

  -- or a refusal
  pub told_refused : {r : Refusal} → x ≡ Err r → v ≡ refused r
  told_refused d = checked_refused v (sym e ∙ d)

module _ (s t : List ℕ) where
  -- a session that no rule for form refuses is well-formed,
  pub rules_formed : ruling (form_rules s t) ≡ fine → Formed s t
  unfolding form_rules
  rules_formed e =
      let j = ruling_joined (room_rules s t) _ e in
      let room = room_known s t (ap checked j.0) in
      record { session_room = room.0; tallies_room = room.1; form = not-false _ ((fine_when _).0 j.1).0 }

  -- and none refuses one that is long enough,
  pub room_rules_law : session_size ≤ length s → tallies_size ≤ length t → ruling (room_rules s t) ≡ fine
  unfolding room_rules ruling
  room_rules_law a b = rw (le-ltb (length s) session_size a, le-ltb (length t) tallies_size b)

  -- and well-formed;
  pub formed_rules : Formed s t → ruling (form_rules s t) ≡ fine
  unfolding form_rules
  formed_rules k =
      ruling_join_fine (room_rules s t) _ (room_rules_law k.session_room k.tallies_room) ∙ (fine_when _).1 (ap not k.form, tt)

  -- a place that no rule for places refuses holds a case
  pub rules_slot : (p : ℕ) → ruling (slot_rules s t p) ≡ fine → Formed s t × (is_slot s p ≡ true)
  unfolding slot_rules
  rules_slot p e =
      let j = ruling_joined (form_rules s t) _ e in (rules_formed j.0, not-false _ ((fine_when _).0 j.1).0)

-- the table of a session, with the head read from it, was tested
pub session_table : (s : List ℕ) {h : Head} → h ≡ head_of s → session_size ≤ length s → good_table s ≡ true → TableIn h (cells_of s)
session_table s e room g = rw e (table_good s room g)

-- and so was the case of a good place that holds one: it can be run
pub case_runs : (s : List ℕ) (p : ℕ) {h : Head} {c : Case} → session_size ≤ length s → good_table s ≡ true → good_place s p ≡ true → is_held s p ≡ true
    → h ≡ head_of s → c ≡ case_of s p → TableIn h (cells_of s) × CaseIn h c.inputs c.outputs
case_runs s p room table good held same e = (session_table s same room table, rw (same, e) (place_case s p good held))

-- the two parts of a session that the code takes as the case of a place that it read
abbrev pub case_read : List ℕ → Place → Case
case_read s here =
    as_case (take (here.at + 1 + here.steps - (here.at + 1)) (drop (here.at + 1) s))
    (take (here.at + 1 + steps_most + here.steps - (here.at + 1 + steps_most)) (drop (here.at + 1 + steps_most) s))

module _ (s : List ℕ) (p : ℕ) {here : Place} (e : here ≡ read_place s p) where
  -- a place that was read is held where its length byte is not 0,
  pub held_read : (here.steps ≡ 0 → ⊥) → is_held s p ≡ true
  held_read z = not-false _ (held_here s p e z)

  -- and free where it is;
  pub free_read : here.steps ≡ 0 → is_held s p ≡ false
  free_read z = not-true _ (free_here s p e z)

  -- it stands where it does, and a good one is short;
  pub place_within : good_place s p ≡ true → (here.at ≡ place_at p) × ((here.steps ≡ steps_of s p) × (here.steps ≤ steps_most))
  place_within g =
      let k = place_read s p e in
      let f = place_few s p g in (k.0, (k.1, omega arith))

  -- the two parts are its case,
  pub parts_case : case_read s here ≡ case_of s p
  unfolding case_of
  parts_case =
      let i : here.at + 1 + here.steps - (here.at + 1) ≡ here.steps = omega arith in
      let o : here.at + 1 + steps_most + here.steps - (here.at + 1 + steps_most) ≡ here.steps = omega arith in
      rw (i, o, e)

  -- one its inputs and the other its outputs,
  pub parts_read : ((case_read s here).inputs ≡ (case_of s p).inputs) × ((case_read s here).outputs ≡ (case_of s p).outputs)
  parts_read = (ap (λ (c : Case). c.inputs) parts_case, ap (λ (c : Case). c.outputs) parts_case)

  -- so whether it can be run is told of them
  pub good_told : {h : Head} → h ≡ head_of s
      → good_case h (case_read s here).inputs (case_read s here).outputs ≡ good_case (head_of s) (case_of s p).inputs (case_of s p).outputs
  good_told same = rw (same, parts_read.0, parts_read.1)

-- a place that holds a case, in a well-formed session
module _ (s t : List ℕ) (p : ℕ) (k : Formed s t × (is_slot s p ≡ true)) where
  -- it is one of the 64, and there is room for them,
  pub slot_room : (session_size ≤ length s) × (p < places_most)
  slot_room = (k.0.session_room, slot_inside s p k.1)

  -- and its case can be run against the session's table
  pub slot_runs : {h : Head} {c : Case} → h ≡ head_of s → c ≡ case_of s p → TableIn h (cells_of s) × CaseIn h c.inputs c.outputs
  slot_runs = case_runs s p slot_room.0 (formed_table s t k.0) (formed_place s t k.0 p slot_room.1) (slot_held s p k.1)

module _ (l m : List (Rule Refusal)) {x : Result (Unit {0}) Refusal} (e : x ≡ checked (ruling l)) where
  -- where the check of the first rules finds nothing wrong the other rules decide,
  pub part_fine : x ≡ Ok tt → ruling (l ++ m) ≡ ruling m
  part_fine d = ruling_join_fine l m (told_fine (ruling l) e d)

  -- and what it refuses all of them refuse
  pub part_refused : {r : Refusal} → x ≡ Err r → ruling (l ++ m) ≡ refused r
  part_refused {r} d = ruling_join_refused l m r (told_refused (ruling l) e d)

-- a place over 63 holds no case
pub slot_past : (s : List ℕ) (p : ℕ) → places_most ≤ p → not (is_slot s p) ≡ true
unfolding is_slot
slot_past s p l = rw (le-ltb _ _ l)

-- a case that was read of a place that holds one, with the session's table
pub bench_read : (s : List ℕ) (p : ℕ) {h : Head} {cells : List ℕ} {c : Case} → is_held s p ≡ true → h ≡ head_of s → cells ≡ cells_of s → c ≡ case_of s p
    → Some (record { head = h; cells = cells; case = c }) ≡ bench_at s p
bench_read s p held eh ec e = rw (held, eh, ec, e)
