-- A check goes through a call's rules part by part: what a part refuses the call refuses, and where it says nothing the rest decides.
-- What each test of a check says of its rule, and what counting a case out of the tallies finds.
-- Assumes nothing.
use Prim.Native.Nat.{ℕ, ◌-◌, ◌≤◌, ◌<◌}
use mathlib.Core.Path.{◌≡◌, sym, ap, ◌∙◌}
use mathlib.Core.Bool.{Bool, true, false}
use mathlib.Core.List.{List}
use borrow.Author.Tests.{le-leb, lt-leb, lt-ltb, le-ltb}
use native.Mathlib.Omega.{arith}
use lib.Dec.{ltb, leb}
use lib.ListN.{length, get_or}
use Rattle.std.specs.Prelude.{Result, Ok, Err, Option, Some, None}
use Rattle.std.specs.Option.{is_some}
use Rattle.shapes.specs.First.{found}
use Rattle.shapes.proofs.Found.{found_at, found_past}
use Rattle.shapes.specs.Refusals.{Ruling, fine, refused, ruling}
use Rattle.shapes.proofs.Refusals.{ruling_joined, fine_when, refused_when}
use Rattle.machine.specs.Head.{numbers}
use Rattle.machine.specs.Case.{Case}
use Rattle.machine.specs.declared.head.Head.{Head}
use Rattle.house.specs.Refusal.{checked, ruled}
use Rattle.house.specs.Table.{table_rules, table_read}
use Rattle.house.specs.Cases.{count_in, count_of, cases_in, case_rules, cases_rules}
use Rattle.house.specs.declared.cases.About.{About}
use Rattle.house.specs.declared.refusal.Refusal.{Refusal}
use Rattle.house.proofs.Tables.{table_refused, table_taken}
use Rattle.house.proofs.Records.{cases_counted}
use Rattle.memory.specs.Layout.{places_most, session_size, tallies_size, head_of, case_of, cases, free_place}
use Rattle.machine.specs.Runs.{Bench}
use Rattle.memory.specs.Held.{bench_in}
use Rattle.memory.specs.Form.{Formed, room_rules, is_slot}
use Rattle.session.specs.Calls.{after, start_rules, start_call}
use Rattle.tallies.specs.Tallies.{can_lower_by, miss_by, can_take, lowered, lowered_by}
use Rattle.memory.specs.Store.{started, cleared}
use Rattle.memory.proofs.Checks.{room_known}
use Rattle.tallies.proofs.Tallying.{miss_on, can_lower_on, lowered_on}
use Rattle.tallies.proofs.Tallied.{can_take_at}
use Rattle.memory.proofs.Held.{withdraw_count, formed_numbers}
use Rattle.memory.proofs.Known.{told_fine, told_refused}

module _ (v : Ruling Refusal) where
  -- the check of a load refuses as its rules do,
  pub check_load_refused : (m : ℕ) {r : Refusal} → v ≡ refused r → Err r ≡ ruled v m
  check_load_refused m e = rw e

  -- and else it answers the count of the cases
  pub check_load_counted : {n m : ℕ} → v ≡ fine → n ≡ m → Ok n ≡ ruled v m
  check_load_counted e d = rw (e, d)

module _ (file : List ℕ) {x : Result Head Refusal} (e : x ≡ table_read file) where
  -- a table file that is refused is refused by its rules,
  pub table_told_refused : {r : Refusal} → x ≡ Err r → ruling (table_rules file) ≡ refused r
  table_told_refused {r} d = (refused_when (table_rules file) r).1 ((table_refused file r).0 (sym e ∙ d))

  -- and one that is read by none
  pub table_told_fine : {h : Head} → x ≡ Ok h → ruling (table_rules file) ≡ fine
  table_told_fine {h} d = (fine_when (table_rules file)).1 (table_taken file h (sym e ∙ d)).0

module _ (s : List ℕ) {h : Head} (same : h ≡ head_of s) {x : Result (Unit {0}) Refusal} where
  -- what the head read says of a case the session says,
  pub case_told : (a : About) (c : Case) → x ≡ checked (ruling (case_rules h a c)) → x ≡ checked (ruling (case_rules (head_of s) a c))
  case_told a c e = rw same at e

  -- and of cases
  pub cases_told : (a : About) (cs : List Case) → x ≡ checked (ruling (cases_rules h a cs)) → x ≡ checked (ruling (cases_rules (head_of s) a cs))
  cases_told a cs e = rw same at e

module _ (s t file : List ℕ) {x : Result (Unit {0}) Refusal} (e : x ≡ checked (ruling (start_rules s t file))) where
  -- a start that is refused leaves what was lent to it,
  pub start_refused : {r : Refusal} → x ≡ Err r → after (Err r) s t ≡ start_call s t file
  unfolding start_call
  start_refused d = rw (told_refused (ruling (start_rules s t file)) e d)

  -- and else there is room,
  pub start_room : x ≡ Ok tt → (session_size ≤ length s) × (tallies_size ≤ length t)
  unfolding start_rules
  start_room d =
      room_known s t (ap checked (ruling_joined (room_rules s t) (table_rules file) (told_fine (ruling (start_rules s t file)) e d)).0)

  -- and it leaves the table copied in and all else cleared
  pub start_done : {s' t' : List ℕ} → x ≡ Ok tt → s' ≡ started s file → t' ≡ cleared t
      → after (Ok 0) s' t' ≡ start_call s t file
  unfolding start_call
  start_done d p q = rw (told_fine (ruling (start_rules s t file)) e d, p, q)

module _ (s : List ℕ) (o : Option ℕ) (e : o ≡ found (free_place s) places_most) where
  -- there is no free place where none was found,
  pub full_here : is_some o ≡ false → leb places_most (free_place s) ≡ true
  full_here d = go o e d
    where
      go : (o : Option ℕ) → o ≡ found (free_place s) places_most → is_some o ≡ false → leb places_most (free_place s) ≡ true
      go None q z = le-leb places_most (free_place s) (found_past _ _ (sym q))
      go (Some p) q z = cc

  -- and else there is one
  pub full_not : is_some o ≡ true → leb places_most (free_place s) ≡ false
  full_not d = go o e d
    where
      go : (o : Option ℕ) → o ≡ found (free_place s) places_most → is_some o ≡ true → leb places_most (free_place s) ≡ false
      go None q z = cc
      go (Some p) q z = lt-leb places_most (free_place s) (found_at _ _ (sym q)).1

module _ (s file : List ℕ) {held count : ℕ} (e : held ≡ length (cases s)) (d : count ≡ count_of (count_in file)) where
  -- there are fewer free places than cases to add,
  pub crowded : places_most - held < count → ltb (places_most - length (cases s)) (length (cases_in file)) ≡ true
  crowded l = lt-ltb (places_most - length (cases s)) (length (cases_in file)) (omega (arith, cases_counted file))

  -- or there are not
  pub uncrowded : count ≤ places_most - held → ltb (places_most - length (cases s)) (length (cases_in file)) ≡ false
  uncrowded l = le-ltb (places_most - length (cases s)) (length (cases_in file)) (omega (arith, cases_counted file))

-- some case is held where one is at a place
pub slot_some : (s t : List ℕ) (p : ℕ) → Formed s t × (is_slot s p ≡ true) → 1 ≤ length (cases s)
slot_some s t p k = omega (arith, withdraw_count s t p k.0 k.1)

module _ (s t : List ℕ) (p : ℕ) (b : Bench) (e : b ≡ bench_in s p) where
  -- whether the case of a place can be taken away, as the code finds it
  pub take_told : {x : Bool} → x ≡ can_lower_by b t (length (cases s) - 1) → x ≡ can_take s t p
  unfolding can_take
  take_told d = d ∙ can_lower_on s (case_of s p) b e t (length (cases s) - 1)

  -- there is a tally for each number that is in use,
  pub take_room : Formed s t → numbers b.head ≤ length t
  take_room k = rw e (let n = formed_numbers s t k in let room = k.tallies_room in omega arith)

  -- where the case can be taken away no tally goes below 0,
  pub take_low : can_take s t p ≡ true → (f : ℕ) → f < numbers b.head → miss_by b f ≤ get_or t f 0
  take_low d f l = rw (miss_on s (case_of s p) b e f) (can_take_at s t p f d (rw e at l)).0

  -- and the tallies that are left are those with the place's case counted out
  pub take_done : {t' : List ℕ} → t' ≡ lowered_by b t → t' ≡ lowered s (case_of s p) t
  take_done d = d ∙ lowered_on s (case_of s p) b e t
