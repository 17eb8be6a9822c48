-- Tallies that are true stay true: a start has tallies of 0 and no case, and every change counts one case more or one case less in each
-- tally in use by whether its number's machine misses the case. True tallies let every held case be taken away.
-- Assumes nothing.
use Prim.Native.Nat.{ℕ, ◌+◌, ◌-◌, ◌≤◌, ◌<◌}
use mathlib.Core.Path.{◌≡◌, sym, ap, ◌∙◌}
use mathlib.Core.List.{List, []}
use mathlib.Core.Bool.{true}
use native.Mathlib.Omega.{arith}
use lib.ListN.{length, get_or}
use borrow.Author.Tests.{le-leb}
use Rattle.std.specs.Prelude.{Ok}
use Rattle.shapes.specs.Keep.{count}
use Rattle.shapes.proofs.First.{all_from}
use Rattle.shapes.proofs.Keep.{count_most}
use Rattle.machine.specs.Head.{numbers}
use Rattle.machine.specs.Case.{Case, good_case, no_case}
use Rattle.machine.specs.declared.head.Head.{Head}
use Rattle.house.specs.Table.{table_read}
use Rattle.house.proofs.Tables.{table_known}
use Rattle.diagnosis.specs.Diagnosis.{misses, tally}
use Rattle.memory.specs.Layout.{places_most, session_size, tallies_size, head_of, cells_of, case_of, cases, free_place}
use Rattle.memory.specs.Form.{Formed, is_slot}
use Rattle.memory.proofs.Started.{started_none, table_short, started_table, cleared_zero}
use Rattle.tallies.specs.Tallies.{TrueTallies, miss, can_take, raised, lowered, can_lose_by}
use Rattle.memory.specs.Store.{placed, started, cleared}
use Rattle.memory.proofs.Formed.{free_low}
use Rattle.memory.proofs.Stored.{Fits, no_fits, head_placed, cells_placed}
use Rattle.tallies.proofs.Tallied.{raised_in, lowered_in, length_lowered}
use Rattle.memory.proofs.Held.{OneMore, length_more, count_more, good_fits, slot_inside, slot_held, cases_taken, cases_free, cases_put, formed_numbers}
use Rattle.machine.proofs.Sound.{numbers_few}

-- each tally in use is there
tally_there : (s t : List ℕ) → Formed s t → (f : ℕ) → f < numbers (head_of s) → f < length t
tally_there s t k f l =
    omega (arith, k.tallies_room, formed_numbers s t k)

-- one case more is counted where the number's machine misses it
tally_more : (s : List ℕ) {c : Case} {few many : List Case} → OneMore c few many
    → (f : ℕ) → tally (head_of s) (cells_of s) many f ≡ miss s c f + tally (head_of s) (cells_of s) few f
unfolding tally miss
tally_more s o f = count_more (misses (head_of s) (cells_of s) f) o

-- at most all cases are counted
tally_few : (h : Head) (cells : List ℕ) (cs : List Case) (f : ℕ) → tally h cells cs f ≤ length cs
unfolding tally
tally_few h cells cs f = count_most (misses h cells f) cs

-- with a place changed the table is the same, so the tallies are true if they count the cases then held
true_placed : (s : List ℕ) → session_size ≤ length s → (p : ℕ) → p < places_most → (c : Case) → Fits c → (t : List ℕ)
    → ((f : ℕ) → f < numbers (head_of s) → get_or t f 0 ≡ tally (head_of s) (cells_of s) (cases (placed s p c)) f) → TrueTallies (placed s p c) t
true_placed s room p l c fits t each f m =
    each f (rw (ap numbers head) at m) ∙ (λ i. tally (sym head i) (sym cells i) (cases (placed s p c)) f)
  where
    head : head_of (placed s p c) ≡ head_of s
    head = head_placed s room p l c fits

    cells : cells_of (placed s p c) ≡ cells_of s
    cells = cells_placed s room p l c fits

-- true tallies stay true with an add,
pub add_true : (s t : List ℕ) (c : Case) → Formed s t → TrueTallies s t → good_case (head_of s) c.inputs c.outputs ≡ true
    → free_place s < places_most → TrueTallies (placed s (free_place s) c) (raised s c t)
add_true s t c k now g l =
    true_placed s k.session_room (free_place s) l c (good_fits (head_of s) c g) (raised s c t) each
  where
    one : OneMore c (cases s) (cases (placed s (free_place s) c))
    one = rw (cases_free s t k (free_place s) l (free_low s l)) at (cases_put s t k (free_place s) l c g)

    each : (f : ℕ) → f < numbers (head_of s) → get_or (raised s c t) f 0 ≡ tally (head_of s) (cells_of s) (cases (placed s (free_place s) c)) f
    each f m =
        rw (raised_in s c t f m (tally_there s t k f m), tally_more s one f, now f m) (omega arith)

module _ (s t : List ℕ) (p : ℕ) (k : Formed s t) (now : TrueTallies s t) (slot : is_slot s p ≡ true) where
  -- the case of a place is one more than is held without it
  old : OneMore (case_of s p) (cases (placed s p no_case)) (cases s)
  old = cases_taken s t k p (slot_inside s p slot) (slot_held s p slot)

  -- so each tally in use is what is counted without the case, and whether it is missed
  tally_old : (f : ℕ) → f < numbers (head_of s) → get_or t f 0 ≡ miss s (case_of s p) f + tally (head_of s) (cells_of s) (cases (placed s p no_case)) f
  tally_old f m = now f m ∙ tally_more s old f

  -- and counted out it is what is counted without it
  tally_taken : (f : ℕ) → f < numbers (head_of s)
      → get_or (lowered s (case_of s p) t) f 0 ≡ tally (head_of s) (cells_of s) (cases (placed s p no_case)) f
  tally_taken f m = rw (lowered_in s (case_of s p) t f m (tally_there s t k f m), tally_old f m) (omega arith)

  -- where the tallies are true every held case can be taken away,
  pub true_can_take : can_take s t p ≡ true
  unfolding can_take
  true_can_take = all_from _ (numbers (head_of s)) each
    where
      each : (f : ℕ) → f < numbers (head_of s)
          → can_lose_by (miss s (case_of s p) f) (get_or t f 0) (length (cases s) - 1) ≡ true
      each f m =
          let e = tally_old f m in
          let n = tally_few (head_of s) (cells_of s) (cases (placed s p no_case)) f in
          let o = length_more old in
          rw (le-leb (miss s (case_of s p) f) (get_or t f 0) (omega arith), le-leb (get_or t f 0 - miss s (case_of s p) f) (length (cases s) - 1) (omega arith))

  -- and they stay true with a withdrawal
  pub withdraw_true : TrueTallies (placed s p no_case) (lowered s (case_of s p) t)
  withdraw_true = true_placed s k.session_room p (slot_inside s p slot) no_case no_fits (lowered s (case_of s p) t) tally_taken

-- and an amendment
pub amend_true : (s t : List ℕ) (p : ℕ) (c : Case) → Formed s t → TrueTallies s t → is_slot s p ≡ true
    → good_case (head_of s) c.inputs c.outputs ≡ true → TrueTallies (placed s p c) (raised s c (lowered s (case_of s p) t))
amend_true s t p c k now slot g = true_placed s k.session_room p inside c (good_fits (head_of s) c g) (raised s c less) each
  where
    inside : p < places_most
    inside = slot_inside s p slot

    less : List ℕ
    less = lowered s (case_of s p) t

    each : (f : ℕ) → f < numbers (head_of s) → get_or (raised s c less) f 0 ≡ tally (head_of s) (cells_of s) (cases (placed s p c)) f
    each f m =
        let there : f < length less = rw (length_lowered s (case_of s p) t) (tally_there s t k f m) in
        rw (raised_in s c less f m there, tally_taken s t p k now slot f m, tally_more s (cases_put s t k p inside c g) f) (omega arith)

-- and after a start the tallies are true
pub start_true : (s t file : List ℕ) (h : Head) → session_size ≤ length s → tallies_size ≤ length t → table_read file ≡ Ok h
    → TrueTallies (started s file) (cleared t)
unfolding tally count
start_true s t file h room rest read f m =
    cleared_zero t rest f (omega (arith, numbers_few h (table_known file h read).0.head, ap numbers (started_table s file h room read).0))
    ∙ sym (none (cases (started s file)) (started_none s file room (table_short file h read)))
  where
    none : (cs : List Case) → cs ≡ [] → tally (head_of (started s file)) (cells_of (started s file)) cs f ≡ 0
    none cs e = rw e
