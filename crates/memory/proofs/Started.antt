-- What stands in a session after a start: the table of the file, no case, and tallies of 0. Assumes nothing.
use Prim.Native.Nat.{ℕ, zero, suc, ◌+◌, ◌-◌, ◌*◌, ◌≤◌, ◌<◌}
use mathlib.Core.Path.{◌≡◌, refl, sym, subst, ◌∙◌}
use mathlib.Core.List.{List, []}
use mathlib.Core.Bool.{true, false, ◌&&◌}
use native.Mathlib.Nat.{zero-add, add_assoc}
use native.Mathlib.Omega.{arith}
use lib.Dec.{eqb}
use lib.ListN.{length, get_or, get_or-eq_default}
use lib.Seq.{get_or-take, get_or-drop}
use borrow.Author.Tests.{eq-eqb}
use Rattle.shapes.specs.First.{zeros}
use Rattle.shapes.proofs.First.{all_from}
use Rattle.shapes.proofs.Edit.{edit_in, length_edit}
use Rattle.machine.specs.Limits.{steps_most}
use Rattle.machine.specs.Head.{good_head, cell_count}
use Rattle.machine.specs.Cell.{first_bad, TableIn}
use Rattle.machine.specs.declared.head.Head.{Head}
use Rattle.house.specs.File.{rest_at}
use Rattle.house.specs.Table.{head_in, cells_in, table_bytes, table_read}
use Rattle.std.specs.Prelude.{Ok}
use Rattle.house.proofs.Tables.{table_known, table_taken}
use Rattle.memory.specs.Layout.{places_most, places_at, session_cells_at, cells_room, session_size, tallies_size, head_of, cells_of, place_at, steps_of, is_held, held_to, cases}
use Rattle.memory.specs.Form.{good_table, zeros_after, good_place, Formed}
use Rattle.memory.specs.Store.{started, cleared}
use Rattle.memory.proofs.Formed.{formed_from}
use Rattle.machine.proofs.Cases.{head_good}
use Rattle.machine.proofs.Sound.{cells_few, bad_same}

-- no case is held where every place is free
held_none : (s : List ℕ) (n : ℕ) → ((p : ℕ) → p < n → is_held s p ≡ false) → held_to s n ≡ []
unfolding held_to
held_none s zero free = refl
held_none s (suc n) free = rw (held_none s n (λ p l. free p (omega arith)), free n (omega arith))

module _ (s file : List ℕ) (room : session_size ≤ length s) where
  -- after a start each byte is the file's after its length field,
  pub started_byte : (i : ℕ) → i < session_size → get_or (started s file) i 0 ≡ get_or file (rest_at + i) 0
  unfolding started
  started_byte i l = rw zero-add at (edit_in (λ i old. get_or file (rest_at + i) 0) 0 session_size s i l (omega arith))

  -- 0 past its end
  started_zero : (i : ℕ) → i < session_size → length file ≤ rest_at + i → get_or (started s file) i 0 ≡ 0
  started_zero i l e = started_byte i l ∙ get_or-eq_default file 0 e

  -- so with no bytes past the cells every place is free,
  pub started_free : length file ≤ places_at + rest_at → (p : ℕ) → p < places_most → steps_of (started s file) p ≡ 0
  started_free e p l = started_zero (place_at p) (omega arith) (omega arith)

  -- and good
  started_place : length file ≤ places_at + rest_at → (p : ℕ) → p < places_most → good_place (started s file) p ≡ true
  unfolding good_place zeros_after zeros
  started_place e p l =
      rw
      (started_free e p l, all_from (λ i. eqb (get_or (started s file) (place_at p + 1 + 0 + i) 0) 0) (steps_most - 0) inputs, all_from (λ i. eqb (get_or (started s file) (place_at p + 1 + steps_most + 0 + i) 0) 0) (steps_most - 0) outputs)
    where
      inputs : (i : ℕ) → i < steps_most - 0 → eqb (get_or (started s file) (place_at p + 1 + 0 + i) 0) 0 ≡ true
      inputs i m = rw (started_zero (place_at p + 1 + 0 + i) (omega arith) (omega arith))

      outputs : (i : ℕ) → i < steps_most - 0 → eqb (get_or (started s file) (place_at p + 1 + steps_most + 0 + i) 0) 0 ≡ true
      outputs i m = rw (started_zero (place_at p + 1 + steps_most + 0 + i) (omega arith) (omega arith))

  -- so no case is held after a start
  pub started_none : length file ≤ places_at + rest_at → cases (started s file) ≡ []
  unfolding cases
  started_none e = held_none (started s file) places_most (λ p l. rw (started_free e p l))

-- the file of a table has no bytes past the cells
pub table_short : (file : List ℕ) (h : Head) → table_read file ≡ Ok h → length file ≤ places_at + rest_at
table_short file h read =
    let k = table_known file h read in omega (arith, k.1, cells_few h k.0.head)

module _ (s file : List ℕ) (h : Head) (room : session_size ≤ length s) (read : table_read file ≡ Ok h) where
  -- after a start the session has the file's table
  pub started_table : (head_of (started s file) ≡ h)
      × ((c : ℕ) → c < 2 * cell_count h → get_or (cells_of (started s file)) c 0 ≡ get_or (cells_in file) c 0)
  started_table = (head ∙ sym (table_taken file h read).1, cells)
    where
      head : head_of (started s file) ≡ head_in file
      head = rw (started_byte s file room 0 (omega arith), started_byte s file room 1 (omega arith), started_byte s file room 2 (omega arith))

      cells : (c : ℕ) → c < 2 * cell_count h → get_or (cells_of (started s file)) c 0 ≡ get_or (cells_in file) c 0
      cells c l =
          let f = cells_few h (table_known file h read).0.head in
          let m : c < cells_room = omega arith in
          let n : session_cells_at + c < session_size = omega arith in
          rw (get_or-take, get_or-drop session_cells_at (started s file), get_or-drop, started_byte s file room (session_cells_at + c) n, ← add_assoc rest_at session_cells_at c)

  -- which is good, with zeros after
  started_good : good_table (started s file) ≡ true
  unfolding good_table zeros
  started_good =
      subst
      (λ (g : Head). (good_head g
      && (eqb (first_bad g (cells_of (started s file))) (cell_count g)
      && zeros (started s file) (session_cells_at + 2 * cell_count g) (cells_room - 2 * cell_count g)))
      ≡ true)
      (sym started_table.0)
      (rw (head_good h known.0.head, eq-eqb _ _ sound) (all_from _ _ after))
    where
      known : (TableIn h (cells_in file)) × (length file ≡ table_bytes h)
      known = table_known file h read

      sound : first_bad h (cells_of (started s file)) ≡ cell_count h
      sound = bad_same h (cells_of (started s file)) (cells_in file) started_table.1 ∙ known.0.sound

      after : (i : ℕ) → i < cells_room - 2 * cell_count h → eqb (get_or (started s file) (session_cells_at + 2 * cell_count h + i) 0) 0 ≡ true
      after i l =
          let e = known.1 in
          rw (started_zero s file room (session_cells_at + 2 * cell_count h + i) (omega arith) (omega arith))

-- after a start every tally is 0,
pub cleared_zero : (t : List ℕ) → tallies_size ≤ length t → (f : ℕ) → f < tallies_size → get_or (cleared t) f 0 ≡ 0
unfolding cleared
cleared_zero t room f l = rw zero-add at (edit_in (λ f old. 0) 0 tallies_size t f l (omega arith))

-- and the session is well-formed
pub start_keeps : (s t file : List ℕ) (h : Head) → session_size ≤ length s → tallies_size ≤ length t → table_read file ≡ Ok h
    → Formed (started s file) (cleared t)
unfolding started cleared
start_keeps s t file h room rest read =
    formed_from (started s file) (cleared t) (rw (length_edit (λ i old. get_or file (rest_at + i) 0) 0 session_size s) room)
    (rw (length_edit (λ f old. 0) 0 tallies_size t) rest) (started_good s file h room read)
    (started_place s file room (table_short file h read))
    (λ f l. rw (cleared_zero t rest f l) (omega arith))
