-- Demand 3 of the calls: "After a start and any sequence of add, amend, withdraw and load, refused calls among them, the cases held are those the
-- accepted calls leave, each tally counts the cases its changed table fails to reproduce, verdict and list are demand 2's for those cases afresh, and
-- changing one case moves no tally by more than one." The memory shows the model that the accepted calls leave (the history theorem), and
-- the calls that read answer of the model what they answer of the memory, since a machine is one however its cells are stored. Assumes nothing.
use Prim.Native.Nat.{ℕ, ◌*◌, ◌≤◌, ◌<◌}
use mathlib.Core.Path.{◌≡◌, refl, sym, ap, subst, ◌∙◌}
use mathlib.Core.Bool.{Bool, true, false, cond}
use mathlib.Core.List.{List, []}
use native.Mathlib.Nat.{zero-add}
use native.Mathlib.Omega.{arith}
use borrow.Author.Tests.{lt-ltb}
use lib.ListN.{length, get_or, take}
use lib.Seq.{length-take-le, get_or-take, ext_get_or}
use Rattle.std.specs.Prelude.{Ok}
use Rattle.shapes.specs.Edit.{filled}
use Rattle.shapes.specs.Keep.{bit}
use Rattle.shapes.proofs.Edit.{edit_in, edit_same, take_filled}
use Rattle.machine.specs.Limits.{cells_most}
use Rattle.machine.specs.Head.{cell_count}
use Rattle.machine.specs.Machine.{specified}
use Rattle.machine.specs.Fault.{cell_of}
use Rattle.machine.specs.Case.{Case, good_case}
use Rattle.machine.specs.Run.{symptoms_of}
use Rattle.machine.specs.declared.head.Head.{Head}
use Rattle.machine.proofs.Cases.{case_in, case_step}
use Rattle.machine.proofs.Same.{Alike, symptoms_alike, specified_same}
use Rattle.house.specs.Refusal.{wrote}
use Rattle.house.specs.Table.{head_in, cells_in, table_read, table_bytes, table_file}
use Rattle.house.specs.Cases.{record_file}
use Rattle.house.proofs.Tables.{table_taken}
use Rattle.product.specs.Tables.{product_head, product_cells}
use Rattle.product.specs.declared.Product.{Product}
use Rattle.product.proofs.BuiltIn.{built_in_bytes, built_in_reads, built_in_written}
use Rattle.diagnosis.specs.Diagnosis.{some_fails, verdict_of, conflict_bytes, is_candidate}
use Rattle.diagnosis.proofs.Candidates.{candidates_none}
use Rattle.diagnosis.proofs.Same.{conflicts_same, candidate_same}
use Rattle.memory.specs.Layout.{places_most, session_size, tallies_size, head_of, cells_of, case_of, is_held}
use Rattle.memory.specs.Form.{is_slot}
use Rattle.memory.proofs.Formed.{formed_place, place_good}
use Rattle.session.specs.Calls.{Outcome, after, start_call}
use Rattle.session.specs.History.{OneCase, tally_in, WithinOne, Call, Memory, memory, answer_of, left, called_all, called, free, holds, Model, cases_held, started_model, steps, accepted_all, content_of, Shows}
use Rattle.session.proofs.Histories.{ShowsMemory, start_accepted, start_shows, history, shown_cases, shown_tally, shown_table, shown_good, answered_exactly, accepted_steps, refused_step}
use Rattle.session.proofs.Outcomes.{refused_leaves}
use Rattle.session.proofs.Models.{Whole, started_whole, steps_whole}
use Rattle.session.proofs.OneCase.{one_case}
use Rattle.reading.specs.Reads.{listed, list_call, faults}
use Rattle.diagnosis.specs.declared.Verdict.{Verdict}
use Rattle.report.specs.Reports.{candidate_bytes, conflict_call, symptoms_call, candidates_call, save_call}
use Rattle.reading.proofs.Told.{list_formed}
use Rattle.report.proofs.Told.{save_formed, candidates_formed, symptoms_formed, conflict_formed}
use Rattle.reading.proofs.Shown.{shown_list, shown_verdict, shown_audit}
use Rattle.demands.specs.Demand2.{SomeFails, Suspect, suspects, ListAnswers}
use Rattle.demands.specs.Demand3.{evidence_left, machine_left, AfterCalls, session_left, RightTable}
use Rattle.demands.proofs.Demand2.{Sound, passes_exactly, evidence_lists, suspect_candidate}

-- the verdict on a model's cases
abbrev pub verdict_left : Model → Verdict
verdict_left m = verdict_of (some_fails m.head m.cells (cases_held m)) (suspects (evidence_left m))

-- a place that holds a case in the model is held in the memory, and holds that case
place_held : (b : Bool) (c d : Case) → cond b (holds c) free ≡ holds d → (b ≡ true) × (c ≡ d)
place_held true c d e = (refl, cc)
place_held false c d e = (cc, cc)

module _ (s t : List ℕ) (m : Model) (k : Shows s t m) (w : Whole m) where
  -- the model's table is sound and its cases can be run
  left_sound : Sound (evidence_left m)
  left_sound = record { table = w.table; good = shown_good s t m k }

  -- the session's cells, as far as the table goes, are the model's
  left_cells : take (2 * cell_count m.head) (cells_of s) ≡ m.cells
  left_cells = ext_get_or 0 (take n (cells_of s)) m.cells (long ∙ sym w.exact) (λ i h. each i (rw long at h))
    where
      n : ℕ
      n = 2 * cell_count m.head

      long : length (take n (cells_of s)) ≡ n
      long = length-take-le n (cells_of s) (shown_table s t m k).room

      each : (i : ℕ) → i < n → get_or (take n (cells_of s)) i 0 ≡ get_or m.cells i 0
      each i l = get_or-take n (cells_of s) i 0 l ∙ k.same_cells i l

  -- the list call answers the verdict on the cases held and leaves their list,
  pub left_listed : (out : List ℕ) → length (suspects (evidence_left m)) ≤ length out
      → list_call s t out ≡ listed (faults (verdict_left m) (length (suspects (evidence_left m)))) (filled out 0 (suspects (evidence_left m)))
  left_listed out room =
      let same = shown_list s t m k in list_formed s t k.formed out (rw same room) ∙ rw (shown_verdict s t m k, same)

  -- and this is demand 2's
  left_lists : (out : List ℕ) → length (suspects (evidence_left m)) ≤ length out → ListAnswers (evidence_left m) out (list_call s t out)
  left_lists out room =
      record {
        verdict = verdict_left m;
        count = length (suspects (evidence_left m));
        left = filled out 0 (suspects (evidence_left m));
        answered = left_listed out room;
        lists = evidence_lists (evidence_left m) left_sound out room;
      }

  -- and what a save writes is the record of the cases held
  left_saves : (out : List ℕ) → length (record_file (cases_held m)) ≤ length out
      → save_call s t out ≡ wrote (Ok (length (record_file (cases_held m)))) (filled out 0 (record_file (cases_held m)))
  left_saves out room =
      let same = shown_cases s t m k in save_formed s t k.formed out (rw same room) ∙ rw same

  -- the session's machine is the model's, at every cell of the table
  pub left_alike : Alike m.head (specified m.head (cells_of s)) (machine_left m)
  left_alike = specified_same m.head (cells_of s) m.cells (shown_table s t m k) k.same_cells

  module _ (p : ℕ) (l : p < places_most) (c : Case) (here : m.at p ≡ holds c) where
    -- a place that holds a case in the model holds it in the memory,
    left_held : (is_held s p ≡ true) × (case_of s p ≡ c)
    unfolding content_of
    left_held = place_held (is_held s p) (case_of s p) c (k.same_places p l ∙ here)

    left_slot : is_slot s p ≡ true
    unfolding is_slot
    left_slot = rw (lt-ltb p places_most l, left_held.0)

    -- and can be run
    left_good : good_case m.head c.inputs c.outputs ≡ true
    left_good =
        rw (← k.same_head, ← left_held.1) (place_good s p (formed_place s t k.formed p l) left_held.0)

    -- its symptoms are those of the model's machine,
    left_symptoms : symptoms_call s t p ≡ Ok (symptoms_of (machine_left m) c.inputs c.outputs)
    left_symptoms =
        symptoms_formed s t k.formed p left_slot
        ∙ ap Ok
        (rw (left_held.1, k.same_head)
        (symptoms_alike m.head _ _ w.table.head left_alike c.inputs c.outputs
        (case_step m.head c.inputs c.outputs (case_in m.head c.inputs c.outputs left_good))))

    -- and so is its conflict set
    pub left_conflicts : (out : List ℕ) → cells_most ≤ length out → conflict_call s t p out ≡ wrote (Ok 0) (conflict_bytes (machine_left m) c out)
    unfolding conflict_bytes
    left_conflicts out room =
        conflict_formed s t k.formed p left_slot out room
        ∙ ap (wrote (Ok 0))
        (rw (left_held.1, k.same_head)
        (edit_same _ 0 _ cells_most out
        (λ cell old h. ap bit (conflicts_same m.head (cells_of s) m.cells (shown_table s t m k) k.same_cells c left_good cell))))

  -- the candidates are those of the model's machine and cases,
  left_candidates : (out : List ℕ) → cells_most ≤ length out
      → candidates_call s t out ≡ wrote (Ok 0) (candidate_bytes (machine_left m) (cases_held m) out)
  unfolding candidate_bytes
  left_candidates out room =
      candidates_formed s t k.formed out room
      ∙ ap (wrote (Ok 0))
      (rw (shown_cases s t m k, k.same_head)
      (edit_same _ 0 _ cells_most out
      (λ cell old h. ap bit (candidate_same m.head (cells_of s) m.cells (shown_table s t m k) k.same_cells (cases_held m) (shown_good s t m k) cell))))

  -- a byte of them is 1 where the cell is one, else 0
  left_bit : (out : List ℕ) → cells_most ≤ length out → (cell : ℕ) → cell < cells_most
      → get_or (candidate_bytes (machine_left m) (cases_held m) out) cell 0 ≡ bit (is_candidate (machine_left m) (cases_held m) cell)
  unfolding candidate_bytes
  left_bit out room cell l =
      rw zero-add at (edit_in (λ c old. bit (is_candidate (machine_left m) (cases_held m) c)) 0 cells_most out cell l (omega arith))

  -- so the byte at a listed fault's cell is 1 where some case fails,
  left_byte : (out : List ℕ) → cells_most ≤ length out → SomeFails (evidence_left m) → (f : ℕ) → Suspect (evidence_left m) f
      → get_or (candidate_bytes (machine_left m) (cases_held m) out) (cell_of m.head f) 0 ≡ 1
  left_byte out room bad f suspect =
      let one = suspect_candidate (evidence_left m) left_sound bad f suspect in left_bit out room (cell_of m.head f) one.1 ∙ ap bit one.0

  -- and every byte is 0 where none does
  left_empty : (out : List ℕ) → cells_most ≤ length out → (SomeFails (evidence_left m) → ⊥) → (cell : ℕ) → cell < cells_most
      → get_or (candidate_bytes (machine_left m) (cases_held m) out) cell 0 ≡ 0
  left_empty out room none cell l =
      left_bit out room cell l
      ∙ ap bit (candidates_none m.head m.cells (cases_held m) cell ((passes_exactly (evidence_left m) left_sound).1 none))

  -- so where a memory shows a model with a whole table all of it is so
  shown_after : AfterCalls m s t
  shown_after =
      record {
        same_head = k.same_head;
        same_cells = left_cells;
        cases_held_law = shown_cases s t m k;
        tallies_count = shown_tally s t m k;
        audit_true = shown_audit s t m k;
        list_afresh = left_lists;
        save_afresh = left_saves;
        symptoms_afresh = left_symptoms;
        conflicts_afresh = left_conflicts;
        candidates_afresh = left_candidates;
        candidate_byte = left_byte;
        candidates_empty = left_empty;
        next_done = λ c n. answered_exactly c s t m k n;
        next_refused = λ c r e. (refused_step c s t m k r e, refused_leaves c (memory s t) r e);
      }

-- a start that answered Ok 0 had a table file
pub start_table : (s t file : List ℕ) → answer_of (start_call s t file) ≡ Ok 0 → table_read file ≡ Ok (head_in file)
start_table s t file done = table_of ((start_accepted s t file).0 done)
  where
    table_of : ((session_size ≤ length s) × ((tallies_size ≤ length t) × (table_read file ≡ Ok (head_in file)))) → table_read file ≡ Ok (head_in file)
    table_of (room, (tallies_room, read)) = read

-- **Demand 3**: after a start that answered Ok 0 and any calls whatever, all is as the calls that answered Ok leave it
pub demand_3 : (s t file : List ℕ) → answer_of (start_call s t file) ≡ Ok 0 → (calls : List Call) (s' t' : List ℕ)
    → called_all calls (left (start_call s t file)) ≡ memory s' t' → AfterCalls (accepted_all calls (left (start_call s t file)) (started_model file)) s' t'
demand_3 s t file done calls s' t' e =
    let x : Memory = left (start_call s t file) in
    subst (λ (m : Model). AfterCalls m s' t') (sym (accepted_steps calls x (started_model file) (start_shows s t file done)))
    (shown_after s' t' (steps calls (started_model file))
    (subst (λ (y : Memory). ShowsMemory y (steps calls (started_model file))) e (history s t file done calls))
    (steps_whole calls (started_model file) (started_whole file (start_table s t file done))))

-- "changing one case moves no tally by more than one", from any memory whatever
pub demand_3_one_case : (c : Call) → OneCase c → (x : Memory) (f : ℕ) → WithinOne (tally_in x f) (tally_in (called c x) f)
demand_3_one_case c one x f = one_case c one x f

-- what an outcome leaves is its session and its tallies
outcome_left : (o : Outcome) → (t' : List ℕ) × (left o ≡ memory (session_left o) t')
outcome_left (after a s t) = (t, refl)

-- right after a start that answered Ok 0 the session shows its table's head and cells
start_shown : (s t file : List ℕ) (h : Head) → answer_of (start_call s t file) ≡ Ok 0 → table_read file ≡ Ok h
    → (head_of (session_left (start_call s t file)) ≡ h) × (take (2 * cell_count h) (cells_of (session_left (start_call s t file))) ≡ cells_in file)
unfolding started_model accepted_all called_all
start_shown s t file h done read =
    let o = outcome_left (start_call s t file) in
    let k = demand_3 s t file done [] (session_left (start_call s t file)) o.0 o.1 in
    rw (table_taken file h read).1 (k.same_head, k.same_cells)

-- **The right table**: a product's table written, and a session started with what was written, shows exactly that product's head and cells; for both.
-- What any start shows is its file's table (`same_head`, `same-cells` of demand 3), so there is no default
pub right_table : (p : Product) (out s t : List ℕ) → table_bytes (product_head p) ≤ length out → session_size ≤ length s → tallies_size ≤ length t
    → RightTable p out s t
right_table p out s t room session_room tallies_room =
    record {
      bytes = table_bytes (product_head p);
      left = filled out 0 file;
      table_written = built_in_written p out room;
      all_of_it = refl;
      start_done = rw again done;
      shows_head = rw again shown.0;
      shows_cells = rw again (shown.1 ∙ (built_in_reads p).1);
    }
  where
    file : List ℕ
    file = table_file (product_head p) (product_cells p)

    again : take (table_bytes (product_head p)) (filled out 0 file) ≡ file
    again = rw (← built_in_bytes p) (take_filled out file (rw (built_in_bytes p) room))

    read : table_read file ≡ Ok (product_head p)
    read = (built_in_reads p).0

    done : answer_of (start_call s t file) ≡ Ok 0
    done = (start_accepted s t file).1 (session_room, (tallies_room, read ∙ ap Ok (table_taken file (product_head p) read).1))

    shown : (head_of (session_left (start_call s t file)) ≡ product_head p)
        × (take (2 * cell_count (product_head p)) (cells_of (session_left (start_call s t file))) ≡ cells_in file)
    shown = start_shown s t file (product_head p) done read
