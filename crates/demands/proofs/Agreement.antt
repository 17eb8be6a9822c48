-- The judge of the C harness and the session agree (document 01, "The C side"): of a table file and a record it says of each fault what the list says of a
-- session that was started with the one and loaded with the other. A load into a session just started holds the record's cases in order, so both ask
-- one machine of the same cases. Assumes nothing.
use Prim.Native.Nat.{ℕ, ◌+◌, ◌≤◌, ◌<◌}
use mathlib.Core.Path.{◌≡◌, refl, sym, ap, subst, ◌∙◌}
use mathlib.Core.Bool.{Bool, true, false, false≢true}
use mathlib.Core.Logic.{◌↔◌}
use mathlib.Core.List.{List, []}
use native.Mathlib.Omega.{arith}
use borrow.Author.Tests.{lt-leb, leb-true}
use lib.ListN.{length}
use Rattle.std.specs.Prelude.{Ok}
use Rattle.shapes.specs.Keep.{bit, has}
use Rattle.shapes.specs.Refusals.{Rule, Ruling, fine, refused, ruling, AllFalse}
use Rattle.shapes.proofs.Refusals.{fine_when, ruling_join_fine, ruling_past, ruling_end}
use Rattle.shapes.proofs.Tests.{and_true}
use Rattle.machine.specs.Head.{numbers}
use Rattle.machine.specs.Fault.{is_fault}
use Rattle.machine.specs.Case.{all_good}
use Rattle.machine.proofs.Mutants.{fault_exactly}
use Rattle.house.specs.Refusal.{ruled}
use Rattle.house.specs.Table.{head_in, cells_in, table_rules, table_read}
use Rattle.house.specs.Cases.{record_rules, record_read, cases_in, alone, cases_rules}
use Rattle.house.specs.declared.refusal.Refusal.{Refusal}
use Rattle.house.specs.declared.refusal.Refusal.TheVariants.{Number}
use Rattle.house.proofs.Tables.{table_taken}
use Rattle.house.proofs.Against.{cases_fine}
use Rattle.diagnosis.specs.Diagnosis.{list}
use Rattle.memory.specs.Layout.{places_most}
use Rattle.session.specs.Calls.{start_call}
use Rattle.session.specs.History.{Call, load, Memory, memory, answer_of, left, answered, called, Model, cases_held, started_model, is_record, takes, makes, step, Shows}
use Rattle.session.proofs.Histories.{ShowsMemory, start_shows, call_shows, answered_exactly}
use Rattle.session.proofs.Loads.{loaded_in_order}
use Rattle.reading.specs.Reads.{list_of}
use Rattle.reading.proofs.Shown.{shown_list}
use Rattle.judge.specs.Judge.{judge_rules, judgement}
use Rattle.judge.proofs.Exactly.{judge_listed}
use Rattle.reading.proofs.Listed.{list_by_replay}
use Rattle.shapes.proofs.Refusals.{through}
use Rattle.demands.specs.Demand2.{evidence_in, Suspect, suspects}
use Rattle.demands.proofs.Demand2.{Sound, suspect_exactly, session_sound}
use Rattle.demands.proofs.Demand3.{start_table}

-- a file that is read as a record is refused by no rule
is_record_law : (v : Ruling Refusal) (n : ℕ) → is_record (ruled v n) ≡ true → v ≡ fine
is_record_law fine n e = refl
is_record_law (refused r) n e = absurd (false≢true e)

-- what a load took against a table: a record, its cases such as the table can run, and few enough
record Loaded (table file : List ℕ) : Type 0 where
  record_fine : ruling (record_rules file) ≡ fine
  good : all_good (head_in table) (cases_in file) ≡ true
  few : length (cases_in file) ≤ places_most

-- a load that the model takes right after a start is such
load_taken : (table file : List ℕ) → takes (load file) (started_model table) ≡ true → Loaded table file
unfolding takes started_model record_read
load_taken table file e =
    let a = and_true (is_record (record_read file)) _ e in
    let b = and_true (all_good (head_in table) (cases_in file)) _ a.1 in
    let l = leb-true (length (cases_held (started_model table)) + length (cases_in file)) places_most b.1 in
    record { record_fine = is_record_law (ruling (record_rules file)) _ a.0; good = b.0; few = omega arith }

-- so no rule of the judge holds at a number in use
judge_fine : (table file : List ℕ) → table_read table ≡ Ok (head_in table) → Loaded table file → (f : ℕ) → f < numbers (head_in table)
    → AllFalse (judge_rules table file f)
unfolding judge_rules
judge_fine table file read k f l =
    let judging : List (Rule Refusal) = cases_rules (head_in table) alone (cases_in file) in
    (fine_when (judge_rules table file f)).0
    (ruling_join_fine (table_rules table) _ ((fine_when (table_rules table)).1 (table_taken table (head_in table) read).0)
    ∙ ruling_join_fine (record_rules file) _ k.record_fine
    ∙ ruling_join_fine judging _ ((cases_fine (head_in table) alone (cases_in file)).1 k.good)
    ∙ ruling_past Number [] (lt-leb (numbers (head_in table)) f l)
    ∙ ruling_end)

-- the model that it leaves holds the record's cases, in order,
load_holds : (table file : List ℕ) → Loaded table file → cases_held (makes (load file) (started_model table)) ≡ cases_in file
unfolding cases_held makes started_model
load_holds table file k = loaded_in_order (cases_in file) k.few

-- so a memory that shows it lists what the record's cases against the table list
load_lists : (table file s t : List ℕ) → Loaded table file → Shows s t (makes (load file) (started_model table))
    → list_of s t ≡ list (head_in table) (cells_in table) (cases_in file)
unfolding makes started_model
load_lists table file s t k shows =
    shown_list s t (makes (load file) (started_model table)) shows ∙ ap (list (head_in table) (cells_in table)) (load_holds table file k)

-- where the model takes a call, the memory after it shows what the call makes of the model
taken_shows : (c : Call) (s t : List ℕ) (m : Model) → Shows s t m → takes c m ≡ true → ShowsMemory (called c (memory s t)) (makes c m)
unfolding step
taken_shows c s t m k taken = rw taken at (call_shows c s t m k)

-- so a load that answered Ok right after a start took the record, and what the session then holds has the list of the record's cases against the table
record Answered (table file s : List ℕ) : Type 0 where
  taken : Loaded table file
  sound : Sound (evidence_in s)
  lists : suspects (evidence_in s) ≡ list (head_in table) (cells_in table) (cases_in file)

load_answered : (table file : List ℕ) (x : Memory) (n : ℕ) → ShowsMemory x (started_model table) → answered (load file) x ≡ Ok n → (s' t' : List ℕ)
    → called (load file) x ≡ memory s' t' → Answered table file s'
load_answered table file (memory s t) n k done s' t' e =
    let m : Model = started_model table in
    let taken = ((answered_exactly (load file) s t m k n).0 done).0 in
    let loaded = load_taken table file taken in
    let shows = subst (λ (x : Memory). ShowsMemory x (makes (load file) m)) e (taken_shows (load file) s t m k taken) in
    record {
      taken = loaded;
      sound = session_sound s' t' shows.formed;
      lists = sym (list_by_replay s' t' shows.true_tallies) ∙ load_lists table file s' t' loaded shows;
    }

-- a bit is 1 exactly if its test holds
bit_one : (b : Bool) → (bit b ≡ 1) ↔ (b ≡ true)
bit_one true = (λ e. refl, λ e. refl)
bit_one false = (λ e. absurd (omega arith), λ e. absurd (false≢true e))

-- the judge agrees with the session's list: after a start with a table file and a load of a record that both answered Ok, it answers 1 to a fault
-- exactly if the fault explains all that the session holds, which is exactly if it stands in what the list call leaves (`demand-2`)
pub judge_agrees : (s t table file : List ℕ) (n : ℕ) → answer_of (start_call s t table) ≡ Ok 0 → answered (load file) (left (start_call s t table)) ≡ Ok n
    → (s' t' : List ℕ) → called (load file) (left (start_call s t table)) ≡ memory s' t' → (f : ℕ) → is_fault (head_in table) (cells_in table) f ≡ true
    → (judgement table file f ≡ 1) ↔ Suspect (evidence_in s') f
judge_agrees s t table file n started done s' t' e f fault =
    let k = load_answered table file (left (start_call s t table)) n (start_shows s t table started) done s' t' e in
    let used = ((fault_exactly (head_in table) (cells_in table) f).0 fault).0 in
    let none = judge_fine table file (start_table s t table started) k.taken f used in
    let on_list : Bool = has f (list (head_in table) (cells_in table) (cases_in file)) in
    through {B = on_list ≡ true} (rw (judge_listed table file f none fault) (bit_one on_list))
    (rw (← k.lists) (suspect_exactly (evidence_in s') k.sound f))
