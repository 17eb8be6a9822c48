-- P1 to P10 of document 01 of every session: the memory after a start and calls shows the model that the calls leave (the history theorem), the
-- calls that read answer what is so of the model, and that is computed. Only here is a run opened above the machine.
-- Assumes nothing.
use Prim.Native.Nat.{ℕ}
use mathlib.Core.Path.{◌≡◌, refl, ap, subst, ◌∙◌}
use mathlib.Core.Bool.{Bool, true, ◌&&◌}
use mathlib.Core.List.{List, [], ◌∷◌}
use lib.Dec.{eqb, ltb}
use lib.ListN.{length, get_or}
use borrow.Author.Tests.{eqb-true, ltb-true}
use Rattle.std.specs.Prelude.{Ok}
use Rattle.shapes.specs.First.{first, all_to}
use Rattle.shapes.specs.Keep.{keep_to, has, bit, count, every, some}
use Rattle.shapes.specs.Refusals.{refused_if, ruling}
use Rattle.shapes.proofs.Edit.{edit_same}
use Rattle.shapes.proofs.First.{all_at}
use Rattle.shapes.proofs.Tests.{and_true}
use Rattle.machine.specs.Limits.{cells_most}
use Rattle.machine.specs.Head.{good_head, numbers}
use Rattle.machine.specs.Cell.{undefined, bad_cell, first_bad}
use Rattle.machine.specs.Machine.{completed, specified}
use Rattle.machine.specs.Fault.{fault_of, change_of, under, changed, alters, is_fault}
use Rattle.machine.specs.Case.{Case, bad_step, first_bad_step, good_case}
use Rattle.machine.specs.Run.{run, path, agrees, first_differing, matching, expected, executed, symptoms_of, reproduces}
use Rattle.machine.proofs.Same.{expected_alike}
use Rattle.house.specs.Refusal.{wrote}
use Rattle.house.specs.File.{file_rules, file_head}
use Rattle.house.specs.Table.{head_in, bad_size, bad_cells, table_rules, table_read, table_head_bytes, table_file}
use Rattle.diagnosis.specs.Diagnosis.{explains, fails, misses, tally, explains_all, is_listed, list, some_fails, conflicts, conflict_bytes}
use Rattle.memory.specs.Layout.{places_most}
use Rattle.session.specs.Calls.{start_call}
use Rattle.session.specs.History.{Call, Memory, holds, Model, cases_to, cases_held, lowest, started_model, takes, makes, step, steps, Shows, left, called, tells, memory}
use Rattle.session.proofs.Histories.{ShowsMemory, start_accepted, history, shown_tally, start_shows, call_shows, answered_exactly}
use Rattle.session.proofs.Models.{Whole, started_whole, steps_whole}
use Rattle.demands.specs.Demand3.{evidence_left, machine_left}
use Rattle.demands.specs.Examples.{InSession, listing, Example, Holds, gives, diagnoses, counts_listed, has_conflict, has_tally, all_tallies, All, examples, AllDone}
use Rattle.demands.proofs.Demand3.{verdict_left, left_listed, left_alike, left_conflicts}
use Rattle.demands.specs.Demand2.{suspects}

-- a model's tallies, and its list
abbrev tally_left : Model → ℕ → ℕ
tally_left m f = tally m.head m.cells (cases_held m) f

abbrev list_left : Model → List ℕ
list_left m = suspects (evidence_left m)

-- what calls leave of the model that a file starts
abbrev model_left : List ℕ → List Call → Model
model_left file calls = steps calls (started_model file)

-- whether the model takes each of some calls
abbrev all_taken : List Call → Model → Bool
all_taken [] m = true
all_taken (c ∷ cs) m = takes c m && all_taken cs (step c m)

-- then each of them answers Ok on a memory that shows it
all_done : (calls : List Call) (x : Memory) (m : Model) → ShowsMemory x m → all_taken calls m ≡ true → AllDone calls x
all_done [] x m k e = tt
all_done (c ∷ cs) (memory s t) m k e =
    let a = and_true (takes c m) _ e in (
      (tells c m, (answered_exactly c s t m k (tells c m)).1 (a.0, refl)),
      all_done cs (called c (memory s t)) (step c m) (call_shows c s t m k) a.1,
    )

-- what is so of every memory that shows the model which the calls leave is so of every session that the file starts
in_session : (file : List ℕ) (calls : List Call) → table_read file ≡ Ok (head_in file) → all_taken calls (started_model file) ≡ true
    → (So : List ℕ → List ℕ → Type 0) → ((s t : List ℕ) → Shows s t (model_left file calls) → Whole (model_left file calls) → So s t)
    → InSession file calls So
in_session file calls read taken So shown s t room rest =
    let done = (start_accepted s t file).1 (room, (rest, read)) in (
      done,
      all_done calls (left (start_call s t file)) (started_model file) (start_shows s t file done) taken,
      λ s' t' e.
          shown s' t' (subst (λ (x : Memory). ShowsMemory x (model_left file calls)) e (history s t file done calls))
          (steps_whole calls (started_model file) (started_whole file read)),
    )

-- what is computed for a row: its file is a table's, the model takes its calls, and then has what the row says
abbrev Computed : Example → Type 0
Computed (gives file is ys) =
    (table_read file ≡ Ok (head_in file))
    × (all_to (λ i. ltb (get_or is i 0) (head_in file).inputs) (length is) ≡ true)
    × (expected (machine_left (started_model file)) is ≡ ys)
Computed (diagnoses file calls v l) =
    (table_read file ≡ Ok (head_in file))
    × (all_taken calls (started_model file) ≡ true)
    × (verdict_left (model_left file calls) ≡ v) × (list_left (model_left file calls) ≡ l)
Computed (counts_listed file calls v n) =
    (table_read file ≡ Ok (head_in file))
    × (all_taken calls (started_model file) ≡ true)
    × (verdict_left (model_left file calls) ≡ v) × (length (list_left (model_left file calls)) ≡ n)
Computed (has_conflict file calls p cells) =
    (table_read file ≡ Ok (head_in file))
    × (all_taken calls (started_model file) ≡ true)
    × (ltb p places_most ≡ true)
    × ((c : Case)
    × ((model_left file calls).at p ≡ holds c)
    × (all_to (λ cell. eqb (bit (conflicts (machine_left (model_left file calls)) c cell)) (bit (has cell cells))) cells_most ≡ true))
Computed (has_tally file calls f n) =
    (table_read file ≡ Ok (head_in file))
    × (all_taken calls (started_model file) ≡ true)
    × (ltb f (numbers (model_left file calls).head) ≡ true) × (tally_left (model_left file calls) f ≡ n)
Computed (all_tallies file calls n k) =
    (table_read file ≡ Ok (head_in file))
    × (all_taken calls (started_model file) ≡ true)
    × (numbers (model_left file calls).head ≡ n)
    × (all_to (λ f. eqb (tally_left (model_left file calls) f) k) n ≡ true)

-- so the row is true
row_holds : (e : Example) → Computed e → Holds e
unfolding conflict_bytes steps started_model
row_holds (gives file is ys) (read, good, gave) =
    in_session file [] read refl _
    (λ s t k w.
    rw k.same_head
    (expected_alike _ _ _ w.table.head (left_alike s t _ k w) is (λ i l. ltb-true _ _ (all_at _ (length is) good i l)) ∙ gave))
row_holds (diagnoses file calls v l) (read, taken, is_verdict, is_list) =
    in_session file calls read taken _ (λ s t k w out room. left_listed s t _ k w out (rw is_list room) ∙ rw (is_verdict, is_list))
row_holds (counts_listed file calls v n) (read, taken, is_verdict, is_count) =
    in_session file calls read taken _
    (λ s t k w out room. ap listing (left_listed s t _ k w out (rw is_count room)) ∙ rw (is_verdict, is_count))
row_holds (has_conflict file calls p cells) (read, taken, place, (c, here, same)) =
    in_session file calls read taken _
    (λ s t k w out room.
    left_conflicts s t _ k w p (ltb-true p places_most place) c here out room
    ∙ ap (wrote (Ok 0)) (edit_same _ 0 _ cells_most out (λ cell old l. eqb-true _ _ (all_at _ cells_most same cell l))))
row_holds (has_tally file calls f n) (read, taken, used, is_tally) =
    in_session file calls read taken _ (λ s t k w. shown_tally s t _ k f (ltb-true _ _ used) ∙ is_tally)
row_holds (all_tallies file calls n x) (read, taken, is_count, same) =
    in_session file calls read taken _
    (λ s t k w. (ap numbers k.same_head ∙ is_count, λ f l. shown_tally s t _ k f (rw is_count l) ∙ eqb-true _ _ (all_at _ n same f l)))

-- and so are rows that are each computed
abbrev AllComputed : List Example → Type 0
AllComputed [] = Unit {0}
AllComputed (e ∷ es) = Computed e × AllComputed es

rows_hold : (es : List Example) → AllComputed es → All es
rows_hold [] k = tt
rows_hold (e ∷ es) k = (row_holds e k.0, rows_hold es k.1)

-- a row, and the rows after it
infixr 5 ◌and◌
abbrev ◌and◌ : {A B : Type 0} → A → B → A × B
a and b = (a, b)

-- every row is computed
examples_computed : AllComputed examples
unfolding first all_to keep_to has count every some refused_if ruling good_head undefined bad_cell first_bad completed specified fault_of change_of under
    changed alters is_fault bad_step first_bad_step good_case run path agrees first_differing matching expected executed symptoms_of reproduces
    file_rules file_head bad_size bad_cells table_rules table_read table_head_bytes table_file explains fails misses tally explains_all is_listed list
    some_fails conflicts cases_to cases_held lowest started_model takes makes step steps examples
examples_computed =
    -- P1
    (refl, refl, refl)
    -- P2
    and (refl, refl, refl)
    and (refl, refl, refl)
    -- P3
    and (refl, refl, refl, refl)
    -- P4
    and (refl, refl, refl, refl)
    -- P5
    and (refl, refl, refl, (_, refl, refl))
    and (refl, refl, refl, refl)
    -- P6
    and (refl, refl, refl, refl)
    and (refl, refl, refl, refl)
    -- P7
    and (refl, refl, refl, refl)
    -- P8
    and (refl, refl, refl, refl)
    and (refl, refl, refl, refl)
    -- P9
    and (refl, refl, refl, refl)
    and (refl, refl, refl, refl)
    -- P10
    and (refl, refl, refl, refl)
    -- beside the paper's
    and (refl, refl, refl)
    and (refl, refl, refl, (_, refl, refl))
    and tt

-- so every row is true
pub examples_hold : All examples
examples_hold = rows_hold examples examples_computed
