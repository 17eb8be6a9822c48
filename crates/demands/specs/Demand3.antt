-- Demand 3: "After a start and any sequence of add, amend, withdraw and load, refused calls among them, the cases held are those the accepted
-- calls leave, each tally counts the cases its changed table fails to reproduce, verdict and list are demand 2's for those cases afresh, and
-- changing one case moves no tally by more than one."
-- What these words mean of a memory and of a model that never looks at memory: a table file's head and cells, and 64 places, each free or holding a case;
-- `accepted_all` takes into it each call that answered Ok, and no other. `filled out 0 l` is l written at the start of out, and the first
-- `2 * cell_count` bytes of a session's cells are those in use. And "the right table". `proofs/Demand3.antt` has the theorems.
use Rattle.std.specs.Prelude.{ℕ, ◌*◌, ◌≤◌, ◌<◌, ◌≡◌, true, ◌↔◌, List, length, get_or, take, None, Ok, Err}
use Rattle.shapes.specs.Edit.{filled}
use Rattle.machine.specs.Limits.{cells_most}
use Rattle.machine.specs.Head.{cell_count, numbers}
use Rattle.machine.specs.Machine.{Machine, specified}
use Rattle.machine.specs.Fault.{cell_of}
use Rattle.machine.specs.Case.{Case}
use Rattle.machine.specs.Run.{symptoms_of}
use Rattle.house.specs.Refusal.{wrote}
use Rattle.house.specs.Table.{table_bytes}
use Rattle.house.specs.Cases.{record_file}
use Rattle.house.specs.declared.refusal.Refusal.{Refusal}
use Rattle.product.specs.Tables.{product_head, product_cells, written}
use Rattle.product.specs.declared.Product.{Product}
use Rattle.diagnosis.specs.Diagnosis.{tally, conflict_bytes}
use Rattle.memory.specs.Layout.{places_most, head_of, cells_of, cases}
use Rattle.session.specs.Calls.{Outcome, after, start_call}
use Rattle.session.specs.History.{Call, memory, answer_of, answered, called, holds, Model, cases_held, takes, tells, step}
use Rattle.reading.specs.Reads.{list_call, audit_call}
use Rattle.report.specs.Reports.{save_call, symptoms_call, conflict_call, candidate_bytes, candidates_call}
use Rattle.demands.specs.Demand2.{Evidence, SomeFails, Suspect, suspects, ListAnswers}

-- a model's table and the cases that it holds, and the table's machine
abbrev pub evidence_left : Model → Evidence
evidence_left m = record { head = m.head; cells = m.cells; held = cases_held m }

abbrev pub machine_left : Model → Machine
machine_left m = specified m.head m.cells

-- what is so of a memory after calls of which the accepted ones leave the model
pub record AfterCalls (m : Model) (s t : List ℕ) : Type 0 where
  -- the table is that of the last start that answered Ok, byte for byte
  pub same_head : head_of s ≡ m.head
  pub same_cells : take (2 * cell_count m.head) (cells_of s) ≡ m.cells
  -- "the cases held are those the accepted calls leave"
  pub cases_held_law : cases s ≡ cases_held m
  -- "each tally counts the cases its changed table fails to reproduce"; so an audit says
  pub tallies_count : (f : ℕ) → f < numbers m.head → get_or t f 0 ≡ tally m.head m.cells (cases_held m) f
  pub audit_true : audit_call s t ≡ Ok None
  -- "verdict and list are demand 2's for those cases afresh"
  pub list_afresh : (out : List ℕ) → length (suspects (evidence_left m)) ≤ length out → ListAnswers (evidence_left m) out (list_call s t out)
  -- "Save writes the held cases by rising place"
  pub save_afresh : (out : List ℕ) → length (record_file (cases_held m)) ≤ length out
      → save_call s t out ≡ wrote (Ok (length (record_file (cases_held m)))) (filled out 0 (record_file (cases_held m)))
  -- the symptoms and the conflict set of a place are those of its case
  pub symptoms_afresh : (p : ℕ) → p < places_most → (c : Case) → m.at p ≡ holds c
      → symptoms_call s t p ≡ Ok (symptoms_of (machine_left m) c.inputs c.outputs)
  pub conflicts_afresh : (p : ℕ) → p < places_most → (c : Case) → m.at p ≡ holds c → (out : List ℕ) → cells_most ≤ length out
      → conflict_call s t p out ≡ wrote (Ok 0) (conflict_bytes (machine_left m) c out)
  -- and the candidates those of the cases held: the byte at a listed fault's cell is 1 where some case fails
  pub candidates_afresh : (out : List ℕ) → cells_most ≤ length out
      → candidates_call s t out ≡ wrote (Ok 0) (candidate_bytes (machine_left m) (cases_held m) out)
  pub candidate_byte : (out : List ℕ) → cells_most ≤ length out → SomeFails (evidence_left m) → (f : ℕ) → Suspect (evidence_left m) f
      → get_or (candidate_bytes (machine_left m) (cases_held m) out) (cell_of m.head f) 0 ≡ 1
  -- "empty if no case fails"
  pub candidates_empty : (out : List ℕ) → cells_most ≤ length out → (SomeFails (evidence_left m) → ⊥) → (cell : ℕ) → cell < cells_most
      → get_or (candidate_bytes (machine_left m) (cases_held m) out) cell 0 ≡ 0
  -- whatever call comes next answers Ok exactly where the model takes it, with the place that the model fills or the count; where it
  -- answers Err the model stays, and so does the memory
  pub next_done : (c : Call) (n : ℕ) → (answered c (memory s t) ≡ Ok n) ↔ ((takes c m ≡ true) × (n ≡ tells c m))
  pub next_refused : (c : Call) (r : Refusal) → answered c (memory s t) ≡ Err r → (step c m ≡ m) × (called c (memory s t) ≡ memory s t)

-- the session that an outcome leaves
abbrev pub session_left : Outcome → List ℕ
session_left (after a s t) = s

-- "that the right table was used": a product's table written to a buffer, and a session started with what was written
pub record RightTable (p : Product) (out s t : List ℕ) : Type 0 where
  pub bytes : ℕ
  pub left : List ℕ
  pub table_written : written p out ≡ wrote (Ok bytes) left
  pub all_of_it : bytes ≡ table_bytes (product_head p)
  pub start_done : answer_of (start_call s t (take bytes left)) ≡ Ok 0
  pub shows_head : head_of (session_left (start_call s t (take bytes left))) ≡ product_head p
  pub shows_cells : take (2 * cell_count (product_head p)) (cells_of (session_left (start_call s t (take bytes left)))) ≡ product_cells p
