-- Demand 1: "Every call takes any bytes, numbers and lent buffers, ends, and checks for itself. A refusal gives its number exactly when the
-- paper's table says, and changes no lent memory."
-- First what these words mean of one call: by its rules, its outcome, and what was lent to it. Rules are tried in order, and the first whose
-- test is true refuses (`shapes/specs/Refusals.antt`: `RefusedBy` that rule's refusal; `AllFalse` where none does). Then what is said of each
-- call that refuses: of `call`, which is the definition that its contract is equal to. That a call ends, and takes any arguments, is what the
-- check proves of every function that has no `requires`. `proofs/Demand1.antt` has the table.
use Rattle.std.specs.Prelude.{ℕ, ◌+◌, ◌≤◌, ◌≡◌, ◌↔◌, List, [], ◌∷◌, ◌++◌, length, Option, Result, Ok, Err}
use Rattle.shapes.specs.Edit.{KeptFrom}
use Rattle.shapes.specs.Keep.{bit}
use Rattle.shapes.specs.Refusals.{Rule, Ruling, fine, refused, AllFalse, RefusedBy}
use Rattle.machine.specs.Limits.{cells_most}
use Rattle.machine.specs.Case.{Case}
use Rattle.machine.specs.declared.head.Head.{Head}
use Rattle.house.specs.Refusal.{number_of, Written, wrote}
use Rattle.house.specs.File.{file_rules}
use Rattle.house.specs.Table.{head_in, cells_in, table_rules, table_bytes}
use Rattle.house.specs.Cases.{case_rules, record_file, record_rules, cases_in}
use Rattle.machine.specs.declared.replay.Symptoms as counted
use Rattle.house.specs.declared.refusal.Refusal.{Refusal}
use Rattle.house.specs.declared.cases.About.{About}
use Rattle.retest.specs.Retest.{retest_rules}
use Rattle.product.specs.Tables.{product_head, write_rules}
use Rattle.product.specs.declared.Product.{Product}
use Rattle.diagnosis.specs.Diagnosis.{explains_all}
use Rattle.memory.specs.Layout.{session_size, tallies_size, cases}
use Rattle.memory.specs.Form.{room_rules, form_rules, slot_rules}
use Rattle.session.specs.Calls.{Outcome, after, Offer, start_rules, add_rules, amend_rules, withdraw_rules, load_rules}
use Rattle.reading.specs.Reads.{Listed, listed, list_of, list_rules}
use Rattle.report.specs.Reports.{save_rules, bytes_rules}
use Rattle.judge.specs.Judge.{judge_rules, refused_from}

-- how an outcome is read: with what it refuses, fine where it does not; and what it leaves in the buffers that were lent to be written
pub record HowRead (O : Type 0) : Type 0 where
  pub says : O → Ruling Refusal
  pub leaves : O → List (List ℕ)

-- a buffer that was lent to be written: what was in it, and how much of it the call needs
pub record Lent : Type 0 where
  pub old : List ℕ
  pub needed : ℕ

-- what was in buffers before
abbrev pub before : List Lent → List (List ℕ)
before [] = []
before (l ∷ ls) = l.old ∷ before ls

-- what is left in them has its tails: in each, all after what the call needs is as it was
abbrev pub TailsLeft : List Lent → List (List ℕ) → Type 0
TailsLeft [] [] = Unit {0}
TailsLeft [] (n ∷ ns) = ⊥
TailsLeft (l ∷ ls) [] = ⊥
TailsLeft (l ∷ ls) (n ∷ ns) = KeptFrom l.needed l.old n × TailsLeft ls ns

-- what demand 1 asks of a call with rules, to which buffers were lent, and of its outcome
pub record Obeys {O : Type 0} (how : HowRead O) (rules : List (Rule Refusal)) (lent : List Lent) (outcome : O) : Type 0 where
  -- "A refusal gives its number exactly when the paper's table says": refused with r exactly if the first rule whose test is true is one of r
  pub refused_exactly : (r : Refusal) → (how.says outcome ≡ refused r) ↔ RefusedBy rules r
  -- and it answers exactly if every rule's test is false
  pub answered_exactly : (how.says outcome ≡ fine) ↔ AllFalse rules
  -- "and changes no lent memory": whatever it leaves where it refuses is what was lent
  pub nothing_changed : (r : Refusal) → how.says outcome ≡ refused r → how.leaves outcome ≡ before lent
  -- "Longer buffers .. are allowed and their tails stay untouched"
  pub tails_untouched : TailsLeft lent (how.leaves outcome)

-- the same of a call that answers a number alone: up to `from` where it does not refuse, else `from` plus the refusal's number
pub record ObeysBy (from : ℕ) (rules : List (Rule Refusal)) (answer : ℕ) : Type 0 where
  pub refused_exactly : (q : ℕ) → 1 ≤ q → (answer ≡ from + q) ↔ ((r : Refusal) × (RefusedBy rules r × (number_of r ≡ q)))
  pub answered_exactly : (answer ≤ from) ↔ AllFalse rules

-- with what an answer refuses
abbrev pub says_answer : {A : Type 0} → Result A Refusal → Ruling Refusal
says_answer (Ok a) = fine
says_answer (Err r) = refused r

-- of an answer with buffers, and what it leaves in them
abbrev pub says_outcome : Outcome → Ruling Refusal
says_outcome (after a s t) = says_answer a

abbrev pub leaves_outcome : Outcome → List (List ℕ)
leaves_outcome (after a s t) = s ∷ t ∷ []

abbrev pub says_written : Written → Ruling Refusal
says_written (wrote a l) = says_answer a

abbrev pub leaves_written : Written → List (List ℕ)
leaves_written (wrote a l) = l ∷ []

abbrev pub says_listed : Listed → Ruling Refusal
says_listed (listed a l) = says_answer a

abbrev pub leaves_listed : Listed → List (List ℕ)
leaves_listed (listed a l) = l ∷ []

-- how the outcome is read of a call that writes nothing,
abbrev pub reads_only : {O : Type 0} → (O → Ruling Refusal) → HowRead O
reads_only says = record { says = says; leaves = λ o. [] }

-- of one that changes session and tallies, and of one that writes bytes, or numbers
abbrev pub changes_memory : HowRead Outcome
changes_memory = record { says = says_outcome; leaves = leaves_outcome }

abbrev pub writes_bytes : HowRead Written
writes_bytes = record { says = says_written; leaves = leaves_written }

abbrev pub writes_numbers : HowRead Listed
writes_numbers = record { says = says_listed; leaves = leaves_listed }

-- a session and its tallies, lent; a buffer of which a call needs so much
abbrev pub memory_lent : List ℕ → List ℕ → List Lent
memory_lent s t = record { old = s; needed = session_size } ∷ record { old = t; needed = tallies_size } ∷ []

abbrev pub buffer_lent : List ℕ → ℕ → List Lent
buffer_lent out n = record { old = out; needed = n } ∷ []

-- the calls that change a session
abbrev pub Start : (List ℕ → List ℕ → List ℕ → Outcome) → Type 0
Start call = (s t file : List ℕ) → Obeys changes_memory (start_rules s t file) (memory_lent s t) (call s t file)

abbrev pub Add : (List ℕ → List ℕ → Offer → Outcome) → Type 0
Add call = (s t : List ℕ) (o : Offer) → Obeys changes_memory (add_rules s t o) (memory_lent s t) (call s t o)

abbrev pub Amend : (List ℕ → List ℕ → ℕ → Offer → Outcome) → Type 0
Amend call = (s t : List ℕ) (p : ℕ) (o : Offer) → Obeys changes_memory (amend_rules s t p o) (memory_lent s t) (call s t p o)

abbrev pub Withdraw : (List ℕ → List ℕ → ℕ → Outcome) → Type 0
Withdraw call = (s t : List ℕ) (p : ℕ) → Obeys changes_memory (withdraw_rules s t p) (memory_lent s t) (call s t p)

abbrev pub Load : (List ℕ → List ℕ → List ℕ → Outcome) → Type 0
Load call = (s t file : List ℕ) → Obeys changes_memory (load_rules s t file) (memory_lent s t) (call s t file)

-- the calls that read one
abbrev pub ListFaults : (List ℕ → List ℕ → List ℕ → Listed) → Type 0
ListFaults call = (s t out : List ℕ) → Obeys writes_numbers (list_rules s t out) (buffer_lent out (length (list_of s t))) (call s t out)

abbrev pub Save : (List ℕ → List ℕ → List ℕ → Written) → Type 0
Save call = (s t out : List ℕ) → Obeys writes_bytes (save_rules s t out) (buffer_lent out (length (record_file (cases s)))) (call s t out)

abbrev pub Audit : (List ℕ → List ℕ → Result (Option ℕ) Refusal) → Type 0
Audit call = (s t : List ℕ) → Obeys (reads_only says_answer) (form_rules s t) [] (call s t)

abbrev pub Symptoms : (List ℕ → List ℕ → ℕ → Result counted.Symptoms Refusal) → Type 0
Symptoms call = (s t : List ℕ) (p : ℕ) → Obeys (reads_only says_answer) (slot_rules s t p) [] (call s t p)

abbrev pub ConflictSet : (List ℕ → List ℕ → ℕ → List ℕ → Written) → Type 0
ConflictSet call =
    (s t : List ℕ) (p : ℕ) (out : List ℕ) → Obeys writes_bytes (slot_rules s t p ++ bytes_rules out) (buffer_lent out cells_most) (call s t p out)

abbrev pub Candidates : (List ℕ → List ℕ → List ℕ → Written) → Type 0
Candidates call = (s t out : List ℕ) → Obeys writes_bytes (form_rules s t ++ bytes_rules out) (buffer_lent out cells_most) (call s t out)

-- the checks that these begin with
abbrev pub CheckRoom : (List ℕ → List ℕ → Result (Unit {0}) Refusal) → Type 0
CheckRoom call = (s t : List ℕ) → Obeys (reads_only says_answer) (room_rules s t) [] (call s t)

abbrev pub CheckForm : (List ℕ → List ℕ → Result (Unit {0}) Refusal) → Type 0
CheckForm call = (s t : List ℕ) → Obeys (reads_only says_answer) (form_rules s t) [] (call s t)

abbrev pub CheckSlot : (List ℕ → List ℕ → ℕ → Result (Unit {0}) Refusal) → Type 0
CheckSlot call = (s t : List ℕ) (p : ℕ) → Obeys (reads_only says_answer) (slot_rules s t p) [] (call s t p)

-- the files
abbrev pub CheckFile : (ℕ → List ℕ → Result (Unit {0}) Refusal) → Type 0
CheckFile call = (v : ℕ) (file : List ℕ) → Obeys (reads_only says_answer) (file_rules v file) [] (call v file)

abbrev pub ReadTable : (List ℕ → Result Head Refusal) → Type 0
ReadTable call = (file : List ℕ) → Obeys (reads_only says_answer) (table_rules file) [] (call file)

abbrev pub ReadRecord : (List ℕ → Result ℕ Refusal) → Type 0
ReadRecord call = (file : List ℕ) → Obeys (reads_only says_answer) (record_rules file) [] (call file)

abbrev pub CheckCase : (Head → About → Case → Result (Unit {0}) Refusal) → Type 0
CheckCase call = (h : Head) (a : About) (c : Case) → Obeys (reads_only says_answer) (case_rules h a c) [] (call h a c)

-- a product's table written as a file
abbrev pub WriteTable : Product → (List ℕ → Written) → Type 0
WriteTable m call = (out : List ℕ) → Obeys writes_bytes (write_rules m out) (buffer_lent out (table_bytes (product_head m))) (call out)

-- retest: the part handed back "is empty exactly on refusal, and a second call gives the number"
abbrev pub Pick : (List ℕ → List ℕ → ℕ → List ℕ) → Type 0
Pick call = (a b : List ℕ) (position : ℕ) → (call a b position ≡ []) ↔ ((r : Refusal) × RefusedBy (retest_rules a b position) r)

abbrev pub PickRefusal : (List ℕ → List ℕ → ℕ → ℕ) → Type 0
PickRefusal call = (a b : List ℕ) (position : ℕ) → ObeysBy 0 (retest_rules a b position) (call a b position)

-- the judge: "1 if that changed machine reproduces the record, 0 if not, else 16 plus the refusal"
abbrev pub Judges : (List ℕ → List ℕ → ℕ → ℕ) → Type 0
Judges call =
    (table file : List ℕ) (number : ℕ)
    → ObeysBy refused_from (judge_rules table file number) (call table file number)
    × (AllFalse (judge_rules table file number) → call table file number ≡ bit (explains_all (head_in table) (cells_in table) (cases_in file) number))
