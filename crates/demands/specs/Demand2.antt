-- Demand 2: "A fault is listed, once and in rising number, exactly if the table with that one change gives every observed output of every
-- held case. NONE exactly if some case fails and no such fault exists. A record reads back as its cases in order."
-- What these words mean of a table, of the cases held against it, and of what the list call answers and leaves. Nothing here speaks of
-- tallies. Of a list `get_or l i 0` is entry i, `Among c l` says that c is in it, and `KeptFrom n l l'` that l' is l from entry n on.
-- `proofs/Demand2.antt` has the theorem.
use Rattle.std.specs.Prelude.{ℕ, ◌<◌, ◌≡◌, true, ◌↔◌, List, length, get_or}
use Rattle.shapes.specs.Edit.{KeptFrom}
use Rattle.shapes.specs.Keep.{Among}
use Rattle.machine.specs.Machine.{Machine, specified}
use Rattle.machine.specs.Fault.{fault_number, FaultIn}
use Rattle.machine.specs.Mutant.{mutant, OtherByte}
use Rattle.machine.specs.Case.{Case}
use Rattle.machine.specs.Run.{agrees, expected}
use Rattle.machine.specs.declared.head.Head.{Head}
use Rattle.machine.specs.declared.fault.Fault.{Fault}
use Rattle.diagnosis.specs.Diagnosis.{list}
use Rattle.diagnosis.specs.declared.Verdict.{Verdict}
use Rattle.diagnosis.specs.declared.Verdict.TheVariants as verdicts
use Rattle.memory.specs.Layout.{head_of, cells_of, cases}
use Rattle.reading.specs.Reads.{Listed, listed, faults}

-- what a diagnosis goes by: a table, and the cases held against it
pub record Evidence : Type 0 where
  pub head : Head
  pub cells : List ℕ
  pub held : List Case

-- those of a session
abbrev pub evidence_in : List ℕ → Evidence
evidence_in s = record { head = head_of s; cells = cells_of s; held = cases s }

-- whether the output observed at a step of a case agrees with the one that a machine gives there
abbrev pub AgreesAt : Machine → Case → ℕ → Type 0
AgreesAt M c t = agrees (get_or c.outputs t 0) (get_or (expected M c.inputs) t 0) ≡ true

-- a machine "gives every observed output" of a case
abbrev pub GivesEvery : Machine → Case → Type 0
GivesEvery M c = (t : ℕ) → t < length c.inputs → AgreesAt M c t

-- "some case fails": at some step of some held case the observed output differs from the expected one
pub record SomeFails (b : Evidence) : Type 0 where
  pub case : Case
  pub is_held : Among case b.held
  pub step : ℕ
  pub in_case : step < length case.inputs
  pub differs : AgreesAt (specified b.head b.cells) case step → ⊥

-- a single fault of the table: a cell, a kind and a value in range, the cell defined, and the value another than the cell's own
pub record SingleFault (b : Evidence) (x : Fault) : Type 0 where
  pub in_range : FaultIn b.head x
  pub other_byte : OtherByte b.cells x

-- it explains all: "the table with that one change gives every observed output of every held case"
pub record Explains (b : Evidence) (x : Fault) : Type 0 where
  pub is_fault_law : SingleFault b x
  pub gives_all : (c : Case) → Among c b.held → GivesEvery (specified b.head (mutant b.cells x)) c

-- a number is that of a single fault which explains all
pub record Suspect (b : Evidence) (f : ℕ) : Type 0 where
  pub fault : Fault
  pub number : fault_number b.head fault ≡ f
  pub explains : Explains b fault

-- the list of them
abbrev pub suspects : Evidence → List ℕ
suspects b = list b.head b.cells b.held

-- a number stands among the first n entries of a list
pub record Stands (f n : ℕ) (l : List ℕ) : Type 0 where
  pub at : ℕ
  pub within : at < n
  pub is_there : get_or l at 0 ≡ f

-- what is listed, of a verdict, a count, and the buffer left of the one lent
pub record Lists (b : Evidence) (lent : List ℕ) (verdict : Verdict) (count : ℕ) (left : List ℕ) : Type 0 where
  -- "A fault is listed .. exactly if the table with that one change gives every observed output of every held case"
  pub listed_exactly : (f : ℕ) → Stands f count left ↔ Suspect b f
  -- "once and in rising number"
  pub once_and_rising : (i j : ℕ) → i < j → j < count → get_or left i 0 < get_or left j 0
  -- entry i of the buffer is entry i of the list, and the rest of the buffer is untouched
  pub whole : count ≡ length (suspects b)
  pub entries : (i : ℕ) → i < count → get_or left i 0 ≡ get_or (suspects b) i 0
  pub rest_untouched : KeptFrom count lent left
  -- "CLEAR: no held case fails", "FOUND: some case fails and the list isn't empty"
  pub clear_exactly : (verdict ≡ verdicts.Clear) ↔ (SomeFails b → ⊥)
  pub found_exactly : (verdict ≡ verdicts.Found) ↔ (SomeFails b × ((x : Fault) × Explains b x))
  -- "NONE exactly if some case fails and no such fault exists"
  pub none_exactly : (verdict ≡ verdicts.None) ↔ (SomeFails b × ((x : Fault) → Explains b x → ⊥))

-- the list call, given a buffer, answers a verdict and a count and leaves what is listed
pub record ListAnswers (b : Evidence) (lent : List ℕ) (answer : Listed) : Type 0 where
  pub verdict : Verdict
  pub count : ℕ
  pub left : List ℕ
  pub answered : answer ≡ listed (faults verdict count) left
  pub lists : Lists b lent verdict count left
