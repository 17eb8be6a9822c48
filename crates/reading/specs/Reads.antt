-- The list and the audit of a session (document 01, "Symptoms, conflict sets, verdict", "Session memory"): each is its rules in the paper's order, an
-- output buffer's SHORT last, and what it answers and writes where none refuses.
use Rattle.std.specs.Prelude.{ℕ, ◌<◌, ◌≡◌, List, [], ◌∷◌, ◌++◌, Bool, true, false, not, ◌&&◌, eqb, ltb, length, get_or, Option, Some, None, Result, Ok, Err}
use Rattle.shapes.specs.First.{first}
use Rattle.shapes.specs.Edit.{filled}
use Rattle.shapes.specs.Keep.{keep_to}
use Rattle.shapes.specs.Refusals.{Rule, when, Ruling, fine, refused, ruling}
use Rattle.machine.specs.Head.{numbers}
use Rattle.machine.specs.Machine.{Machine, specified}
use Rattle.machine.specs.Fault.{is_fault}
use Rattle.machine.specs.declared.head.Head.{Head}
use Rattle.house.specs.declared.refusal.Refusal.{Refusal}
use Rattle.house.specs.declared.refusal.Refusal.TheVariants.{Short}
use Rattle.diagnosis.specs.Diagnosis.{tally, some_fails, verdict_of}
use Rattle.diagnosis.specs.declared.Verdict.{Verdict}
use Rattle.memory.specs.Layout.{head_of, cells_of, cases}
use Rattle.memory.specs.Form.{form_rules}
use Rattle.house.specs.Refusal.{ruled}
use Rattle.reading.specs.declared.list.Listing.{Listing}

-- the specified machine of a session's table
abbrev pub machine_of : List ℕ → Machine
machine_of s = specified (head_of s) (cells_of s)

-- "A session call lists the faults whose tally is 0": a number with this tally is listed
abbrev pub is_listed_by : Head → List ℕ → ℕ → ℕ → Bool
is_listed_by h cells f tally = is_fault h cells f && eqb tally 0

-- so the list by the tallies
unfoldable pub list_of : List ℕ → List ℕ → List ℕ
list_of s t = keep_to (λ f. is_listed_by (head_of s) (cells_of s) f (get_or t f 0)) (numbers (head_of s))

-- "and replays the unchanged table to see if a case fails"
unfoldable pub verdict_in : List ℕ → List ℕ → Verdict
verdict_in s t = verdict_of (some_fails (head_of s) (cells_of s) (cases s)) (list_of s t)

unfoldable pub list_rules : List ℕ → List ℕ → List ℕ → List (Rule Refusal)
list_rules s t out = form_rules s t ++ (when (ltb (length out) (length (list_of s t))) (Short (length (list_of s t))) ∷ [])

-- what listing answers, with what it leaves in the buffer for the numbers
pub data Listed : Type 0 where
  listed : Result Listing Refusal → List ℕ → Listed

-- a listing that answers: the verdict, and how many faults are listed
abbrev pub faults : Verdict → ℕ → Result Listing Refusal
faults v n = Ok (record { verdict = v; count = n })

abbrev pub listed_or : Ruling Refusal → Verdict → ℕ → List ℕ → List ℕ → Listed
listed_or fine v n old new = listed (faults v n) new
listed_or (refused r) v n old new = listed (Err r) old

unfoldable pub list_call : List ℕ → List ℕ → List ℕ → Listed
list_call s t out = listed_or (ruling (list_rules s t out)) (verdict_in s t) (length (list_of s t)) out (filled out 0 (list_of s t))

-- "An audit answers whether every tally is true, else the lowest number that is false."
unfoldable pub false_tally : List ℕ → List ℕ → ℕ
false_tally s t = first (λ f. not (eqb (get_or t f 0) (tally (head_of s) (cells_of s) (cases s) f))) 0 (numbers (head_of s))

-- what it means that number f is that one: f is in use, its tally is not what is counted afresh, and every lower one is
pub record LowestFalse (s t : List ℕ) (f : ℕ) : Type 0 where
  pub in_use : f < numbers (head_of s)
  pub untrue : get_or t f 0 ≡ tally (head_of s) (cells_of s) (cases s) f → ⊥
  pub lower_true : (g : ℕ) → g < f → get_or t g 0 ≡ tally (head_of s) (cells_of s) (cases s) g

abbrev pub audit_if : Bool → ℕ → Option ℕ
audit_if true f = Some f
audit_if false f = None

unfoldable pub audit_call : List ℕ → List ℕ → Result (Option ℕ) Refusal
audit_call s t = ruled (ruling (form_rules s t)) (audit_if (ltb (false_tally s t) (numbers (head_of s))) (false_tally s t))
