-- What held cases say: over a head, the cells of its table and any list of cases (document 01, "Symptoms, conflict sets, verdict", "Fault numbers").
use Rattle.std.specs.Prelude.{ℕ, ◌+◌, List, [], ◌∷◌, Bool, true, false, not, ◌&&◌, ◌||◌, take, codes}
use Rattle.shapes.specs.Edit.{edit}
use Rattle.shapes.specs.Keep.{keep_to, has, bit, count, every, some}
use Rattle.machine.specs.Limits.{cells_most}
use Rattle.machine.specs.Head.{numbers}
use Rattle.machine.specs.Machine.{Machine, specified}
use Rattle.machine.specs.Fault.{changed, is_fault}
use Rattle.machine.specs.Case.{Case}
use Rattle.machine.specs.Run.{executed, symptoms_of, reproduces}
use Rattle.machine.specs.declared.head.Head.{Head}
use Rattle.diagnosis.specs.declared.Verdict.{Verdict}
use Rattle.diagnosis.specs.declared.Verdict.TheVariants as verdicts

-- a machine gives every observed output of a case
unfoldable pub explains : Machine → Case → Bool
explains M c = reproduces M c.inputs c.outputs

-- "A held case fails if some observed output differs from the expected one."
unfoldable pub fails : Machine → Case → Bool
fails M c = not (explains M c)

-- a number's machine doesn't reproduce a case
unfoldable pub misses : Head → List ℕ → ℕ → Case → Bool
misses h cells f c = fails (changed h cells f) c

-- a tally: it "counts the held cases that the number's machine doesn't reproduce"
unfoldable pub tally : Head → List ℕ → List Case → ℕ → ℕ
tally h cells cs f = count (misses h cells f) cs

-- a number's machine reproduces all held cases
unfoldable pub explains_all : Head → List ℕ → List Case → ℕ → Bool
explains_all h cells cs f = every (explains (changed h cells f)) cs

-- "every fault that reproduces all held cases"
unfoldable pub is_listed : Head → List ℕ → List Case → ℕ → Bool
is_listed h cells cs f = is_fault h cells f && explains_all h cells cs f

-- the list: those faults in rising number
unfoldable pub list : Head → List ℕ → List Case → List ℕ
list h cells cs = keep_to (is_listed h cells cs) (numbers h)

-- some held case fails
unfoldable pub some_fails : Head → List ℕ → List Case → Bool
some_fails h cells cs = some (fails (specified h cells)) cs

-- "CLEAR: no held case fails .. FOUND: some case fails and the list isn't empty. NONE: some case fails and the list is empty."
abbrev pub verdict_of : Bool → List ℕ → Verdict
verdict_of false l = verdicts.Clear
verdict_of true [] = verdicts.None
verdict_of true (f ∷ l) = verdicts.Found

-- and how it is written
abbrev pub verdict_text : Verdict → List ℕ
verdict_text verdicts.Clear = codes "CLEAR"
verdict_text verdicts.Found = codes "FOUND"
verdict_text verdicts.None = codes "NONE"

-- "the set of cells that the specified path executes from step 0 up to and with the first symptom; for a passing case it is empty"
unfoldable pub conflicts : Machine → Case → ℕ → Bool
conflicts M c cell = fails M c && has cell (take ((symptoms_of M c.inputs c.outputs).first + 1) (executed M c.inputs))

-- "It is written as 256 bytes of 0 or 1", and what follows them stays
unfoldable pub conflict_bytes : Machine → Case → List ℕ → List ℕ
conflict_bytes M c out = edit (λ cell old. bit (conflicts M c cell)) 0 cells_most out

-- "The candidates are the cells in the conflict set of every failing case; empty if no case fails."
unfoldable pub is_candidate : Machine → List Case → ℕ → Bool
is_candidate M cs cell = some (fails M) cs && every (λ c. not (fails M c) || conflicts M c cell) cs
