-- The record file: "zero to 64 cases, each a length byte L of 1 to 64, L inputs, L observed outputs."
use Rattle.std.specs.Prelude.{ℕ, zero, suc, ◌+◌, ◌*◌, ◌≤◌, ◌≡◌, List, [], ◌∷◌, ◌++◌, Bool, true, false, cond, not, ◌&&◌, leb, length, get_or, take, drop, Option, Some, None, Result}
use Rattle.shapes.specs.Refusals.{Rule, when, ruling}
use Rattle.machine.specs.Limits.{steps_most}
use Rattle.machine.specs.Head.{within}
use Rattle.machine.specs.Case.{Case, good_case, as_case}
use Rattle.machine.specs.declared.head.Head.{Head}
use Rattle.house.specs.File.{version, rest_at, file_rules, file_of}
use Rattle.house.specs.declared.refusal.Refusal.{Refusal}
use Rattle.house.specs.declared.refusal.Refusal.TheVariants.{Step, Record}
use Rattle.house.specs.declared.cases.About.{About}
use Rattle.house.specs.Refusal.{ruled}

-- a record has at most 64 cases
abbrev pub cases_most : ℕ
cases_most = 64

-- a case as bytes: "a length byte L .., L inputs, L observed outputs"
unfoldable pub case_bytes : Case → List ℕ
case_bytes c = length c.inputs ∷ (c.inputs ++ c.outputs)

-- the bytes of cases, one after the other
unfoldable pub rest_of : List Case → List ℕ
rest_of [] = []
rest_of (c ∷ cs) = case_bytes c ++ rest_of cs

-- the record of cases, as a file
unfoldable pub record_file : List Case → List ℕ
record_file cs = file_of version (rest_of cs)

-- a case that a record can hold: 1 to 64 steps, as many outputs as inputs
pub record Recordable (c : Case) : Type 0 where
  pub some_steps : 1 ≤ length c.inputs
  pub few_steps : length c.inputs ≤ steps_most
  pub even : length c.outputs ≡ length c.inputs

-- each case of a list is one that a record can hold
abbrev pub AllRecordable : List Case → Type 0
AllRecordable [] = Unit {0}
AllRecordable (c ∷ cs) = Recordable c × AllRecordable cs

-- the length byte of the case that stands at a place
abbrev pub steps_at : List ℕ → ℕ → ℕ
steps_at file at = get_or file at 0

-- the place after that case
abbrev pub case_end : List ℕ → ℕ → ℕ
case_end file at = at + 1 + 2 * steps_at file at

-- not "a case length of 0 or over 64, a case past the end"
unfoldable pub case_fits : List ℕ → ℕ → Bool
case_fits file at = within (steps_at file at) steps_most && leb (case_end file at) (length file)

-- the case that stands at a place
unfoldable pub case_at : List ℕ → ℕ → Case
case_at file at =
    as_case (take (steps_at file at) (drop (at + 1) file)) (take (steps_at file at) (drop (at + 1 + steps_at file at) file))

-- how many cases stand from a place to the end, n before it and at most `left` more; broken where a case does not fit or more are left
unfoldable pub count_from : List ℕ → ℕ → ℕ → ℕ → Option ℕ
count_from file zero at n = cond (leb (length file) at) (Some n) None
count_from file (suc left) at n =
    cond (leb (length file) at) (Some n)
    (cond (case_fits file at) (count_from file left (case_end file at) (suc n)) None)

-- how many cases stand in a record file
unfoldable pub count_in : List ℕ → Option ℕ
count_in file = count_from file cases_most rest_at 0

-- RECORD: "a case length of 0 or over 64, a case past the end, or more than 64 cases"
abbrev pub is_broken : Option ℕ → Bool
is_broken (Some n) = false
is_broken None = true

-- and the count where it is none of these
abbrev pub count_of : Option ℕ → ℕ
count_of (Some n) = n
count_of None = 0

-- the refusals of a record file, in order
unfoldable pub record_rules : List ℕ → List (Rule Refusal)
record_rules file = file_rules version file ++ (when (is_broken (count_in file)) Record ∷ [])

-- what reading a record file answers: the count of its cases where no rule refuses, else the refusal
unfoldable pub record_read : List ℕ → Result ℕ Refusal
record_read file = ruled (ruling (record_rules file)) (count_of (count_in file))

-- n cases from a place on
unfoldable pub cases_from : List ℕ → ℕ → ℕ → List Case
cases_from file zero at = []
cases_from file (suc n) at = case_at file at ∷ cases_from file n (case_end file at)

-- the cases of a record file, in order
unfoldable pub cases_in : List ℕ → List Case
cases_in file = cases_from file (count_of (count_in file)) rest_at

-- a case handed over alone, and the first of a record
abbrev pub alone : About
alone = record { position = 0 }

-- the case after one in a record
abbrev pub next_about : About → About
next_about a = record { position = a.position + 1 }

-- what is wrong with a case against a head: STEP, which reads nothing of what is said about the case
unfoldable pub case_rules : Head → About → Case → List (Rule Refusal)
case_rules h a c = when (not (good_case h c.inputs c.outputs)) Step ∷ []

-- what is wrong with the first of some cases that has a fault, where the first of them is the one that this is said about
unfoldable pub cases_rules : Head → About → List Case → List (Rule Refusal)
cases_rules h a [] = []
cases_rules h a (c ∷ cs) = case_rules h a c ++ cases_rules h (next_about a) cs
