-- What a case must be to be run against a head (document 01, STEP).
use Rattle.std.specs.Prelude.{ℕ, ◌≤◌, ◌<◌, ◌≡◌, List, [], Bool, ◌&&◌, ◌||◌, eqb, leb, length, get_or}
use Rattle.shapes.specs.First.{first}
use Rattle.shapes.specs.Keep.{every}
use Rattle.machine.specs.Limits.{steps_most}
use Rattle.machine.specs.Head.{within}
use Rattle.machine.specs.declared.head.Head.{Head}

-- a case: its inputs and its observed outputs
pub record Case : Type 0 where
  pub inputs : List ℕ
  pub outputs : List ℕ

-- the case of two slices: the inputs, and the outputs that were observed
abbrev pub as_case : List ℕ → List ℕ → Case
as_case is ys = record { inputs = is; outputs = ys }

-- the case of no steps, which stands where there is none
abbrev pub no_case : Case
no_case = as_case [] []

-- "an input ≥ k" at step i
abbrev pub bad_input : Head → List ℕ → ℕ → Bool
bad_input h is i = leb h.inputs (get_or is i 0)

-- "or an observed output ≥ m"
abbrev pub bad_output : Head → List ℕ → ℕ → Bool
bad_output h ys i = leb h.outputs (get_or ys i 0)

-- either of them
unfoldable pub bad_step : Head → List ℕ → List ℕ → ℕ → Bool
bad_step h is ys i = bad_input h is i || bad_output h ys i

-- the lowest bad step; the count of the steps where none is bad
unfoldable pub first_bad_step : Head → List ℕ → List ℕ → ℕ
first_bad_step h is ys = first (bad_step h is ys) 0 (length is)

-- a case that STEP does not refuse: 1 to 64 steps, as many outputs as inputs, no bad step
unfoldable pub good_case : Head → List ℕ → List ℕ → Bool
good_case h is ys = within (length is) steps_most && eqb (length ys) (length is) && eqb (first_bad_step h is ys) (length is)

-- each of some cases is one
unfoldable pub all_good : Head → List Case → Bool
all_good h cs = every (λ c. good_case h c.inputs c.outputs) cs

-- what is known of a case that was tested
pub record CaseIn (h : Head) (is ys : List ℕ) : Type 0 where
  pub some_steps : 1 ≤ length is
  pub few_steps : length is ≤ steps_most
  pub even : length ys ≡ length is
  pub sound : first_bad_step h is ys ≡ length is

-- what is known of inputs that are a head's
abbrev pub InputsIn : Head → List ℕ → Type 0
InputsIn h is = (t : ℕ) → t < length is → get_or is t 0 < h.inputs
