-- Histories (demand 3): any list of calls after a start, on the memory by the definitions that the contracts cite, and on a model that never
-- looks at memory: a table, and places each free or holding a case.
use Rattle.std.specs.Prelude.{ℕ, zero, suc, ◌+◌, ◌≤◌, ◌<◌, ◌≡◌, List, [], ◌∷◌, ◌++◌, Bool, true, false, cond, not, ◌&&◌, eqb, ltb, leb, length, get_or, Result, Ok, Err}
use Rattle.shapes.specs.First.{first}
use Rattle.machine.specs.Cell.{SameCells}
use Rattle.machine.specs.Case.{Case, good_case, all_good}
use Rattle.machine.specs.declared.head.Head.{Head}
use Rattle.house.specs.declared.refusal.Refusal.{Refusal}
use Rattle.house.specs.Table.{table_read, head_in, cells_in}
use Rattle.house.specs.Cases.{record_read, cases_in}
use Rattle.memory.specs.Layout.{places_most, head_of, cells_of, is_held, case_of}
use Rattle.memory.specs.Form.{Formed}
use Rattle.tallies.specs.Tallies.{TrueTallies}
use Rattle.session.specs.Calls.{Outcome, after, Offer, start_call, add_call, amend_call, withdraw_call, load_call}

-- a call that changes a session, with any arguments whatever
pub data Call : Type 0 where
  start : List ℕ → Call
  add : Offer → Call
  amend : ℕ → Offer → Call
  withdraw : ℕ → Call
  load : List ℕ → Call

-- a session's memory: its bytes and its tallies
pub data Memory : Type 0 where
  memory : List ℕ → List ℕ → Memory

-- what an outcome answers, and the memory that it leaves
abbrev pub answer_of : Outcome → Result ℕ Refusal
answer_of (after a s t) = a

abbrev pub left : Outcome → Memory
left (after a s t) = memory s t

-- the outcome of a call, by the definitions that the contracts cite
unfoldable pub outcome_of : Call → Memory → Outcome
outcome_of (start file) (memory s t) = start_call s t file
outcome_of (add o) (memory s t) = add_call s t o
outcome_of (amend p o) (memory s t) = amend_call s t p o
outcome_of (withdraw p) (memory s t) = withdraw_call s t p
outcome_of (load file) (memory s t) = load_call s t file

-- what it answers, and what it leaves of the memory
unfoldable pub answered : Call → Memory → Result ℕ Refusal
unfolding outcome_of
answered c x = answer_of (outcome_of c x)

unfoldable pub called : Call → Memory → Memory
unfolding outcome_of
called c x = left (outcome_of c x)

-- and calls, one after the other
unfoldable pub called_all : List Call → Memory → Memory
called_all [] m = m
called_all (c ∷ cs) m = called_all cs (called c m)

-- what a place holds: nothing, or a case
pub data Content : Type 0 where
  free : Content
  holds : Case → Content

-- the model: a table, and what each place holds
pub record Model : Type 0 where
  pub head : Head
  pub cells : List ℕ
  pub at : ℕ → Content

-- whether a place holds a case, the cases of one place, and those of places by rising number
abbrev pub is_holding : Content → Bool
is_holding free = false
is_holding (holds c) = true

abbrev pub content_cases : Content → List Case
content_cases free = []
content_cases (holds c) = c ∷ []

unfoldable pub cases_to : (ℕ → Content) → ℕ → List Case
cases_to at zero = []
cases_to at (suc n) = cases_to at n ++ content_cases (at n)

unfoldable pub cases_held : Model → List Case
cases_held m = cases_to m.at places_most

-- the lowest free place; 64 where none is free
unfoldable pub lowest : (ℕ → Content) → ℕ
lowest at = first (λ p. not (is_holding (at p))) 0 places_most

-- one place changed
abbrev pub put : (ℕ → Content) → ℕ → Content → ℕ → Content
put at p x q = cond (eqb q p) x (at q)

-- cases put into the lowest free places, in order
unfoldable pub put_all : (ℕ → Content) → List Case → ℕ → Content
put_all at [] = at
put_all at (c ∷ cs) = put_all (put at (lowest at) (holds c)) cs

-- the model with other places
abbrev pub with_places : Model → (ℕ → Content) → Model
with_places m at = record { head = m.head; cells = m.cells; at = at }

-- the model that a table file starts: its head and its own cells, every place free
unfoldable pub started_model : List ℕ → Model
started_model file = record { head = head_in file; cells = cells_in file; at = λ p. free }

-- whether a file was read as a table, or as a record
abbrev pub is_table : Result Head Refusal → Bool
is_table (Ok h) = true
is_table (Err r) = false

abbrev pub is_record : Result ℕ Refusal → Bool
is_record (Ok n) = true
is_record (Err r) = false

-- whether a case can be run against the model's table, and whether a number is that of a place that holds one
abbrev pub fits_table : Model → Case → Bool
fits_table m c = good_case m.head c.inputs c.outputs

abbrev pub holds_at : Model → ℕ → Bool
holds_at m p = ltb p places_most && is_holding (m.at p)

-- whether the model takes a call,
unfoldable pub takes : Call → Model → Bool
takes (start file) m = is_table (table_read file)
takes (add o) m = fits_table m o.case && ltb (lowest m.at) places_most
takes (amend p o) m = holds_at m p && fits_table m o.case
takes (withdraw p) m = holds_at m p
takes (load file) m =
    is_record (record_read file) && (all_good m.head (cases_in file) && leb (length (cases_held m) + length (cases_in file)) places_most)

-- what a call that is taken makes of it,
unfoldable pub makes : Call → Model → Model
makes (start file) m = started_model file
makes (add o) m = with_places m (put m.at (lowest m.at) (holds o.case))
makes (amend p o) m = with_places m (put m.at p (holds o.case))
makes (withdraw p) m = with_places m (put m.at p free)
makes (load file) m = with_places m (put_all m.at (cases_in file))

-- and what it tells: "add .. answers the place", "start, amend and withdraw answer 0, load the count of cases"
unfoldable pub tells : Call → Model → ℕ
tells (start file) m = 0
tells (add o) m = lowest m.at
tells (amend p o) m = 0
tells (withdraw p) m = 0
tells (load file) m = length (cases_in file)

-- a call that is not taken leaves the model
unfoldable pub step : Call → Model → Model
step c m = cond (takes c m) (makes c m) m

unfoldable pub steps : List Call → Model → Model
steps [] m = m
steps (c ∷ cs) m = steps cs (step c m)

-- the same by the answers: an accepted call is one that answered Ok, and no other changes what is held
abbrev pub accepted : Result ℕ Refusal → Call → Model → Model
accepted (Ok n) c m = makes c m
accepted (Err r) c m = m

-- what the accepted ones of some calls on a memory leave
unfoldable pub accepted_all : List Call → Memory → Model → Model
accepted_all [] x m = m
accepted_all (c ∷ cs) x m = accepted_all cs (called c x) (accepted (answered c x) c m)

-- what a place of the memory holds
unfoldable pub content_of : List ℕ → ℕ → Content
content_of s p = cond (is_held s p) (holds (case_of s p)) free

-- the memory is well-formed, its tallies are true, and it holds what the model holds
pub record Shows (s t : List ℕ) (m : Model) : Type 0 where
  pub formed : Formed s t
  pub true_tallies : TrueTallies s t
  pub same_head : head_of s ≡ m.head
  pub same_cells : SameCells m.head (cells_of s) m.cells
  pub same_places : (p : ℕ) → p < places_most → content_of s p ≡ m.at p

-- a call that changes one case
abbrev pub OneCase : Call → Type 0
OneCase (start file) = ⊥
OneCase (add o) = Unit {0}
OneCase (amend p o) = Unit {0}
OneCase (withdraw p) = Unit {0}
OneCase (load file) = ⊥

-- tally f of a memory
abbrev pub tally_in : Memory → ℕ → ℕ
tally_in (memory s t) f = get_or t f 0

-- two numbers at most one apart
abbrev pub WithinOne : ℕ → ℕ → Type 0
WithinOne a b = (a ≤ b + 1) × (b ≤ a + 1)
