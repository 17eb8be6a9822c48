-- The calls that change a session (document 01, "Session memory", "Refusal numbers", Order): each is its rules in the paper's order, and what
-- is done where none refuses. A refusal leaves both buffers as they were.
use Rattle.std.specs.Prelude.{ℕ, ◌-◌, List, [], ◌∷◌, ◌++◌, not, ltb, leb, length, Result, Ok, Err}
use Rattle.shapes.specs.Refusals.{Rule, when, Ruling, fine, refused, ruling}
use Rattle.machine.specs.Case.{Case, as_case, no_case}
use Rattle.house.specs.Table.{table_rules}
use Rattle.house.specs.Cases.{record_rules, cases_in, alone, case_rules, cases_rules}
use Rattle.house.specs.declared.refusal.Refusal.{Refusal}
use Rattle.house.specs.declared.refusal.Refusal.TheVariants.{Full, Damaged}
use Rattle.memory.specs.Layout.{places_most, head_of, case_of, cases, free_place}
use Rattle.memory.specs.Form.{room_rules, form_rules, slot_rules}
use Rattle.tallies.specs.Tallies.{can_take, raised, lowered}
use Rattle.memory.specs.Store.{placed, started, cleared}

-- what a call answers, with what it leaves in the session and in the tallies
pub data Outcome : Type 0 where
  after : Result ℕ Refusal → List ℕ → List ℕ → Outcome

-- where the rules say nothing the call answers n and leaves s' and t'; a refusal leaves s and t
abbrev pub outcome_or : Ruling Refusal → ℕ → List ℕ → List ℕ → List ℕ → List ℕ → Outcome
outcome_or fine n s t s' t' = after (Ok n) s' t'
outcome_or (refused r) n s t s' t' = after (Err r) s t

-- start: "takes a table file, copies the table in and clears places and tallies"
unfoldable pub start_rules : List ℕ → List ℕ → List ℕ → List (Rule Refusal)
start_rules s t file = room_rules s t ++ table_rules file

unfoldable pub start_call : List ℕ → List ℕ → List ℕ → Outcome
start_call s t file = outcome_or (ruling (start_rules s t file)) 0 s t (started s file) (cleared t)

-- what is offered to be held: a case
pub record Offer : Type 0 where
  pub case : Case

-- what two slices offer: the case of them
abbrev pub offered : List ℕ → List ℕ → Offer
offered is ys = record { case = as_case is ys }

-- add: "uses the lowest free place .. and answers the place"
unfoldable pub add_rules : List ℕ → List ℕ → Offer → List (Rule Refusal)
add_rules s t o = form_rules s t ++ (case_rules (head_of s) alone o.case ++ (when (leb places_most (free_place s)) Full ∷ []))

unfoldable pub add_call : List ℕ → List ℕ → Offer → Outcome
add_call s t o = outcome_or (ruling (add_rules s t o)) (free_place s) s t (placed s (free_place s) o.case) (raised s o.case t)

-- withdraw: "zeroes it"
unfoldable pub withdraw_rules : List ℕ → List ℕ → ℕ → List (Rule Refusal)
withdraw_rules s t p = slot_rules s t p ++ (when (not (can_take s t p)) Damaged ∷ [])

unfoldable pub withdraw_call : List ℕ → List ℕ → ℕ → Outcome
withdraw_call s t p = outcome_or (ruling (withdraw_rules s t p)) 0 s t (placed s p no_case) (lowered s (case_of s p) t)

-- amend: "keeps its place"
unfoldable pub amend_rules : List ℕ → List ℕ → ℕ → Offer → List (Rule Refusal)
amend_rules s t p o = slot_rules s t p ++ (case_rules (head_of s) alone o.case ++ (when (not (can_take s t p)) Damaged ∷ []))

unfoldable pub amend_call : List ℕ → List ℕ → ℕ → Offer → Outcome
amend_call s t p o =
    outcome_or (ruling (amend_rules s t p o)) 0 s t (placed s p o.case) (raised s o.case (lowered s (case_of s p) t))

-- load: "adds a record's cases in order, all or none": what the adds leave in the session and in the tallies, one after the other
unfoldable pub loaded_session : List ℕ → List Case → List ℕ
loaded_session s [] = s
loaded_session s (c ∷ cs) = loaded_session (placed s (free_place s) c) cs

unfoldable pub loaded_tallies : List ℕ → List Case → List ℕ → List ℕ
loaded_tallies s [] t = t
loaded_tallies s (c ∷ cs) t = loaded_tallies (placed s (free_place s) c) cs (raised s c t)

-- then FULL: "fewer free places than cases to add"
unfoldable pub room_for_rules : List ℕ → List Case → List (Rule Refusal)
room_for_rules s cs = cases_rules (head_of s) alone cs ++ (when (ltb (places_most - length (cases s)) (length cs)) Full ∷ [])

unfoldable pub load_rules : List ℕ → List ℕ → List ℕ → List (Rule Refusal)
load_rules s t file = form_rules s t ++ (record_rules file ++ room_for_rules s (cases_in file))

unfoldable pub load_call : List ℕ → List ℕ → List ℕ → Outcome
load_call s t file =
    outcome_or (ruling (load_rules s t file)) (length (cases_in file)) s t (loaded_session s (cases_in file)) (loaded_tallies s (cases_in file) t)
