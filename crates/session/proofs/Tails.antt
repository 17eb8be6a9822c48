-- "Longer buffers, those for answers too, are allowed and their tails stay untouched": all that a call writes is an edit of a part inside
-- what a session, its tallies or the answer need, and no edit changes what stands after its part. A call that is refused writes nothing.
-- Assumes nothing.
use Prim.Native.Nat.{ℕ, ◌+◌, ◌<◌}
use mathlib.Core.Path.{◌≡◌, refl, ap}
use mathlib.Core.List.{List, [], ◌∷◌}
use native.Mathlib.Omega.{arith}
use lib.ListN.{get_or}
use Rattle.shapes.specs.Edit.{KeptFrom}
use Rattle.shapes.specs.Refusals.{Ruling, fine, refused, ruling}
use Rattle.shapes.proofs.Edit.{kept_all, kept_then, edit_keeps}
use Rattle.machine.specs.Case.{Case, no_case}
use Rattle.house.specs.File.{rest_at}
use Rattle.house.specs.Refusal.{checked, ruled}
use Rattle.house.specs.Cases.{count_in, count_of, cases_in}
use Rattle.house.specs.declared.refusal.Refusal.{Refusal}
use Rattle.memory.specs.Layout.{places_most, place_size, session_size, tallies_size, case_of, free_place, place_at, place_byte}
use Rattle.memory.specs.Form.{Formed}
use Rattle.session.specs.Calls.{outcome_or, start_rules, start_call, add_rules, add_call, withdraw_rules, withdraw_call, amend_rules, amend_call, load_rules, load_call}
use Rattle.tallies.specs.Tallies.{raised, lowered}
use Rattle.memory.specs.Store.{placed, started, cleared}
use Rattle.session.specs.History.{Call, start, add, amend, withdraw, load, Memory, memory, left, called, called_all}
use Rattle.tallies.proofs.Tallied.{raised_out, length_raised, lowered_out, length_lowered}
use Rattle.memory.proofs.Held.{slot_inside, formed_numbers}
use Rattle.session.proofs.Kept.{load_adds}
use Rattle.session.proofs.Changed.{add_known, withdraw_known, amend_known, load_known}

-- a session and tallies that a call leaves: the tails of both, after the bytes and the tallies that a session needs, are untouched
abbrev pub TailsKept : List ℕ → List ℕ → Memory → Type 0
TailsKept s t (memory s' t') = KeptFrom session_size s s' × KeptFrom tallies_size t t'

-- a store in one of the 64 places leaves the session's tail,
placed_keeps : (s : List ℕ) (p : ℕ) (c : Case) → p < places_most → KeptFrom session_size s (placed s p c)
unfolding placed
placed_keeps s p c l = edit_keeps (λ i old. place_byte c i) (place_at p) place_size session_size s (omega arith)

module _ (s t : List ℕ) (k : Formed s t) (c : Case) (u : List ℕ) where
  -- a case counted in leaves that of the tallies,
  raised_keeps : KeptFrom tallies_size u (raised s c u)
  raised_keeps =
      record { same_length = length_raised s c u; same_tail = λ i h. raised_out s c u i (omega (arith, formed_numbers s t k)) }

  -- and so does one counted out
  lowered_keeps : KeptFrom tallies_size u (lowered s c u)
  lowered_keeps =
      record { same_length = length_lowered s c u; same_tail = λ i h. lowered_out s c u i (omega (arith, formed_numbers s t k)) }

-- a start leaves the session's tail,
started_keeps : (s file : List ℕ) → KeptFrom session_size s (started s file)
unfolding started
started_keeps s file = edit_keeps (λ i old. get_or file (rest_at + i) 0) 0 session_size session_size s (omega arith)

-- and that of the tallies
cleared_keeps : (t : List ℕ) → KeptFrom tallies_size t (cleared t)
unfolding cleared
cleared_keeps t = edit_keeps (λ f old. 0) 0 tallies_size tallies_size t (omega arith)

-- a memory left alone has its tails,
tails_all : (s t : List ℕ) → TailsKept s t (memory s t)
tails_all s t = (kept_all session_size s, kept_all tallies_size t)

-- and what a call leaves has them if what it does where nothing refuses has
tails_or : (v : Ruling Refusal) (n : ℕ) (s t s' t' : List ℕ) → (v ≡ fine → TailsKept s t (memory s' t'))
    → TailsKept s t (left (outcome_or v n s t s' t'))
tails_or fine n s t s' t' done = done refl
tails_or (refused r) n s t s' t' done = tails_all s t

-- every call, whatever its arguments and the memory, leaves the tails of session and tallies untouched
pub tails_kept : (c : Call) (s t : List ℕ) → TailsKept s t (called c (memory s t))
unfolding called start_call add_call withdraw_call amend_call load_call
tails_kept (start file) s t =
    tails_or (ruling (start_rules s t file)) _ s t _ _ (λ e. (started_keeps s file, cleared_keeps t))
tails_kept (add o) s t =
    tails_or (ruling (add_rules s t o)) _ s t _ _
    (λ e.
    let a = add_known s t o (checked (ruling (add_rules s t o))) refl (ap checked e) in
    (placed_keeps s (free_place s) o.case a.1.1, raised_keeps s t a.0 o.case t))
tails_kept (amend p o) s t =
    tails_or (ruling (amend_rules s t p o)) _ s t _ _
    (λ e.
    let a = amend_known s t p o (checked (ruling (amend_rules s t p o))) refl (ap checked e) in (
      placed_keeps s p o.case (slot_inside s p a.0.1.0),
      kept_then (lowered_keeps s t a.0.0 (case_of s p) t) (raised_keeps s t a.0.0 o.case (lowered s (case_of s p) t)),
    ))
tails_kept (withdraw p) s t =
    tails_or (ruling (withdraw_rules s t p)) _ s t _ _
    (λ e.
    let a = withdraw_known s t p (checked (ruling (withdraw_rules s t p))) refl (ap checked e) in
    (placed_keeps s p no_case (slot_inside s p a.1.0), lowered_keeps s t a.0 (case_of s p) t))
tails_kept (load file) s t =
    tails_or (ruling (load_rules s t file)) _ s t _ _
    (λ e.
    let x = ruled (ruling (load_rules s t file)) (count_of (count_in file)) in
    let a = load_known s t file x refl (count_of (count_in file)) (ap (λ v. ruled v (count_of (count_in file))) e) in
    load_adds (λ s' t'. TailsKept s t (memory s' t'))
    (λ s' t' c k now g l. (kept_then now.0 (placed_keeps s' (free_place s') c l), kept_then now.1 (raised_keeps s' t' k c t')))
    s t (cases_in file) a.0 (tails_all s t) a.1.1.1.0 a.1.1.1.1)

-- tails left untouched and then left so again are untouched
tails_then : (s t s' t' : List ℕ) (m : Memory) → TailsKept s t (memory s' t') → TailsKept s' t' m → TailsKept s t m
tails_then s t s' t' (memory s'' t'') j k = (kept_then j.0 k.0, kept_then j.1 k.1)

-- so calls one after the other leave them,
tails_from : (calls : List Call) (s t : List ℕ) (m : Memory) → TailsKept s t m → TailsKept s t (called_all calls m)
unfolding called_all
tails_from [] s t m k = k
tails_from (c ∷ cs) s t (memory s' t') k =
    tails_from cs s t (called c (memory s' t')) (tails_then s t s' t' (called c (memory s' t')) k (tails_kept c s' t'))

-- and any list of calls, refused ones among them, leaves the tails of session and tallies untouched
pub tails_kept_all : (calls : List Call) (s t : List ℕ) → TailsKept s t (called_all calls (memory s t))
tails_kept_all calls s t = tails_from calls s t (memory s t) (tails_all s t)
