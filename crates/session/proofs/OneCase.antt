-- Changing one case moves no tally by more than one: every call is edits of each tally by at most one. Assumes nothing.
use Prim.Native.Nat.{ℕ}
use mathlib.Core.List.{List}
use native.Mathlib.Omega.{arith}
use lib.ListN.{get_or}
use Rattle.shapes.specs.Refusals.{Ruling, fine, refused, ruling}
use Rattle.machine.specs.Case.{Case, no_case}
use Rattle.house.specs.declared.refusal.Refusal.{Refusal}
use Rattle.memory.specs.Layout.{case_of, free_place}
use Rattle.tallies.specs.Tallies.{raised, lowered}
use Rattle.session.specs.Calls.{outcome_or, add_rules, add_call, withdraw_rules, withdraw_call, amend_rules, amend_call}
use Rattle.memory.specs.Store.{placed}
use Rattle.session.specs.History.{OneCase, tally_in, WithinOne, Call, start, add, amend, withdraw, load, Memory, memory, left, called}
use Rattle.tallies.proofs.Tallied.{raised_few, lowered_few}

-- a call that is refused moves no tally
outcome_within : (v : Ruling Refusal) (n : ℕ) (s t s' t' : List ℕ) (f : ℕ) → WithinOne (get_or t f 0) (get_or t' f 0)
    → WithinOne (get_or t f 0) (tally_in (left (outcome_or v n s t s' t')) f)
outcome_within fine n s t s' t' f w = w
outcome_within (refused r) n s t s' t' f w = (omega arith, omega arith)

-- one case held more moves no tally by more than one: each case of a load too
pub one_held : (s : List ℕ) (c : Case) (t : List ℕ) (f : ℕ) → WithinOne (get_or t f 0) (get_or (raised s c t) f 0)
one_held s c t f = let r = raised_few s c t f in (omega arith, omega arith)

-- changing one case moves no tally by more than one, whatever the memory
pub one_case : (c : Call) → OneCase c → (x : Memory) (f : ℕ) → WithinOne (tally_in x f) (tally_in (called c x) f)
unfolding called add_call amend_call withdraw_call
one_case (start file) one x f = absurd one
one_case (add o) one (memory s t) f =
    outcome_within (ruling (add_rules s t o)) (free_place s) s t (placed s (free_place s) o.case) (raised s o.case t) f (one_held s o.case t f)
one_case (amend p o) one (memory s t) f =
    let l = lowered_few s (case_of s p) t f in
    let r = raised_few s o.case (lowered s (case_of s p) t) f in
    outcome_within (ruling (amend_rules s t p o)) 0 s t (placed s p o.case) (raised s o.case (lowered s (case_of s p) t)) f (omega arith, omega arith)
one_case (withdraw p) one (memory s t) f =
    let l = lowered_few s (case_of s p) t f in
    outcome_within (ruling (withdraw_rules s t p)) 0 s t (placed s p no_case) (lowered s (case_of s p) t) f (omega arith, omega arith)
one_case (load file) one x f = absurd one
