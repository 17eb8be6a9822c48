-- What the outcome of a call that changes a session says, over any ruling: it is done exactly if the ruling is fine, and where it is refused it
-- leaves the memory that was lent.
-- Assumes nothing.
use Prim.Native.Nat.{ℕ}
use mathlib.Core.Path.{◌≡◌, refl}
use mathlib.Core.List.{List}
use mathlib.Core.Logic.{◌↔◌}
use Rattle.std.specs.Prelude.{Ok, Err}
use Rattle.shapes.specs.Refusals.{Ruling, fine, refused, ruling}
use Rattle.house.specs.declared.refusal.Refusal.{Refusal}
use Rattle.session.specs.Calls.{outcome_or, start_rules, start_call, add_rules, add_call, withdraw_rules, withdraw_call, amend_rules, amend_call, load_rules, load_call}
use Rattle.session.specs.History.{Call, start, add, amend, withdraw, load, Memory, memory, answer_of, left, answered, called}

-- an outcome is done, with its number, exactly if the ruling is fine
pub outcome_done : (v : Ruling Refusal) (n k : ℕ) (s t s' t' : List ℕ)
    → (answer_of (outcome_or v n s t s' t') ≡ Ok k) ↔ ((v ≡ fine) × (k ≡ n))
outcome_done fine n k s t s' t' = (λ e. (refl, cc), λ e. cc)
outcome_done (refused q) n k s t s' t' = (λ e. (cc, cc), λ e. cc)

-- and one that answers a refusal leaves what was lent
outcome_leaves : (v : Ruling Refusal) (n : ℕ) (s t s' t' : List ℕ) (r : Refusal)
    → answer_of (outcome_or v n s t s' t') ≡ Err r → left (outcome_or v n s t s' t') ≡ memory s t
outcome_leaves fine n s t s' t' r e = cc
outcome_leaves (refused q) n s t s' t' r e = refl

-- whatever a call answers Err, it leaves the memory that was lent
pub refused_leaves : (c : Call) (x : Memory) (r : Refusal) → answered c x ≡ Err r → called c x ≡ x
unfolding answered called start_call add_call amend_call withdraw_call load_call
refused_leaves (start file) (memory s t) r e = outcome_leaves (ruling (start_rules s t file)) _ s t _ _ r e
refused_leaves (add o) (memory s t) r e = outcome_leaves (ruling (add_rules s t o)) _ s t _ _ r e
refused_leaves (amend p o) (memory s t) r e = outcome_leaves (ruling (amend_rules s t p o)) _ s t _ _ r e
refused_leaves (withdraw p) (memory s t) r e = outcome_leaves (ruling (withdraw_rules s t p)) _ s t _ _ r e
refused_leaves (load file) (memory s t) r e = outcome_leaves (ruling (load_rules s t file)) _ s t _ _ r e
