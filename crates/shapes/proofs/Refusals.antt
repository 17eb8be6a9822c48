-- Refused exactly when, and fine exactly when: once for the list of any call. Each by induction on the rules.
-- Assumes nothing.
use Prim.Native.Nat.{ℕ}
use mathlib.Core.Path.{◌≡◌, refl}
use mathlib.Core.Bool.{Bool, true, false}
use mathlib.Core.Logic.{◌⊎◌, inl, inr, ◌↔◌}
use mathlib.Core.List.{List, [], ◌∷◌, ◌++◌}
use native.Mathlib.Omega.{arith}
use Rattle.shapes.specs.Refusals.{Rule, when, fine, refused, ruling, AllFalse, RefusedBy}

-- one statement after the other
pub through : {A B C : Type 0} → A ↔ B → B ↔ C → A ↔ C
through f g = (λ a. g.0 (f.0 a), λ c. f.1 (g.1 c))

module _ {R : Type 0} where
  -- a true test refuses, whatever comes after
  pub ruling_here : {t : Bool} (r : R) (l : List (Rule R)) → t ≡ true → ruling (when t r ∷ l) ≡ refused r
  unfolding ruling
  ruling_here r l e = rw e

  -- a false test leaves it to the rules after
  pub ruling_past : {t : Bool} (r : R) (l : List (Rule R)) → t ≡ false → ruling (when t r ∷ l) ≡ ruling l
  unfolding ruling
  ruling_past r l e = rw e

  -- where no rule is left it is fine
  pub ruling_end : ruling {R = R} [] ≡ fine
  unfolding ruling
  ruling_end = refl

  -- refused with r exactly if the first rule whose test is true is one of r
  pub refused_when : (l : List (Rule R)) (r : R) → (ruling l ≡ refused r) ↔ RefusedBy l r
  unfolding ruling
  refused_when [] r = (λ e. let z : ◌≡◌ {A = ℕ} 0 1 = cc in omega arith, λ h. absurd h)
  refused_when (when true q ∷ l) r = (λ e. inl (refl, cc), go)
    where
      go : ((true ≡ true) × (q ≡ r)) ⊎ ((true ≡ false) × RefusedBy l r) → refused q ≡ refused r
      go (inl h) = cc
      go (inr h) = let z : ◌≡◌ {A = ℕ} 0 1 = cc in absurd (omega arith)
  refused_when (when false q ∷ l) r = (λ e. inr (refl, (refused_when l r).0 e), go (refused_when l r).1)
    where
      go : (RefusedBy l r → ruling l ≡ refused r) → ((false ≡ true) × (q ≡ r)) ⊎ ((false ≡ false) × RefusedBy l r) → ruling l ≡ refused r
      go rest (inl h) = let z : ◌≡◌ {A = ℕ} 0 1 = cc in absurd (omega arith)
      go rest (inr h) = rest h.1

  -- fine exactly if every rule's test is false
  pub fine_when : (l : List (Rule R)) → (ruling l ≡ fine) ↔ AllFalse l
  unfolding ruling
  fine_when [] = (λ e. tt, λ h. refl)
  fine_when (when true q ∷ l) =
      (λ e. let z : ◌≡◌ {A = ℕ} 0 1 = cc in absurd (omega arith), λ h. let z : ◌≡◌ {A = ℕ} 0 1 = cc in absurd (omega arith))
  fine_when (when false q ∷ l) = (λ e. (refl, (fine_when l).0 e), λ h. (fine_when l).1 h.1)

  -- what some rules refuse, more rules after them refuse alike
  pub ruling_join_refused : (l m : List (Rule R)) (r : R) → ruling l ≡ refused r → ruling (l ++ m) ≡ refused r
  unfolding ruling
  ruling_join_refused [] m r e = let z : ◌≡◌ {A = ℕ} 0 1 = cc in absurd (omega arith)
  ruling_join_refused (when true q ∷ l) m r e = e
  ruling_join_refused (when false q ∷ l) m r e = ruling_join_refused l m r e

  -- where some rules say nothing, the rules after them decide
  pub ruling_join_fine : (l m : List (Rule R)) → ruling l ≡ fine → ruling (l ++ m) ≡ ruling m
  unfolding ruling
  ruling_join_fine [] m e = refl
  ruling_join_fine (when true q ∷ l) m e = let z : ◌≡◌ {A = ℕ} 0 1 = cc in absurd (omega arith)
  ruling_join_fine (when false q ∷ l) m e = ruling_join_fine l m e

  -- rules that say nothing together say nothing in either part
  pub ruling_joined : (l m : List (Rule R)) → ruling (l ++ m) ≡ fine → (ruling l ≡ fine) × (ruling m ≡ fine)
  unfolding ruling
  ruling_joined [] m e = (refl, e)
  ruling_joined (when true q ∷ l) m e = let z : ◌≡◌ {A = ℕ} 0 1 = cc in absurd (omega arith)
  ruling_joined (when false q ∷ l) m e = ruling_joined l m e
