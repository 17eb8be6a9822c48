-- What a search through the numbers below n finds is the first of them at which the test holds.
-- Assumes nothing.
use Prim.Native.Nat.{ℕ, ◌≤◌, ◌<◌}
use mathlib.Core.Path.{◌≡◌, refl, sym, ◌∙◌}
use mathlib.Core.Bool.{Bool, true, false, cond, true≢false}
use lib.Dec.{ltb, eqb}
use mathlib.Core.Logic.{◌⊎◌, inl, inr}
use native.Mathlib.Omega.{arith}
use borrow.Author.Tests.{lt-ltb, le-ltb, ltb-true, ltb-false, ne_eqb, eq-eqb}
use Rattle.std.specs.Prelude.{Option, Some, None}
use Rattle.std.specs.Option.{MatchOption, is_none}
use Rattle.std.proofs.lemmas.Bool.{cases_order}
use Rattle.shapes.specs.First.{first, found}
use Rattle.shapes.proofs.First.{first_none, first_high, first_holds, first_before}

module _ (p : ℕ → Bool) (n : ℕ) where
  -- a number at which the test holds, and below which it holds at none, is the first
  first_is : (i : ℕ) → i < n → p i ≡ true → ((k : ℕ) → 0 ≤ k → k < i → p k ≡ false) → first p 0 n ≡ i
  first_is i l here none = go (cases_order (first p 0 n) i)
    where
      go : (first p 0 n ≡ i) ⊎ ((first p 0 n < i) ⊎ (i < first p 0 n)) → first p 0 n ≡ i
      go (inl e) = e
      go (inr (inl low)) = absurd (true≢false (sym (first_holds p 0 n (omega arith)) ∙ none (first p 0 n) (omega arith) low))
      go (inr (inr high)) = absurd (true≢false (sym here ∙ first_before p 0 n i (omega arith) high))

  -- so it is what a search ends with
  pub found_first : (r : Option ℕ) → MatchOption r ((k : ℕ) → 0 ≤ k → k < n → p k ≡ false)
      (λ i. (0 ≤ i) × (i < n) × (p i ≡ true) × ((k : ℕ) → 0 ≤ k → k < i → p k ≡ false))
      → r ≡ found (first p 0 n) n
  found_first None none = rw (first_none p 0 n (λ i low l. none i low (omega arith)), native.Mathlib.Nat.zero-add, le-ltb n n (omega arith))
  found_first (Some i) h = rw (first_is i h.1 h.2 h.3, lt-ltb i n h.1)

  -- and it ends with none exactly if the first lies after them
  pub found_none : is_none (found (first p 0 n) n) ≡ eqb (first p 0 n) n
  found_none = go (ltb (first p 0 n) n) refl
    where
      go : (b : Bool) → ltb (first p 0 n) n ≡ b → is_none (cond b (Some (first p 0 n)) None) ≡ eqb (first p 0 n) n
      go true e = let l = ltb-true (first p 0 n) n e in sym (ne_eqb (first p 0 n) n (λ same. omega arith))
      go false e = let l = ltb-false (first p 0 n) n e in let h = first_high p 0 n in sym (eq-eqb (first p 0 n) n (omega (arith, rw native.Mathlib.Nat.zero-add at h)))

-- a number that was found below n is the one that was looked for
pub found_at : (x n : ℕ) {i : ℕ} → found x n ≡ Some i → (x ≡ i) × (x < n)
found_at x n {i} = go (ltb x n) refl
  where
    go : (b : Bool) → ltb x n ≡ b → cond b (Some x) None ≡ Some i → (x ≡ i) × (x < n)
    go true e d = (cc, ltb-true x n e)
    go false e d = absurd cc

-- and one that was not lies past them
pub found_past : (x n : ℕ) → found x n ≡ None → n ≤ x
found_past x n = go (ltb x n) refl
  where
    go : (b : Bool) → ltb x n ≡ b → cond b (Some x) None ≡ None → n ≤ x
    go true e d = absurd cc
    go false e d = ltb-false x n e
