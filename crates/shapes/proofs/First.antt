-- What `first` finds. Each by induction on the places left.
-- Assumes nothing.
use Prim.Native.Nat.{ℕ, zero, suc, ◌+◌, ◌≤◌, ◌<◌}
use mathlib.Core.Path.{◌≡◌, refl, sym, ap, ◌∙◌}
use mathlib.Core.Bool.{Bool, true, false, cond, not, true≢false}
use mathlib.Core.Logic.{◌⊎◌, inl, inr}
use native.Mathlib.Nat.{eq-or-lt_of_le}
use native.Mathlib.Omega.{arith}
use borrow.Author.Tests.{eq-eqb, ne_eqb, eqb-true, not-false}
use Rattle.shapes.specs.First.{first, all_to}

module _ (p : ℕ → Bool) where
  -- it lies among the places looked at, or right after them
  pub first_low : (at left : ℕ) → at ≤ first p at left
  unfolding first
  first_low at zero = omega arith
  first_low at (suc left) = go (p at) (first_low (suc at) left)
    where
      go : (b : Bool) → suc at ≤ first p (suc at) left → at ≤ cond b at (first p (suc at) left)
      go true h = omega arith
      go false h = omega arith

  pub first_high : (at left : ℕ) → first p at left ≤ at + left
  unfolding first
  first_high at zero = omega arith
  first_high at (suc left) = go (p at) (first_high (suc at) left)
    where
      go : (b : Bool) → first p (suc at) left ≤ suc at + left → cond b at (first p (suc at) left) ≤ at + suc left
      go true h = omega arith
      go false h = omega arith

  -- where it lies among them the test holds there
  pub first_holds : (at left : ℕ) → first p at left < at + left → p (first p at left) ≡ true
  unfolding first
  first_holds at zero h = absurd (omega arith)
  first_holds at (suc left) h = go (p at) refl (first_holds (suc at) left) h
    where
      go : (b : Bool) → p at ≡ b → (first p (suc at) left < suc at + left → p (first p (suc at) left) ≡ true)
          → cond b at (first p (suc at) left) < at + suc left → p (cond b at (first p (suc at) left)) ≡ true
      go true e rest h = e
      go false e rest h = rest (omega arith)

  -- where it holds at none of them it is the place after them
  pub first_none : (at left : ℕ) → ((i : ℕ) → at ≤ i → i < at + left → p i ≡ false) → first p at left ≡ at + left
  unfolding first
  first_none at zero none = omega arith
  first_none at (suc left) none =
      rw (none at (omega arith) (omega arith), first_none (suc at) left (λ i l k. none i (omega arith) (omega arith))) (omega arith)

  -- and it holds at none before
  pub first_before : (at left i : ℕ) → at ≤ i → i < first p at left → p i ≡ false
  unfolding first
  first_before at zero i low high = absurd (omega arith)
  first_before at (suc left) i low high = go (p at) refl (first_before (suc at) left i) (eq-or-lt_of_le low) high
    where
      go : (b : Bool) → p at ≡ b → (suc at ≤ i → i < first p (suc at) left → p i ≡ false) → (at ≡ i) ⊎ (at < i)
          → i < cond b at (first p (suc at) left) → p i ≡ false
      go true e rest s high = absurd (omega arith)
      go false e rest (inl here) high = rw (← here) e
      go false e rest (inr past) high = rest past high

-- tests that agree on the places looked at find the same place
pub first_same : (p q : ℕ → Bool) (at left : ℕ) → ((i : ℕ) → at ≤ i → i < at + left → p i ≡ q i) → first p at left ≡ first q at left
unfolding first
first_same p q at zero e = refl
first_same p q at (suc left) e = rw (e at (omega arith) (omega arith), first_same p q (suc at) left (λ i l k. e i (omega arith) (omega arith)))

-- the test holds at every place: where no loop finds one at which it fails ..
pub all_from : (p : ℕ → Bool) (n : ℕ) → ((i : ℕ) → i < n → p i ≡ true) → all_to p n ≡ true
unfolding all_to
all_from p n each =
    let none = first_none (λ i. not (p i)) 0 n (λ i low l. ap not (each i (omega arith))) in
    eq-eqb (first (λ i. not (p i)) 0 n) n (omega arith)

-- .. as it does not where it fails at one ..
pub all_fails : (p : ℕ → Bool) (n i : ℕ) → i < n → p i ≡ false → all_to p n ≡ false
unfolding all_to
all_fails p n i l e = ne_eqb (first (λ j. not (p j)) 0 n) n (λ same. absurd (true≢false (ap not (sym e) ∙ good (omega arith))))
  where
    good : i < first (λ j. not (p j)) 0 n → not (p i) ≡ false
    good k = first_before (λ j. not (p j)) 0 n i (omega arith) k

-- .. and where it holds at every place it holds at each
pub all_at : (p : ℕ → Bool) (n : ℕ) → all_to p n ≡ true → (i : ℕ) → i < n → p i ≡ true
unfolding all_to
all_at p n e i l =
    let same = eqb-true (first (λ j. not (p j)) 0 n) n e in
    not-false (p i) (first_before (λ j. not (p j)) 0 n i (omega arith) (omega arith))

-- tests that agree at every place hold at every place both, or neither does
pub all_same : (p q : ℕ → Bool) (n : ℕ) → ((i : ℕ) → i < n → p i ≡ q i) → all_to p n ≡ all_to q n
unfolding all_to
all_same p q n each = rw (first_same (λ i. not (p i)) (λ i. not (q i)) 0 n (λ i low l. ap not (each i (omega arith))))
