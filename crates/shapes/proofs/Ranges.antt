-- What an iterator's `all` and `filter` over the numbers below a bound give, and `all` over a part of a slice, said by the shapes of a test
-- loop. Each of the closures has to compute the test.
-- Assumes nothing.
use Prim.Native.Nat.{ℕ, zero, suc, ◌+◌, ◌≤◌, ◌<◌}
use mathlib.Core.Path.{◌≡◌, refl, sym, ap, ◌∙◌}
use mathlib.Core.Logic.{◌≢◌}
use mathlib.Core.Bool.{Bool, true, false, cond, not, ◌&&◌}
use mathlib.Core.List.{List, [], ◌∷◌, ◌++◌}
use native.Mathlib.Numerals.{add-one}
use native.Mathlib.Nat.{zero-add, add-zero}
use native.Mathlib.Omega.{arith}
use lib.Dec.{eqb}
use lib.ListN.{length, get_or, take, drop, length-drop}
use lib.Seq.{length-take-le, get_or-take, get_or-drop}
use borrow.Author.Tests.{eq-eqb, ne_eqb}
use denote.Param.Members.{Mut}
use Rattle.std.specs.Bool.{MatchBool}
use Rattle.std.specs.Fn.{Called}
use Rattle.std.specs.Iterator.{YieldsThen}
use Rattle.std.specs.List.{FoldsTo, list_all, filter, range_with_len, AllWithin, HoldsAt}
use Rattle.std.specs.Option.{MatchOption}
use Rattle.std.specs.declared.ops.Range.{Range}
use Rattle.std.specs.declared.option.Option.{Option}
use Rattle.std.proofs.iter.Yields.{nat_range_steps}
use Rattle.std.proofs.lemmas.Iterator.{YieldsList-from_range}
use Rattle.std.proofs.lemmas.Iterator.Search.{all_from_yields_List}
use Rattle.std.proofs.lemmas.List.Elements.{filter-append}
use Rattle.shapes.specs.First.{first, all_to, zeros}
use Rattle.shapes.specs.Keep.{keep_if, keep_to}
use Rattle.shapes.proofs.First.{all_from, all_fails}

-- the numbers below a bound, from `at` on, pass a test all where no loop finds one that fails it
all_listed : (p : ℕ → Bool) (at n : ℕ) → list_all p (range_with_len at n) ≡ eqb (first (λ i. not (p i)) at n) (at + n)
unfolding first
all_listed p at zero = sym (eq-eqb at (at + 0) (omega arith))
all_listed p at (suc n) = go (p at) (all_listed p (suc at) n)
  where
    go : (b : Bool) → list_all p (range_with_len (suc at) n) ≡ eqb (first (λ i. not (p i)) (suc at) n) (suc at + n)
        → (b && list_all p (range_with_len (at + 1) n)) ≡ eqb (cond (not b) at (first (λ i. not (p i)) (suc at) n)) (at + suc n)
    go true rest = let e : at + suc n ≡ suc at + n = omega arith in rw (e, add-one) rest
    go false rest = sym (ne_eqb at (at + suc n) (λ e. omega arith))

module _ {F : Type 0} (p : ℕ → Bool) (n : ℕ) (u : Range ℕ) (f : F) where
  -- `(0..n).all(p)`
  pub all_range : {g : Mut F (ℕ × Unit {0}) Bool} (r : Bool)
      → (xs : List ℕ) × (o : Option ℕ) × (j : F) × YieldsThen nat_range_steps (record { start = 0; end = n }) xs o u × FoldsTo (λ p x q. Called g p (x, tt) true q) f xs j × MatchOption o (r ≡ true) (λ x. (r ≡ false) × ((h : F) × Called g j (x, tt) false h))
      → ((x : ℕ) (b : Bool) (q : F) → Called g f (x, tt) b q → (q ≡ f) × (b ≡ p x)) → r ≡ all_to p n
  unfolding all_to
  all_range r ran says = all_from_yields_List p _ _ r ran (YieldsList-from_range 0 n n refl (omega arith)) says ∙ rw zero-add at (all_listed p 0 n)

-- one number more is the next one,
range_more : (at n : ℕ) → range_with_len at (suc n) ≡ range_with_len at n ++ ((at + n) ∷ [])
range_more at zero = rw add-zero
range_more at (suc n) = let e : at + 1 + n ≡ at + suc n = omega arith in rw (range_more (at + 1) n, e)

-- so those that pass a test are those that a loop keeps
pub keep_listed : (p : ℕ → Bool) (n : ℕ) → filter p (range_with_len 0 n) ≡ keep_to p n
unfolding keep_to
keep_listed p zero = refl
keep_listed p (suc n) = ap (filter p) (range_more 0 n) ∙ rw (filter-append, keep_listed p n, zero-add) (go (p n))
  where
    go : (b : Bool) → keep_to p n ++ cond b (n ∷ []) [] ≡ keep_to p n ++ keep_if b n
    go true = refl
    go false = refl

-- `all` over a part of a slice, with the test whether a number is 0
pub zeros_part : (l : List ℕ) (at n : ℕ) (r : Bool) (xs : List ℕ) → xs ≡ take n (drop at l) → at + n ≤ length l
    → MatchBool r (AllWithin (λ x. x ≡ 0) xs 0 (length xs)) ((k : ℕ) × (k < length xs) × HoldsAt (λ x. x ≢ 0) xs k) → r ≡ zeros l at n
unfolding zeros
zeros_part l at n r xs e room told = go r told
  where
    long : length xs ≡ n
    long = rw e (length-take-le n (drop at l) (omega (arith, length-drop at l)))

    same : (i : ℕ) → i < n → get_or xs i 0 ≡ get_or l (at + i) 0
    same i h = rw e (get_or-take n (drop at l) i 0 h ∙ get_or-drop at l i 0)

    go : (r : Bool) → MatchBool r (AllWithin (λ x. x ≡ 0) xs 0 (length xs)) ((k : ℕ) × (k < length xs) × HoldsAt (λ x. x ≢ 0) xs k)
        → r ≡ all_to (λ i. eqb (get_or l (at + i) 0) 0) n
    go true each = sym (all_from _ n (λ i h. eq-eqb _ 0 (sym (same i h) ∙ each i 0 (omega arith) (omega (arith, long)))))
    go false one = let h : one.0 < n = omega (arith, long, one.1) in sym (all_fails _ n one.0 h (ne_eqb _ 0 (λ z. one.2 0 (same one.0 h ∙ z))))
