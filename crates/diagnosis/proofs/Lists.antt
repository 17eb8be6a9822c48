-- Demand 2: what is listed, what the tallies say of the list, and what each verdict says. From the laws of `keep_to`, `count`, `every` and `some`.
-- Assumes nothing.
use Prim.Native.Nat.{ℕ, ◌+◌, ◌≤◌, ◌<◌}
use mathlib.Core.Path.{◌≡◌, refl, sym, ◌∙◌}
use mathlib.Core.List.{List, [], ◌∷◌, ◌++◌}
use mathlib.Core.Bool.{Bool, true, false, ◌&&◌, ◌||◌, true≢false}
use mathlib.Core.Logic.{◌↔◌}
use native.Mathlib.Omega.{arith}
use lib.Dec.{eqb, ltb}
use borrow.Author.Tests.{eq-eqb}
use Rattle.shapes.specs.Keep.{keep_to, has, bit, count, Rising}
use Rattle.shapes.proofs.Keep.{kept, kept_rising, keep_same, count_among, every_count}
use Rattle.machine.specs.Head.{numbers}
use Rattle.machine.specs.Fault.{changed, alters, fault_of, is_fault}
use Rattle.machine.specs.Case.{Case}
use Rattle.machine.specs.declared.head.Head.{Head}
use Rattle.diagnosis.specs.Diagnosis.{explains, fails, misses, tally, explains_all, is_listed, list, some_fails, verdict_of}
use Rattle.diagnosis.specs.declared.Verdict.TheVariants as verdicts

module _ (h : Head) (cells : List ℕ) (cs : List Case) where
  -- a number is listed exactly if it is a fault and its machine reproduces every held case ..
  pub listed_exactly : (f : ℕ) → has f (list h cells cs) ≡ (is_fault h cells f && explains_all h cells cs f)
  unfolding list is_listed is_fault
  listed_exactly f = kept (is_listed h cells cs) (numbers h) f ∙ once (ltb f (numbers h)) (alters h cells (fault_of h f)) (explains_all h cells cs f)
    where
      once : (b a e : Bool) → (b && ((b && a) && e)) ≡ ((b && a) && e)
      once true a e = refl
      once false a e = refl

  -- .. each once, strictly rising
  pub listed_rising : Rising (list h cells cs)
  unfolding list
  listed_rising = kept_rising (is_listed h cells cs) (numbers h)

  -- a tally is 0 exactly if the number's machine reproduces every held case
  pub tally_zero : (f : ℕ) → eqb (tally h cells cs f) 0 ≡ explains_all h cells cs f
  unfolding tally misses fails explains_all
  tally_zero f = sym (every_count (explains (changed h cells f)) cs)

  -- so the list by tallies is the list by replay, wherever the tallies are true
  pub list_by_tallies : (T : ℕ → ℕ) → ((f : ℕ) → f < numbers h → T f ≡ tally h cells cs f)
      → keep_to (λ f. is_fault h cells f && eqb (T f) 0) (numbers h) ≡ list h cells cs
  unfolding list is_listed
  list_by_tallies T true_tallies =
      keep_same (λ f. is_fault h cells f && eqb (T f) 0) (is_listed h cells cs) (numbers h)
      (λ f l. rw (true_tallies f l, tally_zero f))

  -- the list is empty exactly if no number is listed
  pub empty_exactly : (list h cells cs ≡ []) ↔ ((f : ℕ) → (is_fault h cells f && explains_all h cells cs f) ≡ false)
  unfolding has
  empty_exactly =
      (λ e f. sym (listed_exactly f) ∙ rw e, λ none. go (list h cells cs) refl (λ f. listed_exactly f ∙ none f))
    where
      go : (l : List ℕ) → list h cells cs ≡ l → ((f : ℕ) → has f (list h cells cs) ≡ false) → list h cells cs ≡ []
      go [] e none = e
      go (x ∷ l) e none = absurd (true≢false (sym (held x l) ∙ (rw e at (none x))))
        where
          held : (x : ℕ) (l : List ℕ) → (eqb x x || has x l) ≡ true
          held x l = rw (eq-eqb x x refl)

  -- CLEAR exactly if no held case fails, also with none held
  pub clear_exactly : (verdict_of (some_fails h cells cs) (list h cells cs) ≡ verdicts.Clear) ↔ (some_fails h cells cs ≡ false)
  clear_exactly = (go (some_fails h cells cs) (list h cells cs), λ e. rw e)
    where
      go : (b : Bool) (l : List ℕ) → verdict_of b l ≡ verdicts.Clear → b ≡ false
      go false l e = refl
      go true [] e = cc
      go true (x ∷ l) e = cc

  -- NONE exactly if some case fails and no fault explains all
  pub none_exactly : (verdict_of (some_fails h cells cs) (list h cells cs) ≡ verdicts.None)
      ↔ ((some_fails h cells cs ≡ true) × ((f : ℕ) → (is_fault h cells f && explains_all h cells cs f) ≡ false))
  none_exactly = (
    λ e. let p = go (some_fails h cells cs) (list h cells cs) e in (p.0, empty_exactly.0 p.1),
    λ p. rw (p.0, empty_exactly.1 p.1),
  )
    where
      go : (b : Bool) (l : List ℕ) → verdict_of b l ≡ verdicts.None → (b ≡ true) × (l ≡ [])
      go false l e = (cc, cc)
      go true [] e = (refl, refl)
      go true (x ∷ l) e = (refl, cc)

  -- FOUND exactly if some case fails and the list isn't empty
  pub found_exactly : (verdict_of (some_fails h cells cs) (list h cells cs) ≡ verdicts.Found)
      ↔ ((some_fails h cells cs ≡ true) × ((list h cells cs ≡ []) → ⊥))
  found_exactly = (go (some_fails h cells cs) (list h cells cs), λ p. back (some_fails h cells cs) (list h cells cs) p.0 p.1)
    where
      go : (b : Bool) (l : List ℕ) → verdict_of b l ≡ verdicts.Found → (b ≡ true) × ((l ≡ []) → ⊥)
      go false l e = let z : ◌≡◌ {A = ℕ} 0 1 = cc in absurd (omega arith)
      go true [] e = let z : ◌≡◌ {A = ℕ} 0 1 = cc in absurd (omega arith)
      go true (x ∷ l) e = (refl, λ none. let z : ◌≡◌ {A = ℕ} 0 1 = cc in omega arith)

      back : (b : Bool) (l : List ℕ) → b ≡ true → ((l ≡ []) → ⊥) → verdict_of b l ≡ verdicts.Found
      back false l e some = cc
      back true [] e some = absurd (some refl)
      back true (x ∷ l) e some = refl

-- one case more or less moves a tally by at most one, wherever it stands
pub tally_one : (h : Head) (cells : List ℕ) (l : List Case) (c : Case) (r : List Case) (f : ℕ)
    → (tally h cells (l ++ r) f ≤ tally h cells (l ++ (c ∷ r)) f) × (tally h cells (l ++ (c ∷ r)) f ≤ tally h cells (l ++ r) f + 1)
unfolding tally
tally_one h cells l c r f = go (misses h cells f c) (count_among (misses h cells f) l c r)
  where
    go : (b : Bool) → count (misses h cells f) (l ++ (c ∷ r)) ≡ bit b + count (misses h cells f) (l ++ r)
        → (count (misses h cells f) (l ++ r) ≤ count (misses h cells f) (l ++ (c ∷ r)))
        × (count (misses h cells f) (l ++ (c ∷ r)) ≤ count (misses h cells f) (l ++ r) + 1)
    go true e = (omega arith, omega arith)
    go false e = (omega arith, omega arith)

-- one case amended moves no tally by more than one
pub tally_changed : (h : Head) (cells : List ℕ) (l : List Case) (c d : Case) (r : List Case) (f : ℕ)
    → (tally h cells (l ++ (c ∷ r)) f ≤ tally h cells (l ++ (d ∷ r)) f + 1)
    × (tally h cells (l ++ (d ∷ r)) f ≤ tally h cells (l ++ (c ∷ r)) f + 1)
tally_changed h cells l c d r f =
    let old = tally_one h cells l c r f in
    let new = tally_one h cells l d r f in
    (omega arith, omega arith)
