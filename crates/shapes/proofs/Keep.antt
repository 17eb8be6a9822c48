-- What is kept is exactly what the test holds at, once and rising; what a count, `every` and `some` say of each other; and a truth value as a
-- number.
-- Each by induction. Assumes nothing.
use Prim.Native.Nat.{ℕ, zero, suc, ◌+◌, ◌≤◌, ◌<◌}
use mathlib.Core.Path.{◌≡◌, refl, sym}
use mathlib.Core.List.{List, [], ◌∷◌, ◌++◌, append-nil}
use mathlib.Core.Bool.{Bool, true, false, not, ◌&&◌, ◌||◌, false≢true}
use mathlib.Core.Logic.{◌⊎◌, inl, inr, ◌↔◌}
use native.Mathlib.Nat.{eq-or-lt_of_le, zero-add}
use native.Mathlib.Numerals.{add-one}
use native.Mathlib.Omega.{arith}
use lib.Dec.{eqb, ltb}
use lib.ListN.{length, get_or, length-append, get_or-append}
use lib.Seq.{get_or-append_seam}
use mir.Val.{bool_byte}
use borrow.Author.Tests.{eqb-true, eqb-false, eq-eqb, ne_eqb, lt-ltb, le-ltb, ltb-true, ltb-false}
use Rattle.shapes.specs.Keep.{keep_if, keep_to, has, bit, count, every, some, Among, Rising}
use Rattle.shapes.proofs.Tests.{and_true}

-- one number more to test
pub keep_more : (p : ℕ → Bool) (n : ℕ) → keep_to p (n + 1) ≡ keep_to p n ++ keep_if (p n) n
unfolding keep_to
keep_more p n = rw add-one

-- a number is among the numbers of two lists exactly if it is among those of either
pub has_append : (x : ℕ) (l r : List ℕ) → has x (l ++ r) ≡ (has x l || has x r)
unfolding has
has_append x [] r = refl
has_append x (y ∷ l) r = rw (has_append x l r) (go (eqb x y))
  where
    go : (b : Bool) → (b || (has x l || has x r)) ≡ ((b || has x l) || has x r)
    go true = refl
    go false = refl

-- below the next number is below this one, or it
next_below : (x n : ℕ) → ltb x (suc n) ≡ (ltb x n || eqb x n)
next_below x n = go (ltb x n) refl (eqb x n) refl
  where
    go : (a : Bool) → ltb x n ≡ a → (b : Bool) → eqb x n ≡ b → ltb x (suc n) ≡ (a || b)
    go true h b k = lt-ltb x (suc n) (omega (arith, ltb-true x n h))
    go false h true k = lt-ltb x (suc n) (omega (arith, eqb-true x n k))
    go false h false k = le-ltb x (suc n) (apart (eqb-false x n k) (ltb-false x n h))
      where
        apart : (x ≡ n → ⊥) → n ≤ x → suc n ≤ x
        apart other le = omega arith

-- nothing more is or-ed in
or_none : (b : Bool) → (b || false) ≡ b
or_none true = refl
or_none false = refl

-- a number is kept exactly if it is below n and the test holds at it
pub kept : (p : ℕ → Bool) (n x : ℕ) → has x (keep_to p n) ≡ (ltb x n && p x)
unfolding keep_to has
kept p zero x = rw (le-ltb x 0 (omega arith))
kept p (suc n) x = rw (has_append x (keep_to p n) (keep_if (p n) n), kept p n x, next_below) (go (p n) refl (eqb x n) refl (ltb x n))
  where
    go : (b : Bool) → p n ≡ b → (e : Bool) → eqb x n ≡ e → (l : Bool) → ((l && p x) || has x (keep_if b n)) ≡ ((l || e) && p x)
    go true t true k true = rw (eqb-true x n k, t)
    go true t true k false = rw (eqb-true x n k, t, eq-eqb n n refl)
    go true t false k true = rw k (or_none (p x))
    go true t false k false = rw k
    go false t true k true = rw (eqb-true x n k, t)
    go false t true k false = rw (eqb-true x n k, t)
    go false t false k true = or_none (p x)
    go false t false k false = refl

-- tests that agree below n keep the same
pub keep_same : (p q : ℕ → Bool) (n : ℕ) → ((i : ℕ) → i < n → p i ≡ q i) → keep_to p n ≡ keep_to q n
unfolding keep_to
keep_same p q zero e = refl
keep_same p q (suc n) e = rw (keep_same p q n (λ i l. e i (omega arith)), e n (omega arith))

-- what is kept is below n
pub kept_below : (p : ℕ → Bool) (n i : ℕ) → i < length (keep_to p n) → get_or (keep_to p n) i 0 < n
unfolding keep_to
kept_below p zero i h = absurd (omega arith)
kept_below p (suc n) i h = go (p n) (kept_below p n i) h
  where
    go : (b : Bool) → (i < length (keep_to p n) → get_or (keep_to p n) i 0 < n) → i < length (keep_to p n ++ keep_if b n)
        → get_or (keep_to p n ++ keep_if b n) i 0 < suc n
    go true rest h = last (eq-or-lt_of_le (fits (rw length-append at h)))
      where
        fits : i < length (keep_to p n) + 1 → i ≤ length (keep_to p n)
        fits l = omega arith

        last : (i ≡ length (keep_to p n)) ⊎ (i < length (keep_to p n)) → get_or (keep_to p n ++ (n ∷ [])) i 0 < suc n
        last (inl e) = rw (e, get_or-append_seam (keep_to p n) n [] 0) (omega arith)
        last (inr l) = rw (get_or-append (keep_to p n) (n ∷ []) 0 i l) (omega (arith, rest l))
    go false rest h = rw append-nil (omega (arith, rest (rw append-nil at h)))

-- and rises strictly, so each stands once
pub kept_rising : (p : ℕ → Bool) (n : ℕ) → Rising (keep_to p n)
unfolding keep_to
kept_rising p zero i j h k = absurd (omega arith)
kept_rising p (suc n) i j h k = go (p n) (kept_rising p n i j h) (kept_below p n i) k
  where
    go : (b : Bool) → (j < length (keep_to p n) → get_or (keep_to p n) i 0 < get_or (keep_to p n) j 0)
        → (i < length (keep_to p n) → get_or (keep_to p n) i 0 < n) → j < length (keep_to p n ++ keep_if b n)
        → get_or (keep_to p n ++ keep_if b n) i 0 < get_or (keep_to p n ++ keep_if b n) j 0
    go true rest low k = last (eq-or-lt_of_le (fits (rw length-append at k)))
      where
        fits : j < length (keep_to p n) + 1 → j ≤ length (keep_to p n)
        fits l = omega arith

        last : (j ≡ length (keep_to p n)) ⊎ (j < length (keep_to p n))
            → get_or (keep_to p n ++ (n ∷ [])) i 0 < get_or (keep_to p n ++ (n ∷ [])) j 0
        last (inl e) =
            let l : i < length (keep_to p n) = omega arith in
            rw (e, get_or-append_seam (keep_to p n) n [] 0, get_or-append (keep_to p n) (n ∷ []) 0 i l) (low l)
        last (inr l) =
            let m : i < length (keep_to p n) = omega arith in
            rw (get_or-append (keep_to p n) (n ∷ []) 0 i m, get_or-append (keep_to p n) (n ∷ []) 0 j l) (rest l)
    go false rest low k = rw append-nil (rest (rw append-nil at k))

-- what is true is true or-ed with anything
or_right : (a b : Bool) → b ≡ true → (a || b) ≡ true
or_right true b e = refl
or_right false b e = e

-- a number is among numbers exactly if it stands at one of their places
pub has_at : (x : ℕ) (l : List ℕ) → (has x l ≡ true) ↔ ((i : ℕ) × ((i < length l) × (get_or l i 0 ≡ x)))
unfolding has
has_at x [] = (λ e. absurd (false≢true e), λ h. absurd (omega (arith, h.1.0)))
has_at x (y ∷ l) = (λ e. there (has_at x l).0 (eqb x y) refl e, λ h. back (has_at x l).1 h.0 h.1.0 h.1.1)
  where
    At : Type 0
    At = (i : ℕ) × ((i < length l) × (get_or l i 0 ≡ x))

    there : (has x l ≡ true → At) → (b : Bool) → eqb x y ≡ b → (b || has x l) ≡ true → (i : ℕ) × ((i < suc (length l)) × (get_or (y ∷ l) i 0 ≡ x))
    there rest true h e = (zero, (omega arith, sym (eqb-true x y h)))
    there rest false h e = let r = rest e in (suc r.0, (omega (arith, r.1.0), r.1.1))

    back : (At → has x l ≡ true) → (i : ℕ) → i < suc (length l) → get_or (y ∷ l) i 0 ≡ x → (eqb x y || has x l) ≡ true
    back rest zero h e = rw (eq-eqb x y (sym e))
    back rest (suc i) h e = or_right (eqb x y) (has x l) (rest (i, (omega arith, e)))

-- a truth value, cast to a number by the code, is 1 for true and 0 for false
pub bit_told : {r b : Bool} → r ≡ b → (bool_byte r ≡ bit b) × (bool_byte r ≤ 1)
bit_told {r} {b} e = rw e (go b)
  where
    go : (b : Bool) → (bool_byte b ≡ bit b) × (bool_byte b ≤ 1)
    go true = (refl, omega arith)
    go false = (refl, omega arith)

module _ {A : Type 0} (p : A → Bool) where
  -- one more counts by whether the test holds for it, wherever it stands
  pub count_among : (l : List A) (x : A) (r : List A) → count p (l ++ (x ∷ r)) ≡ bit (p x) + count p (l ++ r)
  unfolding count
  count_among [] x r = refl
  count_among (y ∷ l) x r = let e = count_among l x r in omega arith

  -- at most all of a list are counted
  pub count_most : (l : List A) → count p l ≤ length l
  unfolding count
  count_most [] = omega arith
  count_most (x ∷ l) = go (p x) (count_most l)
    where
      go : (b : Bool) → count p l ≤ length l → bit b + count p l ≤ suc (length l)
      go true h = omega arith
      go false h = omega arith

  -- the test holds for every one exactly if it fails for none
  pub every_count : (l : List A) → every p l ≡ eqb (count (λ x. not (p x)) l) 0
  unfolding count every
  every_count [] = refl
  every_count (x ∷ l) = go (p x) (every_count l)
    where
      go : (b : Bool) → every p l ≡ eqb (count (λ x. not (p x)) l) 0
          → (b && every p l) ≡ eqb (bit (not b) + count (λ x. not (p x)) l) 0
      go true e = rw zero-add e
      go false e = sym (ne_eqb (1 + count (λ x. not (p x)) l) 0 (λ h. omega arith))

  -- it holds for every one exactly if it holds for each of them
  pub every_among : (l : List A) → (every p l ≡ true) ↔ ((x : A) → Among x l → p x ≡ true)
  unfolding every
  every_among [] = (λ e x h. absurd h, λ each. refl)
  every_among (y ∷ l) = (λ e. let b = and_true (p y) (every p l) e in there b.0 ((every_among l).0 b.1), λ each. rw (each y (inl refl)) ((every_among l).1 (λ x h. each x (inr h))))
    where
      there : p y ≡ true → ((x : A) → Among x l → p x ≡ true) → (x : A) → (x ≡ y) ⊎ Among x l → p x ≡ true
      there here rest x (inl h) = rw h here
      there here rest x (inr h) = rest x h

  -- and for some exactly if it holds for one of them
  pub some_among : (l : List A) → (some p l ≡ true) ↔ ((x : A) × (Among x l × (p x ≡ true)))
  unfolding some
  some_among [] = (λ e. absurd (false≢true e), λ h. absurd h.1.0)
  some_among (y ∷ l) = (λ e. there (some_among l).0 (p y) refl e, λ h. back (some_among l).1 h.0 h.1.0 h.1.1)
    where
      One : Type 0
      One = (x : A) × (Among x l × (p x ≡ true))

      there : (some p l ≡ true → One) → (b : Bool) → p y ≡ b → (b || some p l) ≡ true → (x : A) × (((x ≡ y) ⊎ Among x l) × (p x ≡ true))
      there rest true h e = (y, (inl refl, h))
      there rest false h e = let r = rest e in (r.0, (inr r.1.0, r.1.1))

      back : (One → some p l ≡ true) → (x : A) → (x ≡ y) ⊎ Among x l → p x ≡ true → (p y || some p l) ≡ true
      back rest x (inl h) e = let q : p y ≡ true = rw h at e in rw q
      back rest x (inr h) e = or_right (p y) (some p l) (rest (x, (h, e)))
