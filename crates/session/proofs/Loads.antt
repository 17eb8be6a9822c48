-- Cases loaded into an empty model are held in order. While the places below n hold cases and all from n on are free, the lowest free place is
-- n: a case put in comes right after those below n, and then the places below n + 1 hold cases and all from n + 1 on are free.
-- Assumes nothing.
use Prim.Native.Nat.{ℕ, zero, suc, ◌+◌, ◌-◌, ◌≤◌, ◌<◌}
use mathlib.Core.Path.{◌≡◌, refl, sym, ap, ◌∙◌}
use mathlib.Core.List.{List, [], ◌∷◌, ◌++◌, append-nil, append_assoc}
use mathlib.Core.Bool.{Bool, true, false, cond, not}
use mathlib.Core.Logic.{◌⊎◌, inl, inr}
use native.Mathlib.Nat.{eq-or-lt_of_le, add-zero, add-suc}
use native.Mathlib.Omega.{arith}
use lib.ListN.{length}
use borrow.Author.Tests.{eq-eqb, ne_eqb}
use Rattle.shapes.specs.First.{first}
use Rattle.machine.specs.Case.{Case}
use Rattle.memory.specs.Layout.{places_most}
use Rattle.session.specs.History.{Content, free, holds, is_holding, cases_to, lowest, put, put_all}

-- the first place at which a test holds is the one at which it holds and before which it fails
first_is : (p : ℕ → Bool) (at left n : ℕ) → at ≤ n → n < at + left → ((i : ℕ) → i < n → p i ≡ false) → p n ≡ true → first p at left ≡ n
unfolding first
first_is p at zero n low high fails good = absurd (omega arith)
first_is p at (suc left) n low high fails good =
    go (eq-or-lt_of_le low) (λ past. first_is p (suc at) left n past (omega arith) fails good)
  where
    go : (at ≡ n) ⊎ (at < n) → (at < n → first p (suc at) left ≡ n) → cond (p at) at (first p (suc at) left) ≡ n
    go (inl here) rest = rw (here, good)
    go (inr past) rest = rw (fails at past) (rest past)

-- so the lowest free place is n where those below n hold cases and n is free
lowest_is : (at : ℕ → Content) (n : ℕ) → n < places_most → ((p : ℕ) → p < n → is_holding (at p) ≡ true) → at n ≡ free → lowest at ≡ n
unfolding lowest
lowest_is at n l held none =
    first_is (λ p. not (is_holding (at p))) 0 places_most n (omega arith) (omega arith) (λ p h. ap not (held p h))
    (ap (λ (x : Content). not (is_holding x)) none)

-- places that hold the same hold the same cases
cases_same : (at at' : ℕ → Content) (n : ℕ) → ((p : ℕ) → p < n → at p ≡ at' p) → cases_to at n ≡ cases_to at' n
unfolding cases_to
cases_same at at' zero each = refl
cases_same at at' (suc n) each = rw (cases_same at at' n (λ p l. each p (omega arith)), each n (omega arith))

-- free places hold no cases
cases_free : (at : ℕ → Content) (n more : ℕ) → ((p : ℕ) → n ≤ p → at p ≡ free) → cases_to at (n + more) ≡ cases_to at n
unfolding cases_to
cases_free at n zero none = rw add-zero
cases_free at n (suc more) none = rw (add-suc n more, none (n + more) (omega arith), append-nil) (cases_free at n more none)

-- what a changed place holds is what was put there,
put_here : (at : ℕ → Content) (n : ℕ) (x : Content) → put at n x n ≡ x
put_here at n x = rw (eq-eqb n n refl)

-- and another place holds what it held
put_elsewhere : (at : ℕ → Content) (n : ℕ) (x : Content) (p : ℕ) → (p ≡ n → ⊥) → put at n x p ≡ at p
put_elsewhere at n x p other = rw (ne_eqb p n other)

-- a case put in place n comes right after those below n
cases_put : (at : ℕ → Content) (n : ℕ) (c : Case) → cases_to (put at n (holds c)) (suc n) ≡ cases_to at n ++ (c ∷ [])
unfolding cases_to
cases_put at n c =
    rw (put_here at n (holds c), cases_same (put at n (holds c)) at n (λ p l. put_elsewhere at n (holds c) p (λ e. absurd (omega arith))))

-- where the places below n hold cases and all from n on are free, cases put in come after those below n, in order
put_in_order : (at : ℕ → Content) (n : ℕ) (cs : List Case) → ((p : ℕ) → p < n → is_holding (at p) ≡ true) → ((p : ℕ) → n ≤ p → at p ≡ free)
    → n + length cs ≤ places_most → cases_to (put_all at cs) places_most ≡ cases_to at n ++ cs
unfolding put_all
put_in_order at n [] held none few =
    let all : places_most ≡ n + (places_most - n) = omega arith in
    ap (cases_to at) all ∙ cases_free at n (places_most - n) none ∙ sym (append-nil (cases_to at n))
put_in_order at n (c ∷ cs) held none few =
    rw (lowest_is at n (omega arith) held (none n (omega arith)))
    (put_in_order next (suc n) cs (λ p l. held_next p (eq-or-lt_of_le (omega arith))) none_next (omega arith)
    ∙ ap (λ (l : List Case). l ++ cs) (cases_put at n c) ∙ append_assoc (cases_to at n) (c ∷ []) cs)
  where
    next : ℕ → Content
    next = put at n (holds c)

    held_next : (p : ℕ) → (p ≡ n) ⊎ (p < n) → is_holding (next p) ≡ true
    held_next p (inl here) = rw here (ap is_holding (put_here at n (holds c)))
    held_next p (inr below) = ap is_holding (put_elsewhere at n (holds c) p (λ e. absurd (omega arith))) ∙ held p below

    none_next : (p : ℕ) → suc n ≤ p → next p ≡ free
    none_next p l = put_elsewhere at n (holds c) p (λ e. absurd (omega arith)) ∙ none p (omega arith)

-- cases loaded into places that are all free are those held, in order
pub loaded_in_order : (cs : List Case) → length cs ≤ places_most → cases_to (put_all (λ p. free) cs) places_most ≡ cs
unfolding cases_to
loaded_in_order cs few = put_in_order (λ p. free) 0 cs (λ p l. absurd (omega arith)) (λ p l. refl) (omega arith)
