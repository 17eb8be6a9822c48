-- The tallies after a case was counted in or out: each number in use has its own change, and no other tally has one.
-- Assumes nothing.
use Prim.Native.Nat.{ℕ, ◌+◌, ◌-◌, ◌≤◌, ◌<◌}
use mathlib.Core.Path.{◌≡◌}
use mathlib.Core.List.{List}
use mathlib.Core.Bool.{Bool, true, false}
use mathlib.Core.Logic.{◌⊎◌, inl, inr}
use native.Mathlib.Nat.{zero-add}
use native.Mathlib.Omega.{arith}
use borrow.Author.Tests.{leb-true}
use lib.ListN.{length, get_or}
use Rattle.shapes.specs.Keep.{bit}
use Rattle.shapes.proofs.First.{all_at}
use Rattle.shapes.proofs.Edit.{edit_in, edit_either, edit_out_above, length_edit}
use Rattle.shapes.proofs.Tests.{and_true}
use Rattle.machine.specs.Head.{numbers}
use Rattle.machine.specs.Case.{Case}
use Rattle.diagnosis.specs.Diagnosis.{misses}
use Rattle.memory.specs.Layout.{head_of, cells_of, case_of, cases}
use Rattle.tallies.specs.Tallies.{miss, can_take, raised, lowered}

-- a number in use has its miss added
pub raised_in : (s : List ℕ) (c : Case) (t : List ℕ) (f : ℕ) → f < numbers (head_of s) → f < length t → get_or (raised s c t) f 0 ≡ get_or t f 0 + miss s c f
unfolding raised
raised_in s c t f l k = rw zero-add at (edit_in (λ f old. old + miss s c f) 0 (numbers (head_of s)) t f l (omega arith))

-- no other is changed
pub raised_out : (s : List ℕ) (c : Case) (t : List ℕ) (f : ℕ) → numbers (head_of s) ≤ f → get_or (raised s c t) f 0 ≡ get_or t f 0
unfolding raised
raised_out s c t f l = edit_out_above _ 0 _ t f (omega arith)

-- the length stays
pub length_raised : (s : List ℕ) (c : Case) (t : List ℕ) → length (raised s c t) ≡ length t
unfolding raised
length_raised s c t = length_edit _ 0 _ t

-- a number in use has its miss taken away
pub lowered_in : (s : List ℕ) (c : Case) (t : List ℕ) (f : ℕ) → f < numbers (head_of s) → f < length t → get_or (lowered s c t) f 0 ≡ get_or t f 0 - miss s c f
unfolding lowered
lowered_in s c t f l k = rw zero-add at (edit_in (λ f old. old - miss s c f) 0 (numbers (head_of s)) t f l (omega arith))

-- no other is changed
pub lowered_out : (s : List ℕ) (c : Case) (t : List ℕ) (f : ℕ) → numbers (head_of s) ≤ f → get_or (lowered s c t) f 0 ≡ get_or t f 0
unfolding lowered
lowered_out s c t f l = edit_out_above _ 0 _ t f (omega arith)

-- the length stays
pub length_lowered : (s : List ℕ) (c : Case) (t : List ℕ) → length (lowered s c t) ≡ length t
unfolding lowered
length_lowered s c t = length_edit _ 0 _ t

-- a number misses a case once at most
pub miss_few : (s : List ℕ) (c : Case) (f : ℕ) → miss s c f ≤ 1
unfolding miss
miss_few s c f = go (misses (head_of s) (cells_of s) f c)
  where
    go : (b : Bool) → bit b ≤ 1
    go true = omega arith
    go false = omega arith

-- so a case counted in adds to each tally at most one,
pub raised_few : (s : List ℕ) (c : Case) (t : List ℕ) (f : ℕ) → (get_or t f 0 ≤ get_or (raised s c t) f 0) × (get_or (raised s c t) f 0 ≤ get_or t f 0 + 1)
unfolding raised
raised_few s c t f = go (miss_few s c f) (edit_either (λ f old. old + miss s c f) (numbers (head_of s)) t f)
  where
    go : {n x : ℕ} → n ≤ 1 → (x ≡ get_or t f 0) ⊎ (x ≡ get_or t f 0 + n) → (get_or t f 0 ≤ x) × (x ≤ get_or t f 0 + 1)
    go few (inl e) = (omega arith, omega arith)
    go few (inr e) = (omega arith, omega arith)

-- and one counted out takes at most one away
pub lowered_few : (s : List ℕ) (c : Case) (t : List ℕ) (f : ℕ) → (get_or t f 0 ≤ get_or (lowered s c t) f 0 + 1) × (get_or (lowered s c t) f 0 ≤ get_or t f 0)
unfolding lowered
lowered_few s c t f = go (miss_few s c f) (edit_either (λ f old. old - miss s c f) (numbers (head_of s)) t f)
  where
    go : {n x : ℕ} → n ≤ 1 → (x ≡ get_or t f 0) ⊎ (x ≡ get_or t f 0 - n) → (get_or t f 0 ≤ x + 1) × (x ≤ get_or t f 0)
    go few (inl e) = (omega arith, omega arith)
    go few (inr e) = (omega arith, omega arith)

-- where a case can be taken away no tally goes below 0, nor stays above the count of the cases left
pub can_take_at : (s t : List ℕ) (p f : ℕ) → can_take s t p ≡ true → f < numbers (head_of s)
    → (miss s (case_of s p) f ≤ get_or t f 0) × (get_or t f 0 - miss s (case_of s p) f ≤ length (cases s) - 1)
unfolding can_take
can_take_at s t p f e l =
    let both = and_true _ _ (all_at _ (numbers (head_of s)) e f l) in
    (leb-true _ _ both.0, leb-true _ _ both.1)
