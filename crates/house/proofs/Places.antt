-- The walk along the cases of a record: where its rules say nothing, each place short of the count holds a whole case. By induction on the
-- position, along `count_from`.
-- Assumes nothing.
use Prim.Native.Nat.{ℕ, zero, suc, ◌+◌, ◌*◌, ◌≤◌, ◌<◌}
use mathlib.Core.Path.{◌≡◌}
use mathlib.Core.Bool.{true}
use mathlib.Core.Logic.{◌⊎◌, inl, inr}
use mathlib.Core.List.{List}
use lib.ListN.{length, get_or}
use native.Mathlib.Numerals.{add-one}
use native.Mathlib.Omega.{arith}
use Rattle.std.specs.Prelude.{Some}
use Rattle.shapes.specs.Refusals.{ruling, fine}
use Rattle.house.specs.Cases.{case_fits, case_end, count_from, count_in, count_of, record_rules}
use Rattle.house.specs.Walk.{place_of}
use Rattle.house.proofs.Records.{counted_last, counted_next, record_sound}

-- a loop's turn: the place after the case at a place
pub place_next : (file : List ℕ) (i at x : ℕ) → at ≡ place_of file i → x ≡ get_or file at 0 → at + 1 + 2 * x ≡ place_of file (i + 1)
unfolding place_of
place_next file i at x h e = rw (e, h, add-one i)

-- where more are to be counted a case fits here, and the count goes on after it
counted_more : (file : List ℕ) (left at n m : ℕ) → count_from file left at n ≡ Some m → n < m
    → (case_fits file at ≡ true) × ((rest : ℕ) × (count_from file rest (case_end file at) (suc n) ≡ Some m))
counted_more file zero at n m e h = let k = counted_last file at n m e in absurd (omega arith)
counted_more file (suc left) at n m e h = go (counted_next file left at n m e)
  where
    go : ((length file ≤ at) × (n ≡ m)) ⊎ ((case_fits file at ≡ true) × (count_from file left (case_end file at) (suc n) ≡ Some m))
        → (case_fits file at ≡ true) × ((rest : ℕ) × (count_from file rest (case_end file at) (suc n) ≡ Some m))
    go (inl k) = absurd (omega arith)
    go (inr k) = (k.0, (left, k.1))

-- from each place up to the count the rest is counted to the same
counted_from : (file : List ℕ) (n : ℕ) → count_in file ≡ Some n → (i : ℕ) → i ≤ n → (left : ℕ) × (count_from file left (place_of file i) i ≡ Some n)
unfolding count_in place_of
counted_from file n e zero h = (_, e)
counted_from file n e (suc i) h =
    let w = counted_from file n e i (omega arith) in
    (counted_more file w.0 (place_of file i) i n w.1 h).1

module _ (file : List ℕ) (ok : ruling (record_rules file) ≡ fine) where
  -- a record whose rules say nothing has a count
  record_counts : count_in file ≡ Some (count_of (count_in file))
  record_counts = (record_sound file ok).1

  -- a place short of the count holds a whole case
  pub place_fits : (i : ℕ) → i < count_of (count_in file) → case_fits file (place_of file i) ≡ true
  place_fits i h =
      let w = counted_from file _ record_counts i (omega arith) in
      (counted_more file w.0 (place_of file i) i _ w.1 h).0
