-- The walk along a record meets its cases one after the other: at the place of a position stands the case at that position, after as many
-- bytes as the record of the cases before it has. By induction on the position.
-- Assumes nothing.
use Prim.Native.Nat.{ℕ, zero, suc, ◌+◌, ◌-◌, ◌≤◌, ◌<◌}
use mathlib.Core.Path.{◌≡◌, sym, ap, ◌∙◌}
use mathlib.Core.List.{List, [], ◌∷◌, ◌++◌, append-nil}
use native.Mathlib.Nat.{add-zero, sub-zero}
use native.Mathlib.Numerals.{add-one}
use native.Mathlib.Omega.{arith}
use lib.ListN.{length, get_or, take, drop, length-append}
use lib.Seq.{take-suc, get_or-drop, drop-drop}
use Rattle.shapes.specs.Refusals.{ruling, fine}
use Rattle.machine.specs.Case.{Case, no_case}
use Rattle.house.specs.File.{rest_at}
use Rattle.house.specs.Cases.{case_bytes, rest_of, case_at, cases_from, cases_in, count_in, count_of, record_rules}
use Rattle.house.specs.Walk.{place_of}
use Rattle.retest.specs.Retest.{at_position, place_in}
use Rattle.house.proofs.Records.{cases_counted, record_size, rest_append}
use Rattle.house.proofs.Places.{place_fits}
use Rattle.house.proofs.Against.{next_case}
use Rattle.house.proofs.Left.{case_size}

-- from the place of a position on stand the cases from that position on
cases_stand_from : (file : List ℕ) (n i : ℕ) → i ≤ n → drop i (cases_from file n rest_at) ≡ cases_from file (n - i) (place_of file i)
unfolding place_of
cases_stand_from file n zero h = rw sub-zero
cases_stand_from file n (suc i) h =
    let e = cases_stand_from file n i (omega arith) ∙ next_case file n i (place_of file i) h in
    rw (← add-one i, ← drop-drop 1 i (cases_from file n rest_at)) (ap (drop 1) e)

-- so the case at the place of a position is the case at the position
pub case_positioned : (file : List ℕ) (i : ℕ) → i < count_of (count_in file) → case_at file (place_of file i) ≡ at_position (cases_in file) i
unfolding cases_in at_position
case_positioned file i h =
    let n : ℕ = count_of (count_in file) in
    let e = cases_stand_from file n i (omega arith) ∙ next_case file n i (place_of file i) h in
    let d = get_or-drop i (cases_from file n rest_at) 0 no_case in
    sym (ap (λ l. get_or l 0 no_case) e) ∙ d ∙ rw add-zero

-- one case more is its bytes more
rest_longer : (cs : List Case) (c : Case) → length (rest_of (cs ++ (c ∷ []))) ≡ length (rest_of cs) + length (case_bytes c)
unfolding rest_of
rest_longer cs c = rw (rest_append, length-append, append-nil)

module _ (file : List ℕ) (ok : ruling (record_rules file) ≡ fine) where
  -- the place of a position comes after as many bytes as the record of the cases before it has
  pub place_in_law : (i : ℕ) → i ≤ count_of (count_in file) → place_of file i ≡ place_in (cases_in file) i
  unfolding place_of place_in rest_of at_position
  place_in_law zero h = sym (record_size [])
  place_in_law (suc i) h =
      let cs : List Case = cases_in file in
      let e = place_in_law i (omega arith) in
      let t = take-suc cs i no_case (rw (cases_counted file) h) in
      let c : case_at file (place_of file i) ≡ get_or cs i no_case = case_positioned file i h in
      let s = case_size file (place_of file i) (place_fits file ok i h) in
      let m = rest_longer (take i cs) (get_or cs i no_case) in
      let a = record_size (take i cs) in
      let b = record_size (take i cs ++ (get_or cs i no_case ∷ [])) in
      rw (t, b, m, ← c, s) (omega (arith, e, a))
