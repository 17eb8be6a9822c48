-- Retest: "given a first record, a retest record and a position in the first, pick the first retest case with the same inputs if there is
-- one, else the case at that position."
use Rattle.std.specs.Prelude.{ℕ, suc, ◌+◌, List, [], ◌∷◌, ◌++◌, Bool, true, false, cond, ◌&&◌, eqb, leb, length, get_or, take}
use Rattle.shapes.specs.Keep.{some}
use Rattle.shapes.specs.Refusals.{Rule, when, Ruling, fine, refused, ruling}
use Rattle.machine.specs.Case.{Case, no_case}
use Rattle.house.specs.Refusal.{number_of}
use Rattle.house.specs.Cases.{case_bytes, record_file, count_in, count_of, record_rules, cases_in}
use Rattle.house.specs.declared.refusal.Refusal.{Refusal}
use Rattle.house.specs.declared.refusal.Refusal.TheVariants.{Slot}

-- two lists of numbers are the same
unfoldable pub same : List ℕ → List ℕ → Bool
same [] [] = true
same [] (y ∷ ys) = false
same (x ∷ xs) [] = false
same (x ∷ xs) (y ∷ ys) = eqb x y && same xs ys

-- two cases have the same inputs
unfoldable pub same_inputs : Case → Case → Bool
same_inputs c d = same c.inputs d.inputs

-- the first of some cases with the inputs of a case; that case itself where there is none
unfoldable pub retest_of : Case → List Case → Case
retest_of c [] = c
retest_of c (d ∷ ds) = cond (same_inputs c d) d (retest_of c ds)

-- the case at a position; one of no steps where there is none
unfoldable pub at_position : List Case → ℕ → Case
at_position cs position = get_or cs position no_case

-- "the first record's refusal, the retest's, then SLOT for a position with no case"
unfoldable pub retest_rules : List ℕ → List ℕ → ℕ → List (Rule Refusal)
retest_rules a b position = record_rules a ++ record_rules b ++ (when (leb (count_of (count_in a)) position) Slot ∷ [])

-- x on refusal, else y
abbrev pub ruled_by : {A : Type 0} → Ruling Refusal → A → A → A
ruled_by fine x y = y
ruled_by (refused r) x y = x

-- the part handed back: nothing on refusal, else the case picked, "with its length byte"
unfoldable pub retested : List ℕ → List ℕ → ℕ → List ℕ
retested a b position =
    ruled_by (ruling (retest_rules a b position)) [] (case_bytes (retest_of (at_position (cases_in a) position) (cases_in b)))

-- how many of some cases come before the first with the inputs of a case; all of them where there is none
unfoldable pub match_of : Case → List Case → ℕ
match_of c [] = 0
match_of c (d ∷ ds) = cond (same_inputs c d) 0 (suc (match_of c ds))

-- where the case at a position begins in the record of some cases: after as many bytes as the record of those before it has
unfoldable pub place_in : List Case → ℕ → ℕ
place_in cs position = length (record_file (take position cs))

-- a pointer, as its block and the place in it, so many bytes on
abbrev pub further : ℕ → ℕ × ℕ → ℕ × ℕ
further n p = (p.0, n + p.1)

-- where the case picked begins: in the retest, at q, if one of its cases has the same inputs, else in the first record, at p
unfoldable pub picked_at : ℕ × ℕ → ℕ × ℕ → List Case → List Case → ℕ → ℕ × ℕ
picked_at p q cs ds position =
    cond (some (same_inputs (at_position cs position)) ds)
    (further (place_in ds (match_of (at_position cs position) ds)) q)
    (further (place_in cs position) p)

-- "the part handed back is of the retest or of the first record": where it begins; on refusal at the first record's beginning, and empty
unfoldable pub retested_at : ℕ × ℕ → ℕ × ℕ → List ℕ → List ℕ → ℕ → ℕ × ℕ
retested_at p q a b position = ruled_by (ruling (retest_rules a b position)) p (picked_at p q (cases_in a) (cases_in b) position)

-- what the second call answers: the refusal's number, 0 where there is none
abbrev pub number_or : Ruling Refusal → ℕ
number_or fine = 0
number_or (refused r) = number_of r

unfoldable pub retest_number : List ℕ → List ℕ → ℕ → ℕ
retest_number a b position = number_or (ruling (retest_rules a b position))
