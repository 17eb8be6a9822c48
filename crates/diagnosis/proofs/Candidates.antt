-- The candidate law: where a case fails and a number's machine reproduces it, the number's cell was executed up to the first symptom. For
-- until its cell is executed the number's machine gives the specified outputs, and at the first symptom these are not the observed one.
-- Assumes nothing.
use Prim.Native.Nat.{ℕ, ◌+◌, ◌<◌}
use mathlib.Core.Path.{◌≡◌, refl, sym, ap, ◌∙◌}
use mathlib.Core.List.{List, [], ◌∷◌}
use mathlib.Core.Bool.{Bool, true, false, not, ◌&&◌, ◌||◌, true≢false}
use native.Mathlib.Omega.{arith}
use lib.ListN.{length, get_or, take}
use lib.Seq.{get_or-take}
use borrow.Author.Tests.{not-true}
use Rattle.shapes.specs.Keep.{has, every}
use Rattle.shapes.proofs.Tests.{and_true}
use Rattle.machine.specs.Machine.{Machine, specified}
use Rattle.machine.specs.Fault.{cell_of, changed, is_fault}
use Rattle.machine.specs.Case.{Case, all_good}
use Rattle.machine.specs.Run.{executed, expected, symptoms_of, reproduces}
use Rattle.machine.specs.declared.head.Head.{Head}
use Rattle.machine.proofs.Cases.{case_in}
use Rattle.machine.proofs.Run.{expected_until, first_step, first_differs, reproduces_agrees}
use Rattle.diagnosis.specs.Diagnosis.{explains, fails, explains_all, list, some_fails, conflicts, is_candidate}
use Rattle.diagnosis.proofs.Lists.{listed_exactly}

-- one case: the cell of a number that explains it is in its conflict set
pub in_conflict : (h : Head) (cells : List ℕ) (c : Case) (f : ℕ) → length c.outputs ≡ length c.inputs
    → explains (changed h cells f) c ≡ true → fails (specified h cells) c ≡ true → conflicts (specified h cells) c (cell_of h f) ≡ true
unfolding explains fails conflicts
in_conflict h cells c f even good bad = rw bad (go (has (cell_of h f) (take (t + 1) (executed M c.inputs))) refl)
  where
    M : Machine
    M = specified h cells

    t : ℕ
    t = (symptoms_of M c.inputs c.outputs).first

    missed : reproduces M c.inputs c.outputs ≡ false
    missed = not-true _ bad

    inside : t < length c.inputs
    inside = first_step M c.inputs c.outputs missed

    go : (b : Bool) → has (cell_of h f) (take (t + 1) (executed M c.inputs)) ≡ b → b ≡ true
    go true e = refl
    go false e =
        let same : get_or (expected (changed h cells f) c.inputs) t 0 ≡ get_or (expected M c.inputs) t 0 =
        sym (get_or-take (t + 1) (expected (changed h cells f) c.inputs) t 0 (omega arith))
        ∙ ap (λ (l : List ℕ). get_or l t 0) (expected_until h cells c.inputs f (t + 1) e)
        ∙ get_or-take (t + 1) (expected M c.inputs) t 0 (omega arith) in
        absurd
        (true≢false
        (sym (reproduces_agrees (changed h cells f) c.inputs c.outputs even good t inside)
        ∙ rw same (first_differs M c.inputs c.outputs missed)))

-- all held cases: it is in the conflict set of every failing one
in_conflicts : (h : Head) (cells : List ℕ) (cs : List Case) (f : ℕ) → all_good h cs ≡ true → explains_all h cells cs f ≡ true
    → every (λ c. not (fails (specified h cells) c) || conflicts (specified h cells) c (cell_of h f)) cs ≡ true
unfolding every explains_all all_good
in_conflicts h cells [] f good all = refl
in_conflicts h cells (c ∷ cs) f good all =
    let g = and_true _ _ good in
    let a = and_true _ _ all in
    rw (in_conflicts h cells cs f g.1 a.1)
    (go (fails (specified h cells) c) refl (in_conflict h cells c f (case_in h c.inputs c.outputs g.0).even a.0))
  where
    go : (b : Bool) → fails (specified h cells) c ≡ b → (fails (specified h cells) c ≡ true → conflicts (specified h cells) c (cell_of h f) ≡ true)
        → ((not b || conflicts (specified h cells) c (cell_of h f)) && true) ≡ true
    go true e one = rw (one e)
    go false e one = refl

-- "where some case fails .., the cell of every listed fault is a candidate"
pub candidate_law : (h : Head) (cells : List ℕ) (cs : List Case) (f : ℕ) → all_good h cs ≡ true → some_fails h cells cs ≡ true
    → has f (list h cells cs) ≡ true → is_candidate (specified h cells) cs (cell_of h f) ≡ true
unfolding is_candidate some_fails
candidate_law h cells cs f good bad listed =
    let l = and_true (is_fault h cells f) (explains_all h cells cs f) (sym (listed_exactly h cells cs f) ∙ listed) in
    rw (bad, in_conflicts h cells cs f good l.1)

-- "empty if no case fails": then no cell is a candidate
pub candidates_none : (h : Head) (cells : List ℕ) (cs : List Case) (cell : ℕ) → some_fails h cells cs ≡ false
    → is_candidate (specified h cells) cs cell ≡ false
unfolding is_candidate some_fails
candidates_none h cells cs cell none = rw none
