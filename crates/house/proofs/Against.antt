-- The cases of a record, judged against a head one after the other: what is left to judge says what all of them say. Assumes nothing.
use Prim.Native.Nat.{ℕ, suc, ◌+◌, ◌-◌, ◌≤◌, ◌<◌}
use mathlib.Core.Path.{◌≡◌, refl, sym, ap, ◌∙◌}
use mathlib.Core.Bool.{true, ◌&&◌}
use mathlib.Core.List.{List, [], ◌∷◌, ◌++◌}
use mathlib.Core.Logic.{◌↔◌}
use borrow.Author.Tests.{not-false}
use native.Mathlib.Omega.{arith}
use lib.ListN.{length}
use Rattle.std.specs.Prelude.{Result, Ok, Err}
use Rattle.shapes.specs.Keep.{every}
use Rattle.shapes.specs.Refusals.{ruling, fine, refused}
use Rattle.shapes.proofs.Refusals.{ruling_end, ruling_join_refused, ruling_join_fine, ruling_joined, fine_when}
use Rattle.shapes.proofs.Tests.{and_true}
use Rattle.machine.specs.Case.{Case, good_case, all_good}
use Rattle.machine.specs.declared.head.Head.{Head}
use Rattle.house.specs.Cases.{cases_most, case_end, case_at, cases_from, next_about, case_rules, cases_rules}
use Rattle.house.specs.declared.cases.About.{About}
use Rattle.house.specs.declared.refusal.Refusal.{Refusal}
use Rattle.house.specs.Refusal.{checked}
use Rattle.house.proofs.Forms.{checked_fine, checked_refused}

-- where some cases are left to judge, they begin with the one at the place
pub next_case : (file : List ℕ) (count i at : ℕ) → i < count
    → cases_from file (count - i) at ≡ case_at file at ∷ cases_from file (count - (i + 1)) (case_end file at)
unfolding cases_from
next_case file count i at l = let e : count - i ≡ suc (count - (i + 1)) = omega arith in rw e

-- a case is not refused exactly if it can be run against the head
pub case_fine : (h : Head) (a : About) (c : Case) → (ruling (case_rules h a c) ≡ fine) ↔ (good_case h c.inputs c.outputs ≡ true)
unfolding case_rules
case_fine h a c = (
  λ e. not-false _ ((fine_when (case_rules h a c)).0 e).0,
  λ g. (fine_when (case_rules h a c)).1 (rw g, tt),
)

-- none of some cases is refused exactly if each of them can be run
pub cases_fine : (h : Head) (a : About) (cs : List Case) → (ruling (cases_rules h a cs) ≡ fine) ↔ (all_good h cs ≡ true)
unfolding cases_rules all_good every
cases_fine h a [] = (λ e. refl, λ g. ruling_end)
cases_fine h a (c ∷ cs) = go (case_fine h a c) (cases_fine h (next_about a) cs)
  where
    go : ((ruling (case_rules h a c) ≡ fine) ↔ (good_case h c.inputs c.outputs ≡ true))
        → ((ruling (cases_rules h (next_about a) cs) ≡ fine) ↔ (all_good h cs ≡ true))
        → (ruling (case_rules h a c ++ cases_rules h (next_about a) cs) ≡ fine) ↔ ((good_case h c.inputs c.outputs && all_good h cs) ≡ true)
    go one rest = (
      λ e. let j = ruling_joined (case_rules h a c) _ e in rw (one.0 j.0, rest.0 j.1),
      λ g. let b = and_true _ _ g in ruling_join_fine (case_rules h a c) _ (one.1 b.0) ∙ rest.1 b.1,
    )

-- so many cases after one in a record
abbrev pub later_about : About → ℕ → About
later_about a i = record { position = a.position + i }

-- where judging stands: i cases were judged, and these are left
pub record Judging (h : Head) (first : About) (all left : List Case) (i : ℕ) : Type 0 where
  pub room : i + length left ≤ cases_most
  pub same : ruling (cases_rules h (later_about first i) left) ≡ ruling (cases_rules h first all)

module _ (h : Head) (first : About) (all left : List Case) (i : ℕ) where
  -- it begins so
  pub judging_begins : left ≡ all → i ≡ 0 → length all ≤ cases_most → Judging h first all left i
  judging_begins e ei few =
      let z : first.position + 0 ≡ first.position = omega arith in
      rw (e, ei) (record { room = omega arith; same = ap (λ p. ruling (cases_rules h (record { position = p }) all)) z })

  module _ (n : ℕ) (c : Case) (rest : List Case) (x : Result (Unit {0}) Refusal)
      (j : Judging h first all left i) (en : n ≡ i) (el : left ≡ c ∷ rest) (ex : x ≡ checked (ruling (case_rules h (later_about first n) c))) where
    -- what is said of the next case
    next_said : next_about (later_about first i) ≡ later_about first (i + 1)
    next_said = let e : first.position + i + 1 ≡ first.position + (i + 1) = omega arith in ap (λ p. record { position = p }) e

    -- a case that is refused refuses all
    pub judging_refused : (r : Refusal) → x ≡ Err r → checked (ruling (cases_rules h first all)) ≡ Err r
    unfolding cases_rules
    judging_refused r er =
        let one : ruling (case_rules h (later_about first i) c) ≡ refused r = rw en at (checked_refused (ruling (case_rules h (later_about first n) c)) (sym ex ∙ er)) in
        rw (← j.same, el, ruling_join_refused (case_rules h (later_about first i) c) (cases_rules h (next_about (later_about first i)) rest) r one)

    -- one that is not leaves it to the next
    pub judging_goes_on : (k : ℕ) → k ≡ i + 1 → x ≡ Ok tt → Judging h first all rest k
    unfolding cases_rules
    judging_goes_on k ek er =
        let one : ruling (case_rules h (later_about first i) c) ≡ fine = rw en at (checked_fine (ruling (case_rules h (later_about first n) c)) (sym ex ∙ er)) in
        rw ek (record {
          room = omega (arith, j.room, ap length el);
          same = ap (λ b. ruling (cases_rules h b rest)) (sym next_said) ∙ sym (ruling_join_fine (case_rules h (later_about first i) c) (cases_rules h (next_about (later_about first i)) rest) one) ∙ rw el at j.same;
        })

  -- and where none is left nothing was wrong
  pub judging_ends : Judging h first all left i → left ≡ [] → ruling (cases_rules h first all) ≡ fine
  unfolding cases_rules
  judging_ends j e = sym (rw e at j.same) ∙ ruling_end
