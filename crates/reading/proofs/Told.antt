-- What an audit and a list say, from the answer alone. Each call is a choice on its ruling, so an answer that is no refusal says that no rule holds,
-- and what was answered and written.
-- Assumes nothing.
use Prim.Native.Nat.{ℕ, ◌≤◌, ◌<◌}
use mathlib.Core.Path.{◌≡◌, refl, sym, ◌∙◌}
use mathlib.Core.Bool.{Bool, true, false, true≢false}
use mathlib.Core.Logic.{◌↔◌}
use mathlib.Core.List.{List}
use native.Mathlib.Omega.{arith}
use lib.Dec.{ltb}
use borrow.Author.Tests.{ltb-true, ltb-false, le-ltb, lt-ltb, eq-eqb, eqb-true, not-true, not-false}
use lib.ListN.{length, get_or}
use Rattle.std.specs.Prelude.{Some, None, Ok}
use Rattle.shapes.specs.Edit.{filled}
use Rattle.shapes.specs.Refusals.{Ruling, fine, refused, ruling}
use Rattle.shapes.proofs.First.{first_holds, first_before, first_none}
use Rattle.shapes.proofs.Refusals.{ruling_join_fine}
use Rattle.machine.specs.Head.{numbers}
use Rattle.house.specs.declared.refusal.Refusal.{Refusal}
use Rattle.diagnosis.specs.Diagnosis.{tally, list, some_fails, verdict_of}
use Rattle.memory.specs.Layout.{head_of, cells_of, cases}
use Rattle.memory.specs.Form.{Formed, form_rules}
use Rattle.memory.proofs.Known.{rules_formed, formed_rules}
use Rattle.tallies.specs.Tallies.{TrueTallies}
use Rattle.reading.specs.Reads.{faults, listed, list_of, list_rules, list_call, verdict_in, LowestFalse, false_tally, audit_if, audit_call}
use Rattle.house.specs.Refusal.{ruled}
use Rattle.reading.proofs.Listed.{false_at, list_by_replay}

-- an audit that answers true or a number was let pass, and says which by its test
audited_true : (v : Ruling Refusal) (b : Bool) (g : ℕ) → ruled v (audit_if b g) ≡ Ok None → (v ≡ fine) × (b ≡ false)
audited_true fine true g e = (refl, cc)
audited_true fine false g e = (refl, refl)
audited_true (refused r) b g e = (cc, cc)

audited_false : (v : Ruling Refusal) (b : Bool) (g f : ℕ) → ruled v (audit_if b g) ≡ Ok (Some f)
    → (v ≡ fine) × ((b ≡ true) × (g ≡ f))
audited_false fine true g f e = (refl, (refl, cc))
audited_false fine false g f e = (refl, (cc, cc))
audited_false (refused r) b g f e = (cc, (cc, cc))

module _ (s t : List ℕ) where
  -- where none is found false all are true,
  none_false : numbers (head_of s) ≤ false_tally s t → TrueTallies s t
  unfolding false_tally
  none_false l f m = eqb-true _ _ (not-false _ (first_before (false_at s t) 0 (numbers (head_of s)) f (omega arith) (omega arith)))

  -- and where all are true none is found,
  all_true : TrueTallies s t → numbers (head_of s) ≤ false_tally s t
  unfolding false_tally
  all_true now =
      let e = first_none (false_at s t) 0 (numbers (head_of s)) (λ f low l. rw (now f (omega arith), eq-eqb _ _ refl)) in omega arith

  -- "An audit answers whether every tally is true": true exactly if the session is long enough and well-formed, and every tally in use counts afresh
  pub audit_true_exactly : (audit_call s t ≡ Ok None) ↔ (Formed s t × TrueTallies s t)
  unfolding audit_call
  audit_true_exactly = (
    λ e.
        let a = audited_true (ruling (form_rules s t)) _ _ e in
        (rules_formed s t a.0, none_false (ltb-false (false_tally s t) (numbers (head_of s)) a.1)),
    λ k. rw (formed_rules s t k.0, le-ltb (false_tally s t) (numbers (head_of s)) (all_true k.1)),
  )

  -- each number below the one found is true,
  below_found : (f : ℕ) → f < false_tally s t → get_or t f 0 ≡ tally (head_of s) (cells_of s) (cases s) f
  unfolding false_tally
  below_found f l = eqb-true _ _ (not-false _ (first_before (false_at s t) 0 (numbers (head_of s)) f (omega arith) l))

  -- a number that is found is the lowest that is false,
  found_lowest : false_tally s t < numbers (head_of s) → LowestFalse s t (false_tally s t)
  unfolding false_tally
  found_lowest l =
      record {
        in_use = l;
        untrue = λ e. true≢false (sym (eq-eqb _ _ e) ∙ not-true _ (first_holds (false_at s t) 0 (numbers (head_of s)) (omega arith)));
        lower_true = below_found;
      }

  -- and the lowest that is false is found
  lowest_found : (f : ℕ) → LowestFalse s t f → false_tally s t ≡ f
  lowest_found f k = go (ltb (false_tally s t) f) refl (ltb f (false_tally s t)) refl
    where
      go : (a : Bool) → ltb (false_tally s t) f ≡ a → (b : Bool) → ltb f (false_tally s t) ≡ b → false_tally s t ≡ f
      go true ea b eb =
          let l = ltb-true (false_tally s t) f ea in
          let low = found_lowest (omega (arith, k.in_use)) in absurd (low.untrue (k.lower_true (false_tally s t) l))
      go false ea true eb = absurd (k.untrue (below_found f (ltb-true f (false_tally s t) eb)))
      go false ea false eb =
          let x = ltb-false (false_tally s t) f ea in
          let y = ltb-false f (false_tally s t) eb in omega arith

  -- "else the lowest number that is false": f exactly if the session is long enough and well-formed and f is that number
  pub audit_false_exactly : (f : ℕ) → (audit_call s t ≡ Ok (Some f)) ↔ (Formed s t × LowestFalse s t f)
  unfolding audit_call
  audit_false_exactly f = (
    λ e.
        let a = audited_false (ruling (form_rules s t)) _ _ f e in
        (rules_formed s t a.0, rw a.1.1 at (found_lowest (ltb-true (false_tally s t) (numbers (head_of s)) a.1.0))),
    λ k.
        let e = lowest_found f k.1 in
        rw (formed_rules s t k.0, e, lt-ltb f (numbers (head_of s)) k.1.in_use),
  )

module _ (s t : List ℕ) (k : Formed s t) where
  -- in a well-formed session, and with room, the list call answers the verdict and the count and leaves the list by tallies,
  pub list_formed : (out : List ℕ) → length (list_of s t) ≤ length out
      → list_call s t out ≡ listed (faults (verdict_in s t) (length (list_of s t))) (filled out 0 (list_of s t))
  unfolding list_call list_rules ruling
  list_formed out room = rw (ruling_join_fine (form_rules s t) _ (formed_rules s t k), le-ltb (length out) (length (list_of s t)) room)

-- where the tallies are true as well the verdict and the list are those by replay
pub list_answers : (s t out : List ℕ) → Formed s t → TrueTallies s t → length (list (head_of s) (cells_of s) (cases s)) ≤ length out
    → list_call s t out
    ≡ listed
    (faults (verdict_of (some_fails (head_of s) (cells_of s) (cases s)) (list (head_of s) (cells_of s) (cases s))) (length (list (head_of s) (cells_of s) (cases s))))
    (filled out 0 (list (head_of s) (cells_of s) (cases s)))
unfolding verdict_in
list_answers s t out k now room =
    let same = list_by_replay s t now in
    list_formed s t k out (rw same room) ∙ rw same
