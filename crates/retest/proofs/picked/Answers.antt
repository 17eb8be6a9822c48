-- `retest::picked` meets its contract: the check says what the rules say, the position has a case, and the search among the retest's parts finds
-- what is picked.
use Prim.Native.Nat.{ℕ}
use mathlib.Core.Path.{refl, sym, ap, ◌∙◌}
use Rattle.std.proofs.Common.{rules}
use Rattle.std.proofs.lemmas.Result.{err_from_is_err_and}
use Rattle.std.proofs.lemmas.Iterator.Consumers.{YieldsList-from_first, nth_from_yields_List}
use Rattle.std.proofs.lemmas.Iterator.Search.{find_from_yields_List}
use Rattle.std.specs.Prelude.{Option, Ok}
use Rattle.std.specs.Option.{ok_or}
use Rattle.house.specs.Left.{lent_part, parts_left}
use Rattle.house.specs.declared.record.Case as Case_lent
use Rattle.house.specs.declared.refusal.Refusal.TheVariants.{Slot}
use Rattle.house.proofs.Forms.{ruled_refused, ruled_passed}
use Rattle.retest.specs.Picked.{is_again}
use Rattle.retest.proofs.Retests.{own_some, own_there, picked_told, record_taken, rules_known}
use Rattle.retest.proofs.picked.Goals as goal

pub returns-in_err-count : goal.returns-in_err-count
returns-in_err-count c =
    let p = err_from_is_err_and c.from_residual.result c.from_residual.ensures.1 in
    rw (p.1, p.2, ruled_refused _ _ (sym c.check_retest.ensures ∙ c.in_err-count.was))

pub invariant_of-first : goal.invariant_of-first
invariant_of-first c =
    let h = ruled_passed _ _ (sym c.check_retest.ensures ∙ c.in_ok-count.was) in
    let k = rules_known c.args.first.now c.args.retest.now c.args.position h.0 in
    record { read = record_taken c.args.first.now k.0 (ap (λ (n : ℕ × ℕ). n.0) h.1) }

pub invariant_of-retest : goal.invariant_of-retest
invariant_of-retest c =
    let h = ruled_passed _ _ (sym c.check_retest.ensures ∙ c.in_ok-count.was) in
    let k = rules_known c.args.first.now c.args.retest.now c.args.position h.0 in
    record { read = record_taken c.args.retest.now k.1 (ap (λ (n : ℕ × ℕ). n.1) h.1) }

pub unwrap-own-requires : goal.unwrap-own-requires
unwrap-own-requires c =
    let h = ruled_passed _ _ (sym c.check_retest.ensures ∙ c.in_ok-count.was) in
    let k = rules_known c.args.first.now c.args.retest.now c.args.position h.0 in
    let n = nth_from_yields_List _ c.nth.new.self _ c.nth.ensures.ran (YieldsList-from_first lent_part parts_left {s = c.cases.result} _ c.cases.ensures) in
    own_some _ _ _ _ n k.2

pub returns : goal.returns
returns c =
    let h = ruled_passed _ _ (sym c.check_retest.ensures ∙ c.in_ok-count.was) in
    let k = rules_known c.args.first.now c.args.retest.now c.args.position h.0 in
    let n = nth_from_yields_List _ c.nth.new.self _ c.nth.ensures.ran (YieldsList-from_first lent_part parts_left {s = c.cases.result} _ c.cases.ensures) in
    let m = (own_there _ _ _ _ n _ refl _ (ap (λ (o : Option Case_lent.Case). ok_or o Slot) c.unwrap-own.ensures)).1 in
    let w = find_from_yields_List (is_again (lent_part c.unwrap-own.result).case) c.find-again.new.self _ _ c.find-again.ensures.ran (YieldsList-from_first lent_part parts_left {s = c.cases-2.result} _ c.cases-2.ensures) (λ x b q k. search rules) in
    rw h.0 (ap Ok (picked_told _ _ _ _ _ _ _ _ w m c.unwrap_or.ensures))
