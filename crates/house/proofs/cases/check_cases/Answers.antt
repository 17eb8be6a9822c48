use mathlib.Core.Path.{sym, ap, ◌∙◌}
use mathlib.Core.Logic.{inl}
use native.Mathlib.Omega.{arith}
use Rattle.std.proofs.Common.{rules}
use Rattle.std.specs.Iterator.Adapters.{enumerate_source, enumerate_count}
use Rattle.std.proofs.lemmas.List.{length-map}
use Rattle.std.proofs.lemmas.Result.{err_from_is_err_and}
use Rattle.house.specs.Refusal.{checked}
use Rattle.house.specs.Left.{parts_left}
use Rattle.house.proofs.Records.{cases_few}
use Rattle.house.proofs.Against.{judging_begins, judging_refused, judging_goes_on, judging_ends}
use Rattle.house.proofs.Left.{cases_of, cases_of_parts}
use Rattle.house.proofs.cases.check_cases.Goals as goal

pub loop-i-init : goal.loop-i-init
loop-i-init c =
    judging_begins _ _ _ _ _
    (ap cases_of (ap (λ s. parts_left (enumerate_source s)) c.into_iter-i-iterator.ensures.into_iter_gives ∙ ap parts_left c.enumerate-i-items.ensures.source ∙ c.cases.ensures) ∙ cases_of_parts _ _)
    (ap enumerate_count c.into_iter-i-iterator.ensures.into_iter_gives ∙ c.enumerate-i-items.ensures.count) (cases_few _ _ c.args.record.now.read)

pub loop-i-init-derived : goal.loop-i-init-derived
loop-i-init-derived c = let j = loop-i-init c in let r = simp length-map at j.room in ((tt, tt, inl (omega (arith, r))), search rules)

pub loop-i-preserved : goal.loop-i-preserved
loop-i-preserved c = judging_goes_on _ _ _ _ _ _ _ _ _ c.loop-i.invariant c.in-Some.ensures.steps.1 (ap cases_of c.in-Some.ensures.steps.0) c.check_case.ensures _ c.in-Some.ensures.steps.2 c.in_ok-check_case.was

pub returns-in_err-check_case : goal.returns-in_err-check_case
returns-in_err-check_case c =
    let p = err_from_is_err_and c.from_residual.result c.from_residual.ensures.1 in
    rw (p.1, p.2) (sym (judging_refused _ _ _ _ _ _ _ _ _ c.loop-i.invariant c.in-Some.ensures.steps.1 (ap cases_of c.in-Some.ensures.steps.0) c.check_case.ensures _ c.in_err-check_case.was))

pub returns : goal.returns
returns c = sym (ap checked (judging_ends _ _ _ _ _ c.loop-i.invariant (ap cases_of c.in-None.ensures.steps.0.0)))
