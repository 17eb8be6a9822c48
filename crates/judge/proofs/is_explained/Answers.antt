use mathlib.Core.Path.{sym, ap, ◌∙◌}
use Rattle.shapes.proofs.Tests.{holds, lacks}
use Rattle.house.specs.Left.{parts_left}
use Rattle.house.proofs.Left.{cases_of, cases_of_parts}
use Rattle.judge.proofs.Judged.{trying_begins, trying_case, trying_missed, trying_goes_on, trying_ends}
use Rattle.judge.proofs.is_explained.Goals as goal

pub loop-case-init : goal.loop-case-init
loop-case-init c = trying_begins _ _ _ _ _ (ap cases_of (ap parts_left c.into_iter-case-iterator.ensures.into_iter_gives ∙ c.cases-case-items.ensures) ∙ cases_of_parts _ _) c.requires.record_good

pub invariant_of-run : goal.invariant_of-run
invariant_of-run c = record { fits = trying_case _ _ _ _ _ c.loop-case.invariant _ _ (ap cases_of c.in-Some.ensures.steps) }

pub returns-then-is_missed : goal.returns-then-is_missed
returns-then-is_missed c = sym (trying_missed _ _ _ _ _ c.loop-case.invariant _ _ (ap cases_of c.in-Some.ensures.steps) (holds c.is_missed.ensures c.if-is_missed.true))

pub loop-case-preserved : goal.loop-case-preserved
loop-case-preserved c = trying_goes_on _ _ _ _ _ c.loop-case.invariant _ _ (ap cases_of c.in-Some.ensures.steps) (lacks c.is_missed.ensures c.if-is_missed.false)

pub returns : goal.returns
returns c = sym (trying_ends _ _ _ _ _ c.loop-case.invariant (ap cases_of c.in-None.ensures.steps.0))
