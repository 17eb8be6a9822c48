use mathlib.Core.Path.{refl, sym, ◌∙◌}
use native.Mathlib.Omega.{arith}
use Rattle.shapes.proofs.Tests.{lacks, holds}
use Rattle.house.specs.Cases.{count_in}
use Rattle.house.proofs.Records.{count_ended, count_full, count_broken, count_turn}
use Rattle.house.proofs.cases.count_cases.Goals as goal
use Rattle.house.proofs.cases.count_cases.Goals.{then-count-eq-CASES-via-then-count-eq-CASES, then-count-eq-CASES-via-else-count-eq-CASES+then-not-is_whole}

pub loop-at-init : goal.loop-at-init
unfolding count_in
loop-at-init c = (omega arith, refl)

pub returns-then-count-eq-CASES : goal.returns-then-count-eq-CASES
returns-then-count-eq-CASES c = elim c.then-count-eq-CASES.branch [
  | then-count-eq-CASES-via-then-count-eq-CASES w ↦ sym (count_full _ _ _ w.if-count-eq-CASES.true (omega arith)) ∙ c.loop-at.invariant.1
  | then-count-eq-CASES-via-else-count-eq-CASES+then-not-is_whole w ↦ sym (count_broken _ _ _ _ (omega arith) (lacks w.is_whole.ensures w.if-not-is_whole.true)) ∙ c.loop-at.invariant.1
]

pub loop-at-preserved : goal.loop-at-preserved
loop-at-preserved c = (omega arith, rw c.byte.ensures.value (sym (count_turn _ _ _ (omega arith) (omega arith) (holds c.is_whole.ensures c.if-not-is_whole.false)) ∙ c.loop-at.invariant.1))

pub returns : goal.returns
returns c = sym (count_ended _ _ _ _ (omega arith)) ∙ c.loop-at.invariant.1
