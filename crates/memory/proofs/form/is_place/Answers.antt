-- `memory::form::is_place` meets its contract: the tests are those of `good_place`.
use Rattle.std.proofs.Common.{rules, tests, arith, sym, ◌∙◌}
use borrow.Author.Tests.{leb-true}
use Rattle.shapes.proofs.Tests.{holds}
use Rattle.memory.specs.Form.{good_place}
use Rattle.memory.proofs.Checks.{place_read, place_held}
use Rattle.memory.proofs.Known.{good_told}
use Rattle.memory.proofs.form.is_place.Goals.{then-steps-le-STEPS, else-steps-le-STEPS}
use Rattle.memory.proofs.form.is_place.Goals as goal

pub returns-then-steps-eq0 : goal.returns-then-steps-eq0
unfolding good_place
returns-then-steps-eq0 c = search (rules, tests)

pub returns-else-steps-eq0 : goal.returns-else-steps-eq0
returns-else-steps-eq0 c = elim c.if-steps-le-STEPS.branch [
  | then-steps-le-STEPS w ↦ c.is_case.ensures ∙ good_told _ _ c.of-here.ensures.value c.head_of.ensures ∙ sym (place_held _ _ (omega (arith, w.if-steps-le-STEPS, place_read c.args.session.now c.args.place c.of-here.ensures.value)) (holds w.is_clean.ensures (sym w.value-is ∙ c.if-is_clean.true)) (λ e. c.if-steps-eq0.false ((place_read c.args.session.now c.args.place c.of-here.ensures.value).1 ∙ e)))
  | else-steps-le-STEPS w ↦ absurd (omega (arith, w.if-steps-le-STEPS.false, leb-true _ _ (sym w.value-is ∙ c.if-is_clean.true)))
]

pub returns-else-is_clean : goal.returns-else-is_clean
unfolding good_place
returns-else-is_clean c = search (rules, tests)
