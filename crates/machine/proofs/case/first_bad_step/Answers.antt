-- `machine::case::first_bad_step` meets its contract: the search ends with the first step that is bad.
use Rattle.std.proofs.Common.{rules, ◌≡◌, true, false}
use Rattle.std.proofs.lemmas.Iterator.{first_from_Range}
use Rattle.shapes.proofs.Found.{found_first}
use Rattle.machine.specs.Case.{bad_step, first_bad_step}
use Rattle.machine.proofs.case.first_bad_step.Goals as goal

pub returns : goal.returns
unfolding first_bad_step
returns c = let bad : _ = bad_step c.args.head c.args.inputs.now c.args.outputs.now in
    found_first bad _ _ (first_from_Range _ _ _ _ (λ i. bad i ≡ true) (λ i. bad i ≡ false) c.find.ensures.ran (λ x q k. search rules) (λ x q k. search rules))
