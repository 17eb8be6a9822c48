-- `memory::layout::free_place` meets its contract: the search ends with the first place that is free.
use Rattle.std.proofs.Common.{rules, tests, ℕ, Bool, ◌≡◌, true, false}
use lib.Dec.{eqb}
use Rattle.std.proofs.lemmas.Iterator.{first_from_Range}
use Rattle.shapes.proofs.Found.{found_first}
use Rattle.memory.specs.Layout.{steps_of}
use Rattle.memory.proofs.Checks.{free_same}
use Rattle.memory.proofs.layout.free_place.Goals as goal

pub returns : goal.returns
returns c =
    let free : ℕ → Bool = λ p. eqb (steps_of c.args.session.now p) 0 in
    rw (← free_same)
    (found_first free _ _ (first_from_Range _ _ _ _ (λ p. free p ≡ true) (λ p. free p ≡ false) c.find.ensures.ran (λ x q k. search (rules, tests)) (λ x q k. search (rules, tests))))
