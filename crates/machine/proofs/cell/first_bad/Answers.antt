-- `machine::cell::first_bad` meets its contract: the search ends with the first cell that is bad.
use Rattle.std.proofs.Common.{rules, ◌≡◌, true, false}
use Rattle.std.proofs.lemmas.Iterator.{first_from_Range}
use Rattle.shapes.proofs.Found.{found_first}
use Rattle.machine.specs.Cell.{bad_cell, first_bad, bad_in}
use Rattle.machine.proofs.cell.first_bad.Goals as goal

pub returns : goal.returns
unfolding bad_in first_bad
returns c = let bad : _ = bad_cell c.args.head c.args.cells.now in rw (← c.cells.ensures.value)
    (found_first bad _ _ (first_from_Range _ _ _ _ (λ i. bad i ≡ true) (λ i. bad i ≡ false) c.find.ensures.ran (λ x q k. search rules) (λ x q k. search rules)))
