-- `diagnosis::sweep` meets its contract. The invariant: of the part gone through the cells passed are swept, and no other.
use mathlib.Core.Path.{◌≡◌}
use lib.ListN.{take}
use Rattle.shapes.specs.Edit.{edit}
use Rattle.machine.specs.Limits.{cells_most}
use Rattle.diagnosis.specs.Loops.{swept}
use Rattle.diagnosis.proofs.sweep.Given as goal

abbrev pub invariant-loop-value : goal.invariant-loop-value
invariant-loop-value l = l.value-items ≡ edit (λ c old. swept old) 0 l.value-index (take cells_most l.fn.out)
