use native.Mathlib.Omega.{arith}
use mathlib.Core.Path.{ap}
use Rattle.machine.specs.Head.{cell_count}
use Rattle.product.proofs.Entries.{put_none, put_turn, put_all}
use Rattle.product.proofs.put_cells.Goals as goal

pub loop-cell-init : goal.loop-cell-init
loop-cell-init c = put_none _ _

pub loop-cell-preserved : goal.loop-cell-preserved
loop-cell-preserved c = put_turn _ _ _ c.loop-cell.invariant c.entry-entry.ensures.next c.entry-entry.ensures.output

pub returns : goal.returns
returns c = put_all _ _ _ c.loop-cell.invariant (omega (arith, ap cell_count c.head.ensures.head))
