use mathlib.Core.Path.{refl, ap, ◌∙◌}
use native.Mathlib.Omega.{arith}
use lib.ListN.{length}
use Rattle.shapes.specs.Keep.{keep_to}
use Rattle.memory.proofs.Checks.{byte_few}
use Rattle.reading.proofs.Listed.{listed_at, listed_told, list_told, keep_counted}
use Rattle.reading.proofs.list.count_listed.Goals as goal

pub loop-number-init : goal.loop-number-init
unfolding keep_to
loop-number-init c = (refl, omega arith)

pub loop-number-preserved : goal.loop-number-preserved
loop-number-preserved c = (rw c.from-count.ensures (keep_counted (listed_at c.args.held.now.bytes.now c.args.tallies.now) c.loop-number.number c.loop-number.count (listed_told c.args.held.now.bytes.now c.args.tallies.now _ c.table-table.ensures.head c.table-table.ensures.cells (rw c.from.ensures at c.is_listed.ensures)) c.loop-number.invariant.0), omega (arith, c.from-count.ensures, byte_few c.is_listed.result))

pub returns-clause-value : goal.returns-clause-value
returns-clause-value c = c.loop-number.invariant.0 ∙ ap length (list_told c.args.held.now.bytes.now c.args.tallies.now c.table-table.ensures.head c.numbers-number-end.ensures.value (omega arith))
