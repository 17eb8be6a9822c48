use mathlib.Core.Path.{refl, ap, ◌∙◌}
use native.Mathlib.Omega.{arith}
use Rattle.shapes.specs.Edit.{filled}
use Rattle.reading.proofs.Listed.{listed_at, listed_told, list_told, keep_few, written_none, written_room, written_more, written_past}
use Rattle.reading.proofs.list.write_list.Goals as goal
use Rattle.reading.proofs.list.write_list.Goals.{then-is_listed, else-is_listed}

pub loop-number-init : goal.loop-number-init
loop-number-init c = written_none _ _

pub offset_bounds-out-count : goal.offset_bounds-out-count
offset_bounds-out-count c = omega (arith, keep_few (listed_at c.args.held.now.bytes.now c.args.tallies.now) c.loop-number.number, c.loop-number.invariant.counted, c.numbers-number-end.ensures.upper_bound)

pub bounds-out-count : goal.bounds-out-count
bounds-out-count c = written_room _ _ c.loop-number.invariant c.numbers-number-end.result (listed_told c.args.held.now.bytes.now c.args.tallies.now _ c.table-table.ensures.head c.table-table.ensures.cells (rw c.from.ensures at c.is_listed.ensures)) c.if-is_listed.true (omega arith) (rw (list_told c.args.held.now.bytes.now c.args.tallies.now c.table-table.ensures.head c.numbers-number-end.ensures.value refl) c.requires.list_in_bounds)

pub overflow_add-count : goal.overflow_add-count
overflow_add-count c = omega (arith, keep_few (listed_at c.args.held.now.bytes.now c.args.tallies.now) c.loop-number.number)

pub loop-number-preserved : goal.loop-number-preserved
loop-number-preserved c = elim c.if-is_listed.branch [
  | then-is_listed w ↦ written_more _ _ c.loop-number.invariant (listed_told c.args.held.now.bytes.now c.args.tallies.now _ c.table-table.ensures.head c.table-table.ensures.cells (rw c.from.ensures at c.is_listed.ensures)) w.if-is_listed.true w.out-is w.count-is
  | else-is_listed w ↦ written_past _ _ c.loop-number.invariant (listed_told c.args.held.now.bytes.now c.args.tallies.now _ c.table-table.ensures.head c.table-table.ensures.cells (rw c.from.ensures at c.is_listed.ensures)) w.if-is_listed.false w.out-is w.count-is
]

pub returns : goal.returns
returns c = c.loop-number.invariant.stored ∙ ap (filled _ 0) (list_told c.args.held.now.bytes.now c.args.tallies.now c.table-table.ensures.head c.numbers-number-end.ensures.value (omega arith))
