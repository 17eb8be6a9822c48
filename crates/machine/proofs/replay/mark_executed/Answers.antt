use mathlib.Core.Path.{ap}
use Rattle.machine.specs.Machine.{specified}
use Rattle.machine.proofs.Marks.{marking_begins, marking_goes_on, marking_ends}
use Rattle.machine.proofs.replay.mark_executed.Goals as goal

pub loop-input-init : goal.loop-input-init
loop-input-init c = marking_begins _ _ _ _ c.args.table.now.sound.head

pub loop-input-preserved : goal.loop-input-preserved
unfolding specified
loop-input-preserved c = marking_goes_on _ _ _ _ _ _ _ _ _ c.loop-input.invariant c.loop-input-test.true (rw (← c.from-input.ensures) c.cell_of-cell.ensures.value) (rw (← c.from-input.ensures) (ap (λ m. m.next) c.specified_move-state.ensures.moves)) c.specified_move-state.ensures.state

pub returns : goal.returns
returns c = marking_ends _ _ _ _ _ _ _ c.loop-input.invariant c.loop-input-test.false
