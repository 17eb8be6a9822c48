-- `machine::replay::Run::is_reproduced_under` meets its contract: each turn of the loop takes the case's next step.
use mathlib.Core.Path.{sym}
use native.Mathlib.Omega.{arith}
use native.Mathlib.Nat.{pos_of_ne-zero}
use Rattle.machine.specs.Machine.{specified}
use Rattle.machine.specs.Fault.{under}
use Rattle.machine.proofs.Replayed.{begins, goes_on, ends, step_asks, taken_is, stepped_in, fresh_none, symptom_misses, replay_reproduces}
use Rattle.machine.proofs.replay.Run.is_reproduced_under.Goals as goal

pub loop-done-init : goal.loop-done-init
loop-done-init c = (begins _ _ _ _ _ c.args.self.now.table.sound.head c.start-replay.ensures, fresh_none _ c.start-replay.ensures)

pub changed_move-to-requires-clause-state_lt_states : goal.changed_move-to-requires-clause-state_lt_states
changed_move-to-requires-clause-state_lt_states c =
    let a = step_asks _ _ _ _ _ _ _ c.args.self.now.fits c.loop-done.invariant.0 c.loop-done-test.true c.byte.ensures.value in
    (a.0.state_in, a.1.1)

pub returns-then-replay-ne0 : goal.returns-then-replay-ne0
unfolding specified under
returns-then-replay-ne0 c =
    let u = goes_on _ _ _ _ _ _ _ _ _ c.loop-done.invariant.0 c.loop-done-test.true c.args.self.now.fits.even c.byte.ensures.value c.byte-in-loop-done.ensures.value
    (taken_is _ _ _ _ _ _ c.changed_move-to.ensures.moves c.step-replay.ensures) (stepped_in _ _ _ _ _ c.loop-done.invariant.0.known c.changed_move-to.ensures.state c.step-replay.ensures) in
    sym (symptom_misses _ _ _ _ _ _ u (pos_of_ne-zero c.if-replay-ne0.true))

pub loop-done-preserved : goal.loop-done-preserved
unfolding specified under
loop-done-preserved c = (
  goes_on _ _ _ _ _ _ _ _ _ c.loop-done.invariant.0 c.loop-done-test.true c.args.self.now.fits.even c.byte.ensures.value c.byte-in-loop-done.ensures.value
      (taken_is _ _ _ _ _ _ c.changed_move-to.ensures.moves c.step-replay.ensures) (stepped_in _ _ _ _ _ c.loop-done.invariant.0.known c.changed_move-to.ensures.state c.step-replay.ensures),
  c.if-replay-ne0.false,
)

pub returns : goal.returns
returns c =
    sym (replay_reproduces _ _ _ (rw (ends _ _ _ _ _ _ c.loop-done.invariant.0 (omega arith)) c.loop-done.invariant.1))
