-- `machine::replay::Run::symptoms` meets its contract: each turn of the loop takes the case's next step.
use native.Mathlib.Omega.{arith}
use Rattle.machine.specs.Machine.{specified}
use Rattle.machine.proofs.Replayed.{begins, goes_on, ends, step_asks, taken_is, stepped_in, replay_symptoms}
use Rattle.machine.proofs.replay.Run.symptoms.Goals as goal

pub loop-step-init : goal.loop-step-init
loop-step-init c = begins _ _ _ _ _ c.args.self.now.table.sound.head c.start-replay.ensures

pub specified_move-to-requires : goal.specified_move-to-requires
specified_move-to-requires c =
    let a = step_asks _ _ _ _ _ _ _ c.args.self.now.fits c.loop-step.invariant c.loop-step-test.true c.byte.ensures.value in
    (a.0.state_in, a.1.1)

pub loop-step-preserved : goal.loop-step-preserved
unfolding specified
loop-step-preserved c =
    goes_on _ _ _ _ _ _ _ _ _ c.loop-step.invariant c.loop-step-test.true c.args.self.now.fits.even c.byte.ensures.value c.byte-in-loop-step.ensures.value
    (taken_is _ _ _ _ _ _ c.specified_move-to.ensures.moves c.step-replay.ensures) (stepped_in _ _ _ _ _ c.loop-step.invariant.known c.specified_move-to.ensures.state c.step-replay.ensures)

pub returns : goal.returns
returns c = rw (replay_symptoms, ends _ _ _ _ _ _ c.loop-step.invariant (omega arith))
