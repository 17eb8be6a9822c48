-- `machine::replay::Replay::start` meets its contract.
use mathlib.Core.Path.{refl}
use Rattle.machine.specs.Replay.{fresh}
use Rattle.machine.proofs.replay.Replay.start.Goals as goal

pub returns : goal.returns
unfolding fresh
returns c = refl
