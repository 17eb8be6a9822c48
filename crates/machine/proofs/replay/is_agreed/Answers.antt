-- `machine::replay::is_agreed` meets its contract: to agree is to be equal.
use mathlib.Core.Path.{refl}
use Rattle.machine.specs.Run.{agrees}
use Rattle.machine.proofs.replay.is_agreed.Goals as goal

pub returns : goal.returns
unfolding agrees
returns c = refl
