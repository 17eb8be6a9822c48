-- `diagnosis::is_missed` meets its contract: to miss is not to reproduce.
use Rattle.diagnosis.specs.Diagnosis.{explains, fails, misses}
use Rattle.diagnosis.proofs.is_missed.Goals as goal

pub returns : goal.returns
unfolding misses fails explains
returns c = rw c.is_reproduced.ensures
