-- `diagnosis::is_failing` meets its contract: to fail is not to be reproduced.
use Rattle.diagnosis.specs.Diagnosis.{explains, fails}
use Rattle.diagnosis.proofs.is_failing.Goals as goal

pub returns : goal.returns
unfolding fails explains
returns c = rw c.is_expected.ensures
