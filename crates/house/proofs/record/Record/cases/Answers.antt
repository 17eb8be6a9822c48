-- `house::record::Record::cases` meets its contract: none was taken, so all are left.
use mathlib.Core.Path.{refl}
use native.Mathlib.Omega.{arith}
use Rattle.house.specs.Walk.{place_of}
use Rattle.house.proofs.Left.{left_all}
use Rattle.house.proofs.record.Record.cases.Goals as goal

pub returns : goal.returns
returns c = left_all _ _ _ c.args.self.now.read

pub invariant_of-result : goal.invariant_of-result
unfolding place_of
invariant_of-result c = record { place = refl; few = omega arith }
