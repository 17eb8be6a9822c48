-- `house::cases::check_case` meets its contract: one rule, and the test is the code's.
use Rattle.shapes.specs.Refusals.{ruling}
use Rattle.shapes.proofs.Tests.{lacks, holds}
use Rattle.house.specs.Cases.{case_rules}
use Rattle.house.proofs.cases.check_case.Goals as goal

pub returns-then-not-is_case : goal.returns-then-not-is_case
unfolding case_rules ruling
returns-then-not-is_case c = rw (lacks c.is_case.ensures c.if-not-is_case.true)

pub returns : goal.returns
unfolding case_rules ruling
returns c = rw (holds c.is_case.ensures c.if-not-is_case.false)
