-- `judge::is_explained` meets its contract. The invariant: no case was missed, and what is left to try says what all the cases say.
use Rattle.house.specs.Cases.{cases_in}
use Rattle.house.specs.Left.{parts_left}
use Rattle.house.proofs.Left.{cases_of}
use Rattle.judge.proofs.Judged.{Trying}
use Rattle.judge.proofs.is_explained.Given as goal

abbrev pub invariant-loop-case : goal.invariant-loop-case
invariant-loop-case l = Trying l.table.head l.table.cells.now l.number (cases_in l.record.bytes.now) (cases_of (parts_left l.case-iterator))
