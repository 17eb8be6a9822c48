-- `house::cases::check_cases` meets its contract. The invariant: what is left to judge says what all the cases say.
use Rattle.std.specs.Iterator.Adapters.{enumerate_source, enumerate_count}
use Rattle.house.specs.Cases.{cases_in}
use Rattle.house.specs.Left.{parts_left}
use Rattle.house.proofs.Against.{Judging}
use Rattle.house.proofs.Left.{cases_of}
use Rattle.house.proofs.cases.check_cases.Given as goal

abbrev pub invariant-loop-i : goal.invariant-loop-i
invariant-loop-i l = Judging l.head l.first (cases_in l.record.bytes.now) (cases_of (parts_left (enumerate_source l.i-iterator))) (enumerate_count l.i-iterator)
