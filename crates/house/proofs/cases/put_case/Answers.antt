-- `house::cases::put_case` meets its contract: the length byte, the inputs and the outputs, one right after the other, are the case's bytes.
use Rattle.house.proofs.Records.{case_after, case_written}
use Rattle.house.proofs.cases.put_case.Goals as goal

pub returns-clause-next : goal.returns-clause-next
returns-clause-next c = case_after _ _ c.requires.inputs_len_bound.1

pub returns-clause-written : goal.returns-clause-written
returns-clause-written c = case_written _ _ _ _ _ c.put.ensures c.put-2.ensures
