-- `retest::pick` meets its contract: the bytes of the case picked are the part, and on refusal it is empty.
use Rattle.retest.proofs.Retests.{picks_none, picks_case, picks_refused}
use Rattle.retest.proofs.pick.Goals as goal

pub returns-in-Ok-clause-result_value : goal.returns-in-Ok-clause-result_value
returns-in-Ok-clause-result_value c = (picks_case _ _ _ _ _ _ _ c.picked.ensures c.in-Ok.is).0

pub returns-in-Ok-clause-ref_ptr_value : goal.returns-in-Ok-clause-ref_ptr_value
returns-in-Ok-clause-ref_ptr_value c = (picks_case _ _ _ _ _ _ _ c.picked.ensures c.in-Ok.is).1

pub returns-in-Err-clause-result_value : goal.returns-in-Err-clause-result_value
returns-in-Err-clause-result_value c = (picks_none _ _ _ (0, 0) (0, 0) (picks_refused _ _ _ _ _ _ _ c.picked.ensures c.in-Err.is)).0

pub returns-in-Err-clause-ref_ptr_value : goal.returns-in-Err-clause-ref_ptr_value
returns-in-Err-clause-ref_ptr_value c = (picks_none _ _ _ _ _ (picks_refused _ _ _ _ _ _ _ c.picked.ensures c.in-Err.is)).1
