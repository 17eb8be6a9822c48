-- `judge::judge` meets its contract: what was found, as a number.
use mathlib.Core.Path.{◌∙◌}
use Rattle.judge.proofs.Judged.{judged_done, judged_refused}
use Rattle.judge.proofs.judge.Goals as goal

pub returns-in-Ok : goal.returns-in-Ok
returns-in-Ok c = c.from.ensures ∙ judged_done _ _ _ _ c.judgement_of.ensures _ c.in-Ok.is

pub returns-in-Err : goal.returns-in-Err
returns-in-Err c = rw c.number.ensures (judged_refused _ _ _ _ c.judgement_of.ensures _ c.in-Err.is)
