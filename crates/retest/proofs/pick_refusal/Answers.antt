-- `retest::pick_refusal` meets its contract: the number is that of what the check found.
use mathlib.Core.Path.{sym, ◌∙◌}
use Rattle.house.proofs.Forms.{ruled_passed, ruled_refused}
use Rattle.retest.proofs.Retests.{number_refused, number_fine}
use Rattle.retest.proofs.pick_refusal.Goals as goal

pub returns-in-Ok : goal.returns-in-Ok
returns-in-Ok c = sym (number_fine _ _ _ (ruled_passed _ _ (sym c.check_retest.ensures ∙ c.in-Ok.is)).0)

pub returns-in-Err : goal.returns-in-Err
returns-in-Err c = c.number.ensures ∙ sym (number_refused _ _ _ (ruled_refused _ _ (sym c.check_retest.ensures ∙ c.in-Err.is)))
