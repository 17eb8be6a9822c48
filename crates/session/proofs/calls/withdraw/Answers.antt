-- `session::calls::withdraw` meets its contract: what the check refuses the call refuses, and else the case is counted out and its place cleared.
use mathlib.Core.Path.{ap, ◌∙◌}
use Rattle.house.proofs.Forms.{passed_on}
use Rattle.session.specs.Calls.{after}
use Rattle.session.proofs.Changed.{withdraw_refused, withdraw_known, clear_known, withdraw_done}
use Rattle.session.proofs.calls.withdraw.Goals as goal

pub returns-in_err-check_withdraw : goal.returns-in_err-check_withdraw
returns-in_err-check_withdraw c =
    ap (λ r. after r c.args.session.now c.args.tallies.now) (passed_on c.from_residual.result c.from_residual.ensures.1) ∙ withdraw_refused _ _ _ _ c.check_withdraw.ensures c.in_err-check_withdraw.was

pub take-requires-clause-formed : goal.take-requires-clause-formed
take-requires-clause-formed c = (withdraw_known _ _ _ _ c.check_withdraw.ensures c.in_ok-check_withdraw.was).0

pub take-requires-clause-place_value : goal.take-requires-clause-place_value
take-requires-clause-place_value c = (withdraw_known _ _ _ _ c.check_withdraw.ensures c.in_ok-check_withdraw.was).1.0

pub take-requires-clause-place_value_2 : goal.take-requires-clause-place_value_2
take-requires-clause-place_value_2 c = (withdraw_known _ _ _ _ c.check_withdraw.ensures c.in_ok-check_withdraw.was).1.1

pub clear_place-requires : goal.clear_place-requires
clear_place-requires c = clear_known _ _ _ _ c.check_withdraw.ensures c.in_ok-check_withdraw.was

pub returns : goal.returns
returns c = withdraw_done _ _ _ _ c.check_withdraw.ensures c.in_ok-check_withdraw.was c.clear_place.ensures c.take.ensures
