-- `session::calls::add` meets its contract: what the check refuses the call refuses, and else `hold` does what is to be done.
use mathlib.Core.Path.{ap, ◌∙◌}
use Rattle.house.proofs.Forms.{passed_on}
use Rattle.session.specs.Calls.{after}
use Rattle.session.proofs.Changed.{add_refused, add_known, add_done}
use Rattle.session.proofs.calls.add.Goals as goal

pub returns-in_err-check_add : goal.returns-in_err-check_add
returns-in_err-check_add c =
    ap (λ r. after r c.args.session.now c.args.tallies.now) (passed_on c.from_residual.result c.from_residual.ensures.1) ∙ add_refused _ _ _ _ c.check_add.ensures c.in_err-check_add.was

pub hold-requires-clause-formed : goal.hold-requires-clause-formed
hold-requires-clause-formed c = (add_known _ _ _ _ c.check_add.ensures c.in_ok-check_add.was).0

pub hold-requires-clause-outputs_value : goal.hold-requires-clause-outputs_value
hold-requires-clause-outputs_value c = (add_known _ _ _ _ c.check_add.ensures c.in_ok-check_add.was).1.0

pub hold-requires-clause-session_bound : goal.hold-requires-clause-session_bound
hold-requires-clause-session_bound c = (add_known _ _ _ _ c.check_add.ensures c.in_ok-check_add.was).1.1

pub returns : goal.returns
returns c = add_done _ _ _ _ c.check_add.ensures c.in_ok-check_add.was c.hold.ensures.place c.hold.ensures.stored c.hold.ensures.counted
