-- `session::calls::load` meets its contract: what the check refuses the call refuses, and else `hold_all` does what is to be done.
use mathlib.Core.Path.{ap, ◌∙◌}
use Rattle.house.proofs.Forms.{passed_on}
use Rattle.session.specs.Calls.{after}
use Rattle.session.proofs.Changed.{load_refused, load_known, load_read, load_done}
use Rattle.session.proofs.calls.load.Goals as goal

pub returns-in_err-count : goal.returns-in_err-count
returns-in_err-count c =
    ap (λ r. after r c.args.session.now c.args.tallies.now) (passed_on c.from_residual.result c.from_residual.ensures.1)
    ∙ load_refused _ _ _ _ c.check_load.ensures c.in_err-count.was

pub invariant_of-hold_all : goal.invariant_of-hold_all
invariant_of-hold_all c = record { read = load_read _ _ _ _ c.check_load.ensures _ c.in_ok-count.was }

pub hold_all-requires-clause-formed : goal.hold_all-requires-clause-formed
hold_all-requires-clause-formed c = (load_known _ _ _ _ c.check_load.ensures _ c.in_ok-count.was).0

pub hold_all-requires-clause-good : goal.hold_all-requires-clause-good
hold_all-requires-clause-good c = (load_known _ _ _ _ c.check_load.ensures _ c.in_ok-count.was).1.1.1.0

pub hold_all-requires-clause-room : goal.hold_all-requires-clause-room
hold_all-requires-clause-room c = (load_known _ _ _ _ c.check_load.ensures _ c.in_ok-count.was).1.1.1.1

pub returns : goal.returns
returns c = load_done _ _ _ _ c.check_load.ensures _ c.in_ok-count.was c.hold_all.ensures.stored c.hold_all.ensures.counted
