-- `session::calls::amend` meets its contract: what the check refuses the call refuses, and else the old case is counted out and the new one
-- counted in and stored.
use mathlib.Core.Path.{ap, ◌∙◌}
use Rattle.house.proofs.Forms.{passed_on}
use Rattle.memory.proofs.Formed.{formed_held}
use Rattle.session.specs.Calls.{after}
use Rattle.session.proofs.Changed.{amend_refused, amend_takes, amend_raises, amend_stores, amend_done, raise_on, raised_told}
use Rattle.session.proofs.calls.amend.Goals as goal

pub returns-in_err-check_amend : goal.returns-in_err-check_amend
returns-in_err-check_amend c =
    ap (λ r. after r c.args.session.now c.args.tallies.now) (passed_on c.from_residual.result c.from_residual.ensures.1)
    ∙ amend_refused _ _ _ _ _ c.check_amend.ensures c.in_err-check_amend.was

pub invariant_of-held : goal.invariant_of-held
invariant_of-held c = record { known = formed_held _ _ (amend_takes _ _ _ _ _ c.check_amend.ensures c.in_ok-check_amend.was).0 }

pub take-requires-clause-formed : goal.take-requires-clause-formed
take-requires-clause-formed c = (amend_takes _ _ _ _ _ c.check_amend.ensures c.in_ok-check_amend.was).0

pub take-requires-clause-place_value : goal.take-requires-clause-place_value
take-requires-clause-place_value c = (amend_takes _ _ _ _ _ c.check_amend.ensures c.in_ok-check_amend.was).1.0

pub take-requires-clause-place_value_2 : goal.take-requires-clause-place_value_2
take-requires-clause-place_value_2 c = (amend_takes _ _ _ _ _ c.check_amend.ensures c.in_ok-check_amend.was).1.1

pub count_in-requires-clause-fits : goal.count_in-requires-clause-fits
count_in-requires-clause-fits c = (raise_on c.args.session.now (record { inputs = c.args.inputs.now; outputs = c.args.outputs.now }) c.table-table.ensures.head c.table-table.ensures.cells _ (amend_raises _ _ _ _ _ c.check_amend.ensures c.in_ok-check_amend.was c.take.ensures)).0

pub count_in-requires-clause-room : goal.count_in-requires-clause-room
count_in-requires-clause-room c = (raise_on c.args.session.now (record { inputs = c.args.inputs.now; outputs = c.args.outputs.now }) c.table-table.ensures.head c.table-table.ensures.cells _ (amend_raises _ _ _ _ _ c.check_amend.ensures c.in_ok-check_amend.was c.take.ensures)).1.0

pub count_in-requires-clause-by_index : goal.count_in-requires-clause-by_index
count_in-requires-clause-by_index c = (raise_on c.args.session.now (record { inputs = c.args.inputs.now; outputs = c.args.outputs.now }) c.table-table.ensures.head c.table-table.ensures.cells _ (amend_raises _ _ _ _ _ c.check_amend.ensures c.in_ok-check_amend.was c.take.ensures)).1.1

pub store_case-requires-clause-session_size_in_bounds : goal.store_case-requires-clause-session_size_in_bounds
store_case-requires-clause-session_size_in_bounds c = (amend_stores _ _ _ _ _ c.check_amend.ensures c.in_ok-check_amend.was).0

pub store_case-requires-clause-inputs_len_bound : goal.store_case-requires-clause-inputs_len_bound
store_case-requires-clause-inputs_len_bound c = (amend_stores _ _ _ _ _ c.check_amend.ensures c.in_ok-check_amend.was).1

pub returns : goal.returns
returns c =
    amend_done _ _ _ _ _ c.check_amend.ensures c.in_ok-check_amend.was c.store_case.ensures c.take.ensures (raised_told c.args.session.now (record { inputs = c.args.inputs.now; outputs = c.args.outputs.now }) c.table-table.ensures.head c.table-table.ensures.cells _ c.count_in.ensures)
