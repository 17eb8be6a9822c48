-- `session::calls::hold` meets its contract: the tallies of a well-formed session are at most 64, and a case that can be run fits in a place.
use Rattle.memory.proofs.Formed.{formed_held}
use Rattle.session.proofs.Changed.{raise_known, raise_on, raised_told, store_known}
use Rattle.session.proofs.calls.hold.Goals as goal

pub invariant_of-held : goal.invariant_of-held
invariant_of-held c = record { known = formed_held _ _ c.requires.formed }

pub count_in-requires-clause-fits : goal.count_in-requires-clause-fits
count_in-requires-clause-fits c = (raise_on c.args.session.now (record { inputs = c.args.inputs.now; outputs = c.args.outputs.now }) c.table.ensures.head c.table.ensures.cells _ (raise_known _ _ c.requires.formed (record { inputs = c.args.inputs.now; outputs = c.args.outputs.now }) c.requires.outputs_value)).0

pub count_in-requires-clause-room : goal.count_in-requires-clause-room
count_in-requires-clause-room c = (raise_on c.args.session.now (record { inputs = c.args.inputs.now; outputs = c.args.outputs.now }) c.table.ensures.head c.table.ensures.cells _ (raise_known _ _ c.requires.formed (record { inputs = c.args.inputs.now; outputs = c.args.outputs.now }) c.requires.outputs_value)).1.0

pub count_in-requires-clause-by_index : goal.count_in-requires-clause-by_index
count_in-requires-clause-by_index c = (raise_on c.args.session.now (record { inputs = c.args.inputs.now; outputs = c.args.outputs.now }) c.table.ensures.head c.table.ensures.cells _ (raise_known _ _ c.requires.formed (record { inputs = c.args.inputs.now; outputs = c.args.outputs.now }) c.requires.outputs_value)).1.1

pub store_case-requires-clause-inputs_len_bound : goal.store_case-requires-clause-inputs_len_bound
store_case-requires-clause-inputs_len_bound c = (store_known _ _ c.requires.formed (record { inputs = c.args.inputs.now; outputs = c.args.outputs.now }) c.requires.outputs_value _ c.requires.session_bound).1

pub returns-clause-counted : goal.returns-clause-counted
returns-clause-counted c = raised_told c.args.session.now (record { inputs = c.args.inputs.now; outputs = c.args.outputs.now }) c.table.ensures.head c.table.ensures.cells _ c.count_in.ensures
