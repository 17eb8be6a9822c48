-- `session::calls::take` meets its contract: the run is of the place's case, and no tally goes below 0.
use Rattle.memory.proofs.Known.{slot_room}
use Rattle.memory.proofs.Held.{slot_held}
use Rattle.memory.proofs.Runs.{run_some, run_held}
use Rattle.memory.proofs.Formed.{formed_held}
use Rattle.session.proofs.Refused.{take_low, take_done, take_room}
use Rattle.session.proofs.calls.take.Goals as goal

pub invariant_of-held : goal.invariant_of-held
invariant_of-held c = record { known = formed_held _ _ c.requires.formed }

pub run_at-requires : goal.run_at-requires
run_at-requires c = (slot_room _ _ _ (c.requires.formed, c.requires.place_value)).1

pub unwrap-run-requires : goal.unwrap-run-requires
unwrap-run-requires c = run_some c.args.session.now c.args.place _ c.run_at.ensures (slot_held _ _ c.requires.place_value)

pub lower-requires-clause-room : goal.lower-requires-clause-room
lower-requires-clause-room c = take_room c.args.session.now _ c.args.place _ (run_held c.args.session.now c.args.place _ c.run_at.ensures c.unwrap-run.ensures).1 c.requires.formed

pub lower-requires-clause-by_index : goal.lower-requires-clause-by_index
lower-requires-clause-by_index c = take_low c.args.session.now _ c.args.place _ (run_held c.args.session.now c.args.place _ c.run_at.ensures c.unwrap-run.ensures).1 c.requires.place_value_2

pub returns : goal.returns
returns c = take_done c.args.session.now _ c.args.place _ (run_held c.args.session.now c.args.place _ c.run_at.ensures c.unwrap-run.ensures).1 c.lower.ensures
