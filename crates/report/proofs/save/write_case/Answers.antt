-- `report::save::write_case` meets its contract: a free place writes nothing; the run of a held one is of its case, which is written.
use native.Mathlib.Omega.{arith}
use Rattle.report.proofs.Saved.{filled_none, bytes_free, bytes_held, bytes_count}
use Rattle.report.proofs.save.write_case.Goals as goal

pub put_case-requires-clause-inputs_in_bounds : goal.put_case-requires-clause-inputs_in_bounds
put_case-requires-clause-inputs_in_bounds c = let few = bytes_count c.args.held.now.bytes.now c.args.place _ c.run_at.ensures c.in-Some.is in let room = c.requires.place_in_bounds in omega arith

pub returns-in-Some-clause-next : goal.returns-in-Some-clause-next
returns-in-Some-clause-next c = rw (bytes_held c.args.held.now.bytes.now c.args.place _ c.run_at.ensures c.in-Some.is) c.put_case.ensures.next

pub returns-in-Some-clause-written : goal.returns-in-Some-clause-written
returns-in-Some-clause-written c = rw (bytes_held c.args.held.now.bytes.now c.args.place _ c.run_at.ensures c.in-Some.is) c.put_case.ensures.written

pub returns-in-None-clause-next : goal.returns-in-None-clause-next
returns-in-None-clause-next c = rw (bytes_free c.args.held.now.bytes.now c.args.place _ c.run_at.ensures c.in-None.is) (omega arith)

pub returns-in-None-clause-written : goal.returns-in-None-clause-written
returns-in-None-clause-written c = rw (bytes_free c.args.held.now.bytes.now c.args.place _ c.run_at.ensures c.in-None.is, filled_none)
