-- `report::save::case_bytes` meets its contract: a free place's case takes no byte, a held one's a length byte and two for each step.
use Rattle.report.proofs.Saved.{bytes_free, bytes_count}
use native.Mathlib.Omega.{arith}
use Rattle.report.proofs.save.case_bytes.Goals as goal

pub returns-in-Some-clause-value : goal.returns-in-Some-clause-value
returns-in-Some-clause-value c = bytes_count c.args.held.now.bytes.now c.args.place _ c.run_at.ensures c.in-Some.is

pub returns-in-Some-clause-upper_bound : goal.returns-in-Some-clause-upper_bound
returns-in-Some-clause-upper_bound c = let few = c.in-Some.run'.fits.few_steps in omega arith

pub returns-in-None-clause-value : goal.returns-in-None-clause-value
returns-in-None-clause-value c = rw (bytes_free c.args.held.now.bytes.now c.args.place _ c.run_at.ensures c.in-None.is)
