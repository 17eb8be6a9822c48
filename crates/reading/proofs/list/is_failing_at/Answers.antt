-- `reading::list::is_failing_at` meets its contract: the run of the place is of its case.
use mathlib.Core.Path.{sym}
use Rattle.reading.proofs.Listed.{failing_told, free_fails}
use Rattle.reading.proofs.list.is_failing_at.Goals as goal

pub returns-in-Some : goal.returns-in-Some
returns-in-Some c = failing_told c.args.held.now.bytes.now c.args.place _ c.run_at.ensures c.in-Some.is c.is_failing.ensures

pub returns-in-None : goal.returns-in-None
returns-in-None c = sym (free_fails c.args.held.now.bytes.now c.args.place _ c.run_at.ensures c.in-None.is)
