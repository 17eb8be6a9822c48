-- `reading::audit::missed_at` meets its contract: the run of the place is of its case, and the answer is a number.
use mathlib.Core.Path.{sym, ◌∙◌}
use Rattle.memory.proofs.Runs.{run_head}
use Rattle.reading.proofs.Listed.{missed_told, free_missed}
use Rattle.reading.proofs.audit.missed_at.Goals as goal

pub is_missed-requires : goal.is_missed-requires
is_missed-requires c = rw (run_head c.args.held.now.bytes.now c.args.place _ c.run_at.ensures c.in-Some.is) c.requires.number_bound

pub returns-in-Some-clause-value : goal.returns-in-Some-clause-value
returns-in-Some-clause-value c = c.from.ensures ∙ (missed_told c.args.held.now.bytes.now c.args.place _ c.run_at.ensures c.args.number c.in-Some.is c.is_missed.ensures).0

pub returns-in-None-clause-value : goal.returns-in-None-clause-value
returns-in-None-clause-value c = sym (free_missed c.args.held.now.bytes.now c.args.place _ c.run_at.ensures c.args.number c.in-None.is)
