-- What is left of the script is no more than all of it, and less after each operation.
use Rattle.std.proofs.Common.{length, ◌≤◌}
use Rattle.trial.proofs.run.Given as goal

abbrev pub invariant-loop-script : goal.invariant-loop-script
invariant-loop-script g l = length l.script.rest.now ≤ length l.bytes

abbrev pub decreases-loop-script : goal.decreases-loop-script
decreases-loop-script g l = length l.script.rest.now
