-- The place of the next byte is never past the line's room.
use Prim.Native.Nat.{◌≤◌}
use Rattle.trial.specs.declared.line.TheConstants.{ROOM}
use Rattle.trial.proofs.line.LineWrite.write_all.Given as goal

abbrev pub invariant-loop-byte : goal.invariant-loop-byte
invariant-loop-byte g l = l.place ≤ ROOM
