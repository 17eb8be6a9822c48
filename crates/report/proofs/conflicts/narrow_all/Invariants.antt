-- `report::conflicts::narrow_all` meets its contract. The loop's invariant: the candidates are what the cases held below the place leave.
use mathlib.Core.Path.{◌≡◌}
use Rattle.memory.specs.Layout.{held_to}
use Rattle.reading.specs.Reads.{machine_of}
use Rattle.report.specs.Loops.{narrowed_all}
use Rattle.report.proofs.conflicts.narrow_all.Given as goal

abbrev pub invariant-loop-place : goal.invariant-loop-place
invariant-loop-place l = l.out ≡ narrowed_all (machine_of l.held.bytes.now) (held_to l.held.bytes.now l.place) l.fn.out
