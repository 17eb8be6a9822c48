-- `tallies::tally::lower` meets its contract. The invariant: the tallies passed have their miss taken away, and no other is changed.
use Prim.Native.Nat.{◌-◌}
use mathlib.Core.Path.{◌≡◌}
use Rattle.shapes.specs.Edit.{edit}
use Rattle.machine.specs.Runs.{bench_of}
use Rattle.tallies.specs.Tallies.{miss_by}
use Rattle.tallies.proofs.tally.lower.Given as goal

abbrev pub invariant-loop-number : goal.invariant-loop-number
invariant-loop-number l = l.tallies ≡ edit (λ f old. old - miss_by (bench_of l.run) f) 0 l.number l.fn.tallies
