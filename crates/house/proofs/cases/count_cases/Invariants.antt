-- `house::cases::count_cases` meets its contract. The invariant: the cases counted from here on are those of the whole file.
use Prim.Native.Nat.{◌-◌, ◌≤◌}
use mathlib.Core.Path.{◌≡◌}
use lib.ListN.{length}
use Rattle.house.specs.Cases.{cases_most, count_from, count_in}
use Rattle.house.proofs.cases.count_cases.Given as goal

abbrev pub invariant-loop-at : goal.invariant-loop-at
invariant-loop-at l = (l.count ≤ cases_most) × (count_from l.file (cases_most - l.count) l.at l.count ≡ count_in l.file)

abbrev pub decreases-loop-at : goal.decreases-loop-at
decreases-loop-at l = length l.file - l.at
