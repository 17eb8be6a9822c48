-- The walk along the cases of a record. It serves the loops that take one case after the other, and is no promise of the paper's.
use Rattle.std.specs.Prelude.{ℕ, zero, suc, List}
use Rattle.house.specs.File.{rest_at}
use Rattle.house.specs.Cases.{case_end}

-- the place of the case at a position: the first after the head, each next after the one before
unfoldable pub place_of : List ℕ → ℕ → ℕ
place_of file zero = rest_at
place_of file (suc i) = case_end file (place_of file i)
