-- For a loop of the code: the marks that it leaves at the cells it executes. No promise of the paper's speaks of them.
use Rattle.std.specs.Prelude.{ℕ, ◌+◌, ◌%◌, List, [], ◌∷◌, get_or, set}

-- a list of numbers in which each cell of a path is marked: what stood there, 0 or 1, is now 2 or 3
unfoldable pub marked : List ℕ → List ℕ → List ℕ
marked [] out = out
marked (c ∷ cs) out = marked cs (set out c (get_or out c 0 % 2 + 2))
