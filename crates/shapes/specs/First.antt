-- The shape of a test loop: the first place at which a test holds, and whether it holds at all.
use Rattle.std.specs.Prelude.{ℕ, zero, suc, ◌+◌, List, Bool, cond, not, eqb, ltb, get_or, Option, Some, None}

-- the first of `left` places from `at` on at which `p` holds; the place after them where it holds at none
unfoldable pub first : (ℕ → Bool) → ℕ → ℕ → ℕ
first p at zero = at
first p at (suc left) = cond (p at) at (first p (suc at) left)

-- a place that was looked for below n: there is none where it is n
abbrev pub found : ℕ → ℕ → Option ℕ
found at n = cond (ltb at n) (Some at) None

-- `p` holds at every place below n
unfoldable pub all_to : (ℕ → Bool) → ℕ → Bool
all_to p n = eqb (first (λ i. not (p i)) 0 n) n

-- the `n` numbers of a list from `at` on are all 0
unfoldable pub zeros : List ℕ → ℕ → ℕ → Bool
zeros l at n = all_to (λ i. eqb (get_or l (at + i) 0) 0) n
