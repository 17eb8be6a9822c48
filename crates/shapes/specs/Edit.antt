-- The shape of a write loop: the numbers of one part of a list, each changed by its place and its old value.
use Rattle.std.specs.Prelude.{ℕ, zero, suc, ◌+◌, ◌≤◌, ◌≡◌, List, length, get_or, set}

-- the `n` numbers from `at` on changed: the one at place `i` of the part from `old` to `f i old`
unfoldable pub edit : (ℕ → ℕ → ℕ) → ℕ → ℕ → List ℕ → List ℕ
edit f at zero l = l
edit f at (suc n) l = set (edit f at n l) (at + n) (f n (get_or l (at + n) 0))

-- a list whose tail from entry n on is untouched: it is as long as it was, and each entry from n on is as it was
pub record KeptFrom (n : ℕ) (old new : List ℕ) : Type 0 where
  pub same_length : length new ≡ length old
  pub same_tail : (i : ℕ) → n ≤ i → get_or new i 0 ≡ get_or old i 0

-- the numbers of `v` written into `l` from `at` on
unfoldable pub filled : List ℕ → ℕ → List ℕ → List ℕ
unfolding edit
filled l at v = edit (λ i old. get_or v i 0) at (length v) l

-- the place after them
abbrev pub place_after : ℕ → List ℕ → ℕ
place_after at v = at + length v
