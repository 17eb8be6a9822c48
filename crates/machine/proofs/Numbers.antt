-- Laws of plain numbers for cells and fault numbers: products that stay below a bound, and what a quotient and a remainder give back.
-- Assumes nothing.
use Prim.Native.Nat.{ℕ, ◌+◌, ◌*◌, ◌/◌, ◌<◌}
use mathlib.Core.Path.{◌≡◌}
use native.Mathlib.Nat.{mul-le-mul_right, suc-mul, lt_of_lt_of_le, add_comm, add-mul-div_right, div-eq_of_lt, zero-add, div-lt_iff_lt-mul}
use native.Mathlib.Omega.{arith}

-- a cell's number is below the count of the cells
pub cell_below : (n k s i : ℕ) → s < n → i < k → s * k + i < n * k
cell_below n k s i hs hi = lt_of_lt_of_le (rw (← suc-mul s k) at (row s k i hi)) (mul-le-mul_right k hs)
  where
    row : (s k i : ℕ) → i < k → s * k + i < s * k + k
    row s k i h = omega arith

-- and its state is the quotient by the count of the inputs
pub cell_state : (k s i : ℕ) → i < k → (s * k + i) / k ≡ s
cell_state k s i h = rw (add_comm (s * k) i, add-mul-div_right i s positive, div-eq_of_lt h, zero-add)
  where
    positive : 0 < k
    positive = omega arith

-- the cell of a number in use is a cell
pub number_cell : (cells w f : ℕ) → 0 < w → f < cells * w → f / w < cells
number_cell cells w f h l = (div-lt_iff_lt-mul h).1 l
