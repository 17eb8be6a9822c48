-- How many cells and numbers a head has at most, and what the lowest bad cell of a table rests on: the bytes of its cells, and no others.
-- The crates above know a table's bytes by these alone. Assumes nothing.
use Prim.Native.Nat.{ℕ, ◌+◌, ◌*◌, ◌≤◌, ◌<◌}
use mathlib.Core.Path.{◌≡◌}
use mathlib.Core.List.{List}
use native.Mathlib.Nat.{mul-le-mul}
use native.Mathlib.Omega.{arith}
use lib.ListN.{get_or}
use Rattle.shapes.proofs.First.{first_same, first_high}
use Rattle.machine.specs.Limits.{states_most, outputs_most, cells_most, numbers_most}
use Rattle.machine.specs.Head.{HeadIn, cell_count, width, numbers}
use Rattle.machine.specs.Cell.{undefined, bad_cell, first_bad}
use Rattle.machine.specs.declared.head.Head.{Head}

-- a table has at most 256 cells
pub cells_few : (h : Head) → HeadIn h → cell_count h ≤ cells_most
cells_few h k = mul-le-mul k.few_states k.few_inputs

-- and at most 8,192 numbers
pub numbers_few : (h : Head) → HeadIn h → numbers h ≤ numbers_most
numbers_few h k = let w : width h ≤ states_most + outputs_most = omega arith in mul-le-mul (cells_few h k) w

-- the lowest bad cell is one of the cells, or their count
pub bad_few : (h : Head) (cells : List ℕ) → first_bad h cells ≤ cell_count h
unfolding first_bad
bad_few h cells = let l = first_high (bad_cell h cells) 0 (cell_count h) in omega arith

-- bytes that agree as far as the cells go have the same lowest bad cell
pub bad_same : (h : Head) (cells cells' : List ℕ) → ((i : ℕ) → i < 2 * cell_count h → get_or cells i 0 ≡ get_or cells' i 0)
    → first_bad h cells ≡ first_bad h cells'
unfolding first_bad bad_cell undefined
bad_same h cells cells' same = first_same (bad_cell h cells) (bad_cell h cells') 0 (cell_count h) each
  where
    each : (c : ℕ) → 0 ≤ c → c < 0 + cell_count h → bad_cell h cells c ≡ bad_cell h cells' c
    each c low l = rw (same (2 * c) (omega arith), same (2 * c + 1) (omega arith))
