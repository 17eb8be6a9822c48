-- The limits of document 01 ("Machine", "Fault numbers", "House files"), as the definitions have them. The code has each as an
-- associated constant of what it bounds, and its proofs hold the two to each other.
use Rattle.std.specs.Prelude.{ℕ, ◌+◌, ◌*◌}

-- a table has 1 to 16 states, inputs and outputs
abbrev pub states_most : ℕ
states_most = 16

abbrev pub inputs_most : ℕ
inputs_most = 16

abbrev pub outputs_most : ℕ
outputs_most = 16

-- so it has at most 256 cells
abbrev pub cells_most : ℕ
cells_most = states_most * inputs_most

-- and at most 8,192 fault numbers
abbrev pub numbers_most : ℕ
numbers_most = cells_most * (states_most + outputs_most)

-- a case has 1 to 64 steps
abbrev pub steps_most : ℕ
steps_most = 64
