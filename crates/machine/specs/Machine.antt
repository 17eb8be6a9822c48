-- The machine that runs: what it does at each cell (document 01, "Machine"; document 003 for the completed machine).
use Rattle.std.specs.Prelude.{ℕ, ◌+◌, ◌*◌, ◌/◌, List, cond}
use Rattle.machine.specs.Cell.{next_byte, output_byte, undefined}
use Rattle.machine.specs.declared.head.Head.{Head}
use Rattle.machine.specs.declared.cell.Move.{Move}

-- how many inputs it has, and to which state and with which output it moves at each cell
pub record Machine : Type 0 where
  pub inputs : ℕ
  pub does : ℕ → Move

-- "State 0 is initial and output 0 is the null output"
abbrev pub initial : ℕ
initial = 0

abbrev pub null_output : ℕ
null_output = 0

-- "Cell number c = state × k + input"
abbrev pub cell_number : ℕ → ℕ → ℕ → ℕ
cell_number k s i = s * k + i

-- "An undefined cell runs as a self-loop with output 0": the move at cell c, which is state s's
unfoldable pub completed : List ℕ → ℕ → ℕ → Move
completed cells s c =
    cond (undefined cells c)
    (record { next = s; output = null_output })
    (record { next = next_byte cells c; output = output_byte cells c })

-- the specified machine: the table's, completed
unfoldable pub specified : Head → List ℕ → Machine
specified h cells = record { inputs = h.inputs; does = λ c. completed cells (c / h.inputs) c }
