-- "The table with that one change" (demand 2): the bytes of a table's cells with the one byte changed that a fault changes. Document 000 runs
-- such a table as a mutant.
use Rattle.std.specs.Prelude.{ℕ, ◌+◌, ◌*◌, ◌/◌, ◌≡◌, false, List, get_or, set}
use Rattle.machine.specs.Cell.{undefined}
use Rattle.machine.specs.Machine.{null_output}
use Rattle.machine.specs.declared.head.Head.{Head}
use Rattle.machine.specs.declared.fault.Kind.{Kind}
use Rattle.machine.specs.declared.fault.Kind.TheVariants.{Output, Transfer}
use Rattle.machine.specs.declared.fault.Fault.{Fault}

-- which byte of cell c a fault of a kind changes: "next state before output"
abbrev pub byte_of : Kind → ℕ → ℕ
byte_of Output c = 2 * c + 1
byte_of Transfer c = 2 * c

-- the cells with a fault's one byte changed
unfoldable pub mutant : List ℕ → Fault → List ℕ
mutant cells x = set cells (byte_of x.kind x.cell) x.value

-- the cells with the move written in at cell c by which an undefined cell runs: a self-loop with output 0
unfoldable pub written_in : Head → List ℕ → ℕ → List ℕ
written_in h cells c = set (set cells (2 * c) (c / h.inputs)) (2 * c + 1) null_output

-- what makes a change a fault of the table: it lies on a defined cell, and its value is another than the byte there
pub record OtherByte (cells : List ℕ) (x : Fault) : Type 0 where
  pub on_defined : undefined cells x.cell ≡ false
  pub other_value : x.value ≡ get_or cells (byte_of x.kind x.cell) 0 → ⊥
