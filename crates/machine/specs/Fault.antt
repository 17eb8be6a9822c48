-- Fault numbers and the machine that a number makes (document 01, "Fault numbers").
use Rattle.std.specs.Prelude.{ℕ, ◌+◌, ◌-◌, ◌*◌, ◌/◌, ◌%◌, ◌<◌, List, Bool, cond, not, ◌&&◌, eqb, ltb, Option, Some, None}
use Rattle.machine.specs.Head.{cell_count, width, numbers}
use Rattle.machine.specs.Cell.{undefined}
use Rattle.machine.specs.Machine.{Machine, specified}
use Rattle.machine.specs.declared.head.Head.{Head}
use Rattle.machine.specs.declared.cell.Move.{Move}
use Rattle.machine.specs.declared.fault.Kind.{Kind}
use Rattle.machine.specs.declared.fault.Kind.TheVariants.{Output, Transfer}
use Rattle.machine.specs.declared.fault.Fault.{Fault}
use Rattle.machine.specs.declared.fault.Change.{Change}

-- "Number f = c × (n + m) + j": with j below m the output j of cell c, with j from m its transfer to state j - m
unfoldable pub fault_of : Head → ℕ → Fault
fault_of h f =
    cond (ltb (f % width h) h.outputs)
    (record { cell = f / width h; kind = Output; value = f % width h })
    (record { cell = f / width h; kind = Transfer; value = f % width h - h.outputs })

-- the j of a kind and a value: below m an output's, from m on a transfer's
abbrev pub of_kind : Head → Kind → ℕ → ℕ
of_kind h Output v = v
of_kind h Transfer v = h.outputs + v

-- the number of a fault: c × (n + m) + j
unfoldable pub fault_number : Head → Fault → ℕ
fault_number h x = x.cell * width h + of_kind h x.kind x.value

-- the cell of a number
unfoldable pub cell_of : Head → ℕ → ℕ
cell_of h f = (fault_of h f).cell

-- "the numbers are those below n × k × (n + m)": what a number stands for, or that it is not in use
unfoldable pub made_fault : Head → ℕ → Option Fault
made_fault h f = cond (ltb f (numbers h)) (Some (fault_of h f)) None

-- "cell c gives output j and keeps its next state"; "cell c goes to state j - m and keeps its output"
abbrev pub altered : Kind → ℕ → Move → Move
altered Output v to = record { next = to.next; output = v }
altered Transfer v to = record { next = v; output = to.output }

-- the change that a fault makes to a machine: its cell, and the move there
unfoldable pub change_of : Machine → Fault → Change
change_of M f = record { cell = f.cell; to = altered f.kind f.value (M.does f.cell) }

-- the machine with one cell's move changed, at every execution of the cell
unfoldable pub under : Machine → Change → Machine
under M d = record { inputs = M.inputs; does = λ c. cond (eqb c d.cell) d.to (M.does c) }

-- a fault's machine: the table's, with the fault's one change
abbrev pub faulty : Head → List ℕ → Fault → Machine
faulty h cells x = under (specified h cells) (change_of (specified h cells) x)

-- a number's machine: that of the fault that it stands for
unfoldable pub changed : Head → List ℕ → ℕ → Machine
changed h cells f = faulty h cells (fault_of h f)

-- the part of a move that a fault of the kind changes
abbrev pub own : Kind → Move → ℕ
own Output to = to.output
own Transfer to = to.next

-- whether a fault lies on a defined cell and differs from the cell's own value
unfoldable pub alters : Head → List ℕ → Fault → Bool
alters h cells f = not (undefined cells f.cell) && not (eqb f.value (own f.kind ((specified h cells).does f.cell)))

-- a number is a fault: it is in use, its cell is defined, and its value differs from the cell's own
unfoldable pub is_fault : Head → List ℕ → ℕ → Bool
is_fault h cells f = ltb f (numbers h) && alters h cells (fault_of h f)

-- how many values a change of the kind can take
abbrev pub values : Head → Kind → ℕ
values h Output = h.outputs
values h Transfer = h.states

-- what is known of a fault that was made of a number in use: its cell and its value are in range
pub record FaultIn (h : Head) (f : Fault) : Type 0 where
  pub cell_in : f.cell < cell_count h
  pub value_in : f.value < values h f.kind
