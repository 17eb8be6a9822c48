-- A case that is run on a table that was tested: the machine that it is run on, the case, and what both are made of.
use Rattle.std.specs.Prelude.{ℕ, List}
use Rattle.machine.specs.Machine.{Machine}
use Rattle.machine.specs.Case.{Case, as_case}
use Rattle.machine.specs.Tested.{table_machine}
use Rattle.machine.specs.declared.head.Head.{Head}
use Rattle.machine.specs.declared.replay.Run.{Run}

abbrev pub run_machine : Run → Machine
run_machine r = table_machine r.table

abbrev pub run_case : Run → Case
run_case r = as_case r.inputs.now r.outputs.now

-- a head and cells, and the case that is run on them
pub record Bench : Type 0 where
  pub head : Head
  pub cells : List ℕ
  pub case : Case

abbrev pub bench_of : Run → Bench
bench_of r = record { head = r.table.head; cells = r.table.cells.now; case = run_case r }
