-- A table that was tested and a case to be run on it, as the machine and the case that they stand for.
use Rattle.machine.specs.Machine.{Machine, specified}
use Rattle.machine.specs.declared.table.Table.{Table}

-- the specified machine of a table
abbrev pub table_machine : Table → Machine
table_machine t = specified t.head t.cells.now
