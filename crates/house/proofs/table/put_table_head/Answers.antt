-- `house::table::put_table_head` meets its contract: three stores after the head of every file write the three numbers.
use Rattle.house.proofs.Tables.{head_written}
use Rattle.house.proofs.table.put_table_head.Goals as goal

pub returns : goal.returns
returns c = head_written _ _ c.put_file_head.ensures c.cells.ensures.value
