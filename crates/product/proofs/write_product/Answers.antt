-- `product::write_product` meets its contract: short of room it refuses, else the cells right after what stands before them are the file.
use Rattle.product.proofs.BuiltIn.{short_told, file_told}
use Rattle.product.proofs.write_product.Goals as goal

pub returns-then-out-bytes : goal.returns-then-out-bytes
returns-then-out-bytes c = short_told _ _ c.head-head.ensures.head c.cells.ensures.value c.if-out-bytes.true

pub returns : goal.returns
returns c = file_told _ _ c.head-head.ensures.head c.cells.ensures.value c.if-out-bytes.false c.put_table_head.ensures c.put_cells.ensures
