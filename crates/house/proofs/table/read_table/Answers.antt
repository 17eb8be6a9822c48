-- `house::table::read_table` meets its contract: what the check of every file refuses is refused so, and any other file is read on.
use mathlib.Core.Path.{sym, ◌∙◌}
use Rattle.house.proofs.Forms.{checked_refused, passed_on}
use Rattle.house.proofs.Tables.{table_file_refused}
use Rattle.house.proofs.table.read_table.Goals as goal

pub returns-in_err-check_file : goal.returns-in_err-check_file
returns-in_err-check_file c =
    passed_on c.from_residual.result c.from_residual.ensures.1
    ∙ (sym (table_file_refused _ (checked_refused _ (sym c.check_file.ensures ∙ c.in_err-check_file.was))))
