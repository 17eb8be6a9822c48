-- `memory::form::is_clean` meets its contract: the two tests are those of `zeros_after`.
use Rattle.std.proofs.Common.{rules}
use Rattle.memory.specs.Form.{zeros_after}
use Rattle.memory.proofs.form.is_clean.Goals as goal

pub returns-then-is_zero : goal.returns-then-is_zero
unfolding zeros_after
returns-then-is_zero c = search rules

pub returns-else-is_zero : goal.returns-else-is_zero
unfolding zeros_after
returns-else-is_zero c = search rules
