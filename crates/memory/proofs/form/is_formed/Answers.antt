-- `memory::form::is_formed` meets its contract: the three tests are those of `well_formed`.
use Rattle.std.proofs.Common.{rules}
use Rattle.memory.specs.Form.{well_formed}
use Rattle.memory.proofs.form.is_formed.Goals as goal

pub returns-then-are_places : goal.returns-then-are_places
unfolding well_formed
returns-then-are_places c = search rules

pub returns-else-are_places : goal.returns-else-are_places
unfolding well_formed
returns-else-are_places c = search rules
