-- `memory::form::are_tallies` meets its contract: the closure tests a tally.
use Rattle.std.proofs.Common.{rules, tests, get_or, ◌∙◌}
use lib.Dec.{leb}
use Rattle.shapes.proofs.Ranges.{all_range}
use Rattle.memory.specs.Form.{most_for}
use Rattle.memory.specs.Layout.{tallies_size}
use Rattle.memory.proofs.Checks.{table_head, tallies_told}
use Rattle.memory.proofs.form.are_tallies.Goals as goal

pub numbers-numbers-requires : goal.numbers-numbers-requires
numbers-numbers-requires c = rw c.head_of.ensures (table_head _ c.requires.session_value)

pub returns : goal.returns
returns c = all_range (λ f. leb (get_or c.args.tallies.now f 0) (most_for f c.numbers-numbers.result c.count_held-held.result)) tallies_size _ _ _ c.all.ensures.ran (λ x b q k. search (rules, tests))
    ∙ tallies_told _ _ (rw c.head_of.ensures at c.numbers-numbers.ensures.value) c.count_held-held.ensures.value
