-- `tallies::tally::can_lower` meets its contract: the closure tests a tally.
use Rattle.std.proofs.Common.{rules, tests, ◌∙◌}
use Rattle.shapes.proofs.Ranges.{all_range}
use Rattle.tallies.proofs.Tallying.{can_lose, can_told}
use Rattle.tallies.proofs.tally.can_lower.Goals as goal

pub returns : goal.returns
returns c =
    all_range (can_lose c.of-walk.result.run c.args.tallies.now c.args.left) _ _ _ _ c.all.ensures.ran (λ x b q k. search (rules, tests))
    ∙ can_told _ _ _ _ _ c.of-walk.ensures c.numbers.ensures.value
