-- `memory::store::clear_tallies` meets its contract: what is filled is the tallies' first part.
use Rattle.std.proofs.Common.{rules}
use Rattle.memory.proofs.Stores.{cleared_told}
use Rattle.memory.proofs.store.clear_tallies.Goals as goal

pub returns : goal.returns
returns c = cleared_told _ _ c.requires (c.fill.ensures.after (λ y k. search rules))
