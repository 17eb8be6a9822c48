-- `diagnosis::fill` meets its contract: the part filled, with the rest after it, is the buffer with one value at all its cells.
use Rattle.std.proofs.Common.{rules}
use Rattle.diagnosis.proofs.Parts.{part_spread}
use Rattle.diagnosis.proofs.fill.Goals as goal

pub returns : goal.returns
returns c = part_spread _ c.requires _ (c.fill.ensures.after (λ y e. search rules))
