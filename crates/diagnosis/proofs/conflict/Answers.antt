-- `diagnosis::conflict` meets its contract: a passing case's conflict set is empty; of all ones, a failing case leaves its own.
use mathlib.Core.Path.{◌∙◌}
use Rattle.shapes.proofs.Tests.{lacks, holds}
use Rattle.diagnosis.proofs.Conflicts.{ones_bits, conflict_of_ones, conflict_none}
use Rattle.diagnosis.proofs.conflict.Goals as goal

pub returns-then-not-is_failing : goal.returns-then-not-is_failing
returns-then-not-is_failing c = c.fill.ensures ∙ conflict_none _ _ _ (lacks c.is_failing.ensures c.if-not-is_failing.true)

pub narrow-requires : goal.narrow-requires
narrow-requires c = ones_bits _ _ c.requires c.fill-2.ensures

pub returns : goal.returns
returns c = c.narrow.ensures ∙ conflict_of_ones _ _ _ _ c.requires c.fill-2.ensures (holds c.is_failing.ensures c.if-not-is_failing.false)
