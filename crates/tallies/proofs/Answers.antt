-- Each public function's contract allows one answer only, said of the contract that the check generates.
-- Assumes nothing.
use mathlib.Core.Path.{refl, sym, ◌∙◌}
use Rattle.shapes.specs.OneAnswer.{OneAnswer}
use Rattle.tallies.proofs.tally.raise.Kinds as raise_kinds
use Rattle.tallies.proofs.tally.raise.Reads as raise_reads
use Rattle.tallies.proofs.tally.lower.Kinds as lower_kinds
use Rattle.tallies.proofs.tally.lower.Reads as lower_reads
use Rattle.tallies.proofs.tally.can_lower.Kinds as can_lower_kinds
use Rattle.tallies.proofs.tally.can_lower.Reads as can_lower_reads

raise_one : OneAnswer raise_kinds.ps raise_kinds.r raise_reads.Post
raise_one κs a z z' ws ws' p q = (refl, λ i. (ws.0, ((p ∙ sym q) i, ws.1.1)))

lower_one : OneAnswer lower_kinds.ps lower_kinds.r lower_reads.Post
lower_one κs a z z' ws ws' p q = (refl, λ i. (ws.0, ((p ∙ sym q) i, ws.1.1)))

can_lower_one : OneAnswer can_lower_kinds.ps can_lower_kinds.r can_lower_reads.Post
can_lower_one κs a z z' ws ws' p q = (p ∙ sym q, refl)
