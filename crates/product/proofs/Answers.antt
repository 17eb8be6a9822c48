-- Each public function's contract allows one answer only, said of the contract that the check generates.
-- Assumes nothing.
use mathlib.Core.Path.{sym, ◌∙◌}
use Rattle.shapes.specs.OneAnswer.{OneAnswer}
use Rattle.house.proofs.Answers.{wrote_one}
use Rattle.product.proofs.five_litre.Kinds as five_litre_kinds
use Rattle.product.proofs.five_litre.Reads as five_litre_reads
use Rattle.product.proofs.eight_litre.Kinds as eight_litre_kinds
use Rattle.product.proofs.eight_litre.Reads as eight_litre_reads

pub five_litre_one : OneAnswer five_litre_kinds.ps five_litre_kinds.r five_litre_reads.Post
five_litre_one κs a z z' ws ws' p q = let w = wrote_one (p ∙ sym q) in (w.0, λ i. (w.1 i, ws.1))

pub eight_litre_one : OneAnswer eight_litre_kinds.ps eight_litre_kinds.r eight_litre_reads.Post
eight_litre_one κs a z z' ws ws' p q = let w = wrote_one (p ∙ sym q) in (w.0, λ i. (w.1 i, ws.1))
