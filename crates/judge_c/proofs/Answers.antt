-- The contract of the judge for C allows one answer only, said of the contract that the check generates.
-- Assumes nothing.
use mathlib.Core.Path.{sym, ◌∙◌, refl}
use Rattle.shapes.specs.OneAnswer.{OneAnswer}
use Rattle.judge_c.proofs.judge.Kinds as judge_kinds
use Rattle.judge_c.proofs.judge.Reads as judge_reads

pub judge_one : OneAnswer judge_kinds.ps judge_kinds.r judge_reads.Post
judge_one κs a z z' ws ws' p q = (p ∙ sym q, refl)
