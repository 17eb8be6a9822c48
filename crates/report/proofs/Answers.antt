-- Each public function's contract allows one answer only, said of the contract that the check generates.
-- Assumes nothing.
use mathlib.Core.Path.{refl, sym, ◌∙◌}
use Rattle.shapes.specs.OneAnswer.{OneAnswer}
use Rattle.house.proofs.Answers.{wrote_one}
use Rattle.report.proofs.save.save.Kinds as save_kinds
use Rattle.report.proofs.save.save.Reads as save_reads
use Rattle.report.proofs.conflicts.symptoms.Kinds as symptoms_kinds
use Rattle.report.proofs.conflicts.symptoms.Reads as symptoms_reads
use Rattle.report.proofs.conflicts.conflict_set.Kinds as conflict_set_kinds
use Rattle.report.proofs.conflicts.conflict_set.Reads as conflict_set_reads
use Rattle.report.proofs.conflicts.candidates.Kinds as candidates_kinds
use Rattle.report.proofs.conflicts.candidates.Reads as candidates_reads

pub save_one : OneAnswer save_kinds.ps save_kinds.r save_reads.Post
save_one κs a z z' ws ws' p q = let e = wrote_one (p ∙ sym q) in (e.0, λ i. (ws.0, (ws.1.0, (e.1 i, ws.1.1.1))))

pub symptoms_one : OneAnswer symptoms_kinds.ps symptoms_kinds.r symptoms_reads.Post
symptoms_one κs a z z' ws ws' p q = (p ∙ sym q, refl)

pub conflict_set_one : OneAnswer conflict_set_kinds.ps conflict_set_kinds.r conflict_set_reads.Post
conflict_set_one κs a z z' ws ws' p q = let e = wrote_one (p ∙ sym q) in (e.0, λ i. (ws.0, (ws.1.0, (ws.1.1.0, (e.1 i, ws.1.1.1.1)))))

pub candidates_one : OneAnswer candidates_kinds.ps candidates_kinds.r candidates_reads.Post
candidates_one κs a z z' ws ws' p q = let e = wrote_one (p ∙ sym q) in (e.0, λ i. (ws.0, (ws.1.0, (e.1 i, ws.1.1.1))))
