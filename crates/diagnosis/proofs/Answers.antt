-- Each public function's contract allows one answer only, said of the contract that the check generates.
-- Assumes nothing.
use mathlib.Core.Path.{refl, sym, ◌∙◌}
use Rattle.shapes.specs.OneAnswer.{OneAnswer, OneReading}
use Rattle.machine.specs.declared.replay.Run.{Run}
use Rattle.diagnosis.proofs.is_failing.Kinds as is_failing_kinds
use Rattle.diagnosis.proofs.is_failing.Reads as is_failing_reads
use Rattle.diagnosis.proofs.is_missed.Kinds as is_missed_kinds
use Rattle.diagnosis.proofs.is_missed.Reads as is_missed_reads
use Rattle.diagnosis.proofs.walk.Walk.of.Kinds as walk_of_kinds
use Rattle.diagnosis.proofs.walk.Walk.of.Reads as walk_of_reads
use Rattle.diagnosis.proofs.walk.Walk.is_missed.Kinds as walk_is_missed_kinds
use Rattle.diagnosis.proofs.walk.Walk.is_missed.Reads as walk_is_missed_reads
use Rattle.diagnosis.proofs.fill.Kinds as fill_kinds
use Rattle.diagnosis.proofs.fill.Reads as fill_reads
use Rattle.diagnosis.proofs.narrow.Kinds as narrow_kinds
use Rattle.diagnosis.proofs.narrow.Reads as narrow_reads
use Rattle.diagnosis.proofs.conflict.Kinds as conflict_kinds
use Rattle.diagnosis.proofs.conflict.Reads as conflict_reads

is_failing_one : OneAnswer is_failing_kinds.ps is_failing_kinds.r is_failing_reads.Post
is_failing_one κs a z z' ws ws' p q = (p ∙ sym q, refl)

is_missed_one : OneAnswer is_missed_kinds.ps is_missed_kinds.r is_missed_reads.Post
is_missed_one κs a z z' ws ws' p q = (p ∙ sym q, refl)

-- of a walk the run, which is all that a program sees of it but its answers
walk_of_one : OneReading {A = Run} walk_of_kinds.ps walk_of_kinds.r (λ κs z. z.run) walk_of_reads.Post
walk_of_one κs a z z' ws ws' p q = (p ∙ sym q, refl)

walk_is_missed_one : OneAnswer walk_is_missed_kinds.ps walk_is_missed_kinds.r walk_is_missed_reads.Post
walk_is_missed_one κs a z z' ws ws' p q = (p ∙ sym q, refl)

fill_one : OneAnswer fill_kinds.ps fill_kinds.r fill_reads.Post
fill_one κs a z z' ws ws' p q = (refl, λ i. ((p ∙ sym q) i, ws.1))

narrow_one : OneAnswer narrow_kinds.ps narrow_kinds.r narrow_reads.Post
narrow_one κs a z z' ws ws' p q = (refl, λ i. (ws.0, ((p ∙ sym q) i, ws.1.1)))

conflict_one : OneAnswer conflict_kinds.ps conflict_kinds.r conflict_reads.Post
conflict_one κs a z z' ws ws' p q = (refl, λ i. (ws.0, ((p ∙ sym q) i, ws.1.1)))
