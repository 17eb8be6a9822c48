-- The contracts of `byte` and `put` allow one answer only each, said of the contract that the check generates.
-- Assumes nothing.
use mathlib.Core.Path.{refl, sym, ◌∙◌}
use Rattle.shapes.specs.OneAnswer.{OneAnswer}
use Rattle.shapes.proofs.byte.Kinds as byte_kinds
use Rattle.shapes.proofs.byte.Reads as byte_reads
use Rattle.shapes.proofs.put.Kinds as put_kinds
use Rattle.shapes.proofs.put.Reads as put_reads

byte_one : OneAnswer byte_kinds.ps byte_kinds.r byte_reads.Post
byte_one κs a z z' ws ws' p q = (p.0 ∙ sym q.0, refl)

put_one : OneAnswer put_kinds.ps put_kinds.r put_reads.Post
put_one κs a z z' ws ws' p q = (refl, λ i. ((p ∙ sym q) i, ws.1))
