-- Each public function's contract allows one answer only, said of the contract that the check generates.
-- Assumes nothing.
use Prim.Native.Nat.{ℕ}
use mathlib.Core.Path.{refl, sym, ◌∙◌}
use mathlib.Core.List.{List}
use Rattle.shapes.specs.OneAnswer.{OneAnswer, OneReading}
use Rattle.retest.proofs.pick.Kinds as pick_kinds
use Rattle.retest.proofs.pick.Reads as pick_reads
use Rattle.retest.proofs.pick_refusal.Kinds as pick_refusal_kinds
use Rattle.retest.proofs.pick_refusal.Reads as pick_refusal_reads

-- the part handed back: where it begins, and what is read through it
pub pick_one : OneReading {A = (ℕ × ℕ) × List ℕ} pick_kinds.ps pick_kinds.r (λ κs z. (z.ref_ptr, z.now)) pick_reads.Post
pick_one κs a z z' ws ws' p q = ((λ i. ((p.1 ∙ sym q.1) i, (p.0 ∙ sym q.0) i)), refl)

pub pick_refusal_one : OneAnswer pick_refusal_kinds.ps pick_refusal_kinds.r pick_refusal_reads.Post
pick_refusal_one κs a z z' ws ws' p q = (p ∙ sym q, refl)
