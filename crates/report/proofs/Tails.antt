-- "Longer buffers, those for answers too, are allowed and their tails stay untouched": what the calls that read write is inside what the answer
-- needs, and a call that is refused writes nothing. Assumes nothing.
use Prim.Native.Nat.{ℕ}
use mathlib.Core.Path.{◌≡◌, refl}
use mathlib.Core.List.{List, ◌++◌}
use native.Mathlib.Omega.{arith}
use lib.ListN.{length}
use Rattle.std.specs.Prelude.{Ok, Err}
use Rattle.shapes.specs.Edit.{KeptFrom}
use Rattle.shapes.specs.Refusals.{Ruling, fine, refused, ruling}
use Rattle.shapes.proofs.Edit.{edit_keeps, filled_keeps}
use Rattle.machine.specs.Limits.{cells_most}
use Rattle.house.specs.Refusal.{Written, wrote, written_or}
use Rattle.house.specs.Cases.{record_file}
use Rattle.house.specs.declared.refusal.Refusal.{Refusal}
use Rattle.diagnosis.specs.Diagnosis.{conflict_bytes}
use Rattle.memory.specs.Layout.{cases}
use Rattle.memory.specs.Form.{slot_rules, form_rules}
use Rattle.report.specs.Reports.{save_rules, save_call, bytes_rules, conflict_call, candidate_bytes, candidates_call}

-- the buffer for bytes that a call leaves: after a refusal the whole of it is as it was, else all from byte n on
abbrev pub WrittenTail : ℕ → List ℕ → Written → Type 0
WrittenTail n old (wrote (Ok m) new) = KeptFrom n old new
WrittenTail n old (wrote (Err r) new) = new ≡ old

-- a call that writes bytes leaves the tail that its writing leaves
pub written_tail : (v : Ruling Refusal) (m n : ℕ) (old new : List ℕ) → KeptFrom n old new → WrittenTail n old (written_or v m old new)
written_tail fine m n old new k = k
written_tail (refused r) m n old new k = refl

-- saving leaves the buffer as it was from the count of the bytes written on,
pub save_tail : (s t out : List ℕ) → WrittenTail (length (record_file (cases s))) out (save_call s t out)
unfolding save_call
save_tail s t out =
    written_tail (ruling (save_rules s t out)) (length (record_file (cases s))) _ out _ (filled_keeps out (record_file (cases s)))

-- a conflict set from its 256 bytes on,
pub conflict_tail : (s t : List ℕ) (p : ℕ) (out : List ℕ) → WrittenTail cells_most out (conflict_call s t p out)
unfolding conflict_call conflict_bytes
conflict_tail s t p out =
    written_tail (ruling (slot_rules s t p ++ bytes_rules out)) 0 cells_most out _ (edit_keeps _ 0 cells_most cells_most out (omega arith))

-- and so the candidates
pub candidates_tail : (s t out : List ℕ) → WrittenTail cells_most out (candidates_call s t out)
unfolding candidates_call candidate_bytes
candidates_tail s t out =
    written_tail (ruling (form_rules s t ++ bytes_rules out)) 0 cells_most out _ (edit_keeps _ 0 cells_most cells_most out (omega arith))
