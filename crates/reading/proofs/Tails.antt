-- "Longer buffers, those for answers too, are allowed and their tails stay untouched": what the calls that read write is inside what the answer
-- needs, and a call that is refused writes nothing. Assumes nothing.
use Prim.Native.Nat.{ℕ}
use mathlib.Core.Path.{◌≡◌, refl}
use mathlib.Core.List.{List}
use lib.ListN.{length}
use Rattle.std.specs.Prelude.{Ok, Err}
use Rattle.shapes.specs.Edit.{KeptFrom}
use Rattle.shapes.specs.Refusals.{Ruling, fine, refused, ruling}
use Rattle.shapes.proofs.Edit.{filled_keeps}
use Rattle.house.specs.declared.refusal.Refusal.{Refusal}
use Rattle.diagnosis.specs.declared.Verdict.{Verdict}
use Rattle.reading.specs.Reads.{list_of, verdict_in, list_rules, Listed, listed, listed_or, list_call}

-- the buffer for numbers that listing leaves: after a refusal the whole of it is as it was, else all from entry n on
abbrev pub ListTail : ℕ → List ℕ → Listed → Type 0
ListTail n old (listed (Ok x) new) = KeptFrom n old new
ListTail n old (listed (Err r) new) = new ≡ old

-- listing leaves the tail that its writing leaves
listed_tail : (w : Ruling Refusal) (v : Verdict) (m n : ℕ) (old new : List ℕ) → KeptFrom n old new → ListTail n old (listed_or w v m old new)
listed_tail fine v m n old new k = k
listed_tail (refused r) v m n old new k = refl

-- listing leaves the buffer as it was from the count of the numbers listed on
pub list_tail : (s t out : List ℕ) → ListTail (length (list_of s t)) out (list_call s t out)
unfolding list_call
list_tail s t out =
    listed_tail (ruling (list_rules s t out)) (verdict_in s t) (length (list_of s t)) _ out _ (filled_keeps out (list_of s t))
