-- Each public function's contract allows one answer only, said of the contract that the check generates.
-- Assumes nothing.
use Prim.Native.Nat.{ℕ}
use mathlib.Core.Path.{◌≡◌, refl, sym, ◌∙◌}
use mathlib.Core.List.{List}
use Rattle.std.specs.Prelude.{Result}
use Rattle.house.specs.declared.refusal.Refusal.{Refusal}
use Rattle.shapes.specs.OneAnswer.{OneAnswer}
use Rattle.reading.specs.Reads.{Listed, listed}
use Rattle.reading.specs.declared.list.Listing.{Listing}
use Rattle.reading.proofs.list.list.Kinds as list_kinds
use Rattle.reading.proofs.list.list.Reads as list_reads
use Rattle.reading.proofs.list.is_some_failing.Kinds as is_some_failing_kinds
use Rattle.reading.proofs.list.is_some_failing.Reads as is_some_failing_reads
use Rattle.reading.proofs.audit.audit.Kinds as audit_kinds
use Rattle.reading.proofs.audit.audit.Reads as audit_reads

listed_one : (r r' : Result Listing Refusal) (l l' : List ℕ) (x : Listed) → listed r l ≡ x → listed r' l' ≡ x → (r ≡ r') × (l ≡ l')
listed_one r r' l l' x p q = (cc, cc)

pub list_one : OneAnswer list_kinds.ps list_kinds.r list_reads.Post
list_one κs a z z' ws ws' p q = let e = listed_one _ _ _ _ _ p q in (e.0, λ i. (ws.0, (ws.1.0, (e.1 i, ws.1.1.1))))

is_some_failing_one : OneAnswer is_some_failing_kinds.ps is_some_failing_kinds.r is_some_failing_reads.Post
is_some_failing_one κs a z z' ws ws' p q = (p ∙ sym q, refl)

pub audit_one : OneAnswer audit_kinds.ps audit_kinds.r audit_reads.Post
audit_one κs a z z' ws ws' p q = (p ∙ sym q, refl)
