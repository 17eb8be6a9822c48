-- Each public function's contract allows one answer only, said of the contract that the check generates.
-- Assumes nothing.
use Prim.Native.Nat.{ℕ}
use mathlib.Core.Path.{◌≡◌}
use mathlib.Core.List.{List}
use Rattle.std.specs.Prelude.{Result}
use Rattle.house.specs.declared.refusal.Refusal.{Refusal}
use Rattle.shapes.specs.OneAnswer.{OneAnswer}
use Rattle.session.specs.Calls.{Outcome, after}
use Rattle.session.proofs.calls.start.Kinds as start_kinds
use Rattle.session.proofs.calls.start.Reads as start_reads
use Rattle.session.proofs.calls.add.Kinds as add_kinds
use Rattle.session.proofs.calls.add.Reads as add_reads
use Rattle.session.proofs.calls.withdraw.Kinds as withdraw_kinds
use Rattle.session.proofs.calls.withdraw.Reads as withdraw_reads
use Rattle.session.proofs.calls.amend.Kinds as amend_kinds
use Rattle.session.proofs.calls.amend.Reads as amend_reads
use Rattle.session.proofs.calls.load.Kinds as load_kinds
use Rattle.session.proofs.calls.load.Reads as load_reads

-- two outcomes that are the same have the same parts
after_one : (r r' : Result ℕ Refusal) (s s' t t' : List ℕ) (x : Outcome) → after r s t ≡ x → after r' s' t' ≡ x → (r ≡ r') × (s ≡ s') × (t ≡ t')
after_one r r' s s' t t' x p q = (cc, cc, cc)

pub start_one : OneAnswer start_kinds.ps start_kinds.r start_reads.Post
start_one κs a z z' ws ws' p q = let e = after_one _ _ _ _ _ _ _ p q in (e.0, λ i. (e.1 i, (e.2 i, ws.1.1)))

pub add_one : OneAnswer add_kinds.ps add_kinds.r add_reads.Post
add_one κs a z z' ws ws' p q = let e = after_one _ _ _ _ _ _ _ p q in (e.0, λ i. (e.1 i, (e.2 i, ws.1.1)))

pub withdraw_one : OneAnswer withdraw_kinds.ps withdraw_kinds.r withdraw_reads.Post
withdraw_one κs a z z' ws ws' p q = let e = after_one _ _ _ _ _ _ _ p q in (e.0, λ i. (e.1 i, (e.2 i, ws.1.1)))

pub amend_one : OneAnswer amend_kinds.ps amend_kinds.r amend_reads.Post
amend_one κs a z z' ws ws' p q = let e = after_one _ _ _ _ _ _ _ p q in (e.0, λ i. (e.1 i, (e.2 i, ws.1.1)))

pub load_one : OneAnswer load_kinds.ps load_kinds.r load_reads.Post
load_one κs a z z' ws ws' p q = let e = after_one _ _ _ _ _ _ _ p q in (e.0, λ i. (e.1 i, (e.2 i, ws.1.1)))
