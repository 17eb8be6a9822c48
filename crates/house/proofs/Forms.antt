-- What a check's answer says of its rules' ruling, and what a file is that the rules for every file do not refuse.
-- Assumes nothing.
use Prim.Native.Nat.{ℕ, ◌-◌, ◌/◌, ◌%◌, ◌≤◌}
use mathlib.Core.Path.{◌≡◌, refl, sym, ap, ◌∙◌}
use mathlib.Core.List.{List}
use borrow.Author.Tests.{ltb-false, eqb-true, not-false, le-ltb, eq-eqb}
use native.Mathlib.Omega.{arith}
use lib.ListN.{length, get_or, drop, length-drop}
use Rattle.std.specs.Prelude.{Result, Ok, Err, IsErrAnd}
use Rattle.std.proofs.lemmas.Result.{err_from_is_err_and}
use Rattle.shapes.specs.Refusals.{Ruling, fine, refused, ruling}
use Rattle.shapes.proofs.Refusals.{fine_when}
use Rattle.shapes.proofs.Edit.{drop_three}
use Rattle.house.specs.Bytes.{Bytes}
use Rattle.house.specs.File.{rest_at, two_bytes, file_rules, file_head, file_of}
use Rattle.house.specs.Refusal.{ruled, checked}
use Rattle.house.specs.declared.refusal.Refusal.{Refusal}

-- an answer that refuses says what the rules refuse with,
pub ruled_refused : {A : Type 0} (v : Ruling Refusal) (a : A) {r : Refusal} → ruled v a ≡ Err r → v ≡ refused r
ruled_refused fine a e = cc
ruled_refused (refused q) a e = cc

-- and any other answer says that no rule refuses, and is what there was to answer
pub ruled_passed : {A : Type 0} (v : Ruling Refusal) (a : A) {b : A} → ruled v a ≡ Ok b → (v ≡ fine) × (b ≡ a)
ruled_passed fine a e = (refl, cc)
ruled_passed (refused q) a e = (cc, cc)

-- a refusal that is passed on is the one that was met
pub passed_on : {A : Type 0} (x : Result A Refusal) {r : Refusal} → IsErrAnd x (λ e. e ≡ r) → x ≡ Err r
passed_on x h = let p = err_from_is_err_and x h in p.1 ∙ ap Err p.2

-- so it is with a check
pub checked_fine : (v : Ruling Refusal) → checked v ≡ Ok tt → v ≡ fine
checked_fine v e = (ruled_passed v tt e).0

pub checked_refused : (v : Ruling Refusal) {r : Refusal} → checked v ≡ Err r → v ≡ refused r
checked_refused v e = ruled_refused v tt e

-- a file that is not refused has the version and the length of the rest where they belong
pub file_known : (v : ℕ) (file : List ℕ) → ruling (file_rules v file) ≡ fine
    → (rest_at ≤ length file) × (get_or file 0 0 ≡ v) × (two_bytes file 1 ≡ length file - rest_at)
unfolding file_rules
file_known v file e =
    let a = (fine_when (file_rules v file)).0 e in
    (ltb-false _ _ a.0, eqb-true _ _ (not-false _ a.1.0), eqb-true _ _ (not-false _ a.1.1.0))

-- and a file that has them there is not refused
pub file_fine : (v : ℕ) (file : List ℕ) → rest_at ≤ length file → get_or file 0 0 ≡ v → two_bytes file 1 ≡ length file - rest_at
    → ruling (file_rules v file) ≡ fine
unfolding ruling file_rules
file_fine v file l e n = rw (le-ltb _ _ l, e, eq-eqb v v refl, n, eq-eqb (length file - rest_at) _ refl)

-- a file made of a rest is not refused
pub file_of_fine : (v : ℕ) (rest : List ℕ) → ruling (file_rules v (file_of v rest)) ≡ fine
unfolding file_of file_head
file_of_fine v rest = file_fine v (file_of v rest) (omega arith) refl (omega arith)

-- a file of bytes that is not refused is the file made of its rest
pub file_of_rest : (v : ℕ) (file : List ℕ) → Bytes file → ruling (file_rules v file) ≡ fine → file_of v (drop rest_at file) ≡ file
unfolding file_of file_head
file_of_rest v file b e =
    let k = file_known v file e in
    let low = b 2 k.0 in
    let q : two_bytes file 1 / 256 ≡ get_or file 1 0 = omega arith in
    let r : two_bytes file 1 % 256 ≡ get_or file 2 0 = omega arith in
    rw (length-drop, ← k.1, ← k.2, q, r) (sym (drop_three file 0 k.0))
