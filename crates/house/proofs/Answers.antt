-- Each public function's contract allows one answer only, said of the contract that the check generates.
-- Assumes nothing.
use mathlib.Core.Path.{◌≡◌, refl, sym, ◌∙◌}
use mathlib.Core.List.{List}
use Prim.Native.Nat.{ℕ}
use Rattle.shapes.specs.OneAnswer.{OneAnswer, OneReading}
use Rattle.house.specs.Refusal.{wrote}
use Rattle.std.specs.Prelude.{Result}
use Rattle.house.specs.Left.{Part, parts_left}
use Rattle.house.specs.declared.refusal.Refusal.{Refusal}
use Rattle.house.proofs.refusal.Refusal.number.Kinds as refusal_number_kinds
use Rattle.house.proofs.refusal.Refusal.number.Reads as refusal_number_reads
use Rattle.house.proofs.refusal.Refusal.carried.Kinds as refusal_carried_kinds
use Rattle.house.proofs.refusal.Refusal.carried.Reads as refusal_carried_reads
use Rattle.house.proofs.file.check_file.Kinds as check_file_kinds
use Rattle.house.proofs.file.check_file.Reads as check_file_reads
use Rattle.house.proofs.file.put_file_head.Kinds as put_file_head_kinds
use Rattle.house.proofs.file.put_file_head.Reads as put_file_head_reads
use Rattle.house.proofs.table.read_table.Kinds as read_table_kinds
use Rattle.house.proofs.table.read_table.Reads as read_table_reads
use Rattle.house.proofs.table.put_table_head.Kinds as put_table_head_kinds
use Rattle.house.proofs.table.put_table_head.Reads as put_table_head_reads
use Rattle.house.proofs.cases.read_record.Kinds as read_record_kinds
use Rattle.house.proofs.cases.read_record.Reads as read_record_reads
use Rattle.house.proofs.cases.put_case.Kinds as put_case_kinds
use Rattle.house.proofs.cases.put_case.Reads as put_case_reads
use Rattle.house.proofs.cases.check_case.Kinds as check_case_kinds
use Rattle.house.proofs.cases.check_case.Reads as check_case_reads
use Rattle.house.proofs.cases.check_cases.Kinds as check_cases_kinds
use Rattle.house.proofs.cases.check_cases.Reads as check_cases_reads
use Rattle.house.proofs.record.Record.cases.Kinds as record_cases_kinds
use Rattle.house.proofs.record.Record.cases.Reads as record_cases_reads

-- what was written has one answer and leaves one list
pub wrote_one : {r s : Result ℕ Refusal} {l k : List ℕ} → wrote r l ≡ wrote s k → (r ≡ s) × (l ≡ k)
wrote_one e = (cc, cc)

pub refusal_number_one : OneAnswer refusal_number_kinds.ps refusal_number_kinds.r refusal_number_reads.Post
refusal_number_one κs a z z' ws ws' p q = (p ∙ sym q, refl)

pub refusal_carried_one : OneAnswer refusal_carried_kinds.ps refusal_carried_kinds.r refusal_carried_reads.Post
refusal_carried_one κs a z z' ws ws' p q = (p ∙ sym q, refl)

pub check_file_one : OneAnswer check_file_kinds.ps check_file_kinds.r check_file_reads.Post
check_file_one κs a z z' ws ws' p q = (p ∙ sym q, refl)

put_file_head_one : OneAnswer put_file_head_kinds.ps put_file_head_kinds.r put_file_head_reads.Post
put_file_head_one κs a z z' ws ws' p q = (refl, λ i. ((p ∙ sym q) i, ws.1))

pub read_table_one : OneAnswer read_table_kinds.ps read_table_kinds.r read_table_reads.Post
read_table_one κs a z z' ws ws' p q = (p ∙ sym q, refl)

put_table_head_one : OneAnswer put_table_head_kinds.ps put_table_head_kinds.r put_table_head_reads.Post
put_table_head_one κs a z z' ws ws' p q = (refl, λ i. ((p ∙ sym q) i, ws.1))

pub read_record_one : OneAnswer read_record_kinds.ps read_record_kinds.r read_record_reads.Post
read_record_one κs a z z' ws ws' p q = (p ∙ sym q, refl)

put_case_one : OneAnswer put_case_kinds.ps put_case_kinds.r put_case_reads.Post
put_case_one κs a z z' ws ws' p q = (p.0 ∙ sym q.0, λ i. ((p.1 ∙ sym q.1) i, ws.1))

pub check_case_one : OneAnswer check_case_kinds.ps check_case_kinds.r check_case_reads.Post
check_case_one κs a z z' ws ws' p q = (p ∙ sym q, refl)

check_cases_one : OneAnswer check_cases_kinds.ps check_cases_kinds.r check_cases_reads.Post
check_cases_one κs a z z' ws ws' p q = (p ∙ sym q, refl)

-- the cases that are left to take
record_cases_one : OneReading {A = List Part} record_cases_kinds.ps record_cases_kinds.r (λ κs z. parts_left z) record_cases_reads.Post
record_cases_one κs a z z' ws ws' p q = (p ∙ sym q, refl)
