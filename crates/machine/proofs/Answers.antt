-- Each public function's contract allows one answer only, said of the contract that the check generates.
-- Assumes nothing.
use mathlib.Core.Path.{refl, sym, ◌∙◌}
use Rattle.shapes.specs.OneAnswer.{OneAnswer}
use Rattle.machine.proofs.head.is_within.Kinds as is_within_kinds
use Rattle.machine.proofs.head.is_within.Reads as is_within_reads
use Rattle.machine.proofs.head.Head.new.Kinds as head_new_kinds
use Rattle.machine.proofs.head.Head.new.Reads as head_new_reads
use Rattle.machine.proofs.head.Head.cells.Kinds as head_cells_kinds
use Rattle.machine.proofs.head.Head.cells.Reads as head_cells_reads
use Rattle.machine.proofs.head.Head.numbers.Kinds as head_numbers_kinds
use Rattle.machine.proofs.head.Head.numbers.Reads as head_numbers_reads
use Rattle.machine.proofs.cell.is_undefined.Kinds as is_undefined_kinds
use Rattle.machine.proofs.cell.is_undefined.Reads as is_undefined_reads
use Rattle.machine.proofs.cell.first_bad.Kinds as first_bad_kinds
use Rattle.machine.proofs.cell.first_bad.Reads as first_bad_reads
use Rattle.machine.proofs.cell.completed_move.Kinds as completed_move_kinds
use Rattle.machine.proofs.cell.completed_move.Reads as completed_move_reads
use Rattle.machine.proofs.cell.cell_of.Kinds as cell_of_kinds
use Rattle.machine.proofs.cell.cell_of.Reads as cell_of_reads
use Rattle.machine.proofs.table.Table.specified_move.Kinds as specified_move_kinds
use Rattle.machine.proofs.table.Table.specified_move.Reads as specified_move_reads
use Rattle.machine.proofs.fault.Fault.new.Kinds as fault_new_kinds
use Rattle.machine.proofs.fault.Fault.new.Reads as fault_new_reads
use Rattle.machine.proofs.fault.Fault.numbered.Kinds as fault_numbered_kinds
use Rattle.machine.proofs.fault.Fault.numbered.Reads as fault_numbered_reads
use Rattle.machine.proofs.fault.Fault.change.Kinds as fault_change_kinds
use Rattle.machine.proofs.fault.Fault.change.Reads as fault_change_reads
use Rattle.machine.proofs.fault.is_fault.Kinds as is_fault_kinds
use Rattle.machine.proofs.fault.is_fault.Reads as is_fault_reads
use Rattle.machine.proofs.case.is_case.Kinds as is_case_kinds
use Rattle.machine.proofs.case.is_case.Reads as is_case_reads
use Rattle.machine.proofs.replay.Run.symptoms.Kinds as symptoms_of_kinds
use Rattle.machine.proofs.replay.Run.symptoms.Reads as symptoms_of_reads
use Rattle.machine.proofs.replay.Run.is_reproduced.Kinds as is_reproduced_kinds
use Rattle.machine.proofs.replay.Run.is_reproduced.Reads as is_reproduced_reads
use Rattle.machine.proofs.replay.Run.is_expected.Kinds as is_expected_kinds
use Rattle.machine.proofs.replay.Run.is_expected.Reads as is_expected_reads
use Rattle.machine.proofs.replay.mark_executed.Kinds as mark_executed_kinds
use Rattle.machine.proofs.replay.mark_executed.Reads as mark_executed_reads

pub is_within_one : OneAnswer is_within_kinds.ps is_within_kinds.r is_within_reads.Post
is_within_one κs a z z' ws ws' p q = (p ∙ sym q, refl)

pub head_new_one : OneAnswer head_new_kinds.ps head_new_kinds.r head_new_reads.Post
head_new_one κs a z z' ws ws' p q = (p.0 ∙ sym q.0, refl)

head_cells_one : OneAnswer head_cells_kinds.ps head_cells_kinds.r head_cells_reads.Post
head_cells_one κs a z z' ws ws' p q = (p.0 ∙ sym q.0, refl)

head_numbers_one : OneAnswer head_numbers_kinds.ps head_numbers_kinds.r head_numbers_reads.Post
head_numbers_one κs a z z' ws ws' p q = (p.0 ∙ sym q.0, refl)

is_undefined_one : OneAnswer is_undefined_kinds.ps is_undefined_kinds.r is_undefined_reads.Post
is_undefined_one κs a z z' ws ws' p q = (p ∙ sym q, refl)

first_bad_one : OneAnswer first_bad_kinds.ps first_bad_kinds.r first_bad_reads.Post
first_bad_one κs a z z' ws ws' p q = (p ∙ sym q, refl)

completed_move_one : OneAnswer completed_move_kinds.ps completed_move_kinds.r completed_move_reads.Post
completed_move_one κs a z z' ws ws' p q = (p ∙ sym q, refl)

cell_of_one : OneAnswer cell_of_kinds.ps cell_of_kinds.r cell_of_reads.Post
cell_of_one κs a z z' ws ws' p q = (p.0 ∙ sym q.0, refl)

specified_move_one : OneAnswer specified_move_kinds.ps specified_move_kinds.r specified_move_reads.Post
specified_move_one κs a z z' ws ws' p q = (p.0 ∙ sym q.0, refl)

fault_new_one : OneAnswer fault_new_kinds.ps fault_new_kinds.r fault_new_reads.Post
fault_new_one κs a z z' ws ws' p q = (p.0 ∙ sym q.0, refl)

fault_numbered_one : OneAnswer fault_numbered_kinds.ps fault_numbered_kinds.r fault_numbered_reads.Post
fault_numbered_one κs a z z' ws ws' p q = (p.0 ∙ sym q.0, refl)

fault_change_one : OneAnswer fault_change_kinds.ps fault_change_kinds.r fault_change_reads.Post
fault_change_one κs a z z' ws ws' p q = (p ∙ sym q, refl)

is_fault_one : OneAnswer is_fault_kinds.ps is_fault_kinds.r is_fault_reads.Post
is_fault_one κs a z z' ws ws' p q = (p ∙ sym q, refl)

pub is_case_one : OneAnswer is_case_kinds.ps is_case_kinds.r is_case_reads.Post
is_case_one κs a z z' ws ws' p q = (p ∙ sym q, refl)

symptoms_of_one : OneAnswer symptoms_of_kinds.ps symptoms_of_kinds.r symptoms_of_reads.Post
symptoms_of_one κs a z z' ws ws' p q = (p ∙ sym q, refl)

is_reproduced_one : OneAnswer is_reproduced_kinds.ps is_reproduced_kinds.r is_reproduced_reads.Post
is_reproduced_one κs a z z' ws ws' p q = (p ∙ sym q, refl)

mark_executed_one : OneAnswer mark_executed_kinds.ps mark_executed_kinds.r mark_executed_reads.Post
mark_executed_one κs a z z' ws ws' p q = (refl, λ i. (ws.0, (ws.1.0, ((p ∙ sym q) i, ws.1.1.1))))

is_expected_one : OneAnswer is_expected_kinds.ps is_expected_kinds.r is_expected_reads.Post
is_expected_one κs a z z' ws ws' p q = (p ∙ sym q, refl)
