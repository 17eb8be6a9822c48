-- Each public function's contract allows one answer only, said of the contract that the check generates.
-- Assumes nothing.
use mathlib.Core.Path.{refl, sym, ◌∙◌}
use mathlib.Core.List.{List}
use Prim.Native.Nat.{ℕ}
use Rattle.std.specs.Prelude.{Option, Result}
use Rattle.std.specs.Option.{option_map}
use Rattle.shapes.specs.OneAnswer.{OneAnswer, OneReading}
use Rattle.machine.specs.Runs.{Bench, bench_of}
use Rattle.machine.specs.declared.head.Head.{Head}
use Rattle.house.specs.declared.refusal.Refusal.{Refusal}
use Rattle.memory.specs.Held.{told_bench}
use Rattle.memory.proofs.layout.Place.of.Kinds as place_of_kinds
use Rattle.memory.proofs.layout.Place.of.Reads as place_of_reads
use Rattle.memory.proofs.layout.head_of.Kinds as head_of_kinds
use Rattle.memory.proofs.layout.head_of.Reads as head_of_reads
use Rattle.memory.proofs.layout.free_place.Kinds as free_place_kinds
use Rattle.memory.proofs.layout.free_place.Reads as free_place_reads
use Rattle.memory.proofs.layout.count_held.Kinds as count_held_kinds
use Rattle.memory.proofs.layout.count_held.Reads as count_held_reads
use Rattle.memory.proofs.form.is_table.Kinds as is_table_kinds
use Rattle.memory.proofs.form.is_table.Reads as is_table_reads
use Rattle.memory.proofs.form.is_formed.Kinds as is_formed_kinds
use Rattle.memory.proofs.form.is_formed.Reads as is_formed_reads
use Rattle.memory.proofs.form.check_room.Kinds as check_room_kinds
use Rattle.memory.proofs.form.check_room.Reads as check_room_reads
use Rattle.memory.proofs.form.check_form.Kinds as check_form_kinds
use Rattle.memory.proofs.form.check_form.Reads as check_form_reads
use Rattle.memory.proofs.store.store_case.Kinds as store_case_kinds
use Rattle.memory.proofs.store.store_case.Reads as store_case_reads
use Rattle.memory.proofs.store.clear_place.Kinds as clear_place_kinds
use Rattle.memory.proofs.store.clear_place.Reads as clear_place_reads
use Rattle.memory.proofs.store.store_table.Kinds as store_table_kinds
use Rattle.memory.proofs.store.store_table.Reads as store_table_reads
use Rattle.memory.proofs.store.clear_tallies.Kinds as clear_tallies_kinds
use Rattle.memory.proofs.store.clear_tallies.Reads as clear_tallies_reads
use Rattle.memory.proofs.view.Held.table.Kinds as held_table_kinds
use Rattle.memory.proofs.view.Held.table.Reads as held_table_reads
use Rattle.memory.proofs.view.Held.run_at.Kinds as held_run_at_kinds
use Rattle.memory.proofs.view.Held.run_at.Reads as held_run_at_reads
use Rattle.memory.proofs.view.Held.slot.Kinds as held_slot_kinds
use Rattle.memory.proofs.view.Held.slot.Reads as held_slot_reads
use Rattle.memory.proofs.slot.check_slot.Kinds as check_slot_kinds
use Rattle.memory.proofs.slot.check_slot.Reads as check_slot_reads

place_of_one : OneAnswer place_of_kinds.ps place_of_kinds.r place_of_reads.Post
place_of_one κs a z z' ws ws' p q = (p.0 ∙ sym q.0, refl)

head_of_one : OneAnswer head_of_kinds.ps head_of_kinds.r head_of_reads.Post
head_of_one κs a z z' ws ws' p q = (p ∙ sym q, refl)

free_place_one : OneAnswer free_place_kinds.ps free_place_kinds.r free_place_reads.Post
free_place_one κs a z z' ws ws' p q = (p ∙ sym q, refl)

count_held_one : OneAnswer count_held_kinds.ps count_held_kinds.r count_held_reads.Post
count_held_one κs a z z' ws ws' p q = (p.0 ∙ sym q.0, refl)

is_table_one : OneAnswer is_table_kinds.ps is_table_kinds.r is_table_reads.Post
is_table_one κs a z z' ws ws' p q = (p ∙ sym q, refl)

is_formed_one : OneAnswer is_formed_kinds.ps is_formed_kinds.r is_formed_reads.Post
is_formed_one κs a z z' ws ws' p q = (p ∙ sym q, refl)

pub check_room_one : OneAnswer check_room_kinds.ps check_room_kinds.r check_room_reads.Post
check_room_one κs a z z' ws ws' p q = (p ∙ sym q, refl)

pub check_form_one : OneAnswer check_form_kinds.ps check_form_kinds.r check_form_reads.Post
check_form_one κs a z z' ws ws' p q = (p ∙ sym q, refl)

store_case_one : OneAnswer store_case_kinds.ps store_case_kinds.r store_case_reads.Post
store_case_one κs a z z' ws ws' p q = (refl, λ i. ((p ∙ sym q) i, ws.1))

clear_place_one : OneAnswer clear_place_kinds.ps clear_place_kinds.r clear_place_reads.Post
clear_place_one κs a z z' ws ws' p q = (refl, λ i. ((p ∙ sym q) i, ws.1))

store_table_one : OneAnswer store_table_kinds.ps store_table_kinds.r store_table_reads.Post
store_table_one κs a z z' ws ws' p q = (refl, λ i. ((p ∙ sym q) i, ws.1))

clear_tallies_one : OneAnswer clear_tallies_kinds.ps clear_tallies_kinds.r clear_tallies_reads.Post
clear_tallies_one κs a z z' ws ws' p q = (refl, λ i. ((p ∙ sym q) i, ws.1))

-- of a table the head, and the cells that are read through it
held_table_one : OneReading {A = Head × List ℕ} held_table_kinds.ps held_table_kinds.r (λ κs z. (z.head, z.cells.now)) held_table_reads.Post
held_table_one κs a z z' ws ws' p q = ((λ i. ((p.0 ∙ sym q.0) i, (p.1 ∙ sym q.1) i)), refl)

-- of a run the head, the cells and the case that are read through it,
held_run_at_one : OneReading {A = Option Bench} held_run_at_kinds.ps held_run_at_kinds.r (λ κs z. option_map bench_of z) held_run_at_reads.Post
held_run_at_one κs a z z' ws ws' p q = (p ∙ sym q, refl)

-- or the refusal
held_slot_one : OneReading {A = Result Bench Refusal} held_slot_kinds.ps held_slot_kinds.r (λ κs z. told_bench z) held_slot_reads.Post
held_slot_one κs a z z' ws ws' p q = (p ∙ sym q, refl)

pub check_slot_one : OneAnswer check_slot_kinds.ps check_slot_kinds.r check_slot_reads.Post
check_slot_one κs a z z' ws ws' p q = (p ∙ sym q, refl)
