-- What a save, symptoms, a conflict set and candidates say of a well-formed session, and from the answer alone. Each call is a choice on its ruling, so an
-- answer that is no refusal says that no rule holds, and what was answered and written.
-- Assumes nothing.
use Prim.Native.Nat.{ℕ, ◌≤◌, ◌<◌}
use mathlib.Core.Path.{◌≡◌, refl}
use mathlib.Core.Bool.{true}
use mathlib.Core.List.{List, [], ◌∷◌, ◌++◌}
use native.Mathlib.Nat.{zero-add}
use native.Mathlib.Omega.{arith}
use borrow.Author.Tests.{ltb-false, le-ltb}
use lib.ListN.{length, get_or, take}
use Rattle.std.specs.Prelude.{Ok}
use Rattle.shapes.specs.Edit.{filled}
use Rattle.shapes.specs.Keep.{bit, every}
use Rattle.shapes.specs.Refusals.{Ruling, fine, refused, ruling}
use Rattle.shapes.proofs.Edit.{take_filled, edit_in}
use Rattle.shapes.proofs.Tests.{and_true}
use Rattle.shapes.proofs.Refusals.{ruling_joined, ruling_join_fine, fine_when}
use Rattle.machine.specs.Limits.{cells_most}
use Rattle.machine.specs.Case.{Case, good_case, all_good}
use Rattle.machine.specs.Run.{symptoms_of}
use Rattle.machine.specs.declared.head.Head.{Head}
use Rattle.machine.proofs.Cases.{case_in}
use Rattle.house.specs.Refusal.{wrote, written_or}
use Rattle.house.specs.Cases.{AllRecordable, record_file, record_read, cases_in}
use Rattle.house.specs.declared.refusal.Refusal.{Refusal}
use Rattle.house.proofs.Records.{record_reads_back}
use Rattle.diagnosis.specs.Diagnosis.{conflict_bytes, is_candidate}
use Rattle.memory.specs.Layout.{head_of, case_of, cases}
use Rattle.memory.specs.Form.{Formed, form_rules, is_slot, slot_rules}
use Rattle.memory.proofs.Known.{rules_formed, formed_rules}
use Rattle.memory.proofs.Formed.{cases_good, cases_most_law}
use Rattle.report.specs.Reports.{save_rules, save_call, bytes_rules, symptoms_call, conflict_call, candidate_bytes, candidates_call}
use Rattle.reading.specs.Reads.{machine_of}

module _ (s t : List ℕ) (k : Formed s t) where
  -- a save the bytes of the record and the record,
  pub save_formed : (out : List ℕ) → length (record_file (cases s)) ≤ length out
      → save_call s t out ≡ wrote (Ok (length (record_file (cases s)))) (filled out 0 (record_file (cases s)))
  unfolding save_call save_rules ruling
  save_formed out room = rw (ruling_join_fine (form_rules s t) _ (formed_rules s t k), le-ltb (length out) (length (record_file (cases s))) room)

  -- and the candidates are written
  pub candidates_formed : (out : List ℕ) → cells_most ≤ length out
      → candidates_call s t out ≡ wrote (Ok 0) (candidate_bytes (machine_of s) (cases s) out)
  unfolding candidates_call bytes_rules ruling
  candidates_formed out room = rw (ruling_join_fine (form_rules s t) _ (formed_rules s t k), le-ltb (length out) cells_most room)

  module _ (p : ℕ) (slot : is_slot s p ≡ true) where
    -- a place that holds a case is let pass,
    slot_fine : ruling (slot_rules s t p) ≡ fine
    unfolding slot_rules ruling
    slot_fine = rw (ruling_join_fine (form_rules s t) _ (formed_rules s t k), slot)

    -- its symptoms are answered,
    pub symptoms_formed : symptoms_call s t p ≡ Ok (symptoms_of (machine_of s) (case_of s p).inputs (case_of s p).outputs)
    unfolding symptoms_call
    symptoms_formed = rw slot_fine

    -- and its conflict set is written
    pub conflict_formed : (out : List ℕ) → cells_most ≤ length out
        → conflict_call s t p out ≡ wrote (Ok 0) (conflict_bytes (machine_of s) (case_of s p) out)
    unfolding conflict_call bytes_rules ruling
    conflict_formed out room = rw (ruling_join_fine (slot_rules s t p) _ slot_fine, le-ltb (length out) cells_most room)

-- a buffer that was written was let pass: so much was answered, and the new list is left
pub written_done : (v : Ruling Refusal) (n m : ℕ) (old new left : List ℕ) → written_or v n old new ≡ wrote (Ok m) left
    → (v ≡ fine) × ((n ≡ m) × (new ≡ left))
written_done fine n m old new left e = (refl, (cc, cc))
written_done (refused r) n m old new left e = (cc, (cc, cc))

-- cases that can be run can be recorded
good_recordable : (h : Head) (cs : List Case) → all_good h cs ≡ true → AllRecordable cs
unfolding all_good every
good_recordable h [] e = tt
good_recordable h (c ∷ cs) e =
    let g = and_true (good_case h c.inputs c.outputs) _ e in
    let k = case_in h c.inputs c.outputs g.0 in
    (record { some_steps = k.some_steps; few_steps = k.few_steps; even = k.even }, good_recordable h cs g.1)

-- what a save answers and leaves reads back as the cases held, in order
pub save_reads_back : (s t out : List ℕ) (n : ℕ) (left : List ℕ) → save_call s t out ≡ wrote (Ok n) left
    → (record_read (take n left) ≡ Ok (length (cases s))) × (cases_in (take n left) ≡ cases s)
unfolding save_call save_rules
save_reads_back s t out n left e =
    let d = written_done (ruling (save_rules s t out)) _ n out _ left e in
    let j = ruling_joined (form_rules s t) _ d.0 in
    let k = rules_formed s t j.0 in
    let room = ltb-false (length out) (length (record_file (cases s))) ((fine_when _).0 j.1).0 in
    let file : take n left ≡ record_file (cases s) = rw (← d.1.0, ← d.1.1) (take_filled out (record_file (cases s)) room) in
    rw file (record_reads_back (cases s) (cases_most_law s) (good_recordable (head_of s) (cases s) (cases_good s t k)))

-- candidates are written of a well-formed session,
pub candidates_done : (s t out : List ℕ) (n : ℕ) (left : List ℕ) → candidates_call s t out ≡ wrote (Ok n) left → Formed s t
unfolding candidates_call
candidates_done s t out n left e =
    let d = written_done (ruling (form_rules s t ++ bytes_rules out)) _ n out _ left e in
    rules_formed s t (ruling_joined (form_rules s t) _ d.0).0

-- and the byte left at a cell is 1 where it is one, else 0
pub candidates_byte : (s t out : List ℕ) (n : ℕ) (left : List ℕ) → candidates_call s t out ≡ wrote (Ok n) left
    → (cell : ℕ) → cell < cells_most → get_or left cell 0 ≡ bit (is_candidate (machine_of s) (cases s) cell)
unfolding candidates_call candidate_bytes bytes_rules
candidates_byte s t out n left e cell l =
    let d = written_done (ruling (form_rules s t ++ bytes_rules out)) _ n out _ left e in
    let j = ruling_joined (form_rules s t) _ d.0 in
    let room = ltb-false (length out) cells_most ((fine_when _).0 j.1).0 in
    rw (← d.1.1) (rw zero-add at (edit_in (λ c old. bit (is_candidate (machine_of s) (cases s) c)) 0 cells_most out cell l (omega arith)))
