-- What a session shows of its cases (document 01, "Symptoms, conflict sets, verdict", "Session memory"): a record of them, the symptoms and the conflict set
-- of a place, the candidates. Each call is its rules in the paper's order, an output buffer's SHORT last, and what it answers and writes where
-- none refuses.
use Rattle.std.specs.Prelude.{ℕ, List, [], ◌∷◌, ◌++◌, ltb, length, Result}
use Rattle.shapes.specs.Edit.{edit, filled}
use Rattle.shapes.specs.Keep.{bit}
use Rattle.shapes.specs.Refusals.{Rule, when, ruling}
use Rattle.machine.specs.Limits.{cells_most}
use Rattle.machine.specs.Machine.{Machine}
use Rattle.machine.specs.Run.{symptoms_of}
use Rattle.machine.specs.Case.{Case}
use Rattle.machine.specs.declared.replay.Symptoms.{Symptoms}
use Rattle.house.specs.Refusal.{Written, written_or, ruled}
use Rattle.house.specs.Cases.{record_file}
use Rattle.house.specs.declared.refusal.Refusal.{Refusal}
use Rattle.house.specs.declared.refusal.Refusal.TheVariants.{Short}
use Rattle.diagnosis.specs.Diagnosis.{conflict_bytes, is_candidate}
use Rattle.memory.specs.Layout.{case_of, cases}
use Rattle.memory.specs.Form.{form_rules, slot_rules}
use Rattle.reading.specs.Reads.{machine_of}

-- "Save writes the held cases by rising place", as a record
unfoldable pub save_rules : List ℕ → List ℕ → List ℕ → List (Rule Refusal)
save_rules s t out = form_rules s t ++ (when (ltb (length out) (length (record_file (cases s)))) (Short (length (record_file (cases s)))) ∷ [])

unfoldable pub save_call : List ℕ → List ℕ → List ℕ → Written
save_call s t out = written_or (ruling (save_rules s t out)) (length (record_file (cases s))) out (filled out 0 (record_file (cases s)))

-- "For a place, the answer is the count of differing steps and the first of them (64 if there is none)."
unfoldable pub symptoms_call : List ℕ → List ℕ → ℕ → Result Symptoms Refusal
symptoms_call s t p = ruled (ruling (slot_rules s t p)) (symptoms_of (machine_of s) (case_of s p).inputs (case_of s p).outputs)

-- conflict sets and candidates are 256 bytes, whatever the table's size
unfoldable pub bytes_rules : List ℕ → List (Rule Refusal)
bytes_rules out = when (ltb (length out) cells_most) (Short 0) ∷ []

unfoldable pub conflict_call : List ℕ → List ℕ → ℕ → List ℕ → Written
conflict_call s t p out = written_or (ruling (slot_rules s t p ++ bytes_rules out)) 0 out (conflict_bytes (machine_of s) (case_of s p) out)

unfoldable pub candidate_bytes : Machine → List Case → List ℕ → List ℕ
candidate_bytes M cs out = edit (λ cell old. bit (is_candidate M cs cell)) 0 cells_most out

unfoldable pub candidates_call : List ℕ → List ℕ → List ℕ → Written
candidates_call s t out = written_or (ruling (form_rules s t ++ bytes_rules out)) 0 out (candidate_bytes (machine_of s) (cases s) out)
