-- What the judge says where it does not refuse: 1 or 0 exactly if none of its rules holds, by whether the number's machine reproduces every case of
-- the record. By clauses on the ruling.
-- Assumes nothing.
use Prim.Native.Nat.{ℕ}
use mathlib.Core.Path.{◌≡◌, refl, sym, ◌∙◌}
use mathlib.Core.Bool.{Bool, true, false}
use mathlib.Core.List.{List}
use mathlib.Core.Logic.{◌↔◌}
use native.Mathlib.Omega.{arith}
use Rattle.shapes.specs.Keep.{bit, has}
use Rattle.shapes.specs.Refusals.{Ruling, fine, refused, ruling, AllFalse}
use Rattle.shapes.proofs.Refusals.{fine_when}
use Rattle.machine.specs.Fault.{is_fault}
use Rattle.house.specs.Table.{head_in, cells_in}
use Rattle.house.specs.Cases.{cases_in}
use Rattle.house.specs.declared.refusal.Refusal.{Refusal}
use Rattle.diagnosis.specs.Diagnosis.{explains_all, list}
use Rattle.diagnosis.proofs.Lists.{listed_exactly}
use Rattle.judge.specs.Judge.{judge_rules, judged, judgement}

-- 1 or 0 is answered exactly if no rule refuses, by the test: every refusal is above 1
ruled_done : (v : Ruling Refusal) (b c : Bool) → (judged v b ≡ bit c) ↔ ((v ≡ fine) × (b ≡ c))
ruled_done fine true true = (λ e. (refl, refl), λ h. refl)
ruled_done fine true false = (λ e. absurd (omega arith), λ h. cc)
ruled_done fine false true = (λ e. absurd (omega arith), λ h. cc)
ruled_done fine false false = (λ e. (refl, refl), λ h. refl)
ruled_done (refused r) b true = (λ e. absurd (omega arith), λ h. cc)
ruled_done (refused r) b false = (λ e. absurd (omega arith), λ h. cc)

module _ (table file : List ℕ) (number : ℕ) where
  -- "1 if that changed machine reproduces the record, 0 if not"
  pub judge_done : (b : Bool)
      → (judgement table file number ≡ bit b)
      ↔ (AllFalse (judge_rules table file number) × (explains_all (head_in table) (cells_in table) (cases_in file) number ≡ b))
  unfolding judgement
  judge_done b = (
    λ e.
        let h = (ruled_done (ruling (judge_rules table file number)) _ b).0 e in
        ((fine_when (judge_rules table file number)).0 h.0, h.1),
    λ h. (ruled_done (ruling (judge_rules table file number)) _ b).1 ((fine_when (judge_rules table file number)).1 h.0, h.1),
  )

  -- so where nothing refuses, the judge answers 1 to a fault exactly if it is on the list of the record's cases
  pub judge_listed : AllFalse (judge_rules table file number) → is_fault (head_in table) (cells_in table) number ≡ true
      → judgement table file number ≡ bit (has number (list (head_in table) (cells_in table) (cases_in file)))
  judge_listed none fault =
      (judge_done (has number (list (head_in table) (cells_in table) (cases_in file)))).1
      (none, sym (listed_exactly (head_in table) (cells_in table) (cases_in file) number ∙ rw fault))
