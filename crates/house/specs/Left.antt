-- The cases of a record as they are lent one after the other. It serves the iterator over them, and is no promise of the paper's.
use Rattle.std.specs.Prelude.{ℕ, zero, suc, ◌+◌, ◌-◌, List, [], ◌∷◌}
use Rattle.machine.specs.Case.{Case, as_case}
use Rattle.house.specs.File.{rest_at}
use Rattle.house.specs.Cases.{case_at, case_end, count_in, count_of}
use Rattle.house.specs.declared.record.Case as Case_lent
use Rattle.house.specs.declared.record.Cases.{Cases}

-- a case that stands in a file, and the pointer to its length byte
pub record Part : Type 0 where
  pub begins : ℕ × ℕ
  pub case : Case

-- the part that is lent
abbrev pub lent_part : Case_lent.Case → Part
lent_part c = record { begins = c.bytes.ref_ptr; case = as_case c.inputs.now c.outputs.now }

-- the part at a place of a file that begins at a pointer
abbrev pub part_at : ℕ × ℕ → List ℕ → ℕ → Part
part_at p file at = record { begins = (p.0, at + p.1); case = case_at file at }

-- n parts from a place on
unfoldable pub parts_from : ℕ × ℕ → List ℕ → ℕ → ℕ → List Part
parts_from p file zero at = []
parts_from p file (suc n) at = part_at p file at ∷ parts_from p file n (case_end file at)

-- the parts of a record
unfoldable pub parts_in : ℕ × ℕ → List ℕ → List Part
parts_in p file = parts_from p file (count_of (count_in file)) rest_at

-- those that an iterator has not taken yet
abbrev pub parts_left : Cases → List Part
parts_left s = parts_from s.record.bytes.ref_ptr s.record.bytes.now (s.record.count - s.taken) s.at
