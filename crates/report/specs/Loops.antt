-- For loops of the code: what they make place by place. No promise of the paper's speaks of these.
use Rattle.std.specs.Prelude.{ℕ, List, [], ◌∷◌, Bool, true, false}
use Rattle.machine.specs.Machine.{Machine}
use Rattle.machine.specs.Case.{Case}
use Rattle.house.specs.Cases.{rest_of}
use Rattle.diagnosis.specs.Loops.{narrowed}
use Rattle.memory.specs.Layout.{is_held, case_of, cases_at}
use Rattle.reading.specs.Reads.{machine_of}

-- the bytes that the case of a place has in a record: none where the place is free
abbrev pub bytes_at : List ℕ → ℕ → List ℕ
bytes_at s p = rest_of (cases_at s p)

-- what a case leaves of candidates where there is one, what the place of one leaves, and what some cases leave, one after the other
abbrev pub narrowed_if : Bool → Machine → Case → List ℕ → List ℕ
narrowed_if true M c out = narrowed M c out
narrowed_if false M c out = out

abbrev pub narrowed_at : List ℕ → ℕ → List ℕ → List ℕ
narrowed_at s p out = narrowed_if (is_held s p) (machine_of s) (case_of s p) out

unfoldable pub narrowed_all : Machine → List Case → List ℕ → List ℕ
narrowed_all M [] out = out
narrowed_all M (c ∷ cs) out = narrowed_all M cs (narrowed M c out)
