-- For loops of the code: what a walk leaves of candidates, and what is known of its marks. No promise of the paper's speaks of them.
use Rattle.std.specs.Prelude.{ℕ, ◌≤◌, ◌<◌, ◌≡◌, List, Bool, false, cond, not, ◌&&◌, eqb, length, get_or}
use Rattle.shapes.specs.Edit.{edit}
use Rattle.shapes.specs.Keep.{has, bit}
use Rattle.machine.specs.Limits.{cells_most}
use Rattle.machine.specs.Machine.{Machine}
use Rattle.machine.specs.Case.{Case}
use Rattle.machine.specs.Run.{executed}
use Rattle.diagnosis.specs.Diagnosis.{fails, conflicts}

-- all 256 cells with one value
abbrev pub spread : ℕ → List ℕ → List ℕ
spread value out = edit (λ cell old. value) 0 cells_most out

-- what a failing case leaves of candidates: those in its conflict set
unfoldable pub narrowed : Machine → Case → List ℕ → List ℕ
narrowed M c out = edit (λ cell old. cond (fails M c && not (conflicts M c cell)) 0 old) 0 cells_most out

-- a marked 1, which is 3, is kept as 1, and nothing else
abbrev pub swept : ℕ → ℕ
swept v = bit (eqb v 3)

-- and so at all 256 cells
abbrev pub swept_all : List ℕ → List ℕ
swept_all out = edit (λ cell old. swept old) 0 cells_most out

-- what is known of 256 bytes of 0 or 1
pub record Bits (out : List ℕ) : Type 0 where
  pub room : cells_most ≤ length out
  pub each : (cell : ℕ) → cell < cells_most → get_or out cell 0 ≤ 1

-- what is known of a case that the specified machine has walked: whether it fails, and that a 0 stands only at cells never executed
pub record Walked (M : Machine) (c : Case) (failing : Bool) (marks : List ℕ) : Type 0 where
  pub same : failing ≡ fails M c
  pub room : cells_most ≤ length marks
  pub idle : (cell : ℕ) → cell < cells_most → get_or marks cell 0 ≡ 0 → has cell (executed M c.inputs) ≡ false
