-- A number on a cell that the specified path of a case never executes gives the specified outputs, so it misses the case exactly if the
-- case fails; and a cell without a mark is one that was never executed. Assumes nothing.
use Prim.Native.Nat.{ℕ, ◌≤◌, ◌<◌}
use mathlib.Core.Path.{◌≡◌, sym, ◌∙◌}
use mathlib.Core.List.{List}
use mathlib.Core.Bool.{Bool, false}
use native.Mathlib.Omega.{arith}
use lib.ListN.{length, get_or}
use Rattle.shapes.specs.Keep.{has}
use Rattle.machine.specs.Limits.{cells_most}
use Rattle.machine.specs.Head.{HeadIn}
use Rattle.machine.specs.Machine.{Machine, specified}
use Rattle.machine.specs.Fault.{fault_of, cell_of, FaultIn}
use Rattle.machine.specs.Case.{Case}
use Rattle.machine.specs.Run.{executed}
use Rattle.machine.specs.Marks.{marked}
use Rattle.machine.specs.declared.head.Head.{Head}
use Rattle.machine.specs.declared.fault.Fault.{Fault}
use Rattle.machine.proofs.Sound.{cells_few}
use Rattle.machine.proofs.Marks.{length_marked, unmarked}
use Rattle.machine.proofs.Run.{reproduces_never}
use Rattle.diagnosis.specs.Diagnosis.{explains, fails, misses}
use Rattle.diagnosis.specs.Loops.{Walked}

-- a number on a cell never executed misses a case exactly if the case fails
pub misses_never : (h : Head) (cells : List ℕ) (c : Case) (f : ℕ) → has (cell_of h f) (executed (specified h cells) c.inputs) ≡ false
    → misses h cells f c ≡ fails (specified h cells) c
unfolding misses fails explains
misses_never h cells c f e = rw (reproduces_never h cells c.inputs c.outputs f e)

-- a case is walked once the cells that it executes are marked, whatever stood there
pub walked : (M : Machine) (c : Case) (failing : Bool) (out marks : List ℕ) → failing ≡ fails M c → cells_most ≤ length out
    → marks ≡ marked (executed M c.inputs) out → Walked M c failing marks
walked M c failing out marks same room e =
    record {
      same = same;
      room = rw (e, length_marked (executed M c.inputs) out) room;
      idle = λ cell l z. unmarked (executed M c.inputs) out cell (omega arith) (rw e at z);
    }

-- the cell of a fault is one of the 256
pub cell_few : (h : Head) (f : Fault) → HeadIn h → FaultIn h f → f.cell < cells_most
cell_few h f head k = omega (arith, k.cell_in, cells_few h head)

-- so where a walked case has no mark at a number's cell, whether the case fails is whether the number misses it
pub misses_unmarked : (h : Head) (cells : List ℕ) (c : Case) (failing : Bool) (marks : List ℕ) (f : ℕ) (d : Fault)
    → Walked (specified h cells) c failing marks → HeadIn h → FaultIn h d → d ≡ fault_of h f → get_or marks d.cell 0 ≡ 0
    → failing ≡ misses h cells f c
unfolding cell_of
misses_unmarked h cells c failing marks f d w head k e z =
    w.same ∙ sym (misses_never h cells c f (rw e at (w.idle d.cell (cell_few h d head k) z)))
