-- Where a move leads: the specified machine's move is the completed one of its cell, and it stays among the states of a sound table.
-- Assumes nothing.
use Prim.Native.Nat.{ℕ, ◌+◌, ◌*◌, ◌<◌}
use mathlib.Core.Path.{◌≡◌, sym, ◌∙◌}
use mathlib.Core.List.{List}
use mathlib.Core.Bool.{Bool, true, false, cond, not, ◌&&◌, ◌||◌}
use borrow.Author.Tests.{leb-false, eq-eqb, ne_eqb}
use lib.Dec.{leb}
use native.Mathlib.Omega.{arith}
use Rattle.shapes.specs.First.{first}
use Rattle.shapes.proofs.First.{first_before}
use Rattle.shapes.proofs.Tests.{or_false}
use Rattle.machine.specs.Head.{cell_count}
use Rattle.machine.specs.Cell.{next_byte, output_byte, undefined, bad_cell, first_bad, TableIn}
use Rattle.machine.specs.Machine.{Machine, completed, specified}
use Rattle.machine.specs.Fault.{under}
use Rattle.machine.specs.declared.head.Head.{Head}
use Rattle.machine.specs.declared.cell.Move.{Move}
use Rattle.machine.specs.declared.fault.Change.{Change}
use Rattle.machine.proofs.Numbers.{cell_state}

-- the specified machine's move at the cell of a state and an input
pub specified_does : (h : Head) (cells : List ℕ) (s i : ℕ) → i < h.inputs
    → (specified h cells).does (s * h.inputs + i) ≡ completed cells s (s * h.inputs + i)
unfolding specified
specified_does h cells s i l = rw (cell_state h.inputs s i l)

-- no cell of a sound table is bad
pub sound_cell : (h : Head) (cells : List ℕ) → TableIn h cells → (c : ℕ) → c < cell_count h → bad_cell h cells c ≡ false
unfolding first_bad
sound_cell h cells t c l =
    let e : first (bad_cell h cells) 0 (cell_count h) ≡ cell_count h = t.sound in
    first_before (bad_cell h cells) 0 (cell_count h) c (omega arith) (omega arith)

-- a move of a cell that is not bad leads to a state: an undefined cell to its own, a defined one to the next it names
leads : (n m s next output : ℕ) (b : Bool) → not b && (leb n next || leb m output) ≡ false → s < n
    → (cond {A = Move} b (record { next = s; output = 0 }) (record { next = next; output = output })).next < n
leads n m s next output true e l = l
leads n m s next output false e l = leb-false n next (or_false (leb n next) (leb m output) e).0

-- the move at a cell of a sound table leads to a state
pub completed_in : (h : Head) (cells : List ℕ) → TableIn h cells → (s c : ℕ) → s < h.states → c < cell_count h
    → (completed cells s c).next < h.states
unfolding completed bad_cell
completed_in h cells t s c l k =
    leads h.states h.outputs s (next_byte cells c) (output_byte cells c) (undefined cells c) (sound_cell h cells t c k) l

-- a move found at a cell's number is the specified machine's there, and leads to a state
pub specified_move : (h : Head) (cells : List ℕ) → TableIn h cells → (s i c : ℕ) (r : Move) → s < h.states → i < h.inputs
    → c ≡ s * h.inputs + i → c < cell_count h → r ≡ completed cells s c
    → (r ≡ (specified h cells).does (s * h.inputs + i)) × (r.next < h.states)
specified_move h cells t s i c r ls li e lc x = (rw (specified_does h cells s i li, ← e) x, rw x (completed_in h cells t s c ls lc))

-- the machine with one change makes the changed move at its cell ..
pub changed_here : (M : Machine) (d : Change) (c at : ℕ) → c ≡ at → c ≡ d.cell → d.to ≡ (under M d).does at
unfolding under
changed_here M d c at e x = rw (eq-eqb at d.cell (sym e ∙ x))

-- .. and the other machine's move elsewhere
pub changed_elsewhere : (M : Machine) (d : Change) (c at : ℕ) (r : Move) → c ≡ at → (c ≡ d.cell → ⊥) → r ≡ M.does at → r ≡ (under M d).does at
unfolding under
changed_elsewhere M d c at r e x y = rw (ne_eqb at d.cell (λ z. x (e ∙ z))) y
