-- What a number that is in use stands for: a cell of the table and a value of its kind, and a change that leads to a state. A number
-- whose value is the cell's own changes nothing.
-- Assumes nothing.
use Prim.Native.Nat.{ℕ, ◌+◌, ◌-◌, ◌/◌, ◌%◌, ◌<◌}
use mathlib.Core.Path.{◌≡◌, refl, fun_ext, ap}
use mathlib.Core.List.{List}
use mathlib.Core.Bool.{Bool, true, false, cond}
use borrow.Author.Tests.{ltb-true, ltb-false, eqb-true}
use lib.Dec.{eqb, ltb}
use native.Mathlib.Nat.{mod-lt, zero-div, div-add-mod'}
use native.Mathlib.Omega.{arith}
use Rattle.std.specs.Prelude.{Some, None}
use Rattle.machine.specs.Head.{HeadIn, cell_count, width, numbers}
use Rattle.machine.specs.Cell.{TableIn}
use Rattle.machine.specs.Machine.{Machine, initial, completed, specified}
use Rattle.machine.specs.Fault.{fault_of, fault_number, made_fault, altered, change_of, under, changed, own, values, FaultIn}
use Rattle.machine.specs.declared.head.Head.{Head}
use Rattle.machine.specs.declared.cell.Move.{Move}
use Rattle.machine.specs.declared.fault.Change.{Change}
use Rattle.machine.specs.declared.fault.Fault.{Fault}
use Rattle.machine.specs.declared.fault.Kind.{Kind}
use Rattle.machine.specs.declared.fault.Kind.TheVariants.{Output, Transfer}
use Rattle.machine.specs.Replay.{change_at}
use Rattle.machine.proofs.Numbers.{number_cell}
use Rattle.machine.proofs.Moves.{completed_in}

-- what a number stands for has that number: "f = c × (n + m) + j"
pub fault_number_law : (h : Head) (f : ℕ) → fault_number h (fault_of h f) ≡ f
unfolding fault_number fault_of
fault_number_law h f = go (ltb (f % width h) h.outputs) refl
  where
    go : (b : Bool) → ltb (f % width h) h.outputs ≡ b
        → fault_number h (cond b (record { cell = f / width h; kind = Output; value = f % width h }) (record { cell = f / width h; kind = Transfer; value = f % width h - h.outputs })) ≡ f
    go true e = div-add-mod' f (width h)
    go false e =
        let l = ltb-false (f % width h) h.outputs e in
        let back : h.outputs + (f % width h - h.outputs) ≡ f % width h = omega arith in
        rw back (div-add-mod' f (width h))

-- a number that makes no fault is not in use
pub made_none : (h : Head) (f : ℕ) → made_fault h f ≡ None → ltb f (numbers h) ≡ false
unfolding made_fault
made_none h f = go (ltb f (numbers h))
  where
    go : (b : Bool) → cond b (Some (fault_of h f)) None ≡ None → b ≡ false
    go true e = cc
    go false e = refl

-- a number that makes one is in use, and the fault is the number's
pub made_some : (h : Head) (f : ℕ) (x : Fault) → made_fault h f ≡ Some x → (ltb f (numbers h) ≡ true) × (fault_of h f ≡ x)
unfolding made_fault
made_some h f x = go (ltb f (numbers h))
  where
    go : (b : Bool) → cond b (Some (fault_of h f)) None ≡ Some x → (b ≡ true) × (fault_of h f ≡ x)
    go true e = (refl, cc)
    go false e = (cc, cc)

-- the fault of a number in use is one of the table's
pub fault_in : (h : Head) → HeadIn h → (f : ℕ) → ltb f (numbers h) ≡ true → FaultIn h (fault_of h f)
unfolding fault_of
fault_in h in_range f used = go (ltb (f % width h) h.outputs) refl
  where
    some : 0 < width h
    some = omega (arith, in_range.some_states)

    a_cell : f / width h < cell_count h
    a_cell = number_cell (cell_count h) (width h) f some (ltb-true f (numbers h) used)

    a_value : f % width h < width h
    a_value = mod-lt f some

    go : (b : Bool) → ltb (f % width h) h.outputs ≡ b
        → FaultIn h
        (cond b
        (record { cell = f / width h; kind = Output; value = f % width h })
        (record { cell = f / width h; kind = Transfer; value = f % width h - h.outputs }))
    go true e = record { cell_in = a_cell; value_in = ltb-true (f % width h) h.outputs e }
    go false e = record { cell_in = a_cell; value_in = omega (arith, a_value, ltb-false (f % width h) h.outputs e) }

-- a changed move leads to a state where the move did and the value is one of its kind's
altered_in : (h : Head) (kind : Kind) (v : ℕ) (to : Move) → v < values h kind → to.next < h.states → (altered kind v to).next < h.states
altered_in h Output v to lv lt = lt
altered_in h Transfer v to lv lt = lv

-- the change of a table's fault leads to a state
pub change_in : (h : Head) (cells : List ℕ) (f : Fault) → TableIn h cells → FaultIn h f → (change_of (specified h cells) f).to.next < h.states
unfolding change_of specified
change_in h cells f t k =
    altered_in h f.kind f.value _ k.value_in
    (completed_in h cells t (f.cell / h.inputs) f.cell (number_cell h.states h.inputs f.cell t.head.some_inputs k.cell_in)
    k.cell_in)

-- a move whose own value is put in its place is the same move
altered_same : (kind : Kind) (v : ℕ) (to : Move) → v ≡ own kind to → altered kind v to ≡ to
altered_same Output v to e = rw e
altered_same Transfer v to e = rw e

-- a change to the move that a machine makes anyway leaves the machine the same
under_same : (M : Machine) (d : Change) → d.to ≡ M.does d.cell → under M d ≡ M
unfolding under
under_same M d e = ap (λ (g : ℕ → Move). record { inputs = M.inputs; does = g }) (fun_ext (λ c. go c (eqb c d.cell) refl))
  where
    go : (c : ℕ) (b : Bool) → eqb c d.cell ≡ b → cond b d.to (M.does c) ≡ M.does c
    go c true here = rw (eqb-true c d.cell here) e
    go c false here = refl

-- as is one that puts at cell 0 what the table has there
pub first_cell_same : (h : Head) (cells : List ℕ) (to : Move) → to ≡ completed cells initial 0
    → under (specified h cells) (change_at 0 to) ≡ specified h cells
unfolding specified
first_cell_same h cells to e = under_same (specified h cells) (change_at 0 to) (rw zero-div e)

-- "A number whose value equals the cell's own leaves the machine the same"
pub changed_same : (h : Head) (cells : List ℕ) (f : ℕ)
    → (fault_of h f).value ≡ own (fault_of h f).kind ((specified h cells).does (fault_of h f).cell) → changed h cells f ≡ specified h cells
unfolding changed change_of
changed_same h cells f e = under_same (specified h cells) (change_of (specified h cells) (fault_of h f)) (altered_same (fault_of h f).kind (fault_of h f).value _ e)
