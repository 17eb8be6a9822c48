-- One machine, however its cells are stored: a run from a state of a head meets only cells of that head, so two machines that do the same there
-- give the same outputs and execute the same cells; and bytes that agree as far as the table goes make such machines.
-- Assumes nothing.
use Prim.Native.Nat.{ℕ, suc, ◌+◌, ◌*◌, ◌/◌, ◌<◌}
use mathlib.Core.Path.{◌≡◌, refl, ap}
use mathlib.Core.List.{List, [], ◌∷◌}
use mathlib.Core.Bool.{Bool, true, false, cond, ◌&&◌}
use native.Mathlib.Omega.{arith}
use lib.Dec.{eqb, ltb}
use borrow.Author.Tests.{lt-ltb}
use Rattle.machine.specs.Head.{HeadIn, cell_count, numbers}
use Rattle.machine.specs.Cell.{undefined, TableIn, SameCells}
use Rattle.machine.specs.Machine.{Machine, initial, cell_number, completed, specified}
use Rattle.machine.specs.Fault.{fault_of, change_of, under, faulty, changed, alters, is_fault, FaultIn}
use Rattle.machine.specs.Case.{InputsIn}
use Rattle.machine.specs.Run.{run, path, expected, executed, symptoms_of, reproduces}
use Rattle.machine.specs.declared.head.Head.{Head}
use Rattle.machine.specs.declared.cell.Move.{Move}
use Rattle.machine.specs.declared.fault.Fault.{Fault}
use Rattle.machine.proofs.Numbers.{cell_below, number_cell}
use Rattle.machine.proofs.Moves.{completed_in}
use Rattle.machine.proofs.Faults.{fault_in, change_in}

-- two machines that do the same at every cell of a head and stay among its states
pub record Alike (h : Head) (M N : Machine) : Type 0 where
  pub own_inputs : M.inputs ≡ h.inputs
  pub other_inputs : N.inputs ≡ h.inputs
  pub same : (c : ℕ) → c < cell_count h → M.does c ≡ N.does c
  pub inside : (c : ℕ) → c < cell_count h → (M.does c).next < h.states

-- inputs that are a head's are so from the second on
inputs_rest : (h : Head) (i : ℕ) (is : List ℕ) → InputsIn h (i ∷ is) → InputsIn h is
inputs_rest h i is k t l = k (suc t) (omega arith)

-- the cell of a state and of the first of a head's inputs is one of its cells
first_cell : (h : Head) (s i : ℕ) (is : List ℕ) → s < h.states → InputsIn h (i ∷ is) → s * h.inputs + i < cell_count h
first_cell h s i is l k = cell_below h.states h.inputs s i l (k 0 (omega arith))

-- a cell's number goes by how many inputs there are
cell_by : (k k' s i : ℕ) → k ≡ k' → cell_number k s i ≡ cell_number k' s i
cell_by k k' s i e = rw e

-- from any state of the head they give the same outputs ..
run_alike : (h : Head) (M N : Machine) → Alike h M N → (s : ℕ) → s < h.states → (is : List ℕ) → InputsIn h is → run M s is ≡ run N s is
unfolding run
run_alike h M N a s l [] k = refl
run_alike h M N a s l (i ∷ is) k =
    let c : ℕ = s * h.inputs + i in
    let lc : c < cell_count h = first_cell h s i is l k in
    rw (cell_by M.inputs h.inputs s i a.own_inputs, cell_by N.inputs h.inputs s i a.other_inputs, ← a.same c lc)
    (ap (λ (r : List ℕ). (M.does c).output ∷ r) (run_alike h M N a (M.does c).next (a.inside c lc) is (inputs_rest h i is k)))

-- .. and execute the same cells
path_alike : (h : Head) (M N : Machine) → Alike h M N → (s : ℕ) → s < h.states → (is : List ℕ) → InputsIn h is → path M s is ≡ path N s is
unfolding path
path_alike h M N a s l [] k = refl
path_alike h M N a s l (i ∷ is) k =
    let c : ℕ = s * h.inputs + i in
    let lc : c < cell_count h = first_cell h s i is l k in
    rw (cell_by M.inputs h.inputs s i a.own_inputs, cell_by N.inputs h.inputs s i a.other_inputs, ← a.same c lc)
    (ap (λ (r : List ℕ). c ∷ r) (path_alike h M N a (M.does c).next (a.inside c lc) is (inputs_rest h i is k)))

-- so in a case the same outputs are expected of them,
pub expected_alike : (h : Head) (M N : Machine) → HeadIn h → Alike h M N → (is : List ℕ) → InputsIn h is → expected M is ≡ expected N is
unfolding expected
expected_alike h M N head a is k = run_alike h M N a initial head.some_states is k

-- they execute the same cells,
pub executed_alike : (h : Head) (M N : Machine) → HeadIn h → Alike h M N → (is : List ℕ) → InputsIn h is → executed M is ≡ executed N is
unfolding executed
executed_alike h M N head a is k = path_alike h M N a initial head.some_states is k

-- the case has the same symptoms against them,
pub symptoms_alike : (h : Head) (M N : Machine) → HeadIn h → Alike h M N → (is ys : List ℕ) → InputsIn h is
    → symptoms_of M is ys ≡ symptoms_of N is ys
unfolding symptoms_of
symptoms_alike h M N head a is ys k = rw (expected_alike h M N head a is k)

-- and both reproduce it or neither does
pub reproduces_alike : (h : Head) (M N : Machine) → HeadIn h → Alike h M N → (is ys : List ℕ) → InputsIn h is
    → reproduces M is ys ≡ reproduces N is ys
unfolding reproduces
reproduces_alike h M N head a is ys k = rw (expected_alike h M N head a is k)

-- the same cells are undefined,
undefined_same : (h : Head) (cells cells' : List ℕ) → SameCells h cells cells' → (c : ℕ) → c < cell_count h → undefined cells c ≡ undefined cells' c
unfolding undefined
undefined_same h cells cells' same c l = rw (same (2 * c) (omega arith), same (2 * c + 1) (omega arith))

-- and the specified machines make the same moves
does_same : (h : Head) (cells cells' : List ℕ) → SameCells h cells cells' → (c : ℕ) → c < cell_count h
    → (specified h cells).does c ≡ (specified h cells').does c
unfolding specified completed
does_same h cells cells' same c l =
    rw (undefined_same h cells cells' same c l, same (2 * c) (omega arith), same (2 * c + 1) (omega arith))

-- the same cells make machines alike, the specified one ..
pub specified_same : (h : Head) (cells cells' : List ℕ) → TableIn h cells → SameCells h cells cells'
    → Alike h (specified h cells) (specified h cells')
unfolding specified
specified_same h cells cells' t same =
    record {
      own_inputs = refl;
      other_inputs = refl;
      same = does_same h cells cells' same;
      inside = λ c l. completed_in h cells t (c / h.inputs) c (number_cell h.states h.inputs c t.head.some_inputs l) l;
    }

-- .. each fault's ..
pub faulty_same : (h : Head) (cells cells' : List ℕ) → TableIn h cells → SameCells h cells cells' → (x : Fault) → FaultIn h x
    → Alike h (faulty h cells x) (faulty h cells' x)
unfolding under change_of
faulty_same h cells cells' t same x k =
    record {
      own_inputs = base.own_inputs;
      other_inputs = base.other_inputs;
      same = λ c l. rw (base.same x.cell k.cell_in, base.same c l);
      inside = λ c l. go (eqb c x.cell) ((specified h cells).does c) (base.inside c l);
    }
  where
    base : Alike h (specified h cells) (specified h cells')
    base = specified_same h cells cells' t same

    go : (b : Bool) (to : Move) → to.next < h.states → (cond b (change_of (specified h cells) x).to to).next < h.states
    go true to l = change_in h cells x t k
    go false to l = l

-- .. and each number's
pub changed_same_cells : (h : Head) (cells cells' : List ℕ) → TableIn h cells → SameCells h cells cells' → (f : ℕ) → f < numbers h
    → Alike h (changed h cells f) (changed h cells' f)
unfolding changed
changed_same_cells h cells cells' t same f l =
    faulty_same h cells cells' t same (fault_of h f) (fault_in h t.head f (lt-ltb f (numbers h) l))

-- the same numbers are faults
pub fault_same : (h : Head) (cells cells' : List ℕ) → HeadIn h → SameCells h cells cells' → (f : ℕ) → is_fault h cells f ≡ is_fault h cells' f
unfolding is_fault alters
fault_same h cells cells' head same f = go (ltb f (numbers h)) refl
  where
    go : (b : Bool) → ltb f (numbers h) ≡ b → (b && alters h cells (fault_of h f)) ≡ (b && alters h cells' (fault_of h f))
    go true used =
        let l : (fault_of h f).cell < cell_count h = (fault_in h head f used).cell_in in
        rw (undefined_same h cells cells' same (fault_of h f).cell l, does_same h cells cells' same (fault_of h f).cell l)
    go false used = refl
