-- The table with a fault's one change: every fault has a number, and its machine is the specified machine of a sound table's bytes. The idea:
-- bytes that hold one whole move at a cell and are the table's elsewhere (`Holds`) make the table's machine with that one move changed, and
-- the one byte of a fault, over the table's own move or the completed one, gives such bytes.
-- Assumes nothing.
use Prim.Native.Nat.{ℕ, ◌+◌, ◌*◌, ◌/◌, ◌-◌, ◌%◌, ◌<◌}
use mathlib.Core.Path.{◌≡◌, refl, sym, fun_ext, ap, ◌∙◌}
use mathlib.Core.List.{List}
use mathlib.Core.Logic.{◌↔◌}
use mathlib.Core.Bool.{Bool, true, false, cond, not, ◌&&◌, ◌||◌}
use borrow.Author.Tests.{lt-ltb, le-ltb, lt-leb, leb-false, ltb-true, ne_eqb, eqb-true, eqb-false, not-true}
use lib.Dec.{eqb, ltb, leb}
use lib.ListN.{length, get_or, set, length-set}
use lib.Seq.{get_or-set_same, get_or-set_other}
use native.Mathlib.Nat.{add_comm, add-mul-mod_self_right, mod-eq_of_lt}
use native.Mathlib.Omega.{arith}
use Rattle.shapes.proofs.First.{first_none}
use Rattle.shapes.proofs.Tests.{and_true, or_false}
use Rattle.machine.specs.Head.{HeadIn, cell_count, width, numbers}
use Rattle.machine.specs.Cell.{undefined_byte, next_byte, output_byte, undefined, bad_cell, first_bad, TableIn}
use Rattle.machine.specs.Machine.{null_output, completed, specified}
use Rattle.machine.specs.Fault.{fault_of, of_kind, fault_number, altered, change_of, under, faulty, changed, own, alters, is_fault, values, FaultIn}
use Rattle.machine.specs.Mutant.{byte_of, mutant, written_in, OtherByte}
use Rattle.machine.specs.declared.head.Head.{Head}
use Rattle.machine.specs.declared.cell.Move.{Move}
use Rattle.machine.specs.declared.fault.Fault.{Fault}
use Rattle.machine.specs.declared.fault.Kind.{Kind}
use Rattle.machine.specs.declared.fault.Kind.TheVariants.{Output, Transfer}
use Rattle.machine.proofs.Numbers.{cell_below, cell_state}
use Rattle.machine.proofs.Moves.{sound_cell}
use Rattle.machine.proofs.Faults.{fault_in, change_in}

-- the j of a number "c × (n + m) + j" is its remainder
number_rest : (w c j : ℕ) → j < w → (c * w + j) % w ≡ j
number_rest w c j h = rw (add_comm (c * w) j, add-mul-mod_self_right j c w, mod-eq_of_lt h)

-- a cell, a kind and a value in range have a number in use, and it stands for them
numbered_kind : (h : Head) (c : ℕ) (kind : Kind) (v : ℕ) → c < cell_count h → v < values h kind
    → (c * width h + of_kind h kind v < numbers h) × (fault_of h (c * width h + of_kind h kind v) ≡ record { cell = c; kind = kind; value = v })
unfolding fault_of
numbered_kind h c Output v lc lv =
    let l : v < width h = omega arith in
    (cell_below (cell_count h) (width h) c v lc l, rw (cell_state (width h) c v l, number_rest (width h) c v l, lt-ltb v h.outputs lv))
numbered_kind h c Transfer v lc lv =
    let j : ℕ = h.outputs + v in
    let l : j < width h = omega arith in
    let back : h.outputs + v - h.outputs ≡ v = omega arith in (
      cell_below (cell_count h) (width h) c j lc l,
      rw (cell_state (width h) c j l, number_rest (width h) c j l, le-ltb j h.outputs (omega arith), back),
    )

-- every fault has a number: for each cell, kind and value in range a number in use stands for it (the converse of `fault-number`)
pub fault_numbered : (h : Head) (x : Fault) → FaultIn h x → (fault_number h x < numbers h) × (fault_of h (fault_number h x) ≡ x)
unfolding fault_number
fault_numbered h x k = numbered_kind h x.cell x.kind x.value k.cell_in k.value_in

-- the bytes hold a move at cell c, and elsewhere what the table's cells hold
record Holds (cells cells' : List ℕ) (c : ℕ) (to : Move) : Type 0 where
  same_length : length cells' ≡ length cells
  next_there : next_byte cells' c ≡ to.next
  output_there : output_byte cells' c ≡ to.output
  elsewhere : (i : ℕ) → (i ≡ 2 * c → ⊥) → (i ≡ 2 * c + 1 → ⊥) → get_or cells' i 0 ≡ get_or cells i 0

-- a cell with a move to a state is not undefined
defined_there : (h : Head) (cells cells' : List ℕ) (c : ℕ) (to : Move) → HeadIn h → to.next < h.states → Holds cells cells' c to
    → undefined cells' c ≡ false
unfolding undefined
defined_there h cells cells' c to k ln w =
    rw (w.next_there, ne_eqb to.next undefined_byte (λ e. omega (arith, k.few_states)))

-- the two bytes of another cell are the table's
bytes_elsewhere : (cells cells' : List ℕ) (c : ℕ) (to : Move) → Holds cells cells' c to → (b : ℕ) → (b ≡ c → ⊥)
    → (next_byte cells' b ≡ next_byte cells b) × (output_byte cells' b ≡ output_byte cells b)
bytes_elsewhere cells cells' c to w b other = (
  w.elsewhere (2 * b) (λ e. other (omega arith)) (λ e. absurd (omega arith)),
  w.elsewhere (2 * b + 1) (λ e. absurd (omega arith)) (λ e. other (omega arith)),
)

-- so they make the table's machine with that one move changed
held_machine : (h : Head) (cells cells' : List ℕ) (c : ℕ) (to : Move) → HeadIn h → to.next < h.states → Holds cells cells' c to
    → under (specified h cells) (record { cell = c; to = to }) ≡ specified h cells'
unfolding under specified completed undefined
held_machine h cells cells' c to k ln w =
    ap (λ (g : ℕ → Move). record { inputs = h.inputs; does = g }) (fun_ext (λ b. go b (eqb b c) refl))
  where
    go : (b : ℕ) (t : Bool) → eqb b c ≡ t → cond t to (completed cells (b / h.inputs) b) ≡ completed cells' (b / h.inputs) b
    go b true e = rw (eqb-true b c e, defined_there h cells cells' c to k ln w, w.next_there, w.output_there)
    go b false e = let same = bytes_elsewhere cells cells' c to w b (eqb-false b c e) in rw (same.0, same.1)

-- and no cell of theirs is bad, where the move is one of the head's
held_cell : (h : Head) (cells cells' : List ℕ) (c : ℕ) (to : Move) → TableIn h cells → to.next < h.states → to.output < h.outputs
    → Holds cells cells' c to → (b : ℕ) → b < cell_count h → bad_cell h cells' b ≡ false
unfolding bad_cell undefined
held_cell h cells cells' c to t ln lo w b l = go (eqb b c) refl
  where
    go : (s : Bool) → eqb b c ≡ s → bad_cell h cells' b ≡ false
    go true e =
        rw
        (eqb-true b c e, defined_there h cells cells' c to t.head ln w, w.next_there, w.output_there, lt-leb h.states to.next ln, lt-leb h.outputs to.output lo)
    go false e = let same = bytes_elsewhere cells cells' c to w b (eqb-false b c e) in rw (same.0, same.1) (sound_cell h cells t b l)

-- so they are again those of a sound table
held_table : (h : Head) (cells cells' : List ℕ) (c : ℕ) (to : Move) → TableIn h cells → to.next < h.states → to.output < h.outputs
    → Holds cells cells' c to → TableIn h cells'
unfolding first_bad
held_table h cells cells' c to t ln lo w =
    let none = first_none (bad_cell h cells') 0 (cell_count h) (λ b low l. held_cell h cells cells' c to t ln lo w b (omega arith)) in
    record { head = t.head; room = omega (arith, w.same_length, t.room); sound = omega arith }

-- bytes that hold a move at cell c hold, with a fault's one byte changed, the move so altered
held_altered : (cells cells' : List ℕ) (c : ℕ) (to : Move) (kind : Kind) (v : ℕ) → 2 * c + 1 < length cells → Holds cells cells' c to
    → Holds cells (set cells' (byte_of kind c) v) c (altered kind v to)
held_altered cells cells' c to Output v room w =
    record {
      same_length = length-set cells' (2 * c + 1) v ∙ w.same_length;
      next_there = get_or-set_other cells' (2 * c + 1) (2 * c) v 0 (λ e. omega arith) ∙ w.next_there;
      output_there = get_or-set_same cells' (2 * c + 1) v 0 (omega (arith, w.same_length));
      elsewhere = λ i a b. get_or-set_other cells' (2 * c + 1) i v 0 b ∙ w.elsewhere i a b;
    }
held_altered cells cells' c to Transfer v room w =
    record {
      same_length = length-set cells' (2 * c) v ∙ w.same_length;
      next_there = get_or-set_same cells' (2 * c) v 0 (omega (arith, w.same_length));
      output_there = get_or-set_other cells' (2 * c) (2 * c + 1) v 0 (λ e. omega arith) ∙ w.output_there;
      elsewhere = λ i a b. get_or-set_other cells' (2 * c) i v 0 a ∙ w.elsewhere i a b;
    }

-- a table's cells hold at a defined cell the specified machine's move
own_held : (h : Head) (cells : List ℕ) (c : ℕ) → undefined cells c ≡ false → Holds cells cells c ((specified h cells).does c)
unfolding specified completed
own_held h cells c e =
    record { same_length = refl; next_there = rw e; output_there = rw e; elsewhere = λ i a b. refl }

-- and at an undefined one with the completed move written in
completed_held : (h : Head) (cells : List ℕ) (c : ℕ) → 2 * c + 1 < length cells → undefined cells c ≡ true
    → Holds cells (written_in h cells c) c ((specified h cells).does c)
unfolding specified completed written_in
completed_held h cells c room e =
    rw e
    (held_altered cells (set cells (2 * c) (c / h.inputs)) c (record { next = c / h.inputs; output = output_byte cells c }) Output null_output room
    (held_altered cells cells c (record { next = next_byte cells c; output = output_byte cells c }) Transfer (c / h.inputs) room
    (record { same_length = refl; next_there = refl; output_there = refl; elsewhere = λ i a b. refl })))

-- a move of a cell that is not bad gives an output: an undefined cell output 0, a defined one the output it names
gives : (n m s next output : ℕ) (b : Bool) → not b && (leb n next || leb m output) ≡ false → 0 < m
    → (cond {A = Move} b (record { next = s; output = 0 }) (record { next = next; output = output })).output < m
gives n m s next output true e l = l
gives n m s next output false e l = leb-false m output (or_false (leb n next) (leb m output) e).1

-- and so does the move altered to a value of its kind
altered_gives : (h : Head) (kind : Kind) (v : ℕ) (to : Move) → v < values h kind → to.output < h.outputs
    → (altered kind v to).output < h.outputs
altered_gives h Output v to lv l = lv
altered_gives h Transfer v to lv l = l

-- the change of a table's fault gives an output
change_gives : (h : Head) (cells : List ℕ) (x : Fault) → TableIn h cells → FaultIn h x
    → (change_of (specified h cells) x).to.output < h.outputs
unfolding change_of specified completed bad_cell
change_gives h cells x t k =
    altered_gives h x.kind x.value _ k.value_in
    (gives h.states h.outputs _ (next_byte cells x.cell) (output_byte cells x.cell) (undefined cells x.cell)
    (sound_cell h cells t x.cell k.cell_in) t.head.some_outputs)

-- both bytes of a fault's cell are among the table's
cell_room : (h : Head) (cells : List ℕ) (x : Fault) → TableIn h cells → FaultIn h x → 2 * x.cell + 1 < length cells
cell_room h cells x t k = omega (arith, t.room, k.cell_in)

-- bytes that hold the specified machine's move at a fault's cell hold the fault's change when its byte is changed
change_held : (h : Head) (cells cells' : List ℕ) (x : Fault) → TableIn h cells → FaultIn h x
    → Holds cells cells' x.cell ((specified h cells).does x.cell) → Holds cells (mutant cells' x) x.cell (change_of (specified h cells) x).to
unfolding mutant change_of
change_held h cells cells' x t k w =
    held_altered cells cells' x.cell ((specified h cells).does x.cell) x.kind x.value (cell_room h cells x t k) w

-- so the fault's machine is the specified machine of the bytes so changed
change_machine : (h : Head) (cells cells' : List ℕ) (x : Fault) → TableIn h cells → FaultIn h x
    → Holds cells cells' x.cell ((specified h cells).does x.cell) → faulty h cells x ≡ specified h (mutant cells' x)
unfolding change_of
change_machine h cells cells' x t k w =
    held_machine h cells (mutant cells' x) x.cell (change_of (specified h cells) x).to t.head (change_in h cells x t k)
    (change_held h cells cells' x t k w)

-- and they are those of a sound table
change_table : (h : Head) (cells cells' : List ℕ) (x : Fault) → TableIn h cells → FaultIn h x
    → Holds cells cells' x.cell ((specified h cells).does x.cell) → TableIn h (mutant cells' x)
change_table h cells cells' x t k w =
    held_table h cells (mutant cells' x) x.cell (change_of (specified h cells) x).to t (change_in h cells x t k)
    (change_gives h cells x t k) (change_held h cells cells' x t k w)

-- a fault on a defined cell: its machine is the specified machine of the cells with that one byte changed, ..
pub mutant_machine : (h : Head) (cells : List ℕ) (x : Fault) → TableIn h cells → FaultIn h x → undefined cells x.cell ≡ false
    → faulty h cells x ≡ specified h (mutant cells x)
mutant_machine h cells x t k e = change_machine h cells cells x t k (own_held h cells x.cell e)

-- .. which are again those of a sound table
pub mutant_table : (h : Head) (cells : List ℕ) (x : Fault) → TableIn h cells → FaultIn h x → undefined cells x.cell ≡ false
    → TableIn h (mutant cells x)
mutant_table h cells x t k e = change_table h cells cells x t k (own_held h cells x.cell e)

-- a fault on an undefined cell: of the cells with the completed move written in, and that byte changed, ..
pub completed_machine : (h : Head) (cells : List ℕ) (x : Fault) → TableIn h cells → FaultIn h x → undefined cells x.cell ≡ true
    → faulty h cells x ≡ specified h (mutant (written_in h cells x.cell) x)
completed_machine h cells x t k e =
    change_machine h cells (written_in h cells x.cell) x t k (completed_held h cells x.cell (cell_room h cells x t k) e)

-- .. which are again those of a sound table
pub completed_table : (h : Head) (cells : List ℕ) (x : Fault) → TableIn h cells → FaultIn h x → undefined cells x.cell ≡ true
    → TableIn h (mutant (written_in h cells x.cell) x)
completed_table h cells x t k e =
    change_table h cells (written_in h cells x.cell) x t k (completed_held h cells x.cell (cell_room h cells x t k) e)

-- nothing but that one byte is changed
pub mutant_elsewhere : (cells : List ℕ) (x : Fault) (i : ℕ) → (i ≡ byte_of x.kind x.cell → ⊥)
    → get_or (mutant cells x) i 0 ≡ get_or cells i 0
unfolding mutant
mutant_elsewhere cells x i other = get_or-set_other cells (byte_of x.kind x.cell) i _ 0 other

-- so the machine of a number on a defined cell is that of the table with its one byte changed
pub changed_mutant : (h : Head) (cells : List ℕ) (f : ℕ) → TableIn h cells → f < numbers h → undefined cells (fault_of h f).cell ≡ false
    → changed h cells f ≡ specified h (mutant cells (fault_of h f))
unfolding changed
changed_mutant h cells f t l d = mutant_machine h cells (fault_of h f) t (fault_in h t.head f (lt-ltb f (numbers h) l)) d

-- the part of a defined cell's move that a fault of a kind changes is the byte there
own_byte : (h : Head) (cells : List ℕ) (c : ℕ) (kind : Kind) → undefined cells c ≡ false
    → own kind ((specified h cells).does c) ≡ get_or cells (byte_of kind c) 0
unfolding specified completed
own_byte h cells c Output d = rw d
own_byte h cells c Transfer d = rw d

-- a number is a fault exactly if it is in use and stands for such a change
pub fault_exactly : (h : Head) (cells : List ℕ) (f : ℕ) → (is_fault h cells f ≡ true) ↔ ((f < numbers h) × OtherByte cells (fault_of h f))
unfolding is_fault alters
fault_exactly h cells f = (there, back)
  where
    x : Fault
    x = fault_of h f

    there : is_fault h cells f ≡ true → (f < numbers h) × OtherByte cells x
    there e =
        let a = and_true (ltb f (numbers h)) _ e in
        let b = and_true (not (undefined cells x.cell)) _ a.1 in
        let d = not-true (undefined cells x.cell) b.0 in (
          ltb-true f (numbers h) a.0,
          record { on_defined = d; other_value = λ q. eqb-false _ _ (not-true _ b.1) (q ∙ sym (own_byte h cells x.cell x.kind d)) },
        )

    back : (f < numbers h) × OtherByte cells x → is_fault h cells f ≡ true
    back k =
        let d = k.1.on_defined in
        rw (lt-ltb f (numbers h) k.0, d, own_byte h cells x.cell x.kind d, ne_eqb x.value _ k.1.other_value)
