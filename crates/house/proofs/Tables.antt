-- The table file: what reading one answers at each test, that a refusal is given exactly when its rule is the first to hold, what a
-- table that was read is, and that writing and reading undo each other.
-- Assumes nothing.
use Prim.Native.Nat.{ℕ, ◌+◌, ◌-◌, ◌*◌, ◌≤◌, ◌<◌}
use mathlib.Core.Path.{◌≡◌, refl, sym, ◌∙◌, ap}
use mathlib.Core.Bool.{true, false, not, ◌||◌}
use mathlib.Core.List.{List, [], ◌∷◌}
use mathlib.Core.Logic.{◌↔◌}
use borrow.Author.Tests.{ltb-false, eqb-true, not-false, lt-ltb, le-ltb, eq-eqb, ne_eqb}
use native.Mathlib.Omega.{arith}
use lib.Dec.{eqb, ltb}
use lib.ListN.{length, get_or, set, take, drop, length-drop}
use lib.Seq.{take_all, get_or-take, length-take-le}
use Rattle.std.specs.Prelude.{Option, Some, None, Ok, Err}
use Rattle.shapes.specs.Edit.{filled}
use Rattle.shapes.proofs.Edit.{filled_append, drop_three}
use Rattle.shapes.specs.Refusals.{fine, refused, ruling, AllFalse, RefusedBy}
use Rattle.shapes.proofs.Refusals.{ruling_here, ruling_join_refused, ruling_join_fine, ruling_joined, refused_when, fine_when}
use Rattle.shapes.proofs.Tests.{or_false}
use Rattle.machine.specs.Head.{good_head, made_head, HeadIn, cell_count}
use Rattle.machine.specs.Cell.{first_bad, TableIn, bad_in}
use Rattle.machine.specs.declared.head.Head.{Head}
use Rattle.machine.proofs.Cases.{head_in_law, head_good, made_head_law, made_no_head}
use Rattle.machine.proofs.Sound.{bad_few, bad_same}
use Rattle.house.specs.Bytes.{Bytes}
use Rattle.house.specs.File.{version, rest_at, file_rules, file_head, file_of}
use Rattle.shapes.specs.First.{found}
use Rattle.shapes.proofs.Found.{found_at, found_past}
use Rattle.house.specs.Table.{file_cells_at, head_in, cells_in, bad_size, bad_cells, table_rules, table_read, table_bytes, table_head_bytes, table_file}
use Rattle.house.specs.declared.refusal.Refusal.{Refusal}
use Rattle.house.specs.declared.refusal.Refusal.TheVariants.{Size, Cell}
use Rattle.house.proofs.Forms.{file_of_fine, file_of_rest, ruled_refused, ruled_passed}

-- the head that was made is the one that the file names
pub record Named (file : List ℕ) (h : Head) : Type 0 where
  pub good : good_head (head_in file) ≡ true
  pub same : h ≡ head_in file

module _ (file : List ℕ) where
  -- three bytes that make a head make the one that the file names
  pub head_named : {n k m : ℕ} {made : Option Head} {h : Head} → n ≡ get_or file 3 0 → k ≡ get_or file 4 0 → m ≡ get_or file 5 0
      → made ≡ made_head n k m → made ≡ Some h → Named file h
  head_named {h = h} a b c e d =
      let m = made_head_law (get_or file 3 0) (get_or file 4 0) (get_or file 5 0) h (rw (← a, ← b, ← c) (sym e ∙ d)) in
      record { good = m.0; same = m.1 }

  -- three bytes that make none are no head
  pub head_missing : {n k m : ℕ} {made : Option Head} → n ≡ get_or file 3 0 → k ≡ get_or file 4 0 → m ≡ get_or file 5 0
      → made ≡ made_head n k m → made ≡ None → good_head (head_in file) ≡ false
  head_missing a b c e d = made_no_head _ _ _ (rw (← a, ← b, ← c) (sym e ∙ d))

  -- the head that was made is within the limits
  pub named_in : {h : Head} → Named file h → HeadIn h
  named_in n = rw n.same (head_in_law _ n.good)

  -- SIZE where the three numbers are missing,
  pub size_short : length file < file_cells_at → bad_size file ≡ true
  unfolding bad_size
  size_short l = rw (lt-ltb _ _ l)

  -- where they are no head,
  pub size_no_head : file_cells_at ≤ length file → good_head (head_in file) ≡ false → bad_size file ≡ true
  unfolding bad_size
  size_no_head l g = rw (le-ltb _ _ l, g)

  -- and where the rest has another length than the cells want
  pub size_wrong : {h : Head} {cells : ℕ} → Named file h → cells ≡ cell_count h → file_cells_at ≤ length file
      → (length file ≡ file_cells_at + 2 * cells → ⊥) → bad_size file ≡ true
  unfolding bad_size
  size_wrong n e l d =
      rw (le-ltb _ _ l, n.good, ne_eqb (length file - rest_at) (3 + 2 * cell_count (head_in file)) λ q. d (omega (arith, ap cell_count n.same)))

  -- no SIZE where it has that length
  pub size_right : {h : Head} {cells : ℕ} → Named file h → cells ≡ cell_count h → length file ≡ file_cells_at + 2 * cells → bad_size file ≡ false
  unfolding bad_size
  size_right n e l =
      rw (le-ltb (length file) file_cells_at (omega arith), n.good, eq-eqb (length file - rest_at) (3 + 2 * cell_count (head_in file)) (omega (arith, ap cell_count n.same)))

  -- the part from the cells on is the cells,
  pub cells_part : take (length file - file_cells_at) (drop file_cells_at file) ≡ cells_in file
  cells_part = take_all (length file - file_cells_at) (cells_in file) (simp length-drop (omega arith))

  -- so there is room for them
  pub cells_room_law : {h : Head} {cells : ℕ} → Named file h → cells ≡ cell_count h → length file ≡ file_cells_at + 2 * cells
      → 2 * cell_count h ≤ length (take (length file - file_cells_at) (drop file_cells_at file))
  cells_room_law n e l = rw (cells_part, length-drop) (omega arith)

  -- and the lowest bad cell of that part is the file's
  pub cells_bad : {h : Head} {b : Option ℕ} → Named file h → b ≡ bad_in h (take (length file - file_cells_at) (drop file_cells_at file))
      → b ≡ found (first_bad (head_in file) (cells_in file)) (cell_count (head_in file))
  unfolding bad_in
  cells_bad n e = e ∙ rw (cells_part, n.same)

  -- a file that the rules for every file refuse is refused so
  pub table_file_refused : {r : Refusal} → ruling (file_rules version file) ≡ refused r → table_read file ≡ Err r
  unfolding table_read table_rules
  table_file_refused e = rw (ruling_join_refused (file_rules version file) _ _ e)

  module _ (e : ruling (file_rules version file) ≡ fine) where
    -- a file that those let pass is refused for its size,
    pub read_size : bad_size file ≡ true → table_read file ≡ Err Size
    unfolding table_read table_rules
    read_size s = rw (ruling_join_fine (file_rules version file) _ e, ruling_here Size _ s)

    -- else for its lowest bad cell,
    pub read_cell : {b : ℕ} → bad_size file ≡ false → found (first_bad (head_in file) (cells_in file)) (cell_count (head_in file)) ≡ Some b
        → table_read file ≡ Err (Cell b)
    unfolding table_read table_rules bad_cells ruling
    read_cell s d = let b = found_at _ _ d in rw (ruling_join_fine (file_rules version file) _ e, s, lt-ltb _ _ b.1, b.0)

    -- else it is a table
    pub read_fine : {h : Head} → bad_size file ≡ false → Named file h → found (first_bad (head_in file) (cells_in file)) (cell_count (head_in file)) ≡ None
        → table_read file ≡ Ok h
    unfolding table_read table_rules bad_cells ruling
    read_fine s n d = rw (n.same, ruling_join_fine (file_rules version file) _ e, s, le-ltb _ _ (found_past _ _ d))

-- three stores after the head of every file write what stands before the cells
pub head_written : (out : List ℕ) (h : Head) {last : List ℕ} {cells : ℕ} → last ≡ filled out 0 (file_head version (3 + 2 * cells)) → cells ≡ cell_count h
    → set (set (set last 3 h.states) 4 h.inputs) 5 h.outputs ≡ filled out 0 (table_head_bytes h)
unfolding filled table_head_bytes file_head
head_written out h e c = rw (e, c) (filled_append out 0 (file_head version (3 + 2 * cell_count h)) (h.states ∷ h.inputs ∷ h.outputs ∷ []))

-- a table file is refused with r exactly if the first of its rules that holds is one of r
pub table_refused : (file : List ℕ) (r : Refusal) → (table_read file ≡ Err r) ↔ RefusedBy (table_rules file) r
unfolding table_read
table_refused file r = (
  λ e. (refused_when (table_rules file) r).0 (ruled_refused _ _ e),
  λ h. let e = (refused_when (table_rules file) r).1 h in rw e,
)

-- where a table is answered no rule refuses it, and it has the head that the file names
table_rules_pass : (file : List ℕ) (h : Head) → table_read file ≡ Ok h → (ruling (table_rules file) ≡ fine) × (h ≡ head_in file)
unfolding table_read
table_rules_pass file h e = ruled_passed _ _ e

-- so none of its rules holds
pub table_taken : (file : List ℕ) (h : Head) → table_read file ≡ Ok h → (AllFalse (table_rules file)) × (h ≡ head_in file)
table_taken file h e = let t = table_rules_pass file h e in ((fine_when (table_rules file)).0 t.0, t.1)

-- a file that SIZE does not refuse names a head and ends with its cells
size_known : (file : List ℕ) → bad_size file ≡ false → (good_head (head_in file) ≡ true) × (length file ≡ table_bytes (head_in file))
unfolding bad_size
size_known file e =
    let s = or_false (ltb (length file) file_cells_at || not (good_head (head_in file))) (not (eqb (length file - rest_at) (3 + 2 * cell_count (head_in file)))) e in
    let g = or_false (ltb (length file) file_cells_at) (not (good_head (head_in file))) s.0 in
    let l = ltb-false (length file) file_cells_at g.0 in
    let r = eqb-true (length file - rest_at) (3 + 2 * cell_count (head_in file)) (not-false _ s.1) in
    (not-false _ g.1, omega arith)

-- a file that CELL does not refuse has no bad cell
cells_known : (file : List ℕ) → bad_cells file ≡ false → first_bad (head_in file) (cells_in file) ≡ cell_count (head_in file)
unfolding bad_cells
cells_known file e =
    let l = ltb-false (first_bad (head_in file) (cells_in file)) (cell_count (head_in file)) e in
    omega (arith, bad_few (head_in file) (cells_in file))

-- what is known of a table that was read: its head and cells are a table's, and the file ends with them
pub table_known : (file : List ℕ) (h : Head) → table_read file ≡ Ok h → (TableIn h (cells_in file)) × (length file ≡ table_bytes h)
unfolding table_rules file_rules
table_known file h e =
    let t = table_taken file h e in
    let s = size_known file t.0.1.1.1.0 in
    let l = s.1 in
    let known : TableIn (head_in file) (cells_in file) = record {
      head = head_in_law _ s.0;
      room = simp length-drop (omega arith);
      sound = cells_known file t.0.1.1.1.1.0;
    } in
    rw t.1 (known, l)

-- and the rules for every file do not refuse it
table_file_fine : (file : List ℕ) (h : Head) → table_read file ≡ Ok h → ruling (file_rules version file) ≡ fine
unfolding table_rules
table_file_fine file h e = (ruling_joined (file_rules version file) _ (table_rules_pass file h e).0).0

-- a table file is the file made of the three numbers and the cells
file_of_table : (h : Head) (cells : List ℕ) → 2 * cell_count h ≤ length cells
    → table_file h cells ≡ file_of version (h.states ∷ h.inputs ∷ h.outputs ∷ take (2 * cell_count h) cells)
unfolding table_file table_head_bytes file_of file_head
file_of_table h cells l =
    let e : length (h.states ∷ h.inputs ∷ h.outputs ∷ take (2 * cell_count h) cells) ≡ 3 + 2 * cell_count h = omega (arith, length-take-le (2 * cell_count h) cells l) in
    rw e

-- bytes after the cells make no cell bad
cut_sound : (h : Head) (cells : List ℕ) → first_bad h cells ≡ cell_count h → first_bad h (take (2 * cell_count h) cells) ≡ cell_count h
cut_sound h cells e = bad_same h (take (2 * cell_count h) cells) cells (λ i l. get_or-take (2 * cell_count h) cells i 0 l) ∙ e

-- a table that was written is read back as itself
pub table_reads_back : (h : Head) (cells : List ℕ) → TableIn h cells
    → (table_read (table_file h cells) ≡ Ok h) × (cells_in (table_file h cells) ≡ take (2 * cell_count h) cells)
unfolding table_file table_head_bytes file_head
table_reads_back h cells t =
    (read_fine file passes (size_right file named refl size) named none, refl)
  where
    file : List ℕ
    file = table_file h cells

    none : found (first_bad (head_in file) (cells_in file)) (cell_count (head_in file)) ≡ None
    none = rw (cut_sound h cells t.sound, le-ltb (cell_count h) (cell_count h) (omega arith))

    passes : ruling (file_rules version file) ≡ fine
    passes = rw (file_of_table h cells t.room) (file_of_fine _ _)

    named : Named file h
    named = record { good = head_good h t.head; same = refl }

    size : length file ≡ file_cells_at + 2 * cell_count h
    size = omega (arith, length-take-le (2 * cell_count h) cells t.room)

-- a table that was read is written back as the same file
pub table_writes_back : (file : List ℕ) (h : Head) → Bytes file → table_read file ≡ Ok h → table_file h (cells_in file) ≡ file
table_writes_back file h b e =
    let k = table_known file h e in
    let l = k.1 in
    let all : take (2 * cell_count h) (cells_in file) ≡ cells_in file = take_all (2 * cell_count h) (cells_in file) (rw length-drop (omega arith)) in
    rw (file_of_table h (cells_in file) k.0.room, all, (table_taken file h e).1, ← drop_three file 3 (omega arith))
    (file_of_rest version file b (table_file_fine file h e))
