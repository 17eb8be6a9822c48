-- The built-in tables: the file that is written reads as that table, cell by cell; it is written exactly if there is room for it.
-- Assumes nothing.
use Prim.Native.Nat.{ℕ, ◌+◌, ◌*◌, ◌≤◌, ◌<◌}
use mathlib.Core.Path.{◌≡◌, refl, sym, ap, ◌∙◌}
use mathlib.Core.Bool.{Bool, true, false}
use mathlib.Core.List.{List}
use borrow.Author.Rules.{rules}
use native.Mathlib.Omega.{arith}
use borrow.Author.Tests.{lt-ltb, le-ltb, ltb-true, ltb-false}
use lib.Dec.{ltb}
use lib.ListN.{length, take}
use Rattle.shapes.specs.First.{first}
use Rattle.shapes.specs.Edit.{filled}
use Rattle.shapes.proofs.Edit.{length_filled, filled_append}
use Rattle.shapes.specs.Refusals.{ruling}
use Rattle.machine.specs.Head.{cell_count}
use Rattle.machine.specs.Cell.{undefined, bad_cell, first_bad, TableIn}
use Rattle.machine.specs.declared.head.Head.{Head}
use Rattle.house.specs.Refusal.{wrote}
use Rattle.house.specs.File.{file_head}
use Rattle.house.specs.Table.{file_cells_at, cells_in, table_read, table_bytes, table_head_bytes, table_file}
use Rattle.house.specs.declared.refusal.Refusal.TheVariants.{Short}
use Rattle.house.specs.declared.refusal.Refusal.{Refusal}
use Rattle.std.specs.Prelude.{Result, Ok, Err}
use Rattle.house.proofs.Tables.{table_reads_back}
use Rattle.product.specs.Tables.{product_head, product_cells, written}
use Rattle.product.specs.declared.Product.{Product}
use Rattle.product.specs.declared.Product.TheVariants.{FiveLitre, EightLitre}

-- a product's table is one
built_in_table : (m : Product) → TableIn (product_head m) (product_cells m)
unfolding first_bad bad_cell undefined first
built_in_table FiveLitre = record { head = search rules; room = omega arith; sound = refl }
built_in_table EightLitre = record { head = search rules; room = omega arith; sound = refl }

-- it has no cells beside those of the file
cells_whole : (m : Product) → take (2 * cell_count (product_head m)) (product_cells m) ≡ product_cells m
cells_whole FiveLitre = refl
cells_whole EightLitre = refl

-- its file has as many bytes as are answered
pub built_in_bytes : (m : Product) → length (table_file (product_head m) (product_cells m)) ≡ table_bytes (product_head m)
unfolding table_file table_head_bytes file_head
built_in_bytes FiveLitre = refl
built_in_bytes EightLitre = refl

-- the file written reads as that table, cell by cell
pub built_in_reads : (m : Product)
    → (table_read (table_file (product_head m) (product_cells m)) ≡ Ok (product_head m)) × (cells_in (table_file (product_head m) (product_cells m)) ≡ product_cells m)
built_in_reads m = let t = table_reads_back (product_head m) (product_cells m) (built_in_table m) in (t.0, t.1 ∙ cells_whole m)

module _ (m : Product) (out : List ℕ) where
  -- where there is less room than the file has bytes, SHORT carries these and nothing is written
  pub built_in_short : length out < table_bytes (product_head m) → written m out ≡ wrote (Err (Short (table_bytes (product_head m)))) out
  unfolding written ruling
  built_in_short l = rw (lt-ltb _ _ l)

  -- else the file is written, and its bytes answered
  pub built_in_written : table_bytes (product_head m) ≤ length out
      → written m out ≡ wrote (Ok (table_bytes (product_head m))) (filled out 0 (table_file (product_head m) (product_cells m)))
  unfolding written ruling
  built_in_written l = rw (le-ltb _ _ l)

  -- so an answered count of bytes is within what is left in the buffer
  pub built_in_fits : {r : Result ℕ Refusal} {last : List ℕ} {n : ℕ} → wrote r last ≡ written m out → r ≡ Ok n → n ≤ length last
  built_in_fits {r} {last} {n} e t = go (ltb (length out) (table_bytes (product_head m))) refl
    where
      go : (b : Bool) → ltb (length out) (table_bytes (product_head m)) ≡ b → n ≤ length last
      go true q =
          let s = e ∙ built_in_short (ltb-true _ _ q) in
          let z : ◌≡◌ {A = ℕ} 0 1 = cc in absurd (omega arith)
      go false q =
          let room = ltb-false (length out) (table_bytes (product_head m)) q in
          let s = e ∙ built_in_written room in
          let bytes : n ≡ table_bytes (product_head m) = cc in
          let left : last ≡ filled out 0 (table_file (product_head m) (product_cells m)) = cc in
          rw (bytes, left, length_filled) room

  module _ {h : Head} {cells : ℕ} (eh : h ≡ product_head m) (ec : cells ≡ cell_count h) where
    -- the count of the cells is the product's
    count_known : file_cells_at + 2 * cells ≡ table_bytes (product_head m)
    count_known = omega (arith, ap cell_count eh)

    -- so the code's refusal is this one,
    pub short_told : length out < file_cells_at + 2 * cells → wrote (Err (Short (file_cells_at + 2 * cells))) out ≡ written m out
    short_told l = rw count_known (sym (built_in_short (rw count_known at l)))

    -- and what it writes is the table file
    pub file_told : {before last : List ℕ} → file_cells_at + 2 * cells ≤ length out → before ≡ filled out 0 (table_head_bytes h)
        → last ≡ filled before file_cells_at (product_cells m) → wrote (Ok (file_cells_at + 2 * cells)) last ≡ written m out
    unfolding table_file table_head_bytes file_head
    file_told {last = last} l b e =
        let whole : last ≡ filled out 0 (table_file (product_head m) (product_cells m)) = rw (e, b, eh, cells_whole m) (filled_append out 0 (table_head_bytes (product_head m)) (product_cells m)) in
        rw (count_known, whole) (sym (built_in_written (rw count_known at l)))
