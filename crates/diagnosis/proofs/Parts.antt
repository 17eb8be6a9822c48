-- The first cells of a buffer written as a part of their own: with the rest after it that part is the buffer, changed as far as the part goes.
-- Assumes nothing.
use Prim.Native.Nat.{ℕ, ◌-◌, ◌≤◌, ◌<◌}
use mathlib.Core.Path.{◌≡◌, refl, sym, ap, ◌∙◌}
use mathlib.Core.List.{List, ◌++◌}
use mathlib.Core.Bool.{Bool, true, false}
use native.Mathlib.Nat.{zero-add}
use native.Mathlib.Omega.{arith}
use lib.Dec.{ltb}
use lib.ListN.{length, get_or, take, drop, replicate, length-append, length-drop, get_or-append}
use lib.Seq.{get_or-take, get_or-drop, get_or-append_right, length-take-le, ext_get_or}
use borrow.Author.Tests.{ltb-true, ltb-false}
use Rattle.std.proofs.lemmas.List.{length-replicate, get_or-replicate}
use Rattle.shapes.specs.Edit.{edit}
use Rattle.shapes.proofs.Edit.{length_edit, edit_in, edit_out_above}
use Rattle.machine.specs.Limits.{cells_most}
use Rattle.diagnosis.specs.Loops.{spread, swept, swept_all}

-- where a part holds each of the first n numbers changed, it and the rest after it are the list so changed
part_edit : (f : ℕ → ℕ → ℕ) (n : ℕ) (l part : List ℕ) → n ≤ length l → length part ≡ n → ((i : ℕ) → i < n → get_or part i 0 ≡ f i (get_or l i 0))
    → part ++ drop n l ≡ edit f 0 n l
part_edit f n l part room long each =
    ext_get_or 0 (part ++ drop n l) (edit f 0 n l) same (λ j h. go j (rw (same, length_edit f 0 n l) at h) (ltb j n) refl)
  where
    same : length (part ++ drop n l) ≡ length (edit f 0 n l)
    same = rw (length-append, length-drop, length_edit, long) (omega arith)

    rest : (j : ℕ) → n ≤ j → get_or (drop n l) (j - length part) 0 ≡ get_or l j 0
    rest j h = get_or-drop n l (j - length part) 0 ∙ ap (λ (k : ℕ). get_or l k 0) (omega arith)

    go : (j : ℕ) → j < length l → (b : Bool) → ltb j n ≡ b → get_or (part ++ drop n l) j 0 ≡ get_or (edit f 0 n l) j 0
    go j h true e =
        let k = ltb-true j n e in
        get_or-append part (drop n l) 0 j (omega arith) ∙ each j k ∙ sym (rw zero-add at (edit_in f 0 n l j k (omega arith)))
    go j h false e =
        let k = ltb-false j n e in
        get_or-append_right part (drop n l) j 0 (omega arith) ∙ rest j k ∙ sym (edit_out_above f 0 n l j (omega arith))

module _ (l : List ℕ) (room : cells_most ≤ length l) where
  -- the length of that part
  pub part_long : length (take cells_most l) ≡ cells_most
  part_long = length-take-le cells_most l room

  -- filled with one value it spreads that value,
  pub part_spread : {part : List ℕ} (v : ℕ) → part ≡ replicate (length (take cells_most l)) v → part ++ drop cells_most l ≡ spread v l
  part_spread {part} v e =
      part_edit (λ cell old. v) cells_most l part room (rw (e, length-replicate, part_long))
      (λ i h. rw (e, part_long) (get_or-replicate cells_most i v 0 h))

  -- and swept to its end it sweeps all
  pub part_swept : {part : List ℕ} (n : ℕ) → n ≡ cells_most → part ≡ edit (λ cell old. swept old) 0 n (take cells_most l)
      → part ++ drop cells_most l ≡ swept_all l
  part_swept {part} n d e =
      part_edit (λ cell old. swept old) cells_most l part room (rw (e, length_edit, part_long))
      (λ i h. rw (e, d) (swept_at i h))
    where
      swept_at : (i : ℕ) → i < cells_most → get_or (edit (λ cell old. swept old) 0 cells_most (take cells_most l)) i 0 ≡ swept (get_or l i 0)
      swept_at i h =
          (rw zero-add at (edit_in (λ cell old. swept old) 0 cells_most (take cells_most l) i h (omega (arith, part_long))))
          ∙ ap swept (get_or-take cells_most l i 0 h)
