-- A part of a list written over by another list is that list written there.
-- Assumes nothing.
use Prim.Native.Nat.{ℕ, ◌+◌, ◌-◌, ◌≤◌, ◌<◌}
use mathlib.Core.Path.{◌≡◌, refl, sym, ap, ◌∙◌}
use mathlib.Core.Bool.{Bool, true, false}
use mathlib.Core.List.{List, ◌++◌}
use native.Mathlib.Omega.{arith}
use lib.Dec.{ltb}
use borrow.Author.Tests.{ltb-true, ltb-false}
use borrow.Rule.Slice.PartMut.{put_mid}
use lib.ListN.{length, get_or, take, drop, length-append, length-drop}
use lib.Seq.{get_or-append-add, get_or-take, get_or-drop, length-take-le, ext_get_or}
use Rattle.std.proofs.lemmas.Slice.{take-put_mid_below, take-put_mid, drop-put_mid}
use Rattle.shapes.specs.Edit.{filled}
use Rattle.shapes.proofs.Edit.{edit_in, edit_out_below, edit_out_above, length_edit}

module _ (out v : List ℕ) (at : ℕ) (room : at + length v ≤ length out) where
  below : (j : ℕ) → j < at → get_or (put_mid at (length v) out v) j 0 ≡ get_or out j 0
  below j h =
      sym (get_or-take at (put_mid at (length v) out v) j 0 h)
      ∙ ap (λ l. get_or l j 0) (take-put_mid_below at (length v) out v at (omega arith) (omega arith))
      ∙ get_or-take at out j 0 h

  above : (j : ℕ) → at + length v ≤ j → get_or (put_mid at (length v) out v) j 0 ≡ get_or out j 0
  above j h =
      let e : at + length v + (j - (at + length v)) ≡ j = omega arith in
      rw (← e)
      (sym (get_or-drop (at + length v) (put_mid at (length v) out v) (j - (at + length v)) 0)
      ∙ ap (λ l. get_or l (j - (at + length v)) 0) (drop-put_mid at (length v) out v (at + length v) (omega arith) (omega arith) refl)
      ∙ get_or-drop (at + length v) out (j - (at + length v)) 0)

  inside : (i : ℕ) → i < length v → get_or (put_mid at (length v) out v) (at + i) 0 ≡ get_or v i 0
  inside i h =
      let e : length (take at out) ≡ at = length-take-le at out (omega arith) in
      sym (get_or-take (at + length v) (put_mid at (length v) out v) (at + i) 0 (omega arith))
      ∙ ap (λ l. get_or l (at + i) 0) (take-put_mid at (length v) out v (at + length v) refl (omega arith))
      ∙ (rw e at (get_or-append-add (take at out) v i 0))

  long : length (put_mid at (length v) out v) ≡ length out
  long = omega (arith, length-append (take at out) (v ++ drop (length v) (drop at out)), length-append v (drop (length v) (drop at out)), length-drop (length v) (drop at out), length-drop at out, length-take-le at out (omega arith))

  each : (j : ℕ) → (a : Bool) → ltb j at ≡ a → (b : Bool) → ltb j (at + length v) ≡ b → get_or (put_mid at (length v) out v) j 0 ≡ get_or (filled out at v) j 0
  unfolding filled
  each j true ea b eb =
      let k = ltb-true j at ea in
      below j k ∙ sym (edit_out_below (λ i old. get_or v i 0) at (length v) out j k)
  each j false ea true eb =
      let low = ltb-false j at ea in
      let high = ltb-true j (at + length v) eb in
      let e : j ≡ at + (j - at) = omega arith in
      rw e (inside (j - at) (omega arith) ∙ sym (edit_in (λ i old. get_or v i 0) at (length v) out (j - at) (omega arith) (omega arith)))
  each j false ea false eb =
      let k = ltb-false j (at + length v) eb in
      above j k ∙ sym (edit_out_above (λ i old. get_or v i 0) at (length v) out j k)

  pub written_part : put_mid at (length v) out v ≡ filled out at v
  unfolding filled
  written_part =
      ext_get_or 0 (put_mid at (length v) out v) (filled out at v) (long ∙ sym (length_edit (λ i old. get_or v i 0) at (length v) out))
      (λ j h. each j (ltb j at) refl (ltb j (at + length v)) refl)
