-- What the stores of a case make together: a whole place stored; and what a part filled with zeros is. Assumes nothing.
use Prim.Native.Nat.{ℕ, zero, suc, ◌+◌, ◌≤◌}
use mathlib.Core.Path.{◌≡◌, sym}
use mathlib.Core.List.{List, ◌++◌}
use native.Mathlib.Nat.{add-zero, zero-add}
use native.Mathlib.Numerals.{add-one}
use native.Mathlib.Omega.{arith}
use lib.ListN.{length, set, take, drop, replicate}
use lib.Seq.{length-take-le}
use Rattle.std.proofs.lemmas.List.Edits.{fill_none, fill_more}
use Rattle.shapes.specs.Edit.{edit}
use Rattle.shapes.proofs.Edit.{edit_same, edit_compose}
use Rattle.machine.specs.Limits.{steps_most}
use Rattle.machine.specs.Case.{Case}
use Rattle.memory.specs.Layout.{tallies_size, place_size, place_at, place_byte}
use Rattle.memory.specs.Store.{placed, cleared}
use Rattle.memory.specs.Loops.{steps_stored}
use Rattle.memory.proofs.Stored.{byte_input, byte_output}

-- the first byte of a place is the count of the inputs
count_stored : (c : Case) (at : ℕ) (l : List ℕ) → set l at (length c.inputs) ≡ edit (λ i old. place_byte c i) at 1 l
unfolding edit place_byte
count_stored c at l = rw add-zero

-- the count stored, then the inputs, then the outputs, is a whole place stored
case_stored : (c : Case) (at : ℕ) (l : List ℕ)
    → steps_stored c.outputs (at + 1 + steps_most) (steps_stored c.inputs (at + 1) (set l at (length c.inputs)))
    ≡ edit (λ i old. place_byte c i) at place_size l
case_stored c at l = rw (count_stored, ins, edit_compose byte at 1 steps_most l, past, outs, edit_compose byte at (1 + steps_most) steps_most l)
  where
    byte : ℕ → ℕ → ℕ
    byte i old = place_byte c i

    ins : steps_stored c.inputs (at + 1) (edit byte at 1 l) ≡ edit (λ i. byte (1 + i)) (at + 1) steps_most (edit byte at 1 l)
    ins = edit_same _ _ _ _ _ λ i x h. sym (byte_input c i h)

    past : at + 1 + steps_most ≡ at + (1 + steps_most)
    past = omega arith

    outs : steps_stored c.outputs (at + (1 + steps_most)) (edit byte at (1 + steps_most) l)
        ≡ edit (λ i. byte (1 + steps_most + i)) (at + (1 + steps_most)) steps_most (edit byte at (1 + steps_most) l)
    outs = edit_same _ _ _ _ _ λ i x h. sym (byte_output c i)

-- so a case stored in three steps is the case placed
pub placed_from : (c : Case) (p : ℕ) (s s' s'' : List ℕ)
    → s' ≡ steps_stored c.inputs (place_at p + 1) (set s (place_at p) (length c.inputs))
    → s'' ≡ steps_stored c.outputs (place_at p + 1 + steps_most) s' → s'' ≡ placed s p c
unfolding placed
placed_from c p s s' s'' e d = rw (d, e) (case_stored c (place_at p) s)

-- the first numbers of a list changed to 0 are zeros before the rest of it
zeros_edited : (n : ℕ) (l : List ℕ) → n ≤ length l → replicate n 0 ++ drop n l ≡ edit (λ i old. 0) 0 n l
unfolding edit
zeros_edited zero l h = sym (fill_none l 0)
zeros_edited (suc n) l h = rw (← zeros_edited n l (omega arith), zero-add) (sym (rw add-one at (fill_more n 0 l (omega arith))))

-- so tallies whose part in use was filled with 0 are cleared
pub cleared_told : (t new : List ℕ) → tallies_size ≤ length t → new ≡ replicate (length (take tallies_size t)) 0 → new ++ drop tallies_size t ≡ cleared t
unfolding cleared
cleared_told t new h e = rw (e, length-take-le tallies_size t h) (zeros_edited tallies_size t h)
