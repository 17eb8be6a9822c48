-- Marking what a failing case executes up to its first symptom, and keeping only what was marked, leaves of candidates those in its
-- conflict set. Assumes nothing.
use Prim.Native.Nat.{ℕ, zero, suc, ◌+◌, ◌%◌, ◌≤◌, ◌<◌, min}
use mathlib.Core.Path.{◌≡◌, refl, sym, ap, ◌∙◌}
use mathlib.Core.List.{List}
use mathlib.Core.Bool.{Bool, true, false, cond, not, ◌&&◌}
use native.Mathlib.Nat.{zero-add}
use native.Mathlib.Omega.{arith}
use lib.Dec.{eqb}
use lib.ListN.{length, get_or, take, length-take}
use lib.Seq.{get_or-take}
use borrow.Author.Tests.{eq-eqb, ne_eqb, not-true}
use Rattle.shapes.specs.Edit.{edit}
use Rattle.shapes.specs.Keep.{has, bit}
use Rattle.shapes.proofs.Edit.{edit_kept, edit_ext, length_edit, edit_in, edit_out_above}
use Rattle.machine.specs.Limits.{cells_most}
use Rattle.machine.specs.Cell.{TableIn}
use Rattle.machine.specs.Machine.{Machine, specified}
use Rattle.machine.specs.Case.{Case, CaseIn, InputsIn}
use Rattle.machine.specs.Run.{executed, symptoms_of}
use Rattle.machine.specs.Marks.{marked}
use Rattle.machine.specs.declared.head.Head.{Head}
use Rattle.machine.specs.declared.replay.Symptoms.{Symptoms}
use Rattle.machine.proofs.Sound.{cells_few}
use Rattle.machine.proofs.Cases.{case_step}
use Rattle.machine.proofs.Marks.{length_marked, marked_at, executed_in}
use Rattle.machine.proofs.Run.{reproduces_symptoms, first_step, prefix_executed}
use Rattle.diagnosis.specs.Diagnosis.{explains, fails, conflicts, conflict_bytes}
use Rattle.diagnosis.specs.Loops.{narrowed, swept, Bits, spread, swept_all}

-- a case fails exactly if it has a symptom
pub fails_count : (M : Machine) (c : Case) → fails M c ≡ not (eqb (symptoms_of M c.inputs c.outputs).count 0)
unfolding fails explains
fails_count M c = ap not (reproduces_symptoms M c.inputs c.outputs)

-- a failing case's first symptom is one of its steps
first_inside : (M : Machine) (c : Case) → fails M c ≡ true → (symptoms_of M c.inputs c.outputs).first + 1 ≤ length c.inputs
unfolding fails explains
first_inside M c e = omega (arith, first_step M c.inputs c.outputs (not-true _ e))

-- what the symptoms found say: none, and the case passes ..
pub no_symptom : (M : Machine) (c : Case) (s : Symptoms) → s ≡ symptoms_of M c.inputs c.outputs → s.count ≡ 0 → fails M c ≡ false
no_symptom M c s e none = fails_count M c ∙ rw (← e, eq-eqb s.count 0 none)

-- .. or some, and it fails, with its first symptom among its steps
pub a_symptom : (M : Machine) (c : Case) (s : Symptoms) → s ≡ symptoms_of M c.inputs c.outputs → (s.count ≡ 0 → ⊥)
    → (fails M c ≡ true) × (s.first + 1 ≤ length c.inputs)
a_symptom M c s e some =
    let bad : fails M c ≡ true = fails_count M c ∙ rw (← e, ne_eqb s.count 0 some) in
    (bad, rw e (first_inside M c bad))

-- the first inputs of a case are a head's
pub input_in : (h : Head) (is ys : List ℕ) → CaseIn h is ys → (n t : ℕ) → t < min n (length is) → get_or (take n is) t 0 < h.inputs
input_in h is ys k n t below = rw (get_or-take n is t 0 (omega arith)) (case_step h is ys k t (omega arith))

pub inputs_in : (h : Head) (is ys : List ℕ) → CaseIn h is ys → (n : ℕ) → InputsIn h (take n is)
inputs_in h is ys k n t below = input_in h is ys k n t (rw length-take at below)

-- of a 0 or 1 that was marked the sweep leaves what it was, and of another nothing
swept_marked : (v : ℕ) → v ≤ 1 → swept (v % 2 + 2) ≡ v
swept_marked zero l = refl
swept_marked (suc zero) l = refl
swept_marked (suc (suc v)) l = absurd (omega arith)

swept_bare : (v : ℕ) → v ≤ 1 → swept v ≡ 0
swept_bare v l = rw (ne_eqb v 3 (λ e. omega arith))

-- the sweep of what was marked is what the case leaves
narrows : (h : Head) (cells : List ℕ) → TableIn h cells → (c : Case) → CaseIn h c.inputs c.outputs → (out : List ℕ) → Bits out
    → fails (specified h cells) c ≡ true
    → swept_all (marked (executed (specified h cells) (take ((symptoms_of (specified h cells) c.inputs c.outputs).first + 1) c.inputs)) out)
    ≡ narrowed (specified h cells) c out
unfolding narrowed conflicts
narrows h cells t c k out bits bad =
    edit_ext (λ cell old. swept old) (λ cell old. cond (fails M c && not (fails M c && has cell seen)) 0 old) 0 cells_most
    (marked walked out) out (length_marked walked out) (λ j l. absurd (omega arith)) above (λ i l m. inside i (omega arith))
  where
    M : Machine
    M = specified h cells

    at : ℕ
    at = (symptoms_of M c.inputs c.outputs).first + 1

    walked : List ℕ
    walked = executed M (take at c.inputs)

    seen : List ℕ
    seen = take at (executed M c.inputs)

    same : walked ≡ seen
    same = sym (prefix_executed M c.inputs at)

    absent : (j : ℕ) → cells_most ≤ j → (b : Bool) → has j walked ≡ b → b ≡ false
    absent j l true e =
        absurd
        (omega (
          arith,
          executed_in h cells t (take at c.inputs) (inputs_in h c.inputs c.outputs k at) j e,
          cells_few h t.head,
        ))
    absent j l false e = refl

    above : (j : ℕ) → 0 + cells_most ≤ j → j < length (marked walked out) → get_or (marked walked out) j 0 ≡ get_or out j 0
    above j l m =
        marked_at walked out j (rw (length_marked walked out) at m) ∙ rw (absent j (omega arith) (has j walked) refl)

    inside : (i : ℕ) → i < cells_most
        → swept (get_or (marked walked out) (0 + i) 0) ≡ cond (fails M c && not (fails M c && has i seen)) 0 (get_or out (0 + i) 0)
    inside i l =
        rw (zero-add, bad, ← same, marked_at walked out i (omega (arith, bits.room))) (go (has i walked))
      where
        go : (b : Bool) → swept (cond b (get_or out i 0 % 2 + 2) (get_or out i 0)) ≡ cond (not b) 0 (get_or out i 0)
        go true = swept_marked (get_or out i 0) (bits.each i l)
        go false = swept_bare (get_or out i 0) (bits.each i l)

-- the same as a walk finds it: the first inputs walked, marked, then swept
pub narrows_out : (h : Head) (cells : List ℕ) → TableIn h cells → (c : Case) → CaseIn h c.inputs c.outputs → (out : List ℕ) → Bits out
    → (s : Symptoms) → s ≡ symptoms_of (specified h cells) c.inputs c.outputs → fails (specified h cells) c ≡ true
    → (n : ℕ) → n ≡ s.first + 1 → (mid last : List ℕ) → mid ≡ marked (executed (specified h cells) (take n c.inputs)) out
    → last ≡ swept_all mid → last ≡ narrowed (specified h cells) c out
narrows_out h cells t c k out bits s e bad n en mid last em el = el ∙ rw (em, en, e) (narrows h cells t c k out bits bad)

-- a passing case leaves all
pub narrows_none : (M : Machine) (c : Case) (out : List ℕ) → fails M c ≡ false → narrowed M c out ≡ out
unfolding narrowed
narrows_none M c out good = rw good (edit_kept 0 cells_most out)

-- all 256 ones are bits
pub ones_bits : (out ones : List ℕ) → cells_most ≤ length out → ones ≡ spread 1 out → Bits ones
ones_bits out ones room e =
    record {
      room = rw (e, length_edit (λ cell old. 1) 0 cells_most out) room;
      each = λ cell l. rw e (one cell l);
    }
  where
    one : (cell : ℕ) → cell < cells_most → get_or (edit (λ cell old. 1) 0 cells_most out) cell 0 ≤ 1
    one cell l =
        let at = edit_in (λ cell old. 1) 0 cells_most out cell l (omega arith) in
        omega (arith, rw zero-add at at)

-- of all 256 ones a failing case leaves its conflict set
pub conflict_of_ones : (M : Machine) (c : Case) (out ones : List ℕ) → cells_most ≤ length out → ones ≡ spread 1 out
    → fails M c ≡ true → narrowed M c ones ≡ conflict_bytes M c out
unfolding narrowed conflict_bytes
conflict_of_ones M c out ones room e bad =
    rw e
    (edit_ext (λ cell old. cond (fails M c && not (conflicts M c cell)) 0 old) (λ cell old. bit (conflicts M c cell)) 0 cells_most
    (edit (λ cell old. 1) 0 cells_most out) out (length_edit (λ cell old. 1) 0 cells_most out) (λ j l. absurd (omega arith))
    (λ j l m. edit_out_above (λ cell old. 1) 0 cells_most out j l)
    (λ i l m. rw (edit_in (λ cell old. 1) 0 cells_most out i l (omega arith), bad) (go (conflicts M c i))))
  where
    go : (b : Bool) → cond (not b) 0 1 ≡ bit b
    go true = refl
    go false = refl

-- a passing case's conflict set is empty
pub conflict_none : (M : Machine) (c : Case) (out : List ℕ) → fails M c ≡ false → spread 0 out ≡ conflict_bytes M c out
unfolding conflict_bytes conflicts
conflict_none M c out good = rw good
