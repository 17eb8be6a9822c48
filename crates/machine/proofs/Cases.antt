-- What is known of a case and of a head that were tested.
-- Assumes nothing.
use Prim.Native.Nat.{ℕ}
use mathlib.Core.Path.{◌≡◌, refl}
use mathlib.Core.List.{List}
use mathlib.Core.Bool.{Bool, true, false, cond}
use borrow.Author.Tests.{leb-true, leb-false, eqb-true, le-leb}
use lib.ListN.{length}
use native.Mathlib.Omega.{arith}
use Rattle.std.specs.Prelude.{Some, None}
use Rattle.shapes.specs.First.{first}
use Rattle.shapes.proofs.First.{first_before}
use Rattle.shapes.proofs.Tests.{and_true, or_false}
use Rattle.machine.specs.Head.{good_head, made_head, HeadIn}
use Rattle.machine.specs.Case.{bad_step, first_bad_step, good_case, CaseIn, InputsIn}
use Rattle.machine.specs.declared.head.Head.{Head}

-- a head that passes the test is a head
pub head_in_law : (h : Head) → good_head h ≡ true → HeadIn h
unfolding good_head
head_in_law h e =
    let a = and_true _ _ e in
    let b = and_true _ _ a.0 in
    let n = and_true _ _ b.0 in
    let k = and_true _ _ b.1 in
    let m = and_true _ _ a.1 in
    record {
      some_states = leb-true _ _ n.0;
      few_states = leb-true _ _ n.1;
      some_inputs = leb-true _ _ k.0;
      few_inputs = leb-true _ _ k.1;
      some_outputs = leb-true _ _ m.0;
      few_outputs = leb-true _ _ m.1;
    }

-- and a head passes it
pub head_good : (h : Head) → HeadIn h → good_head h ≡ true
unfolding good_head
head_good h k =
    rw
    (le-leb _ _ k.some_states, le-leb _ _ k.few_states, le-leb _ _ k.some_inputs, le-leb _ _ k.few_inputs, le-leb _ _ k.some_outputs, le-leb _ _ k.few_outputs)

-- a head that was made is a head, and the three numbers are its own
pub made_head_law : (n k m : ℕ) (h : Head) → made_head n k m ≡ Some h
    → (good_head (record { states = n; inputs = k; outputs = m }) ≡ true) × (h ≡ record { states = n; inputs = k; outputs = m })
unfolding made_head
made_head_law n k m h = go (good_head (record { states = n; inputs = k; outputs = m }))
  where
    it : Head
    it = record { states = n; inputs = k; outputs = m }

    go : (b : Bool) → cond b (Some it) None ≡ Some h → (b ≡ true) × (h ≡ it)
    go true e = (refl, cc)
    go false e = (cc, cc)

-- three numbers that make none are out of range
pub made_no_head : (n k m : ℕ) → made_head n k m ≡ None → good_head (record { states = n; inputs = k; outputs = m }) ≡ false
unfolding made_head
made_no_head n k m = go (good_head (record { states = n; inputs = k; outputs = m }))
  where
    it : Head
    it = record { states = n; inputs = k; outputs = m }

    go : (b : Bool) → cond b (Some it) None ≡ None → b ≡ false
    go true e = cc
    go false e = refl

-- a case that passes the test is a case
pub case_in : (h : Head) (is ys : List ℕ) → good_case h is ys ≡ true → CaseIn h is ys
unfolding good_case
case_in h is ys e =
    let a = and_true _ _ e in
    let b = and_true _ _ a.0 in
    let l = and_true _ _ b.0 in
    record {
      some_steps = leb-true _ _ l.0;
      few_steps = leb-true _ _ l.1;
      even = eqb-true _ _ b.1;
      sound = eqb-true _ _ a.1;
    }

-- at each step of a case the input is one of the head's
pub case_step : (h : Head) (is ys : List ℕ) → CaseIn h is ys → InputsIn h is
unfolding first_bad_step bad_step
case_step h is ys k t l =
    let e : first (bad_step h is ys) 0 (length is) ≡ length is = k.sound in
    leb-false _ _ (or_false _ _ (first_before (bad_step h is ys) 0 (length is) t (omega arith) (omega arith))).0
