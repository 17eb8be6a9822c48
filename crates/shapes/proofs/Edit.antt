-- What `edit` and `filled` change, what they leave, and how a loop that goes up by one makes them; and a list taken apart after three
-- entries.
-- Assumes nothing.
use Prim.Native.Nat.{ℕ, zero, suc, ◌+◌, ◌-◌, ◌≤◌, ◌<◌}
use mathlib.Core.Path.{◌≡◌, refl, sym, ◌∙◌}
use mathlib.Core.Bool.{Bool, true, false}
use mathlib.Core.Logic.{◌⊎◌, inl, inr, ◌≢◌}
use mathlib.Core.List.{List, [], ◌∷◌, ◌++◌}
use native.Mathlib.Numerals.{add-one, add-two, add-three}
use native.Mathlib.Nat.{eq-or-lt_of_le, zero-add, add-zero, add-suc, add_assoc}
use native.Mathlib.Omega.{arith}
use lib.Dec.{ltb}
use borrow.Author.Tests.{ltb-true, ltb-false}
use lib.ListN.{length, get_or, set, take, drop, length-set, length-append, get_or-append, get_or-eq_default}
use lib.Seq.{set-get_or, get_or-set_same, get_or-set_other, get_or-append-add, get_or-take, length-take-le, ext_get_or, drop-cons}
use Rattle.shapes.specs.Edit.{edit, KeptFrom, filled}

module _ (f : ℕ → ℕ → ℕ) (at : ℕ) where
  -- a loop's start: nothing is changed
  pub edit_none : (l : List ℕ) → edit f at 0 l ≡ l
  unfolding edit
  edit_none l = refl

  -- a loop's turn: one more is stored
  pub edit_more : (n : ℕ) (l : List ℕ) → edit f at (n + 1) l ≡ set (edit f at n l) (at + n) (f n (get_or l (at + n) 0))
  unfolding edit
  edit_more n l = rw add-one

  -- the length stays
  pub length_edit : (n : ℕ) (l : List ℕ) → length (edit f at n l) ≡ length l
  unfolding edit
  length_edit zero l = refl
  length_edit (suc n) l = let e = length_edit n l in rw (length-set, e)

  -- what stands before the part stays
  pub edit_out_below : (n : ℕ) (l : List ℕ) (j : ℕ) → j < at → get_or (edit f at n l) j 0 ≡ get_or l j 0
  unfolding edit
  edit_out_below zero l j h = refl
  edit_out_below (suc n) l j h =
      let o : j ≢ at + n = λ e. omega arith in
      let e = edit_out_below n l j h in rw (get_or-set_other, e)

  -- what stands after the part stays
  pub edit_out_above : (n : ℕ) (l : List ℕ) (j : ℕ) → at + n ≤ j → get_or (edit f at n l) j 0 ≡ get_or l j 0
  unfolding edit
  edit_out_above zero l j h = refl
  edit_out_above (suc n) l j h =
      let o : j ≢ at + n = λ e. omega arith in
      let e = edit_out_above n l j (omega arith) in rw (get_or-set_other, e)

  -- what a loop reads before its next store is the old number
  pub edit_next : (n : ℕ) (l : List ℕ) → get_or (edit f at n l) (at + n) 0 ≡ get_or l (at + n) 0
  edit_next n l = edit_out_above n l (at + n) (omega arith)

  -- a loop's turn: where the part's first n are changed, changing the next makes it n + 1
  pub edit_turn : (n : ℕ) (l done : List ℕ) (i v : ℕ) → done ≡ edit f at n l → i ≡ at + n → v ≡ f n (get_or done i 0) → set done i v ≡ edit f at (n + 1) l
  edit_turn n l done i v e ei ev = rw (ev, ei, e, edit_next n l, edit_more n l)

  -- what stands in the part is changed
  pub edit_in : (n : ℕ) (l : List ℕ) (i : ℕ) → i < n → at + i < length l → get_or (edit f at n l) (at + i) 0 ≡ f i (get_or l (at + i) 0)
  unfolding edit
  edit_in zero l i h s = absurd (omega arith)
  edit_in (suc n) l i h s = go (eq-or-lt_of_le (omega arith)) (edit_in n l i)
    where
      go : (i ≡ n) ⊎ (i < n) → (i < n → at + i < length l → get_or (edit f at n l) (at + i) 0 ≡ f i (get_or l (at + i) 0))
          → get_or (set (edit f at n l) (at + n) (f n (get_or l (at + n) 0))) (at + i) 0 ≡ f i (get_or l (at + i) 0)
      go (inl e) rest =
          let h : at + n < length (edit f at n l) = omega (arith, length_edit n l) in rw (e, get_or-set_same)
      go (inr p) rest =
          let o : at + i ≢ at + n = λ e. omega arith in
          let e = rest p s in rw (get_or-set_other, e)

  -- two changes that agree on the part are one
  pub edit_same : (g : ℕ → ℕ → ℕ) (n : ℕ) (l : List ℕ) → ((i x : ℕ) → i < n → f i x ≡ g i x) → edit f at n l ≡ edit g at n l
  unfolding edit
  edit_same g zero l h = refl
  edit_same g (suc n) l h =
      let e = edit_same g n l (λ i x s. h i x (omega arith)) in
      let d = h n (get_or l (at + n) 0) (omega arith) in rw (e, d)

  -- a part changed, and then the part right after it, is one part changed
  pub edit_compose : (m n : ℕ) (l : List ℕ) → edit (λ i. f (m + i)) (at + m) n (edit f at m l) ≡ edit f at (m + n) l
  unfolding edit
  edit_compose m zero l = rw add-zero
  edit_compose m (suc n) l =
      let e = edit_compose m n l in
      let d = edit_out_above m l (at + m + n) (omega arith) in rw (add-suc, e, d, add_assoc)

-- a number of a list that is changed from its start on stays, or has its change
pub edit_either : (g : ℕ → ℕ → ℕ) (n : ℕ) (l : List ℕ) (f : ℕ)
    → (get_or (edit g 0 n l) f 0 ≡ get_or l f 0) ⊎ (get_or (edit g 0 n l) f 0 ≡ g f (get_or l f 0))
edit_either g n l f = go (ltb f n) refl (ltb f (length l)) refl
  where
    go : (a : Bool) → ltb f n ≡ a → (b : Bool) → ltb f (length l) ≡ b
        → (get_or (edit g 0 n l) f 0 ≡ get_or l f 0) ⊎ (get_or (edit g 0 n l) f 0 ≡ g f (get_or l f 0))
    go true ea true eb =
        let there = ltb-true f (length l) eb in
        inr (rw zero-add at (edit_in g 0 n l f (ltb-true f n ea) (omega arith)))
    go true ea false eb =
        let past = ltb-false f (length l) eb in
        let same = length_edit g 0 n l in
        inl (get_or-eq_default (edit g 0 n l) 0 {n = f} (omega arith) ∙ sym (get_or-eq_default l 0 past))
    go false ea b eb = let past = ltb-false f n ea in inl (edit_out_above g 0 n l f (omega arith))

-- a change of nothing leaves the list
pub edit_kept : (at n : ℕ) (l : List ℕ) → edit (λ i old. old) at n l ≡ l
unfolding edit
edit_kept at zero l = refl
edit_kept at (suc n) l = let e = edit_kept at n l in rw (e, set-get_or)

-- two parts that are changed to the same, in lists that are the same elsewhere, make the same list
pub edit_ext : (f g : ℕ → ℕ → ℕ) (at n : ℕ) (l m : List ℕ) → length l ≡ length m → ((j : ℕ) → j < at → get_or l j 0 ≡ get_or m j 0)
    → ((j : ℕ) → at + n ≤ j → j < length l → get_or l j 0 ≡ get_or m j 0)
    → ((i : ℕ) → i < n → at + i < length l → f i (get_or l (at + i) 0) ≡ g i (get_or m (at + i) 0)) → edit f at n l ≡ edit g at n m
edit_ext f g at n l m long below above inside =
    ext_get_or 0 (edit f at n l) (edit g at n m) (length_edit f at n l ∙ long ∙ sym (length_edit g at n m))
    (λ j h. go j (rw (length_edit f at n l) at h) (ltb j at) refl (ltb j (at + n)) refl)
  where
    go : (j : ℕ) → j < length l → (a : Bool) → ltb j at ≡ a → (b : Bool) → ltb j (at + n) ≡ b
        → get_or (edit f at n l) j 0 ≡ get_or (edit g at n m) j 0
    go j h true ea b eb =
        let k = ltb-true j at ea in
        edit_out_below f at n l j k ∙ below j k ∙ sym (edit_out_below g at n m j k)
    go j h false ea false eb =
        let k = ltb-false j (at + n) eb in
        edit_out_above f at n l j k ∙ above j k h ∙ sym (edit_out_above g at n m j k)
    go j h false ea true eb =
        let low = ltb-false j at ea in
        let high = ltb-true j (at + n) eb in
        let e : j ≡ at + (j - at) = omega arith in
        let i : j - at < n = omega arith in
        let k : at + (j - at) < length l = omega arith in
        rw e
        (edit_in f at n l (j - at) i k ∙ inside (j - at) i k ∙ sym (edit_in g at n m (j - at) i (rw (← long) k)))

-- the length stays
pub length_filled : (l : List ℕ) (at : ℕ) (v : List ℕ) → length (filled l at v) ≡ length l
unfolding filled
length_filled l at v = length_edit (λ i old. get_or v i 0) at (length v) l

-- so a store and then a write keep it
pub length_stored : (out l : List ℕ) (at x place : ℕ) (v : List ℕ) → l ≡ filled (set out at x) place v → length l ≡ length out
length_stored out l at x place v e = rw (e, length_filled, length-set)

-- one number written is one store
pub filled_one : (l : List ℕ) (at x : ℕ) → filled l at (x ∷ []) ≡ set l at x
unfolding filled
filled_one l at x = rw add-zero

-- what stands after what was written stays
pub filled_above : (l : List ℕ) (at : ℕ) (v : List ℕ) (j : ℕ) → at + length v ≤ j → get_or (filled l at v) j 0 ≡ get_or l j 0
unfolding filled
filled_above l at v j h = edit_out_above (λ i old. get_or v i 0) at (length v) l j h

-- what was written stands there
pub filled_in : (l : List ℕ) (at : ℕ) (v : List ℕ) (i : ℕ) → i < length v → at + i < length l → get_or (filled l at v) (at + i) 0 ≡ get_or v i 0
unfolding filled
filled_in l at v i h s = edit_in (λ i old. get_or v i 0) at (length v) l i h s

-- so what was written at the start of a list is its first part
pub take_filled : (l v : List ℕ) → length v ≤ length l → take (length v) (filled l 0 v) ≡ v
take_filled l v room = ext_get_or 0 (take (length v) (filled l 0 v)) v long (λ i h. each i (rw long at h))
  where
    long : length (take (length v) (filled l 0 v)) ≡ length v
    long = length-take-le (length v) (filled l 0 v) (rw length_filled room)

    each : (i : ℕ) → i < length v → get_or (take (length v) (filled l 0 v)) i 0 ≡ get_or v i 0
    each i h = get_or-take (length v) (filled l 0 v) i 0 h ∙ (rw zero-add at (filled_in l 0 v i h (omega arith)))

-- a list written, and then another right after it, is both written as one
pub filled_append : (l : List ℕ) (at : ℕ) (v w : List ℕ) → filled (filled l at v) (at + length v) w ≡ filled l at (v ++ w)
unfolding filled
filled_append l at v w = rw (length-append, ← edit_compose both at (length v) (length w) l, first, then)
  where
    both : ℕ → ℕ → ℕ
    both i old = get_or (v ++ w) i 0

    first : edit (λ i old. get_or v i 0) at (length v) l ≡ edit both at (length v) l
    first = edit_same (λ i old. get_or v i 0) at both (length v) l λ i x h. rw get_or-append

    then : edit (λ i old. get_or w i 0) (at + length v) (length w) (edit both at (length v) l)
        ≡ edit (λ i. both (length v + i)) (at + length v) (length w) (edit both at (length v) l)
    then = edit_same (λ i old. get_or w i 0) (at + length v) (λ i. both (length v + i)) (length w) _ λ i x h. rw get_or-append-add

-- a list from a place on, with its first three entries named
pub drop_three : (l : List ℕ) (at : ℕ) → at + 3 ≤ length l → drop at l ≡ get_or l at 0 ∷ get_or l (at + 1) 0 ∷ get_or l (at + 2) 0 ∷ drop (at + 3) l
drop_three l at h =
    rw (add-one, add-two, add-three, drop-cons l at 0 (omega arith), drop-cons l (suc at) 0 (omega arith), drop-cons l (suc (suc at)) 0 (omega arith))

-- nothing done leaves every tail,
pub kept_all : (n : ℕ) (l : List ℕ) → KeptFrom n l l
kept_all n l = record { same_length = refl; same_tail = λ i h. refl }

-- and what leaves it and then leaves it again leaves it
pub kept_then : {n : ℕ} {a b c : List ℕ} → KeptFrom n a b → KeptFrom n b c → KeptFrom n a c
kept_then j k =
    record { same_length = k.same_length ∙ j.same_length; same_tail = λ i h. k.same_tail i h ∙ j.same_tail i h }

-- an edit leaves what stands after its part,
pub edit_keeps : (f : ℕ → ℕ → ℕ) (at m n : ℕ) (l : List ℕ) → at + m ≤ n → KeptFrom n l (edit f at m l)
edit_keeps f at m n l e = record { same_length = length_edit f at m l; same_tail = λ i h. edit_out_above f at m l i (omega arith) }

-- and a list filled from its start has its tail from after what was written on
pub filled_keeps : (l v : List ℕ) → KeptFrom (length v) l (filled l 0 v)
filled_keeps l v =
    record { same_length = length_filled l 0 v; same_tail = λ i h. filled_above l 0 v i (omega arith) }
