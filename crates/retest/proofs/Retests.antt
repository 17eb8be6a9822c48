-- What a retest answers, from what its rules say: empty exactly on refusal, else the first retest case with the same inputs or the first
-- record's own, and the number of the first refusal. Before that, what the code's search among the parts of a record finds.
-- Assumes nothing.
use Prim.Native.Nat.{ℕ, zero, suc, ◌+◌, ◌≤◌, ◌<◌}
use mathlib.Core.Path.{◌≡◌, refl, sym, ap, ◌∙◌}
use mathlib.Core.Bool.{Bool, true, false, cond, ◌&&◌, ◌||◌}
use mathlib.Core.Logic.{◌↔◌, ◌⊎◌, inl, inr}
use mathlib.Core.List.{List, [], ◌∷◌, ◌++◌}
use borrow.Author.Tests.{eq-eqb, eqb-true, le-leb, lt-leb, leb-false}
use native.Mathlib.Nat.{zero-add, add-zero}
use native.Mathlib.Omega.{arith}
use lib.Dec.{eqb, leb}
use lib.ListN.{length, get_or}
use Rattle.std.specs.Prelude.{Option, Some, None, Result, Ok, Err}
use Rattle.std.specs.Option.{is_some, option_map, unwrap_or, ok_or}
use Rattle.std.specs.List.{find, slice_get}
use Rattle.std.specs.Cmp.Lexicographic.{pointwise}
use Rattle.std.proofs.lemmas.Bool.{cases_lt}
use Rattle.shapes.specs.Keep.{some}
use Rattle.shapes.specs.Refusals.{when, Ruling, ruling, fine, refused}
use Rattle.shapes.proofs.Tests.{and_true, or_false}
use Rattle.shapes.proofs.Refusals.{fine_when, ruling_here, ruling_past, ruling_end, ruling_join_refused, ruling_join_fine, ruling_joined}
use Rattle.machine.specs.Case.{Case, no_case}
use Rattle.house.specs.Refusal.{number_of, ruled}
use Rattle.house.specs.Cases.{case_bytes, case_end, case_at, cases_from, cases_in, count_in, count_of, record_rules, record_read}
use Rattle.house.specs.Walk.{place_of}
use Rattle.house.specs.Left.{Part, lent_part, part_at, parts_from, parts_in}
use Rattle.house.specs.declared.record.Case as Case_lent
use Rattle.house.specs.declared.refusal.Refusal.{Refusal}
use Rattle.house.specs.declared.refusal.Refusal.TheVariants.{Slot}
use Rattle.house.proofs.Forms.{ruled_refused, ruled_passed}
use Rattle.house.proofs.Records.{cases_counted}
use Rattle.retest.specs.Retest.{same, same_inputs, retest_of, match_of, at_position, place_in, further, picked_at, retest_rules, retested, retested_at, retest_number}
use Rattle.retest.specs.Picked.{as_part, is_again, picked_part}
use Rattle.retest.proofs.Positions.{case_positioned, place_in_law}

-- a list is the same as itself
same_self : (xs : List ℕ) → same xs xs ≡ true
unfolding same
same_self [] = refl
same_self (x ∷ xs) = rw (eq-eqb x x refl) (same_self xs)

-- and as no other
same_equal : (xs ys : List ℕ) → same xs ys ≡ true → xs ≡ ys
unfolding same
same_equal [] [] e = refl
same_equal [] (y ∷ ys) e = cc
same_equal (x ∷ xs) [] e = cc
same_equal (x ∷ xs) (y ∷ ys) e = let a = and_true _ _ e in rw (eqb-true x y a.0, same_equal xs ys a.1)

-- two cases have the same inputs exactly if their inputs are equal
pub same_inputs_law : (c d : Case) → (same_inputs c d ≡ true) ↔ (c.inputs ≡ d.inputs)
unfolding same_inputs
same_inputs_law c d = (λ e. same_equal _ _ e, λ e. rw e (same_self d.inputs))

-- and `==` of two slices tells whether they are
pub same_slices : (xs ys : List ℕ) → pointwise eqb xs ys ≡ same xs ys
unfolding same
same_slices [] [] = refl
same_slices [] (y ∷ ys) = refl
same_slices (x ∷ xs) [] = refl
same_slices (x ∷ xs) (y ∷ ys) = ap (λ t. eqb x y && t) (same_slices xs ys)

module _ (c : Case) where
  -- where some case has the inputs of a case, the first of them is one of the cases, and the one picked
  match_some : (ds : List Case) → some (same_inputs c) ds ≡ true → (match_of c ds < length ds) × (retest_of c ds ≡ at_position ds (match_of c ds))
  unfolding match_of retest_of some at_position
  match_some [] e = cc
  match_some (d ∷ ds) e = go (same_inputs c d) (match_some ds) e
    where
      go : (t : Bool) → (some (same_inputs c) ds ≡ true → (match_of c ds < length ds) × (retest_of c ds ≡ get_or ds (match_of c ds) no_case))
          → (t || some (same_inputs c) ds) ≡ true
          → (cond t 0 (suc (match_of c ds)) < suc (length ds)) × (cond t d (retest_of c ds) ≡ get_or (d ∷ ds) (cond t 0 (suc (match_of c ds))) no_case)
      go true rest e = (omega arith, refl)
      go false rest e = let r = rest e in (omega arith, r.1)

  -- the case picked is the first of the retest's with the same inputs
  pub retest_first : (before : List Case) (d : Case) (after : List Case) → some (same_inputs c) before ≡ false → c.inputs ≡ d.inputs
      → retest_of c (before ++ (d ∷ after)) ≡ d
  unfolding retest_of some
  retest_first [] d after n e = rw ((same_inputs_law c d).1 e)
  retest_first (b ∷ before) d after n e = let f = or_false (same_inputs c b) (some (same_inputs c) before) n in rw f.0 (retest_first before d after f.1 e)

  -- where none has them it is the first record's own
  pub retest_own : (ds : List Case) → some (same_inputs c) ds ≡ false → retest_of c ds ≡ c
  unfolding retest_of some
  retest_own [] n = refl
  retest_own (d ∷ ds) n = let f = or_false (same_inputs c d) (some (same_inputs c) ds) n in rw f.0 (retest_own ds f.1)

module _ (p : ℕ × ℕ) (file : List ℕ) where
  -- the part at an index, of those from the place of a position on, where there are so many
  part_got : (n i k : ℕ) → k < n → slice_get (parts_from p file n (place_of file i)) k ≡ Some (part_at p file (place_of file (i + k)))
  unfolding parts_from place_of
  part_got zero i k h = absurd (omega arith)
  part_got (suc n) i zero h = rw add-zero
  part_got (suc n) i (suc k) h = let e : i + suc k ≡ suc i + k = omega arith in part_got n (suc i) k (omega arith) ∙ rw e

  -- and where there are not
  part_lacks : (n at k : ℕ) → n ≤ k → slice_get (parts_from p file n at) k ≡ None
  unfolding parts_from
  part_lacks zero at k h = refl
  part_lacks (suc n) at zero h = absurd (omega arith)
  part_lacks (suc n) at (suc k) h = part_lacks n (case_end file at) k (omega arith)

  -- the first part with the inputs of a case, where there is one
  part_found : (c : Case) (t : Part) (n i : ℕ)
      → unwrap_or (find (is_again c) (parts_from p file n (place_of file i))) t
      ≡ cond (some (same_inputs c) (cases_from file n (place_of file i))) (part_at p file (place_of file (i + match_of c (cases_from file n (place_of file i))))) t
  unfolding parts_from cases_from place_of some match_of
  part_found c t zero i = refl
  part_found c t (suc n) i = go (same_inputs c (case_at file (place_of file i))) (part_found c t n (suc i))
    where
      cs : List Case
      cs = cases_from file n (case_end file (place_of file i))

      go : (b : Bool)
          → unwrap_or (find (is_again c) (parts_from p file n (case_end file (place_of file i)))) t
          ≡ cond (some (same_inputs c) cs) (part_at p file (place_of file (suc i + match_of c cs))) t
          → unwrap_or (cond b (Some (part_at p file (place_of file i))) (find (is_again c) (parts_from p file n (case_end file (place_of file i))))) t
          ≡ cond (b || some (same_inputs c) cs) (part_at p file (place_of file (i + cond b 0 (suc (match_of c cs))))) t
      go true rest = rw add-zero
      go false rest = let e : i + suc (match_of c cs) ≡ suc i + match_of c cs = omega arith in rest ∙ rw e

-- what the code's search gives, else the first record's own, seen as parts
pub picked_told : (s t : ℕ × ℕ) (a b : List ℕ) (position : ℕ) (o : Option Case_lent.Case) (k z : Case_lent.Case)
    → option_map lent_part o ≡ find (is_again (lent_part k).case) (parts_in t b) → lent_part k ≡ part_at s a (place_of a position) → z ≡ unwrap_or o k
    → lent_part z ≡ picked_part s t a b position
picked_told s t a b position o k z eo ek ez =
    ap lent_part ez ∙ lent o ∙ ap (λ r. unwrap_or r (lent_part k)) eo ∙ ap (λ (u : Part). unwrap_or (find (is_again u.case) (parts_in t b)) u) ek
  where
    lent : (o : Option Case_lent.Case) → lent_part (unwrap_or o k) ≡ unwrap_or (option_map lent_part o) (lent_part k)
    lent (Some x) = refl
    lent None = refl

-- the case at a position of a record, as the code takes it
module _ (p : ℕ × ℕ) (file : List ℕ) (position : ℕ) (o : Option Case_lent.Case) (eo : option_map lent_part o ≡ slice_get (parts_in p file) position)
    (x : Result Case_lent.Case Refusal) (ex : x ≡ ok_or o Slot) where
  -- SLOT where there is none
  pub own_missing : (r : Refusal) → x ≡ Err r → (r ≡ Slot) × (count_of (count_in file) ≤ position)
  unfolding parts_in place_of
  own_missing r e = go o (cases_lt position (count_of (count_in file))) (sym ex ∙ e) eo
    where
      go : (o : Option Case_lent.Case) → (position < count_of (count_in file)) ⊎ (count_of (count_in file) ≤ position) → ok_or o Slot ≡ Err r
          → option_map lent_part o ≡ slice_get (parts_from p file (count_of (count_in file)) (place_of file 0)) position
          → (r ≡ Slot) × (count_of (count_in file) ≤ position)
      go (Some k) h er eg = cc
      go None (inl h) er eg = let n = eg ∙ part_got p file _ 0 position h in cc
      go None (inr h) er eg = (cc, h)

  -- else the part at its place
  pub own_there : (k : Case_lent.Case) → x ≡ Ok k → (position < count_of (count_in file)) × (lent_part k ≡ part_at p file (place_of file position))
  unfolding parts_in place_of
  own_there k e = go o (cases_lt position (count_of (count_in file))) (sym ex ∙ e) eo
    where
      go : (o : Option Case_lent.Case) → (position < count_of (count_in file)) ⊎ (count_of (count_in file) ≤ position) → ok_or o Slot ≡ Ok k
          → option_map lent_part o ≡ slice_get (parts_from p file (count_of (count_in file)) (place_of file 0)) position
          → (position < count_of (count_in file)) × (lent_part k ≡ part_at p file (place_of file position))
      go None h er eg = cc
      go (Some w) (inl h) er eg =
          let same : w ≡ k = cc in
          let n : Some (lent_part w) ≡ Some (part_at p file (place_of file position)) = eg ∙ part_got p file _ 0 position h ∙ rw zero-add in
          let at : lent_part w ≡ part_at p file (place_of file position) = cc in
          (h, ap lent_part (sym same) ∙ at)
      go (Some w) (inr h) er eg = let n = eg ∙ part_lacks p file _ _ position h in cc

-- so there is one at each position that has a case
pub own_some : (p : ℕ × ℕ) (file : List ℕ) (position : ℕ) (o : Option Case_lent.Case) → option_map lent_part o ≡ slice_get (parts_in p file) position
    → position < count_of (count_in file) → is_some o ≡ true
own_some p file position (Some k) eo h = refl
own_some p file position None eo h = let m = own_missing p file position None eo (Err Slot) refl Slot refl in absurd (omega (arith, m.1, h))

-- a record that its rules do not refuse is taken, with the count of its cases
pub record_taken : (file : List ℕ) {n : ℕ} → ruling (record_rules file) ≡ fine → n ≡ count_of (count_in file) → record_read file ≡ Ok n
unfolding record_read
record_taken file e c = rw (e, c)

module _ (a b : List ℕ) (position : ℕ) where
  -- the first record's refusal comes first
  pub rules_first : {r : Refusal} → ruling (record_rules a) ≡ refused r → ruling (retest_rules a b position) ≡ refused r
  unfolding retest_rules
  rules_first e = ruling_join_refused _ _ _ (ruling_join_refused _ _ _ e)

  -- then the retest's
  pub rules_second : {r : Refusal} → ruling (record_rules a) ≡ fine → ruling (record_rules b) ≡ refused r
      → ruling (retest_rules a b position) ≡ refused r
  unfolding retest_rules
  rules_second e f = ruling_join_refused _ _ _ (ruling_join_fine (record_rules a) _ e ∙ f)

  module _ (e : ruling (record_rules a) ≡ fine) (f : ruling (record_rules b) ≡ fine) where
    -- then the last rule decides
    rules_last : ruling (retest_rules a b position) ≡ ruling (when (leb (count_of (count_in a)) position) Slot ∷ [])
    unfolding retest_rules
    rules_last = ruling_join_fine (record_rules a ++ record_rules b) _ (ruling_join_fine (record_rules a) _ e ∙ f)

    -- on a position with no case
    pub rules_position : {n : ℕ} → n ≡ count_of (count_in a) → n ≤ position → ruling (retest_rules a b position) ≡ refused Slot
    rules_position c h = rules_last ∙ ruling_here Slot [] (le-leb (count_of (count_in a)) position (rw (← c) h))

    -- or on one with a case
    pub rules_fine : {n : ℕ} → n ≡ count_of (count_in a) → position < n → ruling (retest_rules a b position) ≡ fine
    rules_fine c h = rules_last ∙ ruling_past Slot [] (lt-leb (count_of (count_in a)) position (rw (← c) h)) ∙ ruling_end

  -- so where they say nothing both records are whole and the position has a case
  pub rules_known : ruling (retest_rules a b position) ≡ fine
      → (ruling (record_rules a) ≡ fine) × (ruling (record_rules b) ≡ fine) × (position < count_of (count_in a))
  unfolding retest_rules
  rules_known e =
      let l = ruling_joined (record_rules a ++ record_rules b) _ e in
      let r = ruling_joined (record_rules a) _ l.0 in
      (r.0, r.1, leb-false _ _ ((fine_when _).0 l.1).0)

  -- on refusal the part handed back is empty, and begins where the first record does
  pub picks_none : (s t : ℕ × ℕ) {r : Refusal} → ruling (retest_rules a b position) ≡ refused r
      → ([] ≡ retested a b position) × (s ≡ retested_at s t a b position)
  unfolding retested retested_at
  picks_none s t e = rw e (refl, refl)

  -- the case at the position
  abbrev own : Case
  own = at_position (cases_in a) position

  module _ (ok : ruling (retest_rules a b position) ≡ fine) where
    -- it is the one that stands at its place
    own_case : case_at a (place_of a position) ≡ own
    own_case = case_positioned a position (rules_known ok).2

    -- the first part of the retest with its inputs, where there is one, is that of the case picked, and begins where that one does
    module _ (s t : ℕ × ℕ) where
      picked_law : picked_part s t a b position
          ≡ cond (some (same_inputs own) (cases_in b)) (part_at t b (place_of b (match_of own (cases_in b)))) (part_at s a (place_of a position))
      unfolding parts_in cases_in place_of
      picked_law = part_found t b (case_at a (place_of a position)) (part_at s a (place_of a position)) _ 0 ∙ rw (own_case, zero-add)

      picks : ((picked_part s t a b position).case ≡ retest_of own (cases_in b)) × ((picked_part s t a b position).begins ≡ picked_at s t (cases_in a) (cases_in b) position)
      unfolding picked_at
      picks = rw picked_law (go (some (same_inputs own) (cases_in b)) refl)
        where
          go : (h : Bool) → some (same_inputs own) (cases_in b) ≡ h
              → ((cond h (part_at t b (place_of b (match_of own (cases_in b)))) (part_at s a (place_of a position))).case ≡ retest_of own (cases_in b))
              × ((cond h (part_at t b (place_of b (match_of own (cases_in b)))) (part_at s a (place_of a position))).begins
              ≡ cond h (further (place_in (cases_in b) (match_of own (cases_in b))) t) (further (place_in (cases_in a) position) s))
          go true e =
              let m = match_some own (cases_in b) e in
              let l : match_of own (cases_in b) < count_of (count_in b) = rw (cases_counted b) at m.0 in
              (case_positioned b _ l ∙ sym m.1, ap (λ n. further n t) (place_in_law b (rules_known ok).1 _ (omega arith)))
          go false e =
              let k = rules_known ok in
              (own_case ∙ sym (retest_own own (cases_in b) e), ap (λ n. further n s) (place_in_law a k.0 position (omega (arith, k.2))))

    -- the part handed back is the first retest case with the inputs of the case at the position, where there is one,
    pub retest_picks : (before : List Case) (d : Case) (after : List Case) → cases_in b ≡ before ++ (d ∷ after) → some (same_inputs own) before ≡ false
        → own.inputs ≡ d.inputs → retested a b position ≡ case_bytes d
    unfolding retested
    retest_picks before d after e n s = rw (ok, e, retest_first own before d after n s)

    -- and that case where there is none
    pub retest_keeps : some (same_inputs own) (cases_in b) ≡ false → retested a b position ≡ case_bytes own
    unfolding retested
    retest_keeps n = rw (ok, retest_own own (cases_in b) n)

    -- no case has no bytes
    pub retest_whole : 1 ≤ length (retested a b position)
    unfolding retested case_bytes
    retest_whole = rw ok (omega arith)

  -- the bytes of the case that the code picks are the part handed back,
  pub picks_case : (s t : ℕ × ℕ) (x : Result Case_lent.Case Refusal) (k : Case_lent.Case)
      → as_part x ≡ ruled (ruling (retest_rules a b position)) (picked_part s t a b position) → x ≡ Ok k
      → (k.bytes.now ≡ retested a b position) × (k.bytes.ref_ptr ≡ retested_at s t a b position)
  unfolding retested retested_at
  picks_case s t x k e ek =
      let h = ruled_passed _ _ (sym e ∙ ap as_part ek) in
      let w = picks h.0 s t in
      (k.whole ∙ rw h.0 (ap case_bytes (ap (λ (u : Part). u.case) h.1 ∙ w.0)), rw h.0 (ap (λ (u : Part). u.begins) h.1 ∙ w.1))

  -- and its refusal is the rules'
  pub picks_refused : (s t : ℕ × ℕ) (x : Result Case_lent.Case Refusal) (r : Refusal)
      → as_part x ≡ ruled (ruling (retest_rules a b position)) (picked_part s t a b position) → x ≡ Err r → ruling (retest_rules a b position) ≡ refused r
  picks_refused s t x r e er = ruled_refused _ _ (sym e ∙ ap as_part er)

  -- where it picks one they say nothing
  pub picks_fine : (s t : ℕ × ℕ) (x : Result Case_lent.Case Refusal) (k : Case_lent.Case)
      → as_part x ≡ ruled (ruling (retest_rules a b position)) (picked_part s t a b position) → x ≡ Ok k → ruling (retest_rules a b position) ≡ fine
  picks_fine s t x k e ek = (ruled_passed _ _ (sym e ∙ ap as_part ek)).0

  -- the part handed back is empty exactly on refusal
  pub retest_refused : (retested a b position ≡ []) ↔ ((r : Refusal) × (ruling (retest_rules a b position) ≡ refused r))
  retest_refused = (go (ruling (retest_rules a b position)) refl, λ h. sym (picks_none (0, 0) (0, 0) h.1).0)
    where
      go : (v : Ruling Refusal) → ruling (retest_rules a b position) ≡ v → retested a b position ≡ []
          → (r : Refusal) × (ruling (retest_rules a b position) ≡ refused r)
      go fine e h = let l = rw h at (retest_whole e) in absurd (omega arith)
      go (refused r) e h = (r, e)

  -- what the second call answers where the rules refuse
  pub number_refused : {r : Refusal} → ruling (retest_rules a b position) ≡ refused r → retest_number a b position ≡ number_of r
  unfolding retest_number
  number_refused e = rw e

  -- and where they do not
  pub number_fine : ruling (retest_rules a b position) ≡ fine → retest_number a b position ≡ 0
  unfolding retest_number
  number_fine e = rw e
