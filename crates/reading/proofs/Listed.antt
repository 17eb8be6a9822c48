-- What the calls that read a session say of their definitions: the listed numbers one by one, the held cases place by place, and each
-- call's answer from its checks. Assumes nothing.
use Prim.Native.Nat.{ℕ, zero, suc, ◌+◌, ◌≤◌, ◌<◌}
use mathlib.Core.Path.{◌≡◌, refl, sym, ap, ◌∙◌}
use mathlib.Core.List.{List, [], ◌∷◌, ◌++◌, append-nil}
use mathlib.Core.Bool.{Bool, true, false, cond, not, ◌&&◌, ◌||◌}
use mathlib.Core.Logic.{◌⊎◌, inl, inr}
use borrow.Author.Tests.{lt-ltb, le-ltb, eq-eqb, ne_eqb}
use native.Mathlib.Nat.{zero-add, add-zero, eq-or-lt_of_le}
use native.Mathlib.Numerals.{add-one}
use native.Mathlib.Omega.{arith}
use lib.Dec.{eqb, ltb}
use lib.ListN.{length, get_or, set, length-append}
use mir.Val.{bool_byte}
use Rattle.std.specs.Bool.{MatchBool}
use Rattle.std.specs.Prelude.{Option, None, Some, Result, Ok, Err}
use Rattle.std.specs.Option.{MatchOption, option_map}
use Rattle.std.specs.List.{range_with_len, AllWithin, HoldsAt}
use Rattle.std.proofs.lemmas.List.FromFn.{length-range_with_len, get_or-range_with_len}
use Rattle.shapes.specs.First.{found}
use Rattle.shapes.proofs.Found.{found_first}
use Rattle.shapes.specs.Edit.{filled}
use Rattle.shapes.specs.Keep.{keep_if, keep_to, count, some}
use Rattle.shapes.specs.Refusals.{ruling}
use Rattle.shapes.proofs.Edit.{length_filled, filled_one, filled_append}
use Rattle.shapes.proofs.Keep.{keep_more, bit_told}
use Rattle.shapes.proofs.Refusals.{ruling_join_refused, ruling_join_fine}
use Rattle.machine.specs.Head.{numbers}
use Rattle.machine.specs.Machine.{specified}
use Rattle.machine.specs.Case.{Case}
use Rattle.machine.specs.Runs.{Bench, bench_of, run_machine, run_case}
use Rattle.machine.specs.declared.replay.Run.{Run}
use Rattle.memory.specs.Held.{bench_at}
use Rattle.memory.proofs.Runs.{run_held, run_free}
use Rattle.machine.specs.declared.head.Head.{Head}
use Rattle.house.specs.Refusal.{checked}
use Rattle.house.specs.declared.refusal.Refusal.{Refusal}
use Rattle.house.specs.declared.refusal.Refusal.TheVariants.{Short}
use Rattle.house.proofs.Forms.{checked_fine, checked_refused}
use Rattle.diagnosis.specs.Diagnosis.{fails, misses, tally, list, some_fails, verdict_of}
use Rattle.diagnosis.specs.declared.Verdict.{Verdict}
use Rattle.diagnosis.proofs.Lists.{list_by_tallies}
use Rattle.memory.specs.Layout.{head_of, cells_of, is_held, case_of, case_if, cases_at, held_to, cases}
use Rattle.memory.specs.Form.{form_rules}
use Rattle.tallies.specs.Tallies.{TrueTallies}
use Rattle.reading.specs.Reads.{list_of, verdict_in, faults, list_rules, listed, list_call, false_tally, audit_if, audit_call, is_listed_by}
use Rattle.reading.specs.Loops.{verdict_by, fails_at}

-- a number more that is kept counts as one, else as none
pub keep_counted : (p : ℕ → Bool) (n m : ℕ) {r : Bool} → r ≡ p n → m ≡ length (keep_to p n) → m + bool_byte r ≡ length (keep_to p (n + 1))
keep_counted p n m {r} e d = rw (keep_more p n, length-append, ← e, d) (go r)
  where
    go : (b : Bool) → length (keep_to p n) + bool_byte b ≡ length (keep_to p n) + length (keep_if b n)
    go true = refl
    go false = refl

-- a number that is kept comes last
keep_here : (p : ℕ → Bool) (n : ℕ) {r : Bool} → r ≡ p n → r ≡ true → keep_to p (n + 1) ≡ keep_to p n ++ (n ∷ [])
keep_here p n e f = let k : p n ≡ true = sym e ∙ f in rw (keep_more p n, k)

-- one that is not changes nothing
keep_past : (p : ℕ → Bool) (n : ℕ) {r : Bool} → r ≡ p n → r ≡ false → keep_to p (n + 1) ≡ keep_to p n
keep_past p n e f = let k : p n ≡ false = sym e ∙ f in rw (keep_more p n, k, append-nil)

-- below a number at most as many are kept
pub keep_few : (p : ℕ → Bool) (n : ℕ) → length (keep_to p n) ≤ n
unfolding keep_to
keep_few p zero = omega arith
keep_few p (suc n) = rw length-append (go (p n) (keep_few p n))
  where
    go : (b : Bool) → length (keep_to p n) ≤ n → length (keep_to p n) + length (keep_if b n) ≤ suc n
    go true h = omega arith
    go false h = omega arith

-- what is kept below a number that is kept itself is less than all that is kept
pub keep_grows : (p : ℕ → Bool) (n m : ℕ) → n < m → p n ≡ true → length (keep_to p n) < length (keep_to p m)
unfolding keep_to
keep_grows p n zero l e = absurd (omega arith)
keep_grows p n (suc m) l e = rw length-append (go (λ h. keep_grows p n m h e) (eq-or-lt_of_le (low l)))
  where
    low : n < suc m → n ≤ m
    low h = omega arith

    go : (n < m → length (keep_to p n) < length (keep_to p m)) → (n ≡ m) ⊎ (n < m) → length (keep_to p n) < length (keep_to p m) + length (keep_if (p m) m)
    go rest (inl h) = let k : p m ≡ true = rw h at e in rw (h, k) (omega arith)
    go rest (inr h) = omega (arith, rest h)

-- what is kept below n is written, and the place after it is known
pub record WrittenTo (p : ℕ → Bool) (old : List ℕ) (n : ℕ) (out : List ℕ) (at : ℕ) : Type 0 where
  pub stored : out ≡ filled old 0 (keep_to p n)
  pub counted : at ≡ length (keep_to p n)

module _ (p : ℕ → Bool) (old : List ℕ) where
  -- it begins so
  pub written_none : WrittenTo p old 0 old 0
  unfolding keep_to filled
  written_none = record { stored = refl; counted = refl }

  module _ {n at : ℕ} {out : List ℕ} (k : WrittenTo p old n out at) where
    -- there is room for a number that is kept where there is for all,
    pub written_room : {r : Bool} (m : ℕ) → r ≡ p n → r ≡ true → n < m → length (keep_to p m) ≤ length old → at < length out
    written_room m e f l room =
        rw (k.stored, k.counted, length_filled) (omega (arith, keep_grows p n m l (sym e ∙ f)))

    -- a store of it goes on so,
    pub written_more : {r : Bool} {at' : ℕ} {out' : List ℕ} → r ≡ p n → r ≡ true → out' ≡ set out at n → at' ≡ at + 1 → WrittenTo p old (n + 1) out' at'
    written_more e f s a =
        record {
          stored = rw (s, keep_here p n e f, ← filled_append old 0 (keep_to p n) (n ∷ []), filled_one, zero-add, k.stored, k.counted);
          counted = rw (a, keep_here p n e f, length-append, k.counted);
        }

    -- and so does a number that is not kept
    pub written_past : {r : Bool} {at' : ℕ} {out' : List ℕ} → r ≡ p n → r ≡ false → out' ≡ out → at' ≡ at → WrittenTo p old (n + 1) out' at'
    written_past e f s a = record { stored = rw (s, keep_past p n e f) k.stored; counted = rw (a, keep_past p n e f) k.counted }

-- whether a number is listed in a session
abbrev pub listed_at : List ℕ → List ℕ → ℕ → Bool
listed_at s t f = is_listed_by (head_of s) (cells_of s) f (get_or t f 0)

-- the table read serves for the one named,
pub listed_told : (s t : List ℕ) (f : ℕ) {h : Head} {cells : List ℕ} {r : Bool} → h ≡ head_of s → cells ≡ cells_of s → r ≡ is_listed_by h cells f (get_or t f 0)
    → r ≡ listed_at s t f
listed_told s t f e g d = rw (e, g) at d

-- and so do the numbers that it gives
pub list_told : (s t : List ℕ) {h : Head} {n m : ℕ} → h ≡ head_of s → n ≡ numbers h → m ≡ n → keep_to (listed_at s t) m ≡ list_of s t
unfolding list_of
list_told s t e d i = rw (i, d, e)

-- where the tallies are true the list by them is the list by replay,
pub list_by_replay : (s t : List ℕ) → TrueTallies s t → list_of s t ≡ list (head_of s) (cells_of s) (cases s)
unfolding list_of
list_by_replay s t k = list_by_tallies (head_of s) (cells_of s) (cases s) (λ f. get_or t f 0) k

-- a test holds for some of two lists exactly if it does for some of either
some_append : {A : Type 0} (p : A → Bool) (l r : List A) → some p (l ++ r) ≡ (some p l || some p r)
unfolding some
some_append p [] r = refl
some_append p (x ∷ l) r = rw (some_append p l r) (go (p x))
  where
    go : (b : Bool) → (b || (some p l || some p r)) ≡ ((b || some p l) || some p r)
    go true = refl
    go false = refl

-- two lists together count as much as each
count_append : {A : Type 0} (p : A → Bool) (l r : List A) → count p (l ++ r) ≡ count p l + count p r
unfolding count
count_append p [] r = rw zero-add
count_append p (x ∷ l) r = let e = count_append p l r in omega arith

module _ (s : List ℕ) where
  -- a place whose case is none of these adds none to those below it,
  pub some_past : (q : Case → Bool) (p : ℕ) {r : Bool} → r ≡ (is_held s p && q (case_of s p)) → r ≡ false → some q (held_to s p) ≡ false
      → some q (held_to s (p + 1)) ≡ false
  unfolding held_to some
  some_past q p e f none = rw (add-one, some_append, none) (go (is_held s p) (sym e ∙ f))
    where
      go : (b : Bool) → (b && q (case_of s p)) ≡ false → some q (case_if b (case_of s p)) ≡ false
      go true h = rw h
      go false h = refl

  -- and a place whose case is one makes it one of all
  pub some_here : (q : Case → Bool) (n p : ℕ) → p < n → (is_held s p && q (case_of s p)) ≡ true → some q (held_to s n) ≡ true
  unfolding held_to some
  some_here q zero p l e = absurd (omega arith)
  some_here q (suc n) p l e = rw some_append (go (λ h. some_here q n p h e) (eq-or-lt_of_le (low l)))
    where
      low : p < suc n → p ≤ n
      low h = omega arith

      one : (b : Bool) → (b && q (case_of s p)) ≡ true → some q (case_if b (case_of s p)) ≡ true
      one true h = rw h
      one false h = h

      last : (a b : Bool) → b ≡ true → (a || b) ≡ true
      last true b h = refl
      last false b h = h

      go : (p < n → some q (held_to s n) ≡ true) → (p ≡ n) ⊎ (p < n) → (some q (held_to s n) || some q (cases_at s n)) ≡ true
      go rest (inl h) = last (some q (held_to s n)) (some q (cases_at s n)) (rw h at (one (is_held s p) e))
      go rest (inr h) = rw (rest h)

  -- so where none of the places below n has one of these, none of all is one,
  some_none : (q : Case → Bool) (n : ℕ) → ((p : ℕ) → p < n → (is_held s p && q (case_of s p)) ≡ false) → some q (held_to s n) ≡ false
  unfolding held_to some
  some_none q zero none = refl
  some_none q (suc n) none =
      rw add-one at (some_past q n refl (none n (omega arith)) (some_none q n (λ p l. none p (omega arith))))

  -- and a search of these places finds whether one of all is
  pub some_told : (q : Case → Bool) (n : ℕ) (r : Bool)
      → MatchBool r ((k : ℕ) × (k < length (range_with_len 0 n)) × HoldsAt (λ p. (is_held s p && q (case_of s p)) ≡ true) (range_with_len 0 n) k)
      (AllWithin (λ p. (is_held s p && q (case_of s p)) ≡ false) (range_with_len 0 n) 0 (length (range_with_len 0 n)))
      → r ≡ some q (held_to s n)
  some_told q n true h =
      let below : h.0 < n = rw length-range_with_len at h.1 in
      sym (some_here q n h.0 below (rw (get_or-range_with_len 0 n h.0 0 below, zero-add) at (h.2 0)))
  some_told q n false h =
      sym (some_none q n (λ p l. rw (get_or-range_with_len 0 n p 0 l, zero-add) at (h p 0 (omega arith) (rw length-range_with_len l))))

  -- a place's case counts with those below it
  pub tally_turn : (f p n x : ℕ) → n ≡ tally (head_of s) (cells_of s) (held_to s p) f → x ≡ tally (head_of s) (cells_of s) (cases_at s p) f
      → n + x ≡ tally (head_of s) (cells_of s) (held_to s (p + 1)) f
  unfolding held_to tally
  tally_turn f p n x e d = rw (add-one, count_append, e, d)

-- whether a tally is false
abbrev pub false_at : List ℕ → List ℕ → ℕ → Bool
false_at s t f = not (eqb (get_or t f 0) (tally (head_of s) (cells_of s) (cases s) f))

-- that it is what is counted afresh
abbrev pub CountedAfresh : List ℕ → List ℕ → ℕ → Type 0
CountedAfresh s t f = tally (head_of s) (cells_of s) (cases s) f ≡ get_or t f 0

module _ (s t : List ℕ) (f : ℕ) where
  -- it is false where another number is counted afresh,
  false_here : (CountedAfresh s t f → ⊥) → false_at s t f ≡ true
  false_here d = rw (ne_eqb (get_or t f 0) (tally (head_of s) (cells_of s) (cases s) f) (λ z. d (sym z)))

  -- and not where that one is
  false_past : CountedAfresh s t f → false_at s t f ≡ false
  false_past d = rw (eq-eqb (get_or t f 0) (tally (head_of s) (cells_of s) (cases s) f) (sym d))

-- a search of the numbers in use for one whose tally is false finds the lowest, or there is none
pub false_told : (s t : List ℕ) (n : ℕ) → n ≡ numbers (head_of s) → (o : Option ℕ)
    → MatchOption o ((k : ℕ) → 0 ≤ k → k < n → CountedAfresh s t k)
    (λ f. (0 ≤ f) × (f < n) × (CountedAfresh s t f → ⊥) × ((k : ℕ) → 0 ≤ k → k < f → CountedAfresh s t k))
    → o ≡ found (false_tally s t) (numbers (head_of s))
unfolding false_tally
false_told s t n e o h = rw (← e) (found_first (false_at s t) n o (told o h))
  where
    told : (o : Option ℕ)
        → MatchOption o ((k : ℕ) → 0 ≤ k → k < n → CountedAfresh s t k)
        (λ f. (0 ≤ f) × (f < n) × (CountedAfresh s t f → ⊥) × ((k : ℕ) → 0 ≤ k → k < f → CountedAfresh s t k))
        → MatchOption o ((k : ℕ) → 0 ≤ k → k < n → false_at s t k ≡ false)
        (λ i. (0 ≤ i) × (i < n) × (false_at s t i ≡ true) × ((k : ℕ) → 0 ≤ k → k < i → false_at s t k ≡ false))
    told None none = λ k low high. false_past s t k (none k low high)
    told (Some f) h = (h.0, h.1, false_here s t f h.2, λ k low l. false_past s t k (h.3 k low l))

module _ (s : List ℕ) (p : ℕ) (o : Option Run) (e : option_map bench_of o ≡ bench_at s p) where
  -- what is told of the run of a place is told of its case: whether it fails,
  pub failing_told : {r : Run} {b : Bool} → o ≡ Some r → b ≡ fails (run_machine r) (run_case r) → b ≡ fails_at s p
  failing_told {r} {b} d f =
      let k = run_held s p o e d in
      let same : _ = ap (λ (x : Bench). fails (specified x.head x.cells) x.case) k.1 in rw k.0 (f ∙ same)

  -- and whether a number's machine misses it;
  pub missed_told : (f : ℕ) {r : Run} {b : Bool} → o ≡ Some r → b ≡ misses r.table.head r.table.cells.now f (run_case r)
      → (bool_byte b ≡ tally (head_of s) (cells_of s) (cases_at s p) f) × (bool_byte b ≤ 1)
  unfolding tally count
  missed_told f {r} {b} d m =
      let k = run_held s p o e d in
      let told : b ≡ misses (head_of s) (cells_of s) f (case_of s p) = m ∙ ap (λ (x : Bench). misses x.head x.cells f x.case) k.1 in
      rw (k.0, add-zero) (bit_told told)

  -- and where there is none there is no case
  pub free_fails : o ≡ None → fails_at s p ≡ false
  free_fails d = rw (run_free s p o e d)

  pub free_missed : (f : ℕ) → o ≡ None → tally (head_of s) (cells_of s) (cases_at s p) f ≡ 0
  unfolding tally count
  free_missed f d = rw (run_free s p o e d)

-- a verdict by how many are listed is one by the list
verdict_counted : (b : Bool) (l : List ℕ) → verdict_by b (length l) ≡ verdict_of b l
verdict_counted false l = refl
verdict_counted true [] = refl
verdict_counted true (f ∷ l) = refl

module _ (s t : List ℕ) where
  module _ (out : List ℕ) where
    -- a listing of a session that is refused is refused so,
    pub list_refused : {r : Refusal} → checked (ruling (form_rules s t)) ≡ Err r → listed (Err r) out ≡ list_call s t out
    unfolding list_call list_rules
    list_refused e = rw (ruling_join_refused (form_rules s t) _ _ (checked_refused _ e))

    module _ (fit : checked (ruling (form_rules s t)) ≡ Ok tt) {n : ℕ} (all : n ≡ length (list_of s t)) where
      -- one for which the buffer is too short says how many there are,
      pub list_short : length out < n → listed (Err (Short n)) out ≡ list_call s t out
      unfolding list_call list_rules ruling
      list_short l = rw (ruling_join_fine (form_rules s t) _ (checked_fine _ fit), ← all, lt-ltb (length out) n l)

      -- and else it writes them, with the verdict
      pub list_done : {b : Bool} {v : Verdict} {new : List ℕ} → n ≤ length out → new ≡ filled out 0 (list_of s t)
          → b ≡ some_fails (head_of s) (cells_of s) (cases s) → v ≡ verdict_by b n → listed (faults v n) new ≡ list_call s t out
      unfolding list_call list_rules ruling verdict_in
      list_done l w e d =
          rw (ruling_join_fine (form_rules s t) _ (checked_fine _ fit), ← all, le-ltb (length out) n l, ← e, w, d, all, verdict_counted)

  -- an audit of a session that is refused is refused so,
  pub audit_refused : {r : Refusal} → checked (ruling (form_rules s t)) ≡ Err r → Err r ≡ audit_call s t
  unfolding audit_call
  audit_refused e = rw (checked_refused (ruling (form_rules s t)) e)

  -- and else it answers the number that was found
  pub audit_told : checked (ruling (form_rules s t)) ≡ Ok tt → {o : Option ℕ} → o ≡ found (false_tally s t) (numbers (head_of s)) → Ok o ≡ audit_call s t
  unfolding audit_call
  audit_told fit e = rw (checked_fine (ruling (form_rules s t)) fit, e) (go (ltb (false_tally s t) (numbers (head_of s))))
    where
      answer : Option ℕ → Result (Option ℕ) Refusal
      answer x = Ok x

      go : (b : Bool) → answer (cond b (Some (false_tally s t)) None) ≡ Ok (audit_if b (false_tally s t))
      go true = refl
      go false = refl
