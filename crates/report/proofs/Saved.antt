-- What saving, the conflict set and the candidates find in a session: the held cases' bytes one after the other, by rising place; and
-- what all held cases, taken in one after the other, leave of candidates.
-- Assumes nothing.
use Prim.Native.Nat.{ℕ, zero, suc, ◌+◌, ◌-◌, ◌*◌, ◌≤◌, ◌<◌}
use mathlib.Core.Path.{◌≡◌, refl, sym, ap, ◌∙◌}
use mathlib.Core.List.{List, [], ◌∷◌, ◌++◌, append-nil}
use mathlib.Core.Bool.{Bool, true, false, cond, not, ◌&&◌, ◌||◌}
use mathlib.Core.Logic.{◌⊎◌, inl, inr}
use native.Mathlib.Nat.{zero-add, eq-or-lt_of_le}
use native.Mathlib.Numerals.{add-one}
use native.Mathlib.Omega.{arith}
use borrow.Author.Tests.{lt-ltb, le-ltb}
use lib.ListN.{length, get_or, length-append}
use Rattle.shapes.specs.Edit.{edit, filled}
use Rattle.shapes.specs.Keep.{bit, every}
use Rattle.shapes.specs.Refusals.{Rule, when, fine, refused, ruling}
use Rattle.shapes.proofs.Edit.{length_edit, edit_in, edit_out_above, edit_kept, edit_ext, length_filled, filled_append}
use Rattle.shapes.proofs.Refusals.{ruling_here, ruling_past, ruling_end, ruling_join_refused, ruling_join_fine}
use Rattle.machine.specs.Limits.{cells_most}
use Rattle.machine.specs.Machine.{Machine, specified}
use Rattle.machine.specs.Case.{Case}
use Rattle.machine.specs.Runs.{Bench, bench_of, run_case}
use Rattle.machine.specs.declared.replay.Run.{Run}
use Rattle.std.specs.Prelude.{Option, Some, None, Result, Ok, Err}
use Rattle.std.specs.Option.{option_map}
use Rattle.machine.specs.Run.{symptoms_of}
use Rattle.machine.specs.declared.head.Head.{Head}
use Rattle.machine.specs.declared.replay.Symptoms.{Symptoms}
use Rattle.house.specs.File.{version, rest_at, file_head, file_of}
use Rattle.house.specs.Cases.{case_bytes, rest_of, record_file}
use Rattle.house.specs.Refusal.{checked, wrote}
use Rattle.house.specs.declared.refusal.Refusal.{Refusal}
use Rattle.house.specs.declared.refusal.Refusal.TheVariants.{Short}
use Rattle.diagnosis.specs.Diagnosis.{fails, some_fails, conflicts, conflict_bytes, is_candidate}
use Rattle.diagnosis.specs.Loops.{narrowed, Bits, spread}
use Rattle.memory.specs.Layout.{places_most, is_held, case_of, case_if, held_to, cases}
use Rattle.memory.specs.Form.{form_rules, slot_rules}
use Rattle.report.specs.Reports.{symptoms_call, save_rules, save_call, bytes_rules, conflict_call, candidate_bytes, candidates_call}
use Rattle.reading.specs.Reads.{machine_of}
use Rattle.report.specs.Loops.{bytes_at, narrowed_if, narrowed_all}
use Rattle.house.proofs.Records.{record_size, rest_append}
use Rattle.memory.proofs.Known.{told_fine, told_refused}
use Rattle.memory.proofs.Runs.{run_held, run_free}
use Rattle.memory.specs.Held.{bench_in, bench_at}

-- a case with as many outputs as inputs takes a byte and two for each step
case_long : (c : Case) → length c.outputs ≡ length c.inputs → length (case_bytes c) ≡ 1 + 2 * length c.inputs
unfolding case_bytes
case_long c even = rw (length-append, even) (omega arith)

-- one case, or none, as bytes
rest_one : (c : Case) → rest_of (case_if true c) ≡ case_bytes c
unfolding rest_of
rest_one c = append-nil (case_bytes c)

rest_none : (c : Case) → rest_of (case_if false c) ≡ []
unfolding rest_of
rest_none c = refl

-- nothing written leaves the list
pub filled_none : (l : List ℕ) (at : ℕ) → filled l at [] ≡ l
unfolding filled edit
filled_none l at = refl

-- what is told of the run of a place
module _ (s : List ℕ) (p : ℕ) (o : Option Run) (e : option_map bench_of o ≡ bench_at s p) where
  -- where there is none the place has no bytes
  pub bytes_free : o ≡ None → bytes_at s p ≡ []
  bytes_free d = rw (run_free s p o e d) (rest_none (case_of s p))

  module _ {r : Run} (d : o ≡ Some r) where
    -- where there is one they are its case's,
    pub bytes_held : bytes_at s p ≡ case_bytes (run_case r)
    bytes_held = let k = run_held s p o e d in rw (k.0, rest_one, ap (λ (b : Bench). b.case) k.1)

    -- as many as the code counts
    pub bytes_count : 1 + 2 * length r.inputs.now ≡ length (bytes_at s p)
    bytes_count = rw bytes_held (sym (case_long (run_case r) r.fits.even))

module _ (s : List ℕ) where
  -- the bytes of the cases held below the next place
  rest_more : (p : ℕ) → rest_of (held_to s (suc p)) ≡ rest_of (held_to s p) ++ bytes_at s p
  unfolding held_to
  rest_more p = rest_append (held_to s p) _

  -- no place below has more of them
  rest_grows : (p n : ℕ) → p ≤ n → length (rest_of (held_to s p)) ≤ length (rest_of (held_to s n))
  rest_grows p zero l = let e : p ≡ 0 = omega arith in rw e (omega arith)
  rest_grows p (suc n) l = go (eq-or-lt_of_le l) (rest_grows p n)
    where
      go : (p ≡ suc n) ⊎ (p < suc n) → (p ≤ n → length (rest_of (held_to s p)) ≤ length (rest_of (held_to s n)))
          → length (rest_of (held_to s p)) ≤ length (rest_of (held_to s (suc n)))
      go (inl e) rest = rw e (omega arith)
      go (inr k) rest = let r = rest (omega arith) in rw (rest_more n, length-append) (omega arith)

  -- a loop over the places begins with no bytes,
  pub rest_begins : rest_of (held_to s 0) ≡ []
  unfolding held_to rest_of
  rest_begins = refl

  -- counts those of a place more,
  pub rest_turn : (p at n : ℕ) → at ≡ rest_at + length (rest_of (held_to s p)) → n ≡ length (bytes_at s p)
      → at + n ≡ rest_at + length (rest_of (held_to s (p + 1)))
  rest_turn p at n e k = rw (add-one, rest_more, length-append) (omega arith)

  -- has room for them where all have,
  pub rest_room : (p at : ℕ) (l out : List ℕ) → p < places_most → at ≡ rest_at + length (rest_of (held_to s p))
      → l ≡ filled out rest_at (rest_of (held_to s p)) → rest_at + length (rest_of (cases s)) ≤ length out
      → at + length (bytes_at s p) ≤ length l
  unfolding cases
  rest_room p at l out k e el room =
      let g = rest_grows (suc p) places_most k in
      let m = ap length (rest_more p) ∙ length-append (rest_of (held_to s p)) (bytes_at s p) in
      rw (el, length_filled) (omega arith)

  -- and writes them after those before
  pub rest_written : (p at : ℕ) (l m out : List ℕ) → at ≡ rest_at + length (rest_of (held_to s p)) → l ≡ filled out rest_at (rest_of (held_to s p))
      → m ≡ filled l at (bytes_at s p) → m ≡ filled out rest_at (rest_of (held_to s (p + 1)))
  rest_written p at l m out e el em =
      rw (em, el, e, add-one, rest_more) (filled_append out rest_at (rest_of (held_to s p)) _)

-- a record has three bytes at least,
pub record_some : {n : ℕ} (cs : List Case) → n ≡ length (record_file cs) → rest_at ≤ n
record_some cs e = omega (arith, record_size cs)

-- where it has room after its head is written, so have its cases,
pub record_room : {n : ℕ} (cs : List Case) (l out v : List ℕ) → n ≡ length (record_file cs) → n ≤ length out → l ≡ filled out 0 v
    → rest_at + length (rest_of cs) ≤ length l
record_room cs l out v e k el = rw (el, length_filled) (omega (arith, record_size cs))

-- and its head and then its cases written are all of it written
record_written : (n : ℕ) (out : List ℕ) (cs : List Case) → n ≡ length (record_file cs)
    → filled (filled out 0 (file_head version (n - rest_at))) rest_at (rest_of cs) ≡ filled out 0 (record_file cs)
unfolding record_file file_of file_head
record_written n out cs e =
    let size : n - rest_at ≡ length (rest_of cs) = omega (arith, record_size cs) in
    rw size (filled_append out 0 (file_head version (length (rest_of cs))) (rest_of cs))

-- a rule after rules that say nothing: it refuses where its test is true,
last_refuses : {b : Bool} (l : List (Rule Refusal)) (r : Refusal) → ruling l ≡ fine → b ≡ true → ruling (l ++ (when b r ∷ [])) ≡ refused r
last_refuses l r f e = ruling_join_fine l _ f ∙ ruling_here r [] e

-- and else nothing does
last_passes : {b : Bool} (l : List (Rule Refusal)) (r : Refusal) → ruling l ≡ fine → b ≡ false → ruling (l ++ (when b r ∷ [])) ≡ fine
last_passes l r f e = ruling_join_fine l _ f ∙ (ruling_past r [] e ∙ ruling_end)

-- what the check of a session's form found
module _ (s t : List ℕ) {x : Result (Unit {0}) Refusal} (e : x ≡ checked (ruling (form_rules s t))) where
  -- where it refuses, so do saving and the candidates
  pub save_refused : {r : Refusal} (out : List ℕ) → x ≡ Err r
      → wrote (Err r) out ≡ save_call s t out
  unfolding save_call save_rules
  save_refused out q = rw (ruling_join_refused (form_rules s t) _ _ (told_refused _ e q))

  pub candidates_refused : {r : Refusal} (out : List ℕ) → x ≡ Err r
      → wrote (Err r) out ≡ candidates_call s t out
  unfolding candidates_call
  candidates_refused out q = rw (ruling_join_refused (form_rules s t) _ _ (told_refused _ e q))

  module _ (q : x ≡ Ok tt) where
    -- where it does not, no rule refuses,
    form_rules_law : ruling (form_rules s t) ≡ fine
    form_rules_law = told_fine _ e q

    -- a buffer too short for the record is refused,
    pub save_short : (n : ℕ) (out : List ℕ) → n ≡ length (record_file (cases s)) → length out < n
        → wrote (Err (Short n)) out ≡ save_call s t out
    unfolding save_call save_rules
    save_short n out en l =
        let k : length out < length (record_file (cases s)) = omega arith in
        rw (last_refuses (form_rules s t) (Short (length (record_file (cases s)))) form_rules_law (lt-ltb _ _ k), en)

    -- and one long enough holds it once its head and its cases are written
    pub save_written : (n : ℕ) (out one two : List ℕ) → n ≡ length (record_file (cases s)) → n ≤ length out
        → one ≡ filled out 0 (file_head version (n - rest_at)) → two ≡ filled one rest_at (rest_of (cases s))
        → wrote (Ok n) two ≡ save_call s t out
    unfolding save_call save_rules
    save_written n out one two en l e1 e2 =
        let k : length (record_file (cases s)) ≤ length out = omega arith in
        rw (
          last_passes (form_rules s t) (Short (length (record_file (cases s)))) form_rules_law (le-ltb _ _ k),
          e2,
          e1,
          record_written n out (cases s) en,
          en,
        )

    -- a buffer too short for 256 bytes is refused,
    pub candidates_short : (out : List ℕ) → length out < cells_most → wrote (Err (Short 0)) out ≡ candidates_call s t out
    unfolding candidates_call bytes_rules
    candidates_short out l = rw (last_refuses (form_rules s t) (Short 0) form_rules_law (lt-ltb _ _ l))

    -- and one long enough holds the candidates once they are written
    pub candidates_written : (out l : List ℕ) → cells_most ≤ length out → l ≡ candidate_bytes (machine_of s) (cases s) out
        → wrote (Ok 0) l ≡ candidates_call s t out
    unfolding candidates_call bytes_rules
    candidates_written out l room el = rw (last_passes (form_rules s t) (Short 0) form_rules_law (le-ltb _ _ room), el)

-- what the rules for a place say
module _ (s t : List ℕ) (p : ℕ) where
  -- where they refuse, so do the symptoms and the conflict set
  pub symptoms_refused : {r : Refusal} → ruling (slot_rules s t p) ≡ refused r → Err r ≡ symptoms_call s t p
  unfolding symptoms_call
  symptoms_refused e = rw e

  pub conflict_refused : {r : Refusal} (out : List ℕ) → ruling (slot_rules s t p) ≡ refused r → wrote (Err r) out ≡ conflict_call s t p out
  unfolding conflict_call
  conflict_refused out e = rw (ruling_join_refused (slot_rules s t p) _ _ e)

  module _ (f : ruling (slot_rules s t p) ≡ fine) where
    -- where they do not, a buffer too short for 256 bytes is refused,
    pub conflict_short : (out : List ℕ) → length out < cells_most → wrote (Err (Short 0)) out ≡ conflict_call s t p out
    unfolding conflict_call bytes_rules
    conflict_short out l = rw (last_refuses (slot_rules s t p) (Short 0) f (lt-ltb _ _ l))

    module _ (b : Bench) (e : b ≡ bench_in s p) where
      -- one long enough holds the conflict set of the place's run once it is written,
      pub conflict_written : (out l : List ℕ) → cells_most ≤ length out → l ≡ conflict_bytes (specified b.head b.cells) b.case out
          → wrote (Ok 0) l ≡ conflict_call s t p out
      unfolding conflict_call bytes_rules
      conflict_written out l room el =
          let k = el ∙ ap (λ (x : Bench). conflict_bytes (specified x.head x.cells) x.case out) e in
          rw (last_passes (slot_rules s t p) (Short 0) f (le-ltb _ _ room), k)

      -- and its symptoms are answered
      pub symptoms_shown : {x : Symptoms} → x ≡ symptoms_of (specified b.head b.cells) b.case.inputs b.case.outputs → Ok x ≡ symptoms_call s t p
      unfolding symptoms_call
      symptoms_shown d = let k = d ∙ ap (λ (x : Bench). symptoms_of (specified x.head x.cells) x.case.inputs x.case.outputs) e in rw (f, k)

-- a cell is in the conflict set of each of some cases that fails
abbrev stays_in : Machine → List Case → ℕ → Bool
stays_in M cs cell = every (λ c. not (fails M c) || conflicts M c cell) cs

-- what some cases leave of a cell's byte together
leaves : Machine → List Case → ℕ → ℕ → ℕ
leaves M cs cell old = cond (stays_in M cs cell) old 0

-- is what they leave one after the other
narrowed_once : (M : Machine) (cs : List Case) (l : List ℕ) → narrowed_all M cs l ≡ edit (leaves M cs) 0 cells_most l
unfolding narrowed_all narrowed every leaves
narrowed_once M [] l = sym (edit_kept 0 cells_most l)
narrowed_once M (c ∷ cs) l = narrowed_once M cs (narrowed M c l)
    ∙ edit_ext (leaves M cs) (leaves M (c ∷ cs)) 0 cells_most (edit one 0 cells_most l) l (length_edit one 0 cells_most l)
    (λ j k. absurd (omega arith)) (λ j k m. edit_out_above one 0 cells_most l j k)
    (λ i k m. rw (edit_in one 0 cells_most l i k (omega (arith, length_edit one 0 cells_most l)))
    (go (fails M c) (conflicts M c i) (stays_in M cs i) _))
  where
    one : ℕ → ℕ → ℕ
    one cell old = cond (fails M c && not (conflicts M c cell)) 0 old

    go : (f k r : Bool) (old : ℕ) → cond r (cond (f && not k) 0 old) 0 ≡ cond ((not f || k) && r) old 0
    go true true true old = refl
    go true true false old = refl
    go true false true old = refl
    go true false false old = refl
    go false true true old = refl
    go false true false old = refl
    go false false true old = refl
    go false false false old = refl

-- the length stays,
pub length_narrowed : (M : Machine) (cs : List Case) (out : List ℕ) → length (narrowed_all M cs out) ≡ length out
length_narrowed M cs out = rw narrowed_once (length_edit (leaves M cs) 0 cells_most out)

-- bytes of 0 or 1 stay such,
pub bits_narrowed : (M : Machine) (cs : List Case) (l out : List ℕ) → l ≡ narrowed_all M cs out → Bits out → Bits l
unfolding leaves
bits_narrowed M cs l out e b =
    record {
      room = rw (e, length_narrowed M cs out) b.room;
      each = λ cell k. rw (e, narrowed_once M cs out) (one cell k);
    }
  where
    low : (r : Bool) (old : ℕ) → old ≤ 1 → cond r old 0 ≤ 1
    low true old k = k
    low false old k = omega arith

    one : (cell : ℕ) → cell < cells_most → get_or (edit (leaves M cs) 0 cells_most out) cell 0 ≤ 1
    one cell k =
        let at = edit_in (leaves M cs) 0 cells_most out cell k (omega (arith, b.room)) in
        rw (rw zero-add at at) (low (stays_in M cs cell) (get_or out cell 0) (b.each cell k))

-- and cases before others leave what both leave
narrowed_append : (M : Machine) (a b : List Case) (out : List ℕ) → narrowed_all M (a ++ b) out ≡ narrowed_all M b (narrowed_all M a out)
unfolding narrowed_all
narrowed_append M [] b out = refl
narrowed_append M (c ∷ a) b out = narrowed_append M a b (narrowed M c out)

-- a loop over the places begins with all candidates,
pub narrow_begins : (s : List ℕ) (M : Machine) (out : List ℕ) → out ≡ narrowed_all M (held_to s 0) out
unfolding narrowed_all held_to
narrow_begins s M out = refl

-- and takes in the case of a place more
pub narrow_turn : (s : List ℕ) (M : Machine) (p : ℕ) (l m out : List ℕ) → l ≡ narrowed_all M (held_to s p) out
    → m ≡ narrowed_if (is_held s p) M (case_of s p) l → m ≡ narrowed_all M (held_to s (p + 1)) out
unfolding held_to narrowed_all
narrow_turn s M p l m out el em = rw (em, add-one, narrowed_append, ← el) (go (is_held s p))
  where
    go : (b : Bool) → narrowed_if b M (case_of s p) l ≡ narrowed_all M (case_if b (case_of s p)) l
    go true = refl
    go false = refl

module _ (h : Head) (cells : List ℕ) (cs : List Case) (out : List ℕ) where
  -- where no case fails there is no candidate,
  pub candidates_none : (l : List ℕ) → some_fails h cells cs ≡ false → l ≡ spread 0 out
      → l ≡ candidate_bytes (specified h cells) cs out
  unfolding some_fails candidate_bytes is_candidate
  candidates_none l good e = rw good e

  -- and where one does, of all 256 ones the cases leave the candidates
  pub candidates_of_ones : (ones l : List ℕ) → cells_most ≤ length out → some_fails h cells cs ≡ true → ones ≡ spread 1 out
      → l ≡ narrowed_all (specified h cells) cs ones → l ≡ candidate_bytes (specified h cells) cs out
  unfolding some_fails candidate_bytes is_candidate leaves
  candidates_of_ones ones l room bad e el =
      el
      ∙ (narrowed_once (specified h cells) cs ones
      ∙ rw (e, bad)
      (edit_ext (leaves (specified h cells) cs) (λ cell old. bit (stays_in (specified h cells) cs cell)) 0 cells_most
      (edit (λ cell old. 1) 0 cells_most out) out (length_edit (λ cell old. 1) 0 cells_most out) (λ j k. absurd (omega arith))
      (λ j k m. edit_out_above (λ cell old. 1) 0 cells_most out j k)
      (λ i k m. rw (edit_in (λ cell old. 1) 0 cells_most out i k (omega arith)) (go (stays_in (specified h cells) cs i)))))
    where
      go : (b : Bool) → cond b 1 0 ≡ bit b
      go true = refl
      go false = refl
