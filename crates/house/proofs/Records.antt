-- The record file: what stands at its places, what it is refused for, and that cases written as a record read back as those cases.
-- Assumes nothing.
use Prim.Native.Nat.{ℕ, zero, suc, ◌+◌, ◌-◌, ◌*◌, ◌≤◌, ◌<◌}
use mathlib.Core.Path.{◌≡◌, refl, sym, ap, ◌∙◌}
use mathlib.Core.Logic.{◌⊎◌, inl, inr}
use mathlib.Core.List.{List, [], ◌∷◌, ◌++◌, append-nil, append_assoc}
use mathlib.Core.Bool.{Bool, true, false, cond}
use native.Mathlib.Nat.{zero-add, add-zero, sub-zero}
use native.Mathlib.Numerals.{add-one}
use native.Mathlib.Omega.{arith}
use borrow.Author.Tests.{le-leb, lt-leb, leb-true}
use lib.Dec.{leb}
use lib.ListN.{length, take, drop, set, length-append, length-drop, take-append-drop, drop_of_length-le}
use lib.Seq.{length-take-le, drop-cons, drop-drop, take-append_seam, drop-append-add, get_or-append_seam, take_at, drop_at}
use Rattle.std.specs.Option.{ok_or}
use Rattle.std.specs.Prelude.{Option, Some, None, Ok, Err}
use Rattle.shapes.specs.Edit.{filled, place_after}
use Rattle.shapes.proofs.Edit.{filled_one, filled_append}
use Rattle.shapes.specs.Refusals.{fine, refused, ruling, when}
use Rattle.shapes.proofs.Refusals.{ruling_join_refused, ruling_join_fine, ruling_joined, fine_when}
use Rattle.shapes.proofs.Tests.{and_true}
use Rattle.machine.specs.Limits.{steps_most}
use Rattle.house.specs.File.{version, rest_at, file_rules, file_head, file_of}
use Rattle.house.specs.Bytes.{Bytes}
use Rattle.machine.specs.Case.{Case}
use Rattle.house.specs.Cases.{case_bytes, rest_of, record_file, Recordable, AllRecordable, case_at, cases_from, cases_in, cases_most, steps_at, case_end, case_fits, count_from, count_in, is_broken, count_of, record_rules, record_read}
use Rattle.house.specs.declared.refusal.Refusal.{Refusal}
use Rattle.house.specs.Refusal.{ruled}
use Rattle.house.specs.declared.refusal.Refusal as Refusal_type
use Rattle.house.proofs.Forms.{file_of_fine, file_of_rest, ruled_refused, ruled_passed}

-- a case that fits has 1 to 64 steps and ends within the file ..
pub case_fits_law : (file : List ℕ) (at : ℕ) → case_fits file at ≡ true
    → (1 ≤ steps_at file at) × ((steps_at file at ≤ steps_most) × (case_end file at ≤ length file))
unfolding case_fits
case_fits_law file at e =
    let a = and_true _ _ e in
    let w = and_true _ _ a.0 in
    (leb-true _ _ w.0, (leb-true _ _ w.1, leb-true _ _ a.1))

-- .. and one with these fits
fits_case : (file : List ℕ) (at : ℕ) → (1 ≤ steps_at file at) × ((steps_at file at ≤ steps_most) × (case_end file at ≤ length file))
    → case_fits file at ≡ true
unfolding case_fits
fits_case file at h = rw (le-leb _ _ h.0, le-leb _ _ h.1.0, le-leb _ _ h.1.1)

-- a loop's end: nothing more stands there
pub count_ended : (file : List ℕ) (left at n : ℕ) → length file ≤ at → count_from file left at n ≡ Some n
unfolding count_from
count_ended file zero at n h = rw (le-leb _ _ h)
count_ended file (suc left) at n h = rw (le-leb _ _ h)

-- no case may be left, and something stands there
pub count_full : (file : List ℕ) (at n : ℕ) → n ≡ cases_most → at < length file → count_from file (cases_most - n) at n ≡ None
unfolding count_from
count_full file at n all h = let d : 64 - n ≡ 0 = omega arith in rw (d, lt-leb _ _ h)

-- what stands there is no case
pub count_broken : (file : List ℕ) (left at n : ℕ) → at < length file → case_fits file at ≡ false → count_from file left at n ≡ None
unfolding count_from
count_broken file zero at n h e = rw (lt-leb _ _ h)
count_broken file (suc left) at n h e = rw (lt-leb _ _ h, e)

-- a case stands there, and the rest is counted from the place after it
pub count_next : (file : List ℕ) (left at n : ℕ) → at < length file → case_fits file at ≡ true
    → count_from file (suc left) at n ≡ count_from file left (case_end file at) (suc n)
unfolding count_from
count_next file left at n h e = rw (lt-leb _ _ h, e)

-- a loop's turn
pub count_turn : (file : List ℕ) (at n : ℕ) → n < cases_most → at < length file → case_fits file at ≡ true
    → count_from file (cases_most - n) at n ≡ count_from file (cases_most - (n + 1)) (case_end file at) (n + 1)
count_turn file at n few h e = let d : 64 - n ≡ suc (64 - (n + 1)) = omega arith in rw (d, count_next, add-one n)

-- a case has a length byte, and a byte for each input and output,
length_bytes : (c : Case) → length (case_bytes c) ≡ 1 + (length c.inputs + length c.outputs)
unfolding case_bytes
length_bytes c = let e = length-append c.inputs c.outputs in omega arith

-- so the place after one with as many outputs as inputs is a byte and two for each step on
pub case_after : (at : ℕ) (c : Case) → length c.outputs ≡ length c.inputs → at + 1 + 2 * length c.inputs ≡ place_after at (case_bytes c)
case_after at c e = omega (arith, length_bytes c)

-- the bytes of cases before others are the bytes of both, one after the other
pub rest_append : (a b : List Case) → rest_of (a ++ b) ≡ rest_of a ++ rest_of b
unfolding rest_of
rest_append [] b = refl
rest_append (c ∷ a) b = rw (rest_append a b, append_assoc)

-- a record is three bytes and its cases'
pub record_size : (cs : List Case) → length (record_file cs) ≡ rest_at + length (rest_of cs)
unfolding record_file file_of file_head
record_size cs = omega arith

-- the length byte stored, then the inputs written and the outputs after them: the case is written
pub case_written : (out one two : List ℕ) (at : ℕ) (c : Case) → one ≡ filled (set out at (length c.inputs)) (at + 1) c.inputs
    → two ≡ filled one (at + 1 + length c.inputs) c.outputs → two ≡ filled out at (case_bytes c)
unfolding case_bytes
case_written out one two at c d e =
    let n : ℕ = length c.inputs in
    rw (e, d, filled_append (set out at n) (at + 1) c.inputs c.outputs, ← filled_one out at n)
    (filled_append out at (n ∷ []) (c.inputs ++ c.outputs))

module _ (file : List ℕ) where
  -- a file that the rules for every file refuse is refused so
  pub record_file_refused : {r : Refusal} → ruling (file_rules version file) ≡ refused r → record_read file ≡ Err r
  unfolding record_read record_rules
  record_file_refused e = rw (ruling_join_refused (file_rules version file) _ _ e)

  -- a file that those let pass is refused where its cases are broken, and is else a record, with the cases counted
  pub read_counted : ruling (file_rules version file) ≡ fine → ok_or (count_in file) Refusal_type.TheVariants.Record ≡ record_read file
  unfolding record_read record_rules ruling
  read_counted e = rw (ruling_join_fine (file_rules version file) _ e) (go (count_in file))
    where
      go : (c : Option ℕ) → ok_or c Refusal_type.TheVariants.Record ≡ ruled (ruling (when (is_broken c) Refusal_type.TheVariants.Record ∷ [])) (count_of c)
      go (Some n) = refl
      go None = refl

module _ (file : List ℕ) where
  -- a record that is refused is refused by its rules
  pub rules_refuse : {r : Refusal} → record_read file ≡ Err r → ruling (record_rules file) ≡ refused r
  unfolding record_read
  rules_refuse e = ruled_refused _ _ e

  -- one that is taken is refused by none, and what is answered is the count of its cases
  pub rules_pass : {n : ℕ} → record_read file ≡ Ok n → (ruling (record_rules file) ≡ fine) × (n ≡ count_of (count_in file))
  unfolding record_read
  rules_pass e = ruled_passed _ _ e

  -- a record that its rules do not refuse is a file that is not refused, and its cases are counted
  pub record_sound : ruling (record_rules file) ≡ fine → (ruling (file_rules version file) ≡ fine) × (count_in file ≡ Some (count_of (count_in file)))
  unfolding record_rules
  record_sound e = let j = ruling_joined (file_rules version file) _ e in (j.0, go (count_in file) ((fine_when _).0 j.1).0)
    where
      go : (c : Option ℕ) → is_broken c ≡ false → c ≡ Some (count_of c)
      go (Some n) e = refl
      go None e = cc

-- a count that was made where no case may be left was made at the end,
pub counted_last : (file : List ℕ) (at n m : ℕ) → count_from file zero at n ≡ Some m → (length file ≤ at) × (n ≡ m)
unfolding count_from
counted_last file at n m = go (leb (length file) at) refl
  where
    go : (b : Bool) → leb (length file) at ≡ b → cond b (Some n) None ≡ Some m → (length file ≤ at) × (n ≡ m)
    go true past e = (leb-true _ _ past, cc)
    go false past e = let z : ◌≡◌ {A = ℕ} 0 1 = cc in absurd (omega arith)

-- and where some may be left, at the end or before a case that fits
pub counted_next : (file : List ℕ) (left at n m : ℕ) → count_from file (suc left) at n ≡ Some m
    → ((length file ≤ at) × (n ≡ m)) ⊎ ((case_fits file at ≡ true) × (count_from file left (case_end file at) (suc n) ≡ Some m))
unfolding count_from
counted_next file left at n m = go (leb (length file) at) (case_fits file at) refl refl
  where
    more : Option ℕ
    more = count_from file left (case_end file at) (suc n)

    go : (b f : Bool) → leb (length file) at ≡ b → case_fits file at ≡ f → cond b (Some n) (cond f more None) ≡ Some m
        → ((length file ≤ at) × (n ≡ m)) ⊎ ((case_fits file at ≡ true) × (more ≡ Some m))
    go true f past fits e = inl (leb-true _ _ past, cc)
    go false true past fits e = inr (fits, e)
    go false false past fits e = let z : ◌≡◌ {A = ℕ} 0 1 = cc in absurd (omega arith)

-- a count goes up from where it began, and by no more than what may be left
pub count_bounds : (file : List ℕ) (left at n m : ℕ) → count_from file left at n ≡ Some m → (n ≤ m) × (m ≤ n + left)
count_bounds file zero at n m e = let k = counted_last file at n m e in omega arith
count_bounds file (suc left) at n m e = go (counted_next file left at n m e) (count_bounds file left (case_end file at) (suc n) m)
  where
    more : Option ℕ
    more = count_from file left (case_end file at) (suc n)

    go : ((length file ≤ at) × (n ≡ m)) ⊎ ((case_fits file at ≡ true) × (more ≡ Some m))
        → (more ≡ Some m → (suc n ≤ m) × (m ≤ suc n + left)) → (n ≤ m) × (m ≤ n + suc left)
    go (inl k) rest = omega arith
    go (inr k) rest = let r = rest k.1 in omega arith

-- a record that its rules do not refuse has at most 64 cases
pub record_few : (file : List ℕ) → ruling (record_rules file) ≡ fine → count_of (count_in file) ≤ cases_most
unfolding count_in
record_few file e = omega (arith, count_bounds file cases_most rest_at 0 (count_of (count_in file)) (record_sound file e).1)

-- a record that is taken has the count of cases that is answered, and they are at most 64
pub record_count : (file : List ℕ) (n : ℕ) → record_read file ≡ Ok n → (count_in file ≡ Some n) × (n ≤ cases_most)
record_count file n e = let t = rules_pass file e in rw t.1 ((record_sound file t.0).1, record_few file t.0)

-- so many cases from a place on are so many,
cases_length : (file : List ℕ) (n at : ℕ) → length (cases_from file n at) ≡ n
unfolding cases_from
cases_length file zero at = refl
cases_length file (suc n) at = ap suc (cases_length file n _)

-- and a record has as many cases as were counted
pub cases_counted : (file : List ℕ) → length (cases_in file) ≡ count_of (count_in file)
unfolding cases_in
cases_counted file = cases_length file (count_of (count_in file)) _

-- which are at most 64, where it is taken
pub cases_few : (file : List ℕ) (n : ℕ) → record_read file ≡ Ok n → length (cases_in file) ≤ cases_most
cases_few file n e = omega (arith, cases_counted file, record_few file (rules_pass file e).0)

-- a case written after a list, with another list after it: it stands at the place after the first list
module _ (pre : List ℕ) (c : Case) (rest : List ℕ) where
  -- its length byte stands there
  written_steps : steps_at (pre ++ (case_bytes c ++ rest)) (length pre) ≡ length c.inputs
  unfolding case_bytes
  written_steps = get_or-append_seam pre (length c.inputs) _ 0

  -- the place after it is that after its bytes
  written_end : Recordable c → case_end (pre ++ (case_bytes c ++ rest)) (length pre) ≡ length (pre ++ case_bytes c)
  written_end ok = rw (written_steps, length-append) (omega (arith, length_bytes c, ok.even))

  -- it begins within the list
  written_inside : length pre < length (pre ++ (case_bytes c ++ rest))
  written_inside = simp length-append (omega (arith, length_bytes c))

  -- it fits
  written_fits : Recordable c → case_fits (pre ++ (case_bytes c ++ rest)) (length pre) ≡ true
  written_fits ok =
      let e = written_steps in
      fits_case (pre ++ (case_bytes c ++ rest)) (length pre)
      (rw e ok.some_steps, (rw e ok.few_steps, rw (written_end ok) (simp length-append (omega arith))))

  -- its inputs stand after the length byte ..
  written_inputs : take (length c.inputs) (drop (length pre + 1) (pre ++ (case_bytes c ++ rest))) ≡ c.inputs
  unfolding case_bytes
  written_inputs = rw (drop-append-add pre _ 1, append_assoc) (take-append_seam c.inputs (c.outputs ++ rest))

  -- .. and its outputs after these
  written_outputs : Recordable c → take (length c.inputs) (drop (length pre + 1 + length c.inputs) (pre ++ (case_bytes c ++ rest))) ≡ c.outputs
  unfolding case_bytes
  written_outputs ok = rw (split, drop_at front (c.outputs ++ rest) _ size) (take_at c.outputs rest (length c.inputs) ok.even)
    where
      front : List ℕ
      front = pre ++ (length c.inputs ∷ c.inputs)

      size : length front ≡ length pre + 1 + length c.inputs
      size = simp length-append (omega arith)

      split : pre ++ (case_bytes c ++ rest) ≡ front ++ (c.outputs ++ rest)
      split = simp append_assoc

  -- so the case that stands there is the one written
  written_case : Recordable c → case_at (pre ++ (case_bytes c ++ rest)) (length pre) ≡ c
  unfolding case_at
  written_case ok = rw written_steps (λ i. record { inputs = written_inputs i; outputs = written_outputs ok i })

-- the cases written after a list are counted from the place after it ..
pub count_written : (cs : List Case) (pre : List ℕ) (left n : ℕ) → AllRecordable cs → length cs ≤ left
    → count_from (pre ++ rest_of cs) left (length pre) n ≡ Some (n + length cs)
unfolding rest_of
count_written [] pre left n ok few = rw (append-nil, add-zero) (count_ended pre left (length pre) n (omega arith))
count_written (c ∷ cs) pre zero n ok few = absurd (omega arith)
count_written (c ∷ cs) pre (suc left) n ok few =
    let w = count_next _ left _ n (written_inside pre c (rest_of cs)) (written_fits pre c (rest_of cs) ok.0) in
    let e = count_written cs (pre ++ case_bytes c) left (suc n) ok.1 (omega arith) in
    let d : n + suc (length cs) ≡ suc n + length cs = omega arith in
    rw (w, written_end pre c (rest_of cs) ok.0, d) (rw append_assoc at e)

-- .. and are those that stand there
cases_written : (cs : List Case) (pre : List ℕ) → AllRecordable cs → cases_from (pre ++ rest_of cs) (length cs) (length pre) ≡ cs
unfolding rest_of cases_from
cases_written [] pre ok = refl
cases_written (c ∷ cs) pre ok =
    let e = cases_written cs (pre ++ case_bytes c) ok.1 in
    rw (written_case pre c (rest_of cs) ok.0, written_end pre c (rest_of cs) ok.0) (ap (λ l. c ∷ l) (rw append_assoc at e))

-- a record written from cases reads back as those cases, in order
pub record_reads_back : (cs : List Case) → length cs ≤ cases_most → AllRecordable cs
    → (record_read (record_file cs) ≡ Ok (length cs)) × (cases_in (record_file cs) ≡ cs)
unfolding record_file cases_in count_in file_of file_head
record_reads_back cs few ok =
    (sym (read_counted (record_file cs) (file_of_fine version (rest_of cs))) ∙ rw count, rw count (cases_written cs (file_head version (length (rest_of cs))) ok))
  where
    count : count_in (record_file cs) ≡ Some (length cs)
    count = rw zero-add at (count_written cs (file_head version (length (rest_of cs))) cases_most 0 ok few)

-- two parts of a list, one right after the other, and what comes after them are what comes from the first part on
two_parts : (l : List ℕ) (at n : ℕ) → (take n (drop at l) ++ take n (drop (at + n) l)) ++ drop (at + 2 * n) l ≡ drop at l
two_parts l at n =
    let d : at + 2 * n ≡ at + n + n = omega arith in
    rw (append_assoc, d, ← drop-drop n (at + n) l, take-append-drop n (drop (at + n) l), ← drop-drop n at l, take-append-drop)

-- a place where a case fits
module _ (file : List ℕ) (at : ℕ) (fits : case_fits file at ≡ true) where
  -- as many inputs stand there as the length byte says
  inputs_there : length (take (steps_at file at) (drop (at + 1) file)) ≡ steps_at file at
  inputs_there = let f = case_fits_law file at fits in length-take-le _ _ (rw length-drop (omega arith))

  -- and as many outputs after them
  outputs_there : length (take (steps_at file at) (drop (at + 1 + steps_at file at) file)) ≡ steps_at file at
  outputs_there = let f = case_fits_law file at fits in length-take-le _ _ (rw length-drop (omega arith))

  -- so the case that stands there is one that a record can hold ..
  case_recordable : Recordable (case_at file at)
  unfolding case_at
  case_recordable =
      let f = case_fits_law file at fits in
      record { some_steps = rw inputs_there f.0; few_steps = rw inputs_there f.1.0; even = outputs_there ∙ sym inputs_there }

  -- .. and its bytes and what stands after it are what stands from its place on
  pub case_there : case_bytes (case_at file at) ++ drop (case_end file at) file ≡ drop at file
  unfolding case_bytes case_at
  case_there =
      let f = case_fits_law file at fits in
      let h : at < length file = omega arith in
      rw (inputs_there, two_parts file (at + 1) (steps_at file at), add-one at) (sym (drop-cons file at 0 h))

-- cases that a record can hold, whose bytes stand from a place to the end
abbrev Stand : List ℕ → ℕ → List Case → Type 0
Stand file at cs = (rest_of cs ≡ drop at file) × AllRecordable cs

-- at the end no case stands
stand_ended : (file : List ℕ) (at n m : ℕ) → length file ≤ at → n ≡ m → Stand file at (cases_from file (m - n) at)
unfolding rest_of cases_from
stand_ended file at n m past e = let d : m - n ≡ 0 = omega arith in rw d (sym (drop_of_length-le file past), tt)

-- a case that fits stands before those after it
stand_more : (file : List ℕ) (at n m : ℕ) → case_fits file at ≡ true → n < m
    → Stand file (case_end file at) (cases_from file (m - suc n) (case_end file at)) → Stand file at (cases_from file (m - n) at)
unfolding rest_of cases_from
stand_more file at n m fits few h =
    let d : m - n ≡ suc (m - suc n) = omega arith in
    rw d (rw h.0 (case_there file at fits), (case_recordable file at fits, h.1))

-- the cases that are counted from a place on stand from there to the end
cases_stand : (file : List ℕ) (left at n m : ℕ) → count_from file left at n ≡ Some m → Stand file at (cases_from file (m - n) at)
cases_stand file zero at n m e = let k = counted_last file at n m e in stand_ended file at n m k.0 k.1
cases_stand file (suc left) at n m e = go (counted_next file left at n m e) (cases_stand file left (case_end file at) (suc n) m)
  where
    more : Option ℕ
    more = count_from file left (case_end file at) (suc n)

    go : ((length file ≤ at) × (n ≡ m)) ⊎ ((case_fits file at ≡ true) × (more ≡ Some m))
        → (more ≡ Some m → Stand file (case_end file at) (cases_from file (m - suc n) (case_end file at))) → Stand file at (cases_from file (m - n) at)
    go (inl k) rest = stand_ended file at n m k.0 k.1
    go (inr k) rest = stand_more file at n m k.0 (count_bounds file left (case_end file at) (suc n) m k.1).0 (rest k.1)

-- every record that is taken is the writing of its cases, and they are such as a record can hold
pub record_writes_back : (file : List ℕ) (n : ℕ) → Bytes file → record_read file ≡ Ok n
    → (file_of version (rest_of (cases_in file)) ≡ file) × AllRecordable (cases_in file)
unfolding cases_in count_in
record_writes_back file n bytes e =
    let c = (record_count file n e).0 in
    let s = cases_stand file cases_most rest_at 0 n c in
    let h = rw sub-zero at s in
    let f = (record_sound file (rules_pass file e).0).0 in
    rw c (rw h.0 (file_of_rest version file bytes f), h.1)
