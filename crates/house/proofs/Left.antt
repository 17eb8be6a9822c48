-- The cases of a record taken one after the other: the case that an iterator gives is the first of those left, and the others are left to it.
-- Assumes nothing.
use Prim.Native.Nat.{ℕ, zero, suc, ◌+◌, ◌-◌, ◌*◌, ◌≤◌}
use mathlib.Core.Path.{◌≡◌, refl, sym, ap, ◌∙◌}
use mathlib.Core.Bool.{true}
use mathlib.Core.List.{List, [], ◌∷◌, map, ◌++◌}
use native.Mathlib.Nat.{sub-zero}
use native.Mathlib.Omega.{arith}
use lib.ListN.{length, get_or, take, drop, length-append, length-drop}
use lib.Seq.{length-take-le, take_at, drop_at}
use Rattle.std.proofs.lemmas.List.{take_rest}
use Rattle.std.specs.Prelude.{Ok}
use Rattle.machine.specs.Case.{Case, as_case}
use Rattle.house.specs.File.{rest_at}
use Rattle.house.specs.Cases.{case_bytes, case_end, case_fits, case_at, steps_at, record_read, cases_from, cases_in}
use Rattle.house.specs.Walk.{place_of}
use Rattle.house.specs.Left.{Part, part_at, parts_from, parts_in, parts_left}
use Rattle.house.specs.declared.record.Cases.{Cases}
use Rattle.house.proofs.Records.{case_fits_law, case_there, rules_pass}
use Rattle.house.proofs.Places.{place_next, place_fits}

module _ (file : List ℕ) (at : ℕ) (fits : case_fits file at ≡ true) where
  -- a case that fits has as many inputs as its length byte says,
  inputs_many : length (case_at file at).inputs ≡ get_or file at 0
  unfolding case_at
  inputs_many = let f = case_fits_law file at fits in length-take-le (get_or file at 0) (drop (at + 1) file) (omega (arith, length-drop (at + 1) file))

  -- as many bytes as the place after it is away,
  pub case_size : length (case_bytes (case_at file at)) ≡ 1 + 2 * steps_at file at
  case_size =
      let e = simp (length-append, length-drop) at (ap length (case_there file at fits)) in
      let f = case_fits_law file at fits in
      omega arith

  -- and they are those that stand there
  pub case_stands : (n : ℕ) (bytes : List ℕ) → n ≡ get_or file at 0 → bytes ≡ take (at + 1 + 2 * n - at) (drop at file) → bytes ≡ case_bytes (case_at file at)
  case_stands n bytes en eb =
      let d : at + 1 + 2 * n - at ≡ 1 + 2 * steps_at file at = omega arith in
      eb ∙ rw (d, ← case_there file at fits) (take_at _ _ _ case_size)

  -- what comes after the length byte, cut after the inputs, is the case
  pub case_halves : (n : ℕ) (bytes after inputs outputs : List ℕ) → n ≡ get_or file at 0 → bytes ≡ case_bytes (case_at file at)
      → after ≡ take (length bytes - 1) (drop 1 bytes) → inputs ≡ take n after → outputs ≡ drop n after → as_case inputs outputs ≡ case_at file at
  unfolding case_bytes
  case_halves n bytes after inputs outputs en eb ea ei eo =
      let c : Case = case_at file at in
      let a : after ≡ c.inputs ++ c.outputs = ea ∙ take_rest bytes 1 ∙ ap (drop 1) eb in
      let k : length c.inputs ≡ n = inputs_many ∙ sym en in
      rw (ei, eo, a, take_at c.inputs c.outputs n k, drop_at c.inputs c.outputs n k)

-- the cases of parts
abbrev pub cases_of : List Part → List Case
cases_of ts = map (λ (t : Part). t.case) ts

-- those of a file's parts are the file's cases
cases_of_from : (p : ℕ × ℕ) (file : List ℕ) (n at : ℕ) → cases_of (parts_from p file n at) ≡ cases_from file n at
unfolding parts_from cases_from
cases_of_from p file zero at = refl
cases_of_from p file (suc n) at = ap (λ l. case_at file at ∷ l) (cases_of_from p file n (case_end file at))

pub cases_of_parts : (p : ℕ × ℕ) (file : List ℕ) → cases_of (parts_in p file) ≡ cases_in file
unfolding parts_in cases_in
cases_of_parts p file = cases_of_from p file _ rest_at

-- where some parts are left, they begin with the one at the place
next_part : (p : ℕ × ℕ) (file : List ℕ) (count i at : ℕ) → i + 1 ≤ count
    → parts_from p file (count - i) at ≡ part_at p file at ∷ parts_from p file (count - (i + 1)) (case_end file at)
unfolding parts_from
next_part p file count i at l = let e : count - i ≡ suc (count - (i + 1)) = omega arith in rw e

module _ (s : Cases) where
  -- where all were taken none is left
  pub left_none : s.taken ≡ s.record.count → parts_left s ≡ []
  unfolding parts_from
  left_none e = let z : s.record.count - s.taken ≡ 0 = omega arith in rw z

  module _ (more : s.taken ≡ s.record.count → ⊥) where
    -- else a case fits at the place of the next
    pub left_fits : case_fits s.record.bytes.now s.at ≡ true
    left_fits =
        let p = rules_pass s.record.bytes.now s.record.read in
        rw s.place (place_fits s.record.bytes.now p.0 s.taken (omega (arith, s.few, p.1)))

    -- and ends within the record,
    pub left_inside : case_end s.record.bytes.now s.at ≤ length s.record.bytes.now
    left_inside = (case_fits_law s.record.bytes.now s.at left_fits).1.1

    module _ (is ys : List ℕ) (e : as_case is ys ≡ case_at s.record.bytes.now s.at) where
      -- as many steps on as it has inputs,
      pub left_steps : length is ≡ get_or s.record.bytes.now s.at 0
      left_steps = ap (λ (c : Case). length c.inputs) e ∙ inputs_many s.record.bytes.now s.at left_fits

      -- where the next one's place is,
      pub left_place : s.at + 1 + 2 * length is ≡ place_of s.record.bytes.now (s.taken + 1)
      left_place = place_next s.record.bytes.now s.taken s.at (length is) s.place left_steps

      -- and it is the first of those left
      pub left_next : (q : ℕ × ℕ) → q ≡ (s.record.bytes.ref_ptr.0, s.at + s.record.bytes.ref_ptr.1)
          → parts_left s
          ≡ record { begins = q; case = as_case is ys }
          ∷ parts_from s.record.bytes.ref_ptr s.record.bytes.now (s.record.count - (s.taken + 1)) (s.at + 1 + 2 * length is)
      left_next q eq = rw (e, left_steps, eq) (next_part s.record.bytes.ref_ptr s.record.bytes.now s.record.count s.taken s.at (omega (arith, s.few)))

-- before any was taken all are left
pub left_all : (p : ℕ × ℕ) (file : List ℕ) (count : ℕ) → record_read file ≡ Ok count → parts_from p file (count - 0) rest_at ≡ parts_in p file
unfolding parts_in
left_all p file count e = rw (sub-zero, (rules_pass file e).1)
