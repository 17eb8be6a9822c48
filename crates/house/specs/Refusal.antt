-- The paper's number of each refusal and what it carries (document 01, "Refusal numbers"), and what a list of rules makes a call answer.
use Rattle.std.specs.Prelude.{ℕ, ◌≡◌, List, Result, Ok, Err}
use Rattle.shapes.specs.Refusals.{Ruling, fine, refused}
use Rattle.house.specs.declared.refusal.Refusal.{Refusal}
use Rattle.house.specs.declared.refusal.Refusal.TheVariants.{Short, Version, Length, Size, Cell, Step, Full, Slot, Damaged, Record, Number}

-- the number of a refusal
abbrev pub number_of : Refusal → ℕ
number_of (Short n) = 1
number_of Version = 2
number_of Length = 3
number_of Size = 4
number_of (Cell c) = 5
number_of Step = 6
number_of Full = 7
number_of Slot = 8
number_of Damaged = 9
number_of Record = 10
number_of Number = 11

-- "A refusal carries 0 beside its number, except CELL's cell, and SHORT .. the count of entries or bytes needed"
abbrev pub carried_of : Refusal → ℕ
carried_of (Short n) = n
carried_of Version = 0
carried_of Length = 0
carried_of Size = 0
carried_of (Cell c) = c
carried_of Step = 0
carried_of Full = 0
carried_of Slot = 0
carried_of Damaged = 0
carried_of Record = 0
carried_of Number = 0

-- the paper's table, number by number, so that a definition and its code cannot be changed alike (`proofs/Refusing.antt: paper-refusals`)
pub record PaperRefusals : Type 0 where
  -- "1 SHORT"
  pub short_number : (n : ℕ) → number_of (Short n) ≡ 1
  -- "2 VERSION"
  pub version_number : number_of Version ≡ 2
  -- "3 LENGTH"
  pub length_number : number_of Length ≡ 3
  -- "4 SIZE"
  pub size_number : number_of Size ≡ 4
  -- "5 CELL"
  pub cell_number_law : (c : ℕ) → number_of (Cell c) ≡ 5
  -- "6 STEP"
  pub step_number : number_of Step ≡ 6
  -- "7 FULL"
  pub full_number : number_of Full ≡ 7
  -- "8 SLOT"
  pub slot_number : number_of Slot ≡ 8
  -- "9 DAMAGED"
  pub damaged_number : number_of Damaged ≡ 9
  -- "10 RECORD"
  pub record_number : number_of Record ≡ 10
  -- "11 NUMBER"
  pub number_number : number_of Number ≡ 11
  -- "SHORT .. carries the count of entries or bytes needed"
  pub short_carries : (n : ℕ) → carried_of (Short n) ≡ n
  -- "CELL's cell"
  pub cell_carries : (c : ℕ) → carried_of (Cell c) ≡ c
  -- "A refusal carries 0 beside its number, except" these two
  pub version_carries : carried_of Version ≡ 0
  pub length_carries : carried_of Length ≡ 0
  pub size_carries : carried_of Size ≡ 0
  pub step_carries : carried_of Step ≡ 0
  pub full_carries : carried_of Full ≡ 0
  pub slot_carries : carried_of Slot ≡ 0
  pub damaged_carries : carried_of Damaged ≡ 0
  pub record_carries : carried_of Record ≡ 0
  pub number_carries : carried_of Number ≡ 0

-- what a call answers: what there is to answer where no rule refuses, else the refusal
abbrev pub ruled : {A : Type 0} → Ruling Refusal → A → Result A Refusal
ruled fine a = Ok a
ruled (refused r) a = Err r

-- a call that only checks answers what its rules say
abbrev pub checked : Ruling Refusal → Result (Unit {0}) Refusal
checked r = ruled r tt

-- what a call answers, with what it leaves in the one buffer lent to it
pub data Written : Type 0 where
  wrote : Result ℕ Refusal → List ℕ → Written

-- a call that writes a buffer: where its rules say nothing it answers the number and leaves the new list; a refusal leaves the old
abbrev pub written_or : Ruling Refusal → ℕ → List ℕ → List ℕ → Written
written_or fine n old new = wrote (Ok n) new
written_or (refused r) n old new = wrote (Err r) old
