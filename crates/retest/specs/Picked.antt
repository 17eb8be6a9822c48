-- The case picked, with where it stands in the two records that are lent. It serves the code, and is no promise of the paper's.
use Rattle.std.specs.Prelude.{ℕ, List, Bool, Result, Ok, Err}
use Rattle.std.specs.List.{find}
use Rattle.std.specs.Option.{unwrap_or}
use Rattle.machine.specs.Case.{Case}
use Rattle.house.specs.Walk.{place_of}
use Rattle.house.specs.Left.{Part, lent_part, part_at, parts_in}
use Rattle.house.specs.declared.record.Case as Case_lent
use Rattle.house.specs.declared.refusal.Refusal.{Refusal}
use Rattle.retest.specs.Retest.{same_inputs}

-- an answer, with the case that is lent as it stands
abbrev pub as_part : Result Case_lent.Case Refusal → Result Part Refusal
as_part (Ok c) = Ok (lent_part c)
as_part (Err r) = Err r

-- a part's case has the inputs of a case
abbrev pub is_again : Case → Part → Bool
is_again c t = same_inputs c t.case

-- the first part of the retest with the inputs of the case at the position of the first record, else that case's own part
abbrev pub picked_part : ℕ × ℕ → ℕ × ℕ → List ℕ → List ℕ → ℕ → Part
picked_part p q a b position = unwrap_or (find (is_again (part_at p a (place_of a position)).case) (parts_in q b)) (part_at p a (place_of a position))
