-- The run of a machine, and what a case shows against it (document 01, "Machine", "Symptoms, conflict sets, verdict"; document 000).
-- The layers above rest on the laws of `proofs/Run.antt` and unfold none of these; the table of examples, which computes, does.
use Rattle.std.specs.Prelude.{ℕ, suc, List, [], ◌∷◌, Bool, true, cond, ◌&&◌, eqb}
use Rattle.machine.specs.Limits.{steps_most}
use Rattle.machine.specs.Machine.{Machine, initial, cell_number}
use Rattle.machine.specs.declared.replay.Symptoms.{Symptoms}

-- the outputs that the machine gives to the inputs, from a state
unfoldable pub run : Machine → ℕ → List ℕ → List ℕ
run M s [] = []
run M s (i ∷ is) = (M.does (cell_number M.inputs s i)).output ∷ run M (M.does (cell_number M.inputs s i)).next is

-- the cells that it executes
unfoldable pub path : Machine → ℕ → List ℕ → List ℕ
path M s [] = []
path M s (i ∷ is) = cell_number M.inputs s i ∷ path M (M.does (cell_number M.inputs s i)).next is

-- an observed output agrees with a given one: it is equal
unfoldable pub agrees : ℕ → ℕ → Bool
agrees seen given = eqb seen given

-- at how many steps the observed outputs do not agree with the given ones
unfoldable pub differing : List ℕ → List ℕ → ℕ
differing [] ys = 0
differing (g ∷ gs) [] = 0
differing (g ∷ gs) (y ∷ ys) = cond (agrees y g) (differing gs ys) (suc (differing gs ys))

-- the first such step, where the first is counted as t; 64 if there is none
unfoldable pub first_differing : ℕ → List ℕ → List ℕ → ℕ
first_differing t [] ys = steps_most
first_differing t (g ∷ gs) [] = steps_most
first_differing t (g ∷ gs) (y ∷ ys) = cond (agrees y g) (first_differing (suc t) gs ys) t

-- every observed output agrees with the given one
unfoldable pub matching : List ℕ → List ℕ → Bool
matching [] ys = true
matching (g ∷ gs) [] = true
matching (g ∷ gs) (y ∷ ys) = agrees y g && matching gs ys

-- "Each case begins at state 0": the outputs that are expected of the machine in a case
unfoldable pub expected : Machine → List ℕ → List ℕ
expected M is = run M initial is

-- and the cells that it executes in it
unfoldable pub executed : Machine → List ℕ → List ℕ
executed M is = path M initial is

-- "the count of differing steps and the first of them (64 if there is none)"
unfoldable pub symptoms_of : Machine → List ℕ → List ℕ → Symptoms
symptoms_of M is ys = record { count = differing (expected M is) ys; first = first_differing 0 (expected M is) ys }

-- the machine gives every observed output of the case
unfoldable pub reproduces : Machine → List ℕ → List ℕ → Bool
reproduces M is ys = matching (expected M is) ys
