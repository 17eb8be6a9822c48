-- For the loops that replay a case: a replay is "state, step reached and symptoms so far" (document 01, "Machine"), one step after the other.
-- What a case shows is said of the run (`Run.antt`); no call's answer speaks of these.
use Rattle.std.specs.Prelude.{ℕ, ◌+◌, ◌<◌, ◌≤◌, ◌≡◌, List, [], ◌∷◌, cond, eqb}
use Rattle.machine.specs.Limits.{steps_most}
use Rattle.machine.specs.Machine.{Machine, initial, cell_number}
use Rattle.machine.specs.Run.{agrees}
use Rattle.machine.specs.declared.head.Head.{Head}
use Rattle.machine.specs.declared.cell.Move.{Move}
use Rattle.machine.specs.declared.fault.Change.{Change}
use Rattle.machine.specs.declared.replay.Replay.{Replay}

-- before the first step: the initial state, no symptom
unfoldable pub fresh : Replay
fresh = record { state = initial; step = 0; symptoms = 0; first = steps_most }

-- after a step whose observed output agrees
unfoldable pub passed : Replay → Move → Replay
passed r to = record { state = to.next; step = r.step + 1; symptoms = r.symptoms; first = r.first }

-- after one whose output does not: a symptom more, and the first unless there was one
unfoldable pub failed : Replay → Move → Replay
failed r to =
    record { state = to.next; step = r.step + 1; symptoms = r.symptoms + 1; first = cond (eqb r.symptoms 0) r.step r.first }

-- the replay after the step that the machine moved and y was observed
unfoldable pub stepped : Replay → Move → ℕ → Replay
stepped r to y = cond (agrees y to.output) (passed r to) (failed r to)

-- the replay after the machine took input i and y was observed
unfoldable pub taken : Machine → Replay → ℕ → ℕ → Replay
taken M r i y = stepped r (M.does (cell_number M.inputs r.state i)) y

-- the replay after the steps of a case
unfoldable pub replayed : Machine → Replay → List ℕ → List ℕ → Replay
replayed M r [] ys = r
replayed M r (i ∷ is) [] = r
replayed M r (i ∷ is) (y ∷ ys) = replayed M (taken M r i y) is ys

-- a cell, and the move to make there
abbrev pub change_at : ℕ → Move → Change
change_at c to = record { cell = c; to = to }

-- one replay stands a step after another
abbrev pub NextStep : Replay → Replay → Type 0
NextStep r x = x.step ≡ r.step + 1

-- what is known of a replay on its way
pub record ReplayIn (h : Head) (r : Replay) : Type 0 where
  pub state_in : r.state < h.states
  pub few_symptoms : r.symptoms ≤ r.step
