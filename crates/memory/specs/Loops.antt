-- For loops of the code: a place as it is read, and the steps of a case as they are stored. No promise of the paper's speaks of these.
use Rattle.std.specs.Prelude.{ℕ, List, get_or}
use Rattle.shapes.specs.Edit.{edit}
use Rattle.machine.specs.Limits.{steps_most}
use Rattle.memory.specs.Layout.{place_at, steps_of}
use Rattle.memory.specs.declared.layout.Place.{Place}

-- a place, as it is read
abbrev pub read_place : List ℕ → ℕ → Place
read_place s p = record { at = place_at p; steps = steps_of s p }

-- 64 steps from a place on, of a list's first, with zeros after
abbrev pub steps_stored : List ℕ → ℕ → List ℕ → List ℕ
steps_stored steps at s = edit (λ i old. get_or steps i 0) at steps_most s
