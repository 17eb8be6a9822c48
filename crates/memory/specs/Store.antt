-- What is stored in a session (document 01, "Session memory"): a case in a place, a table at a start, tallies cleared.
use Rattle.std.specs.Prelude.{ℕ, ◌+◌, List, get_or}
use Rattle.shapes.specs.Edit.{edit}
use Rattle.machine.specs.Case.{Case}
use Rattle.house.specs.File.{rest_at}
use Rattle.memory.specs.Layout.{place_size, session_size, tallies_size, place_at, place_byte}

-- a place with a case in it; with no case it is zeroed
unfoldable pub placed : List ℕ → ℕ → Case → List ℕ
placed s p c = edit (λ i old. place_byte c i) (place_at p) place_size s

-- start: "copies the table in and clears places and tallies". What follows the length field of a table file is what a session begins with.
unfoldable pub started : List ℕ → List ℕ → List ℕ
started s file = edit (λ i old. get_or file (rest_at + i) 0) 0 session_size s

unfoldable pub cleared : List ℕ → List ℕ
cleared t = edit (λ f old. 0) 0 tallies_size t
