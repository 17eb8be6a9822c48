-- The tallies (document 01, "Fault numbers", DAMAGED): what a case adds to each, when one can be taken out again, and when they are true.
use Rattle.std.specs.Prelude.{ℕ, ◌+◌, ◌-◌, ◌<◌, ◌≡◌, List, Bool, ◌&&◌, leb, length, get_or}
use Rattle.shapes.specs.First.{all_to}
use Rattle.machine.specs.Head.{numbers}
use Rattle.machine.specs.Case.{Case}
use Rattle.machine.specs.Runs.{Bench}
use Rattle.diagnosis.specs.Diagnosis.{tally, misses}
use Rattle.memory.specs.Layout.{head_of, cells_of, case_of, cases}
use Rattle.shapes.specs.Edit.{edit}
use Rattle.shapes.specs.Keep.{bit}

-- every tally in use counts the held cases that its number's machine doesn't reproduce
abbrev pub TrueTallies : List ℕ → List ℕ → Type 0
TrueTallies s t = (f : ℕ) → f < numbers (head_of s) → get_or t f 0 ≡ tally (head_of s) (cells_of s) (cases s) f

-- 1 where number f's machine misses a case, else 0
unfoldable pub miss : List ℕ → Case → ℕ → ℕ
miss s c f = bit (misses (head_of s) (cells_of s) f c)

-- and on a table that is no session's yet
unfoldable pub miss_by : Bench → ℕ → ℕ
miss_by b f = bit (misses b.head b.cells f b.case)

-- a tally can lose so much: not "below 0", nor left "above the count of the cases then left"
abbrev pub can_lose_by : ℕ → ℕ → ℕ → Bool
can_lose_by less old left = leb less old && leb (old - less) left

-- so each tally in use can lose a case, with so many cases then left
unfoldable pub can_lower_by : Bench → List ℕ → ℕ → Bool
can_lower_by b t left = all_to (λ f. can_lose_by (miss_by b f) (get_or t f 0) left) (numbers b.head)

unfoldable pub can_lower : List ℕ → List ℕ → Case → ℕ → Bool
can_lower s t c left = all_to (λ f. can_lose_by (miss s c f) (get_or t f 0) left) (numbers (head_of s))

-- and so the case of a place: not "taking the old case away would bring a tally below 0 or leave one above the count of the cases then left"
unfoldable pub can_take : List ℕ → List ℕ → ℕ → Bool
unfolding can_lower
can_take s t p = can_lower s t (case_of s p) (length (cases s) - 1)

-- each tally with a case counted in, and with one counted out
unfoldable pub raised : List ℕ → Case → List ℕ → List ℕ
raised s c t = edit (λ f old. old + miss s c f) 0 (numbers (head_of s)) t

unfoldable pub lowered : List ℕ → Case → List ℕ → List ℕ
lowered s c t = edit (λ f old. old - miss s c f) 0 (numbers (head_of s)) t

unfoldable pub raised_by : Bench → List ℕ → List ℕ
raised_by b t = edit (λ f old. old + miss_by b f) 0 (numbers b.head) t

unfoldable pub lowered_by : Bench → List ℕ → List ℕ
lowered_by b t = edit (λ f old. old - miss_by b f) 0 (numbers b.head) t
