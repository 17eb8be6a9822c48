-- The head of a table: n states, k inputs, m outputs (document 01, "Machine").
use Rattle.std.specs.Prelude.{ℕ, ◌+◌, ◌*◌, ◌≤◌, Bool, cond, ◌&&◌, leb, Option, Some, None}
use Rattle.machine.specs.Limits.{states_most, inputs_most, outputs_most}
use Rattle.machine.specs.declared.head.Head.{Head}

-- x is at least 1 and at most top
abbrev pub within : ℕ → ℕ → Bool
within x top = leb 1 x && leb x top

-- "n, k and m are each 1 to 16"
unfoldable pub good_head : Head → Bool
good_head h = within h.states states_most && within h.inputs inputs_most && within h.outputs outputs_most

-- three numbers make a head, or none
unfoldable pub made_head : ℕ → ℕ → ℕ → Option Head
made_head n k m =
    let h : Head = record { states = n; inputs = k; outputs = m } in
    cond (good_head h) (Some h) None

-- what is known of a head that was made
pub record HeadIn (h : Head) : Type 0 where
  pub some_states : 1 ≤ h.states
  pub few_states : h.states ≤ states_most
  pub some_inputs : 1 ≤ h.inputs
  pub few_inputs : h.inputs ≤ inputs_most
  pub some_outputs : 1 ≤ h.outputs
  pub few_outputs : h.outputs ≤ outputs_most

-- how many cells the table has
abbrev pub cell_count : Head → ℕ
cell_count h = h.states * h.inputs

-- how many fault numbers a cell has: an output for each of m, a transfer for each of n
abbrev pub width : Head → ℕ
width h = h.states + h.outputs

-- "the numbers are those below n × k × (n + m)"
abbrev pub numbers : Head → ℕ
numbers h = cell_count h * width h
