-- The numbers to check that document 01 marks P ("Product tables and numbers to check"), one row each, under one claim: of every session that
-- was started with a table file, and to which calls were then made.
use Rattle.std.specs.Prelude.{ℕ, ◌≤◌, ◌<◌, ◌≡◌, List, [], ◌∷◌, ◌++◌, length, get_or, Ok, Result}
use Rattle.shapes.specs.Edit.{edit, filled}
use Rattle.shapes.specs.Keep.{has, bit}
use Rattle.machine.specs.Limits.{cells_most}
use Rattle.machine.specs.Head.{numbers}
use Rattle.machine.specs.Run.{expected}
use Rattle.house.specs.declared.refusal.Refusal.{Refusal}
use Rattle.house.specs.Refusal.{wrote}
use Rattle.house.specs.Table.{table_file}
use Rattle.product.specs.Tables.{product_head, product_cells}
use Rattle.product.specs.declared.Product.TheVariants.{FiveLitre, EightLitre}
use Rattle.diagnosis.specs.declared.Verdict.{Verdict}
use Rattle.diagnosis.specs.declared.Verdict.TheVariants as verdicts
use Rattle.memory.specs.Layout.{session_size, tallies_size, head_of}
use Rattle.session.specs.Calls.{offered, start_call}
use Rattle.session.specs.History.{Call, add, withdraw, memory, left, called_all, Memory, answer_of, answered, called}
use Rattle.reading.specs.Reads.{machine_of, Listed, listed, list_call, faults}
use Rattle.report.specs.Reports.{conflict_call}
use Rattle.reading.specs.declared.list.Listing.{Listing}

-- the table files of the five-litre and of the eight-litre product
abbrev pub five : List ℕ
five = table_file (product_head FiveLitre) (product_cells FiveLitre)

abbrev pub eight : List ℕ
eight = table_file (product_head EightLitre) (product_cells EightLitre)

-- that of the table with 1 state, 1 input, m outputs and the one cell 0/0
abbrev pub single : ℕ → List ℕ
single m = table_file (record { states = 1; inputs = 1; outputs = m }) (0 ∷ 0 ∷ [])

-- "case .. seen ..": the call that adds it
infix 70 case◌seen◌
abbrev pub case◌seen◌ : List ℕ → List ℕ → Call
case is seen ys = add (offered is ys)

-- the calls of P5, of P6 and of P7: a case, one more, and the first withdrawn
abbrev pub calls_p5 : List Call
calls_p5 = case (1 ∷ 2 ∷ 1 ∷ []) seen (3 ∷ 0 ∷ 0 ∷ []) ∷ []

abbrev pub calls_p6 : List Call
calls_p6 = calls_p5 ++ (case (1 ∷ 2 ∷ 0 ∷ []) seen (3 ∷ 0 ∷ 1 ∷ []) ∷ [])

abbrev pub calls_p7 : List Call
calls_p7 = calls_p6 ++ (withdraw 0 ∷ [])

-- the call of P8
abbrev pub calls_p8 : List Call
calls_p8 = case (1 ∷ 2 ∷ 1 ∷ []) seen (3 ∷ 0 ∷ 2 ∷ []) ∷ []

-- each of some calls on a memory, one after the other, answers Ok
abbrev pub AllDone : List Call → Memory → Type 0
AllDone [] x = Unit {0}
AllDone (c ∷ cs) x = ((n : ℕ) × (answered c x ≡ Ok n)) × AllDone cs (called c x)

-- what is so of every session that is started with a table file in any memory with room, and to which calls are then made: the start and each call
-- answer Ok, and of what they leave it is so
abbrev pub InSession : List ℕ → List Call → (List ℕ → List ℕ → Type 0) → Type 0
InSession file calls So =
    (s t : List ℕ) → session_size ≤ length s → tallies_size ≤ length t
    → (answer_of (start_call s t file) ≡ Ok 0)
    × AllDone calls (left (start_call s t file))
    × ((s' t' : List ℕ) → called_all calls (left (start_call s t file)) ≡ memory s' t' → So s' t')

-- what a list call answers, whatever it leaves
abbrev pub listing : Listed → Result Listing Refusal
listing (listed a left) = a

-- what a row says of a table file and calls
pub data Example : Type 0 where
  -- inputs expect outputs, in a session just started
  gives : List ℕ → List ℕ → List ℕ → Example
  -- the list call answers a verdict and leaves a whole list
  diagnoses : List ℕ → List Call → Verdict → List ℕ → Example
  -- the list call answers a verdict and so many faults
  counts_listed : List ℕ → List Call → Verdict → ℕ → Example
  -- the conflict call of a place writes a set of cells, as 256 bytes
  has_conflict : List ℕ → List Call → ℕ → List ℕ → Example
  -- a number has a tally
  has_tally : List ℕ → List Call → ℕ → ℕ → Example
  -- the numbers, so many, all have one tally
  all_tallies : List ℕ → List Call → ℕ → ℕ → Example

-- what it means that a row is true
abbrev pub Holds : Example → Type 0
Holds (gives file is ys) = InSession file [] (λ s t. expected (machine_of s) is ≡ ys)
Holds (diagnoses file calls v l) =
    InSession file calls
    (λ s t. (out : List ℕ) → length l ≤ length out → list_call s t out ≡ listed (faults v (length l)) (filled out 0 l))
Holds (counts_listed file calls v n) =
    InSession file calls (λ s t. (out : List ℕ) → n ≤ length out → listing (list_call s t out) ≡ faults v n)
Holds (has_conflict file calls p cells) =
    InSession file calls
    (λ s t. (out : List ℕ) → cells_most ≤ length out → conflict_call s t p out ≡ wrote (Ok 0) (edit (λ c old. bit (has c cells)) 0 cells_most out))
Holds (has_tally file calls f k) = InSession file calls (λ s t. get_or t f 0 ≡ k)
Holds (all_tallies file calls n k) =
    InSession file calls (λ s t. (numbers (head_of s) ≡ n) × ((f : ℕ) → f < n → get_or t f 0 ≡ k))

-- the one claim: every row is true
abbrev pub All : List Example → Type 0
All [] = Unit {0}
All (e ∷ es) = Holds e × All es

-- the rows
unfoldable pub examples : List Example
examples =
    -- P1
    gives five (1 ∷ 0 ∷ 2 ∷ 0 ∷ []) (3 ∷ 1 ∷ 0 ∷ 2 ∷ [])
    -- P2
    ∷ gives five (1 ∷ 1 ∷ []) (3 ∷ 0 ∷ [])
    ∷ gives eight (1 ∷ 1 ∷ []) (3 ∷ 4 ∷ [])
    -- P3
    ∷ diagnoses five (case (0 ∷ 0 ∷ []) seen (1 ∷ 3 ∷ []) ∷ []) verdicts.Found (27 ∷ [])
    -- P4
    ∷ diagnoses five (case (0 ∷ 0 ∷ []) seen (1 ∷ 1 ∷ []) ∷ []) verdicts.Found (4 ∷ 6 ∷ 25 ∷ [])
    -- P5
    ∷ has_conflict five calls_p5 0 (1 ∷ 8 ∷ [])
    ∷ diagnoses five calls_p5 verdicts.Found (70 ∷ 71 ∷ [])
    -- P6: P5 with a case added
    ∷ diagnoses five calls_p6 verdicts.Found (70 ∷ [])
    ∷ has_tally five calls_p6 71 1
    -- P7: P6 with the first case withdrawn
    ∷ counts_listed five calls_p7 verdicts.Clear 53
    -- P8
    ∷ diagnoses five calls_p8 verdicts.None []
    ∷ all_tallies five calls_p8 96 1
    -- P9
    ∷ diagnoses (single 2) (case (0 ∷ []) seen (1 ∷ []) ∷ []) verdicts.Found (1 ∷ [])
    ∷ diagnoses (single 2) (case (0 ∷ 0 ∷ []) seen (0 ∷ 1 ∷ []) ∷ []) verdicts.None []
    -- P10
    ∷ diagnoses (single 1) (case (0 ∷ 0 ∷ []) seen (0 ∷ 0 ∷ []) ∷ []) verdicts.Clear []
    -- beside the paper's: the undefined cell at step 2 stays in state 3; and with the first symptom at step 1 cell 0, which is executed at
    -- step 2, isn't in the conflict set
    ∷ gives five (1 ∷ 0 ∷ 1 ∷ 0 ∷ []) (3 ∷ 1 ∷ 0 ∷ 2 ∷ [])
    ∷ has_conflict five (case (1 ∷ 2 ∷ 0 ∷ []) seen (3 ∷ 1 ∷ 3 ∷ []) ∷ []) 0 (1 ∷ 8 ∷ [])
    ∷ []
