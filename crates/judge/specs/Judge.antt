-- The judge of the bench harness (document 01, "The C side"): "It hands over a table file, a record and a fault number and gets 1 if that
-- changed machine reproduces the record, 0 if not, else 16 plus the refusal: table, record, STEP, NUMBER in that order."
use Rattle.std.specs.Prelude.{ℕ, ◌+◌, List, [], ◌∷◌, ◌++◌, Bool, leb}
use Rattle.shapes.specs.Keep.{bit}
use Rattle.shapes.specs.Refusals.{Rule, when, Ruling, fine, refused, ruling}
use Rattle.machine.specs.Head.{numbers}
use Rattle.house.specs.Refusal.{number_of}
use Rattle.house.specs.Table.{head_in, cells_in, table_rules}
use Rattle.house.specs.Cases.{record_rules, cases_in, alone, cases_rules}
use Rattle.house.specs.declared.refusal.Refusal.{Refusal}
use Rattle.house.specs.declared.refusal.Refusal.TheVariants.{Number}
use Rattle.diagnosis.specs.Diagnosis.{explains_all}

-- the refusals, "table, record, STEP, NUMBER in that order"
unfoldable pub judge_rules : List ℕ → List ℕ → ℕ → List (Rule Refusal)
judge_rules table file number =
    table_rules table
    ++ (record_rules file
    ++ (cases_rules (head_in table) alone (cases_in file)
    ++ (when (leb (numbers (head_in table)) number) Number ∷ [])))

-- what is added to the number of a refusal
abbrev pub refused_from : ℕ
refused_from = 16

-- "16 plus the refusal"
abbrev pub refused_as : Refusal → ℕ
refused_as r = refused_from + number_of r

-- what is answered: 1 or 0, else the refusal
abbrev pub judged : Ruling Refusal → Bool → ℕ
judged fine b = bit b
judged (refused r) b = refused_as r

-- what the judge answers: whether the number's machine reproduces each case of the record, where no rule refuses
unfoldable pub judgement : List ℕ → List ℕ → ℕ → ℕ
judgement table file number =
    judged (ruling (judge_rules table file number)) (explains_all (head_in table) (cells_in table) (cases_in file) number)
