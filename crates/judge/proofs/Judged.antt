-- The cases of a record, tried one after the other: where none was missed so far, what is left says what all of them say. And what the judge
-- answers at each of its refusals. Assumes nothing.
use Prim.Native.Nat.{ℕ, ◌-◌, ◌≤◌, ◌<◌}
use mathlib.Core.Path.{◌≡◌, refl, sym, ◌∙◌}
use mathlib.Core.Bool.{Bool, true, false}
use mathlib.Core.List.{List, [], ◌∷◌, ◌++◌}
use mir.Val.{bool_byte}
use borrow.Author.Tests.{not-true, not-false, le-leb, lt-leb}
use lib.Dec.{leb}
use lib.ListN.{length, take, drop}
use Rattle.std.specs.Prelude.{Result, Ok, Err}
use Rattle.shapes.specs.Keep.{every}
use Rattle.shapes.specs.Refusals.{when, ruling, fine, refused}
use Rattle.shapes.proofs.Keep.{bit_told}
use Rattle.shapes.proofs.Refusals.{ruling_here, ruling_past, ruling_end, ruling_join_refused, ruling_join_fine, refused_when, fine_when}
use Rattle.shapes.proofs.Tests.{and_true}
use Rattle.machine.specs.Head.{numbers}
use Rattle.machine.specs.Cell.{TableIn}
use Rattle.machine.specs.Fault.{changed}
use Rattle.machine.specs.Case.{Case, good_case, all_good, CaseIn}
use Rattle.machine.specs.declared.head.Head.{Head}
use Rattle.machine.proofs.Cases.{case_in}
use Rattle.house.specs.Table.{file_cells_at, cells_in, head_in, table_rules, table_read}
use Rattle.house.specs.Cases.{record_rules, record_read, cases_in, alone, cases_rules}
use Rattle.house.specs.Refusal.{ruled}
use Rattle.house.specs.declared.refusal.Refusal.{Refusal}
use Rattle.house.specs.declared.refusal.Refusal.TheVariants.{Number}
use Rattle.house.proofs.Forms.{ruled_refused, ruled_passed}
use Rattle.house.proofs.Tables.{cells_part, table_known, table_taken, table_refused}
use Rattle.house.proofs.Records.{rules_refuse, rules_pass}
use Rattle.diagnosis.specs.Diagnosis.{explains, misses, fails, explains_all}
use Rattle.judge.specs.Judge.{judge_rules, refused_as, judgement}

-- where trying stands: these are left, and no case was missed
pub record Trying (h : Head) (cells : List ℕ) (number : ℕ) (all left : List Case) : Type 0 where
  pub sound : all_good h left ≡ true
  pub same : every (explains (changed h cells number)) left ≡ explains_all h cells all number

module _ (h : Head) (cells : List ℕ) (number : ℕ) (all left : List Case) where
  -- it begins so
  pub trying_begins : left ≡ all → all_good h all ≡ true → Trying h cells number all left
  unfolding explains_all
  trying_begins e ok = rw e (record { sound = ok; same = refl })

  module _ (k : Trying h cells number all left) (c : Case) (rest : List Case) (e : left ≡ c ∷ rest) where
    -- the next case can be run against the head, and so can those after it
    next_sound : (good_case h c.inputs c.outputs ≡ true) × (all_good h rest ≡ true)
    unfolding all_good every
    next_sound = and_true _ _ (rw e at k.sound)

    -- what is known of the next case,
    pub trying_case : CaseIn h c.inputs c.outputs
    trying_case = case_in h _ _ next_sound.0

    -- where it is missed not all are reproduced,
    pub trying_missed : misses h cells number c ≡ true → explains_all h cells all number ≡ false
    unfolding misses fails every
    trying_missed m =
        let no : explains (changed h cells number) c ≡ false = not-true (explains (changed h cells number) c) m in
        sym k.same ∙ rw (e, no)

    -- else those after it decide
    pub trying_goes_on : misses h cells number c ≡ false → Trying h cells number all rest
    unfolding misses fails every
    trying_goes_on m =
        let yes : explains (changed h cells number) c ≡ true = not-false (explains (changed h cells number) c) m in
        record { sound = next_sound.1; same = rw (e, yes) at k.same }

  -- where none is left all are reproduced
  pub trying_ends : Trying h cells number all left → left ≡ [] → explains_all h cells all number ≡ true
  unfolding every
  trying_ends k e = sym (rw e at k.same)

-- the cells that are lent of a table file are a table's where one was read
pub table_lent : (table : List ℕ) (h : Head) → table_read table ≡ Ok h → TableIn h (take (length table - file_cells_at) (drop file_cells_at table))
table_lent table h e = rw (cells_part table) (table_known table h e).0

module _ (table file : List ℕ) (number : ℕ) where
  -- the table's refusal comes first,
  pub judged_table : (r : Refusal) → table_read table ≡ Err r → ruling (judge_rules table file number) ≡ refused r
  unfolding judge_rules
  judged_table r e = ruling_join_refused (table_rules table) _ r ((refused_when (table_rules table) r).1 ((table_refused table r).0 e))

  module _ (h : Head) (e : table_read table ≡ Ok h) where
    -- where it has none, its rules say nothing
    table_fine : ruling (table_rules table) ≡ fine
    table_fine = (fine_when (table_rules table)).1 (table_taken table h e).0

    -- then the record's,
    pub judged_record : (r : Refusal) → record_read file ≡ Err r → ruling (judge_rules table file number) ≡ refused r
    unfolding judge_rules
    judged_record r d = ruling_join_fine (table_rules table) _ table_fine ∙ ruling_join_refused (record_rules file) _ r (rules_refuse file d)

    module _ (n : ℕ) (d : record_read file ≡ Ok n) where
      -- where the files have none, the cases decide and then the number
      cases_next : ruling (judge_rules table file number) ≡ ruling (cases_rules h alone (cases_in file) ++ (when (leb (numbers h) number) Number ∷ []))
      unfolding judge_rules
      cases_next =
          rw
          (ruling_join_fine (table_rules table) _ table_fine, ruling_join_fine (record_rules file) _ (rules_pass file d).0, (table_taken table h e).1)

      -- then STEP,
      pub judged_step : (r : Refusal) → ruling (cases_rules h alone (cases_in file)) ≡ refused r → ruling (judge_rules table file number) ≡ refused r
      judged_step r s = cases_next ∙ ruling_join_refused (cases_rules h alone (cases_in file)) _ r s

      module _ (s : ruling (cases_rules h alone (cases_in file)) ≡ fine) where
        -- then NUMBER,
        pub judged_number : numbers h ≤ number → ruling (judge_rules table file number) ≡ refused Number
        judged_number l = cases_next ∙ ruling_join_fine (cases_rules h alone (cases_in file)) _ s ∙ ruling_here Number [] (le-leb _ _ l)

        -- else none
        pub judged_fine : number < numbers h → ruling (judge_rules table file number) ≡ fine
        judged_fine l = cases_next ∙ ruling_join_fine (cases_rules h alone (cases_in file)) _ s ∙ ruling_past Number [] (lt-leb _ _ l) ∙ ruling_end {R = Refusal}

    -- the cells that are lent are those of the file, and the head is the file's
    pub judged_all : explains_all h (take (length table - file_cells_at) (drop file_cells_at table)) (cases_in file) number
        ≡ explains_all (head_in table) (cells_in table) (cases_in file) number
    judged_all = rw (cells_part table, (table_taken table h e).1)

  module _ (x : Result Bool Refusal)
      (e : x ≡ ruled (ruling (judge_rules table file number)) (explains_all (head_in table) (cells_in table) (cases_in file) number)) where
    -- what is answered where no rule refuses, as a number,
    pub judged_done : (b : Bool) → x ≡ Ok b → bool_byte b ≡ judgement table file number
    unfolding judgement
    judged_done b eb = let p = ruled_passed _ _ (sym e ∙ eb) in rw p.0 (bit_told p.1).0

    -- and where one does
    pub judged_refused : (r : Refusal) → x ≡ Err r → refused_as r ≡ judgement table file number
    unfolding judgement
    judged_refused r er = rw (ruled_refused _ _ (sym e ∙ er))
