-- `judge::judgement_of` meets its contract: each way out is the first rule that refuses, or whether every case is reproduced.
use mathlib.Core.Path.{sym, ap, ◌∙◌}
use native.Mathlib.Omega.{arith}
use Rattle.std.proofs.lemmas.Result.{err_from_is_err_and}
use Rattle.std.specs.Prelude.{Ok}
use Rattle.house.proofs.Forms.{checked_fine, checked_refused}
use Rattle.house.proofs.Tables.{table_known}
use Rattle.house.proofs.Against.{cases_fine}
use Rattle.judge.proofs.Judged.{table_lent, judged_table, judged_record, judged_step, judged_number, judged_fine, judged_all}
use Rattle.judge.proofs.judgement_of.Goals as goal

pub returns-in_err-head : goal.returns-in_err-head
returns-in_err-head c =
    let p = err_from_is_err_and c.from_residual.result c.from_residual.ensures.1 in
    rw (p.1, p.2, judged_table _ _ _ _ (sym c.read_table.ensures ∙ c.in_err-head.was))

pub returns-in_err-read_record : goal.returns-in_err-read_record
returns-in_err-read_record c =
    let p = err_from_is_err_and c.from_residual-in_err-read_record.result c.from_residual-in_err-read_record.ensures.1 in
    rw (p.1, p.2, judged_record _ _ _ _ (sym c.read_table.ensures ∙ c.in_ok-head.was) _ (sym c.read_record.ensures ∙ c.in_err-read_record.was))

pub returns-in_err-check_cases : goal.returns-in_err-check_cases
returns-in_err-check_cases c =
    let p = err_from_is_err_and c.from_residual-in_err-check_cases.result c.from_residual-in_err-check_cases.ensures.1 in
    let s = checked_refused _ (sym c.check_cases.ensures ∙ c.in_err-check_cases.was) in
    rw (p.1, p.2, judged_step _ _ _ _ (sym c.read_table.ensures ∙ c.in_ok-head.was) _ (sym c.read_record.ensures ∙ c.in_ok-read_record.was) _ s)

pub numbers-requires : goal.numbers-requires
numbers-requires c = (table_known _ _ (sym c.read_table.ensures ∙ c.in_ok-head.was)).0.head

pub returns-then-numbers-number : goal.returns-then-numbers-number
returns-then-numbers-number c =
    let s = checked_fine _ (sym c.check_cases.ensures ∙ c.in_ok-check_cases.was) in
    rw (judged_number _ _ c.args.number _ (sym c.read_table.ensures ∙ c.in_ok-head.was) _ (sym c.read_record.ensures ∙ c.in_ok-read_record.was) s (omega (arith, c.numbers.ensures.value, c.if-numbers-number.true)))

pub slice_bounds-table-count : goal.slice_bounds-table-count
slice_bounds-table-count c = omega (arith, (table_known _ _ (sym c.read_table.ensures ∙ c.in_ok-head.was)).1)

pub slice_bounds-table-start : goal.slice_bounds-table-start
slice_bounds-table-start c = omega (arith, (table_known _ _ (sym c.read_table.ensures ∙ c.in_ok-head.was)).1)

pub invariant_of-table : goal.invariant_of-table
invariant_of-table c = record { sound = table_lent _ _ (sym c.read_table.ensures ∙ c.in_ok-head.was) }

pub is_explained-requires-clause-record_good : goal.is_explained-requires-clause-record_good
is_explained-requires-clause-record_good c = (cases_fine _ _ _).0 (checked_fine _ (sym c.check_cases.ensures ∙ c.in_ok-check_cases.was))

pub returns : goal.returns
returns c =
    let t = sym c.read_table.ensures ∙ c.in_ok-head.was in
    let s = checked_fine _ (sym c.check_cases.ensures ∙ c.in_ok-check_cases.was) in
    rw (judged_fine _ _ c.args.number _ t _ (sym c.read_record.ensures ∙ c.in_ok-read_record.was) s (omega (arith, c.numbers.ensures.value, c.if-numbers-number.false)))
    (ap Ok (c.is_explained.ensures ∙ judged_all _ _ _ _ t))
