-- `report::save::save` meets its contract: what the form's check refuses, then SHORT, and else the head and the cases after it are the
-- record.
use mathlib.Core.Path.{ap, ◌∙◌}
use native.Mathlib.Omega.{arith}
use Rattle.house.specs.Refusal.{wrote}
use Rattle.house.proofs.Forms.{passed_on}
use Rattle.memory.proofs.Formed.{formed_held}
use Rattle.memory.proofs.Known.{told_fine, rules_formed}
use Rattle.report.proofs.Saved.{record_some, record_room, save_refused, save_short, save_written}
use Rattle.report.proofs.save.save.Goals as goal

pub returns-in_err-check_form : goal.returns-in_err-check_form
returns-in_err-check_form c =
    ap (λ r. wrote r c.args.out.now) (passed_on c.from_residual.result c.from_residual.ensures.1) ∙ save_refused _ _ c.check_form.ensures _ c.in_err-check_form.was

pub invariant_of-held : goal.invariant_of-held
invariant_of-held c = record { known = formed_held _ _ (rules_formed _ _ (told_fine _ c.check_form.ensures c.in_ok-check_form.was)) }

pub returns-then-out-bytes : goal.returns-then-out-bytes
returns-then-out-bytes c = save_short _ _ c.check_form.ensures c.in_ok-check_form.was _ _ c.record_bytes-bytes.ensures.value c.if-out-bytes.true

pub overflow_sub-bytes : goal.overflow_sub-bytes
overflow_sub-bytes c = omega (arith, record_some _ c.record_bytes-bytes.ensures.value)

pub put_file_head-requires-clause-rest_at_in_bounds : goal.put_file_head-requires-clause-rest_at_in_bounds
put_file_head-requires-clause-rest_at_in_bounds c = omega (arith, record_some _ c.record_bytes-bytes.ensures.value)

pub write_cases-requires : goal.write_cases-requires
write_cases-requires c = record_room _ _ _ _ c.record_bytes-bytes.ensures.value (omega arith) c.put_file_head.ensures

pub returns : goal.returns
returns c = save_written _ _ c.check_form.ensures c.in_ok-check_form.was _ _ _ _ c.record_bytes-bytes.ensures.value (omega arith) c.put_file_head.ensures c.write_cases.ensures
