-- `report::conflicts::candidates` meets its contract: what the form's check refuses, then SHORT; where no case fails all are 0, and else the
-- cases leave the candidates of all ones.
use mathlib.Core.Path.{ap, ◌∙◌}
use native.Mathlib.Omega.{arith}
use Rattle.shapes.proofs.Tests.{lacks, holds}
use Rattle.house.specs.Refusal.{wrote}
use Rattle.house.proofs.Forms.{passed_on}
use Rattle.diagnosis.proofs.Conflicts.{ones_bits}
use Rattle.memory.proofs.Formed.{formed_held}
use Rattle.memory.proofs.Known.{told_fine, rules_formed}
use Rattle.report.proofs.Saved.{candidates_refused, candidates_short, candidates_written, candidates_none, candidates_of_ones}
use Rattle.report.proofs.conflicts.candidates.Goals as goal

pub returns-in_err-check_form : goal.returns-in_err-check_form
returns-in_err-check_form c =
    ap (λ r. wrote r c.args.out.now) (passed_on c.from_residual.result c.from_residual.ensures.1) ∙ candidates_refused _ _ c.check_form.ensures _ c.in_err-check_form.was

pub returns-then-out-lt-CELLS : goal.returns-then-out-lt-CELLS
returns-then-out-lt-CELLS c = candidates_short _ _ c.check_form.ensures c.in_ok-check_form.was _ c.if-out-lt-CELLS.true

pub invariant_of-held : goal.invariant_of-held
invariant_of-held c = record { known = formed_held _ _ (rules_formed _ _ (told_fine _ c.check_form.ensures c.in_ok-check_form.was)) }

pub returns-then-not-is_some_failing : goal.returns-then-not-is_some_failing
returns-then-not-is_some_failing c =
    candidates_written _ _ c.check_form.ensures c.in_ok-check_form.was _ _ (omega arith) (candidates_none _ _ _ _ _ (lacks c.is_some_failing.ensures c.if-not-is_some_failing.true) c.fill.ensures)

pub narrow_all-requires : goal.narrow_all-requires
narrow_all-requires c = ones_bits _ _ (omega arith) c.fill-2.ensures

pub returns : goal.returns
returns c =
    candidates_written _ _ c.check_form.ensures c.in_ok-check_form.was _ _ (omega arith)
    (candidates_of_ones _ _ _ _ _ _ (omega arith) (holds c.is_some_failing.ensures c.if-not-is_some_failing.false) c.fill-2.ensures c.narrow_all.ensures)
