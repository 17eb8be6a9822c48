use mathlib.Core.Path.{sym}
use native.Mathlib.Nat.{zero-add}
use native.Mathlib.Omega.{arith}
use Rattle.shapes.proofs.Edit.{edit_none, edit_turn}
use Rattle.diagnosis.proofs.Parts.{part_long, part_swept}
use Rattle.diagnosis.proofs.sweep.Goals as goal

pub loop-value-init : goal.loop-value-init
loop-value-init c = sym (edit_none _ _ _)

pub loop-value-preserved : goal.loop-value-preserved
loop-value-preserved c = edit_turn _ _ _ _ _ _ _ c.loop-value.invariant (sym (zero-add _)) c.sweep_one.ensures

pub returns : goal.returns
returns c = part_swept _ c.requires _ (omega (arith, part_long _ c.requires)) c.loop-value.invariant
