use mathlib.Core.Path.{refl, sym}
use Rattle.shapes.proofs.Edit.{edit_none, edit_turn}
use Rattle.memory.proofs.store.store_steps.Goals as goal

pub loop-i-init : goal.loop-i-init
loop-i-init c = sym (edit_none _ _ _)

pub loop-i-preserved : goal.loop-i-preserved
loop-i-preserved c = edit_turn _ _ _ _ _ _ _ c.loop-i.invariant refl c.byte_or_zero.ensures
