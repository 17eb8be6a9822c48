use mathlib.Core.Path.{◌≡◌, sym}
use native.Mathlib.Nat.{zero-add}
use native.Mathlib.Omega.{arith}
use Rattle.shapes.proofs.Edit.{edit_none, edit_turn}
use Rattle.memory.specs.Layout.{session_size}
use Rattle.memory.specs.Store.{started}
use Rattle.memory.proofs.store.store_table.Goals as goal

pub loop-i-init : goal.loop-i-init
loop-i-init c = sym (edit_none _ _ _)

pub loop-i-preserved : goal.loop-i-preserved
loop-i-preserved c = edit_turn _ _ _ _ _ _ _ c.loop-i.invariant (sym (zero-add _)) c.byte_or_zero.ensures

pub returns : goal.returns
unfolding started
returns c = let e : c.loop-i.i ≡ session_size = omega arith in rw (← e) c.loop-i.invariant
