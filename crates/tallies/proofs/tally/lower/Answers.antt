use Prim.Native.Nat.{◌-◌}
use mathlib.Core.Path.{◌≡◌, sym, ap}
use native.Mathlib.Nat.{zero-add}
use native.Mathlib.Omega.{arith}
use Rattle.shapes.proofs.Edit.{edit_none, edit_turn}
use Rattle.tallies.specs.Tallies.{lowered_by}
use Rattle.tallies.proofs.Tallying.{missed_by, tally_next}
use Rattle.tallies.proofs.tally.lower.Goals as goal

pub loop-number-init : goal.loop-number-init
loop-number-init c = sym (edit_none _ _ _)

pub overflow_sub-tallies : goal.overflow_sub-tallies
overflow_sub-tallies c =
    let l = c.requires.by_index c.loop-number.number (omega arith) in
    let next = tally_next _ _ _ _ c.loop-number.invariant in
    let miss = missed_by _ _ _ _ _ c.of-walk.ensures c.is_missed.ensures c.from.ensures in
    omega arith

pub loop-number-preserved : goal.loop-number-preserved
loop-number-preserved c = edit_turn _ _ _ _ _ _ _ c.loop-number.invariant (sym (zero-add _)) (ap (◌-◌ _) (missed_by _ _ _ _ _ c.of-walk.ensures c.is_missed.ensures c.from.ensures))

pub returns : goal.returns
unfolding lowered_by
returns c = let e : c.numbers-number-end.result ≡ c.loop-number.number = omega arith in rw (← c.numbers-number-end.ensures.value, e) c.loop-number.invariant
