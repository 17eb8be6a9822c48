use Prim.Native.Nat.{◌+◌}
use mathlib.Core.Path.{◌≡◌, sym, ap}
use native.Mathlib.Nat.{zero-add}
use native.Mathlib.Omega.{arith}
use Rattle.shapes.proofs.Edit.{edit_none, edit_turn}
use Rattle.machine.specs.Runs.{bench_of}
use Rattle.tallies.specs.Tallies.{raised_by}
use Rattle.tallies.proofs.Tallying.{missed_by, few_by, tally_next}
use Rattle.tallies.proofs.tally.raise.Goals as goal

pub loop-number-init : goal.loop-number-init
loop-number-init c = sym (edit_none _ _ _)

pub overflow_add-tallies : goal.overflow_add-tallies
overflow_add-tallies c =
    let l = c.requires.by_index c.loop-number.number (omega arith) in
    let next = tally_next _ _ _ _ c.loop-number.invariant in
    let miss = missed_by _ _ _ _ _ c.of-walk.ensures c.is_missed.ensures c.from.ensures in
    let few = few_by (bench_of c.args.run.now) c.loop-number.number in
    omega arith

pub loop-number-preserved : goal.loop-number-preserved
loop-number-preserved c = edit_turn _ _ _ _ _ _ _ c.loop-number.invariant (sym (zero-add _)) (ap (◌+◌ _) (missed_by _ _ _ _ _ c.of-walk.ensures c.is_missed.ensures c.from.ensures))

pub returns : goal.returns
unfolding raised_by
returns c = let e : c.numbers-number-end.result ≡ c.loop-number.number = omega arith in rw (← c.numbers-number-end.ensures.value, e) c.loop-number.invariant
