-- `shapes::put` meets its contract: the part from the place on is written over.
use mathlib.Core.Path.{◌≡◌}
use native.Mathlib.Omega.{arith}
use lib.ListN.{length}
use Prim.Native.Nat.{◌+◌, ◌-◌}
use Rattle.shapes.proofs.Parts.{written_part}
use Rattle.shapes.proofs.put.Goals as goal

pub returns : goal.returns
returns c =
    let e : c.args.at + length c.args.from.now - c.args.at ≡ length c.args.from.now = omega arith in
    rw (e, c.copy_from_slice.ensures.after) (written_part c.args.out.now c.args.from.now c.args.at c.requires)
