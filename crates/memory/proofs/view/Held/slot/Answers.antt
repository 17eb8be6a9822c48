-- `memory::view::Held::slot` meets its contract: a number over 63 is refused, and any other as the place is free.
use mathlib.Core.Path.{ap, ◌∙◌}
use borrow.Author.Tests.{not-true}
use Rattle.memory.specs.Held.{told_bench}
use Rattle.memory.proofs.Known.{slot_past}
use Rattle.memory.proofs.Runs.{slot_told}
use Rattle.memory.proofs.view.Held.slot.Goals as goal

pub returns-then-place-ge-MOST : goal.returns-then-place-ge-MOST
returns-then-place-ge-MOST c = rw (not-true _ (slot_past c.args.self.now.bytes.now c.args.place c.if-place-ge-MOST.true))

pub returns : goal.returns
returns c = ap told_bench c.ok_or.ensures.value ∙ slot_told _ _ _ c.run_at.ensures c.if-place-ge-MOST.false
