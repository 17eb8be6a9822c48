-- `diagnosis::walk::Walk::is_missed` meets its contract: by the two ways, a number's cell without a mark and one with.
use Rattle.diagnosis.proofs.Walks.{misses_unmarked}
use Rattle.diagnosis.proofs.walk.Walk.is_missed.Goals as goal

pub returns-then-self-cell-eq0 : goal.returns-then-self-cell-eq0
returns-then-self-cell-eq0 c = misses_unmarked _ _ _ _ _ _ _ c.args.self.now.walked c.args.self.now.run.table.sound.head c.numbered-cell.ensures.known c.numbered-cell.ensures.fault c.if-self-cell-eq0.true
