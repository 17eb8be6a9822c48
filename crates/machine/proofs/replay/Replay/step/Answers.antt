-- `machine::replay::Replay::step` meets its contract: whether the output agrees, and whether a symptom came before, say which replay follows.
use borrow.Author.Tests.{eq-eqb, ne_eqb}
use Rattle.shapes.proofs.Tests.{holds, lacks}
use Rattle.machine.specs.Replay.{passed, failed, stepped}
use Rattle.machine.proofs.replay.Replay.step.Goals as goal

pub returns-then-is_agreed : goal.returns-then-is_agreed
unfolding stepped passed
returns-then-is_agreed c = rw (holds c.is_agreed.ensures c.if-is_agreed.true)

pub returns-then-self-eq0 : goal.returns-then-self-eq0
unfolding stepped failed
returns-then-self-eq0 c = rw (lacks c.is_agreed.ensures c.if-is_agreed.false, eq-eqb _ _ c.if-self-eq0.true)

pub returns : goal.returns
unfolding stepped failed
returns c = rw (lacks c.is_agreed.ensures c.if-is_agreed.false, ne_eqb _ _ c.if-self-eq0.false)
