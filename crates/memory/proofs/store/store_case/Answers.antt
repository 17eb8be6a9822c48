-- `memory::store::store_case` meets its contract: its three stores are the one of a whole place.
use Rattle.memory.proofs.Stores.{placed_from}
use Rattle.memory.proofs.store.store_case.Goals as goal

pub returns : goal.returns
returns c = placed_from _ _ _ _ _ c.store_steps.ensures c.store_steps-2.ensures
