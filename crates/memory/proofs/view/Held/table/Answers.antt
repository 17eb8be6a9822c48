-- `memory::view::Held::table` meets its contract: the table of a well-formed session was tested.
use Rattle.memory.proofs.Known.{session_table}
use Rattle.memory.proofs.view.Held.table.Goals as goal

pub invariant_of-result : goal.invariant_of-result
invariant_of-result c = record { sound = session_table _ c.head_of.ensures c.args.self.now.known.room c.args.self.now.known.table }
