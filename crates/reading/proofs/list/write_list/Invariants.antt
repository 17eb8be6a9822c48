-- `reading::list::write_list` meets its contract. The invariant: the numbers passed that are listed are written, one after the other.
use Rattle.reading.proofs.Listed.{listed_at, WrittenTo}
use Rattle.reading.proofs.list.write_list.Given as goal

abbrev pub invariant-loop-number : goal.invariant-loop-number
invariant-loop-number l = WrittenTo (listed_at l.held.bytes.now l.tallies) l.fn.out l.number l.out l.count
