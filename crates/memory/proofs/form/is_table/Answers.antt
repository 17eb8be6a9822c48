-- `memory::form::is_table` meets its contract: the tests are those of `good_table`.
use mathlib.Core.Path.{sym, ap, ◌∙◌}
use mathlib.Core.Bool.{not}
use Rattle.memory.specs.Form.{good_table}
use Rattle.memory.proofs.Checks.{head_made, table_no_head, headed_in, cells_told}
use Rattle.memory.proofs.form.is_table.Goals as goal

pub returns-in_default : goal.returns-in_default
returns-in_default c = sym (table_no_head _ c.head_of-named.ensures c.new.ensures.made c.in_default.is)

pub cells-count-requires : goal.cells-count-requires
cells-count-requires c = headed_in c.args.session.now (head_made c.args.session.now c.head_of-named.ensures c.new.ensures.made c.in-Some.is)

pub first_bad-requires-clause-head_in : goal.first_bad-requires-clause-head_in
first_bad-requires-clause-head_in c = headed_in c.args.session.now (head_made c.args.session.now c.head_of-named.ensures c.new.ensures.made c.in-Some.is)

pub returns-then-is_none : goal.returns-then-is_none
unfolding good_table
returns-then-is_none c =
    let k = head_made c.args.session.now c.head_of-named.ensures c.new.ensures.made c.in-Some.is in
    let none = sym (cells_told c.args.session.now k c.first_bad.ensures) ∙ ap not c.if-is_none.ensures in
    rw (k.good, none) (c.is_zero.ensures ∙ rw (c.cells-count.ensures.value, k.same))

pub returns-else-is_none : goal.returns-else-is_none
unfolding good_table
returns-else-is_none c =
    let k = head_made c.args.session.now c.head_of-named.ensures c.new.ensures.made c.in-Some.is in
    let some = sym (cells_told c.args.session.now k c.first_bad.ensures) ∙ ap not c.if-is_none.ensures in
    rw (k.good, some) c.if-is_none.false
