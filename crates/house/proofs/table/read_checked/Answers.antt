-- `house::table::read_checked` meets its contract: at each `return` the tests that led there say which rule is the first to refuse.
use mathlib.Core.Path.{sym, ap, ◌∙◌}
use native.Mathlib.Omega.{arith}
use Rattle.std.proofs.lemmas.Grind.{common_steps}
use Rattle.std.specs.Prelude.{◌≡◌, Some, None, Err}
use Rattle.std.proofs.lemmas.Result.{err_from_is_err_and}
use Rattle.house.specs.declared.refusal.Refusal.TheVariants.{Size}
use Rattle.house.proofs.Tables.{head_named, head_missing, named_in, size_short, size_no_head, size_wrong, size_right, cells_bad, read_size, read_cell, read_fine}
use Rattle.house.proofs.table.read_checked.Goals as goal

pub returns-then-file-lt-FILE_CELLS_AT : goal.returns-then-file-lt-FILE_CELLS_AT
returns-then-file-lt-FILE_CELLS_AT c = sym (read_size _ c.requires (size_short _ c.if-file-lt-FILE_CELLS_AT.true))

pub returns-in_err-head : goal.returns-in_err-head
returns-in_err-head c =
    let none : c.new.result ≡ None = grind (arith, common_steps) in
    let p = err_from_is_err_and c.from_residual.result c.from_residual.ensures.1 in
    let size : c.ok_or.result ≡ Err Size = c.ok_or.ensures.value ∙ rw none in
    let was : c.ok_or.result ≡ Err c.in_err-head.field-0.0 = c.in_err-head.was in
    p.1 ∙ ap Err p.2 ∙ sym was ∙ size
    ∙ sym (read_size _ c.requires (size_no_head _ c.if-file-lt-FILE_CELLS_AT.false (head_missing c.args.file.now c.byte.ensures.value c.byte-2.ensures.value c.byte-3.ensures.value c.new.ensures.made none)))

pub cells-requires : goal.cells-requires
cells-requires c =
    let made : c.new.result ≡ Some c.in_ok-head.head = grind (arith, common_steps) in
    named_in _ (head_named c.args.file.now c.byte.ensures.value c.byte-2.ensures.value c.byte-3.ensures.value c.new.ensures.made made)

pub returns-then-file-cells : goal.returns-then-file-cells
returns-then-file-cells c =
    let made : c.new.result ≡ Some c.in_ok-head.head = grind (arith, common_steps) in
    let n = head_named c.args.file.now c.byte.ensures.value c.byte-2.ensures.value c.byte-3.ensures.value c.new.ensures.made made in
    sym (read_size _ c.requires (size_wrong _ n c.cells.ensures.value c.if-file-lt-FILE_CELLS_AT.false c.if-file-cells.true))

pub first_bad-requires-clause-head_in : goal.first_bad-requires-clause-head_in
first_bad-requires-clause-head_in c =
    let made : c.new.result ≡ Some c.in_ok-head.head = grind (arith, common_steps) in
    let n = head_named c.args.file.now c.byte.ensures.value c.byte-2.ensures.value c.byte-3.ensures.value c.new.ensures.made made in
    named_in _ n

pub returns-in-Some : goal.returns-in-Some
returns-in-Some c =
    let made : c.new.result ≡ Some c.in_ok-head.head = grind (arith, common_steps) in
    let n = head_named c.args.file.now c.byte.ensures.value c.byte-2.ensures.value c.byte-3.ensures.value c.new.ensures.made made in
    sym (read_cell _ c.requires (size_right _ n c.cells.ensures.value c.if-file-cells.false) (sym (cells_bad _ n c.first_bad.ensures) ∙ c.in-Some.is))

pub returns-in-None : goal.returns-in-None
returns-in-None c =
    let made : c.new.result ≡ Some c.in_ok-head.head = grind (arith, common_steps) in
    let n = head_named c.args.file.now c.byte.ensures.value c.byte-2.ensures.value c.byte-3.ensures.value c.new.ensures.made made in
    sym (read_fine _ c.requires (size_right _ n c.cells.ensures.value c.if-file-cells.false) n (sym (cells_bad _ n c.first_bad.ensures) ∙ c.in-None.is))
