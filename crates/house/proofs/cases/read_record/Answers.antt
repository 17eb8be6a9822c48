-- `house::cases::read_record` meets its contract: the file's refusal first, then the broken cases, then the count.
use mathlib.Core.Path.{sym, ap, ◌∙◌}
use Rattle.std.specs.Option.{ok_or}
use Rattle.house.specs.declared.refusal.Refusal.TheVariants.{Record}
use Rattle.house.proofs.Forms.{checked_fine, checked_refused, passed_on}
use Rattle.house.proofs.Records.{record_file_refused, read_counted}
use Rattle.house.proofs.cases.read_record.Goals as goal

pub returns-in_err-check_file : goal.returns-in_err-check_file
returns-in_err-check_file c =
    passed_on c.from_residual.result c.from_residual.ensures.1
    ∙ (sym (record_file_refused _ (checked_refused _ (sym c.check_file.ensures ∙ c.in_err-check_file.was))))

pub returns : goal.returns
returns c = c.ok_or.ensures.value ∙ ap (λ n. ok_or n Record) c.count_cases.ensures ∙ read_counted _ (checked_fine _ (sym c.check_file.ensures ∙ c.in_ok-check_file.was))
