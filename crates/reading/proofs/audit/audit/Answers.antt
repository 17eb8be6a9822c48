-- `reading::audit::audit` meets its contract: it answers what was found, where no rule for form refuses.
use mathlib.Core.Path.{sym, ◌∙◌}
use Rattle.house.proofs.Forms.{passed_on}
use Rattle.memory.proofs.Formed.{formed_held, formed_tallied}
use Rattle.memory.proofs.Known.{told_fine, rules_formed}
use Rattle.reading.proofs.Listed.{audit_refused, audit_told}
use Rattle.reading.proofs.audit.audit.Goals as goal

pub returns-in_err-check_form : goal.returns-in_err-check_form
returns-in_err-check_form c =
    passed_on c.from_residual.result c.from_residual.ensures.1 ∙ audit_refused c.args.session.now c.args.tallies.now (sym c.check_form.ensures ∙ c.in_err-check_form.was)

pub invariant_of-held : goal.invariant_of-held
invariant_of-held c = record { known = formed_held _ _ (rules_formed _ _ (told_fine _ c.check_form.ensures c.in_ok-check_form.was)) }

pub first_false-requires : goal.first_false-requires
first_false-requires c = formed_tallied _ _ (rules_formed _ _ (told_fine _ c.check_form.ensures c.in_ok-check_form.was))

pub returns : goal.returns
returns c = audit_told c.args.session.now c.args.tallies.now (sym c.check_form.ensures ∙ c.in_ok-check_form.was) c.first_false.ensures
