-- `machine::fault::is_fault` meets its contract: a number makes its fault exactly where it is in use.
use mathlib.Core.Path.{sym, ◌∙◌}
use Rattle.machine.specs.Fault.{is_fault}
use Rattle.machine.proofs.Faults.{made_none, made_some, fault_in}
use Rattle.machine.proofs.fault.is_fault.Goals as goal

pub returns-in_default : goal.returns-in_default
unfolding is_fault
returns-in_default c = rw (made_none _ _ (sym c.new.ensures.made ∙ c.in_default.is))

pub is_alteration-requires : goal.is_alteration-requires
is_alteration-requires c = let m = made_some _ _ _ (sym c.new.ensures.made ∙ c.in-Some.is) in rw m.1 at (fault_in _ c.args.table.now.sound.head _ m.0)

pub returns : goal.returns
unfolding is_fault
returns c = let m = made_some _ _ _ (sym c.new.ensures.made ∙ c.in-Some.is) in rw (m.0, m.1) c.is_alteration.ensures
