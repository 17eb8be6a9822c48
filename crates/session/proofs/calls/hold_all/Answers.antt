use mathlib.Core.Path.{ap, ◌∙◌}
use Rattle.house.specs.Left.{parts_left}
use Rattle.house.proofs.Left.{cases_of, cases_of_parts}
use Rattle.session.proofs.Changed.{holding_begins, holding_next, holding_goes_on, holding_ends}
use Rattle.session.proofs.calls.hold_all.Goals as goal

pub loop-case-init : goal.loop-case-init
loop-case-init c =
    holding_begins _ _ _ _ (ap cases_of (ap parts_left c.into_iter-case-iterator.ensures.into_iter_gives ∙ c.cases-case-items.ensures) ∙ cases_of_parts _ _) c.requires.formed c.requires.good c.requires.room

pub hold-requires-clause-outputs_value : goal.hold-requires-clause-outputs_value
hold-requires-clause-outputs_value c = (holding_next _ _ _ _ _ _ _ _ (ap cases_of c.in-Some.ensures.steps) c.loop-case.invariant).1.0

pub hold-requires-clause-session_bound : goal.hold-requires-clause-session_bound
hold-requires-clause-session_bound c = (holding_next _ _ _ _ _ _ _ _ (ap cases_of c.in-Some.ensures.steps) c.loop-case.invariant).1.1

pub loop-case-preserved : goal.loop-case-preserved
loop-case-preserved c = holding_goes_on _ _ _ _ _ _ _ _ (ap cases_of c.in-Some.ensures.steps) c.loop-case.invariant _ _ c.hold.ensures.stored c.hold.ensures.counted

pub returns-clause-stored : goal.returns-clause-stored
returns-clause-stored c = (holding_ends _ _ _ _ _ _ (ap cases_of c.in-None.ensures.steps.0) c.loop-case.invariant).0

pub returns-clause-counted : goal.returns-clause-counted
returns-clause-counted c = (holding_ends _ _ _ _ _ _ (ap cases_of c.in-None.ensures.steps.0) c.loop-case.invariant).1
