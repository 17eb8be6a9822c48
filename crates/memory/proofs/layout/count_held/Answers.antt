-- `memory::layout::count_held` meets its contract: the closure tests whether a place holds a case.
use Rattle.std.proofs.Common.{rules, tests, ◌∙◌, refl}
use Rattle.std.proofs.lemmas.Iterator.{YieldsList-from_range}
use Rattle.std.proofs.lemmas.Iterator.Consumers.{YieldsList-from_filter, count_from_yields_List}
use Rattle.memory.specs.Layout.{places_most, is_held, cases}
use Rattle.memory.proofs.Checks.{held_listed}
use Rattle.memory.proofs.layout.count_held.Goals as goal

pub returns-clause-value : goal.returns-clause-value
unfolding cases
returns-clause-value c = count_from_yields_List c.filter.result _ c.count.ensures.ran (YieldsList-from_filter _ (is_held c.args.session.now) (YieldsList-from_range 0 places_most places_most c.filter.ensures.source refl) c.filter.ensures.closure (λ x b q k. search (rules, tests))) ∙ held_listed _ places_most
