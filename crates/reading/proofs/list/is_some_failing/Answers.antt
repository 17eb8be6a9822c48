-- `reading::list::is_some_failing` meets its contract: a search of the places finds one that holds a case that fails, or there is none.
use Rattle.std.proofs.Common.{rules}
use Rattle.std.proofs.lemmas.Iterator.{serves_from_Range, cases_from_any, YieldsList-from_range}
use borrow.Author.Tests.{tests}
use mathlib.Core.Path.{◌≡◌, refl}
use mathlib.Core.Bool.{true, false}
use Rattle.diagnosis.specs.Diagnosis.{some_fails}
use Rattle.memory.specs.Layout.{places_most, cases}
use Rattle.reading.specs.Loops.{fails_at}
use Rattle.reading.proofs.Listed.{some_told}
use Rattle.reading.proofs.list.is_some_failing.Goals as goal

pub any-requires-clause-callable : goal.any-requires-clause-callable
any-requires-clause-callable c = serves_from_Range (λ x q k. search rules) (λ x low high. search rules)

pub returns : goal.returns
unfolding some_fails cases
returns c = some_told c.args.held.now.bytes.now _ places_most c.any.result (cases_from_any _ _ _ (λ p. fails_at c.args.held.now.bytes.now p ≡ true) (λ p. fails_at c.args.held.now.bytes.now p ≡ false) c.any.ensures.ran (YieldsList-from_range 0 places_most places_most refl refl) (λ x q k. search (rules, tests)) (λ x q k. search (rules, tests)))
