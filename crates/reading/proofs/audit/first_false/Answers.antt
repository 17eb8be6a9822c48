-- `reading::audit::first_false` meets its contract: a search of the numbers in use finds the lowest whose tally is false, or there is none.
use Rattle.std.proofs.Common.{rules}
use Rattle.std.proofs.lemmas.Iterator.{serves_from_Range, first_from_Range}
use borrow.Author.Tests.{tests}
use mathlib.Core.Path.{ap, ◌∙◌}
use native.Mathlib.Omega.{arith}
use Rattle.std.proofs.lemmas.List.{get_or_read}
use Rattle.machine.specs.Head.{numbers}
use Rattle.reading.proofs.Listed.{CountedAfresh, false_told}
use Rattle.reading.proofs.audit.first_false.Goals as goal

pub find-requires-clause-callable : goal.find-requires-clause-callable
find-requires-clause-callable c = let all = c.numbers.ensures.value ∙ ap numbers c.table.ensures.head in serves_from_Range (λ x q k. search rules) (λ x low high. search rules)

pub returns : goal.returns
returns c =
    false_told c.args.held.now.bytes.now c.args.tallies.now c.numbers.result (c.numbers.ensures.value ∙ ap numbers c.table.ensures.head) _
    (first_from_Range _ _ _ _ (λ f. CountedAfresh c.args.held.now.bytes.now c.args.tallies.now f → ⊥) (CountedAfresh c.args.held.now.bytes.now c.args.tallies.now) c.find.ensures.ran (λ x q k. grind (arith, tests, get_or_read)) (λ x q k. (search rules, grind (arith, tests, get_or_read))))
