-- `product::Product::entry` meets its contract: each constant is its product's cells as entries, so each entry holds the two numbers at twice
-- its place.
use Rattle.product.proofs.Entries.{entry_held}
use Rattle.product.proofs.Product.entry.Goals as goal

pub returns-in-FiveLitre-clause-next : goal.returns-in-FiveLitre-clause-next
returns-in-FiveLitre-clause-next c = (entry_held _ c.in-FiveLitre.is).0

pub returns-in-FiveLitre-clause-output : goal.returns-in-FiveLitre-clause-output
returns-in-FiveLitre-clause-output c = (entry_held _ c.in-FiveLitre.is).1

pub returns-in-EightLitre-clause-next : goal.returns-in-EightLitre-clause-next
returns-in-EightLitre-clause-next c = (entry_held _ c.in-EightLitre.is).0

pub returns-in-EightLitre-clause-output : goal.returns-in-EightLitre-clause-output
returns-in-EightLitre-clause-output c = (entry_held _ c.in-EightLitre.is).1
