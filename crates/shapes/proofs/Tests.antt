-- What the test of a call's answer says of the definition that the answer is equal to, and what a joined test says of its parts.
-- Assumes nothing.
use mathlib.Core.Path.{◌≡◌, refl, sym, ◌∙◌}
use mathlib.Core.Bool.{Bool, true, false, not, ◌&&◌, ◌||◌, true≢false, false≢true}
use borrow.Author.Tests.{not-true, not-false}

-- after `if f(x)`: taken, and left
pub holds : {r b : Bool} → r ≡ b → r ≡ true → b ≡ true
holds e t = sym e ∙ t

pub lacks : {r b : Bool} → r ≡ b → r ≡ false → b ≡ false
lacks e t = sym e ∙ t

-- after `if !f(x)`: taken, and left
pub refuted : {r b : Bool} → r ≡ b → not r ≡ true → b ≡ false
refuted {r} e t = sym e ∙ not-true r t

pub passes : {r b : Bool} → r ≡ b → not r ≡ false → b ≡ true
passes {r} e t = sym e ∙ not-false r t

-- a conjunction that is true is true on both sides
pub and_true : (a b : Bool) → (a && b) ≡ true → (a ≡ true) × (b ≡ true)
and_true true b h = (refl, h)
and_true false b h = absurd (false≢true h)

-- a disjunction that is false is false on both sides
pub or_false : (a b : Bool) → (a || b) ≡ false → (a ≡ false) × (b ≡ false)
or_false true b h = absurd (true≢false h)
or_false false b h = (refl, h)
