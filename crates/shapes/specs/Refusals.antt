-- Ordered refusals: what a call refuses, as one list of rules in order.
use Rattle.std.specs.Prelude.{◌≡◌, Bool, true, false, ◌⊎◌, List, [], ◌∷◌}

-- a rule of a call: refuse with r when the test is true
pub data Rule (R : Type 0) : Type 0 where
  when : Bool → R → Rule R

-- what a list of rules says: fine, or refused with r
pub data Ruling (R : Type 0) : Type 0 where
  fine : Ruling R
  refused : R → Ruling R

-- one rule: refused with r where the test is true, else what the rest says
unfoldable pub refused_if : {R : Type 0} → Bool → R → Ruling R → Ruling R
refused_if true r rest = refused r
refused_if false r rest = rest

-- the first rule whose test is true refuses; else fine
unfoldable pub ruling : {R : Type 0} → List (Rule R) → Ruling R
unfolding refused_if
ruling [] = fine
ruling (when t r ∷ l) = refused_if t r (ruling l)

-- every rule's test is false
abbrev pub AllFalse : {R : Type 0} → List (Rule R) → Type 0
AllFalse [] = Unit {0}
AllFalse (when t r ∷ l) = (t ≡ false) × AllFalse l

-- the first rule whose test is true is one of r
abbrev pub RefusedBy : {R : Type 0} → List (Rule R) → R → Type 0
RefusedBy [] r = ⊥
RefusedBy (when t q ∷ l) r = ((t ≡ true) × (q ≡ r)) ⊎ ((t ≡ false) × RefusedBy l r)
