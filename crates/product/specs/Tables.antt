-- The two products' tables, exactly document 01's ("Product tables and numbers to check"): next state and output of each cell in rising
-- number, 255 255 where the paper has U.
use Rattle.std.specs.Prelude.{ℕ, List, [], ◌∷◌, ltb, length}
use Rattle.shapes.specs.Edit.{filled}
use Rattle.shapes.specs.Refusals.{Rule, when, ruling}
use Rattle.machine.specs.declared.head.Head.{Head}
use Rattle.house.specs.Refusal.{Written, written_or}
use Rattle.house.specs.Table.{table_bytes, table_file}
use Rattle.house.specs.declared.refusal.Refusal.{Refusal}
use Rattle.house.specs.declared.refusal.Refusal.TheVariants.{Short}
use Rattle.product.specs.declared.Product.{Product}
use Rattle.product.specs.declared.Product.TheVariants.{FiveLitre, EightLitre}

-- five-litre (4,3,4) and eight-litre (5,3,5)
abbrev pub product_head : Product → Head
product_head FiveLitre = record { states = 4; inputs = 3; outputs = 4 }
product_head EightLitre = record { states = 5; inputs = 3; outputs = 5 }

-- a row of cells to a state
abbrev pub product_cells : Product → List ℕ
product_cells FiveLitre =
    1 ∷ 1 ∷ 2 ∷ 3 ∷ 0 ∷ 0
    ∷ 0 ∷ 2 ∷ 2 ∷ 3 ∷ 1 ∷ 0
    ∷ 3 ∷ 1 ∷ 2 ∷ 0 ∷ 0 ∷ 0
    ∷ 2 ∷ 2 ∷ 255 ∷ 255 ∷ 1 ∷ 0 ∷ []
product_cells EightLitre =
    1 ∷ 1 ∷ 2 ∷ 3 ∷ 0 ∷ 0
    ∷ 0 ∷ 2 ∷ 2 ∷ 3 ∷ 1 ∷ 0
    ∷ 3 ∷ 1 ∷ 4 ∷ 4 ∷ 0 ∷ 0
    ∷ 2 ∷ 2 ∷ 4 ∷ 4 ∷ 1 ∷ 0
    ∷ 4 ∷ 0 ∷ 255 ∷ 255 ∷ 0 ∷ 0 ∷ []

-- the one refusal of writing a product's table: SHORT with the bytes needed
abbrev pub write_rules : Product → List ℕ → List (Rule Refusal)
write_rules m out = when (ltb (length out) (table_bytes (product_head m))) (Short (table_bytes (product_head m))) ∷ []

-- what writing it answers and leaves: the bytes written and its table file, the tail untouched
unfoldable pub written : Product → List ℕ → Written
written m out = written_or (ruling (write_rules m out)) (table_bytes (product_head m)) out (filled out 0 (table_file (product_head m) (product_cells m)))
