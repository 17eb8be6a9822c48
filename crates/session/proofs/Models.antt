-- The table of a model is that of the last start that it took, whole: a start that is taken has a table file's head and cells, and every other
-- call leaves both. Assumes nothing.
use Prim.Native.Nat.{ℕ, ◌*◌}
use mathlib.Core.Path.{◌≡◌, refl}
use mathlib.Core.Bool.{Bool, true, false, cond, false≢true}
use mathlib.Core.List.{List, [], ◌∷◌}
use native.Mathlib.Omega.{arith}
use lib.ListN.{length, length-drop}
use Rattle.std.specs.Prelude.{Ok}
use Rattle.shapes.specs.Refusals.{Ruling, fine, refused, ruling}
use Rattle.machine.specs.Head.{cell_count}
use Rattle.machine.specs.Cell.{TableIn}
use Rattle.machine.specs.declared.head.Head.{Head}
use Rattle.house.specs.Refusal.{ruled}
use Rattle.house.specs.Table.{head_in, table_rules, table_read}
use Rattle.house.specs.declared.refusal.Refusal.{Refusal}
use Rattle.house.proofs.Tables.{table_known}
use Rattle.session.specs.History.{Call, start, add, amend, withdraw, load, Model, started_model, is_table, takes, makes, step, steps}

-- a model has a sound table, with no byte beside its cells
pub record Whole (m : Model) : Type 0 where
  pub table : TableIn m.head m.cells
  pub exact : length m.cells ≡ 2 * cell_count m.head

-- a file that is a table starts one,
pub started_whole : (file : List ℕ) → table_read file ≡ Ok (head_in file) → Whole (started_model file)
unfolding started_model
started_whole file read =
    let k = table_known file (head_in file) read in
    record { table = k.0; exact = rw length-drop (omega (arith, k.1)) }

-- as is one that is taken as a table,
is_table_law : (v : Ruling Refusal) (h : Head) → is_table (ruled v h) ≡ true → ruled v h ≡ Ok h
is_table_law fine h e = refl
is_table_law (refused r) h e = absurd (false≢true e)

-- what a call that is taken makes of such a model is one,
makes_whole : (c : Call) (m : Model) → takes c m ≡ true → Whole m → Whole (makes c m)
unfolding takes makes table_read
makes_whole (start file) m e k = started_whole file (is_table_law (ruling (table_rules file)) (head_in file) e)
makes_whole (add o) m e k = record { table = k.table; exact = k.exact }
makes_whole (amend p o) m e k = record { table = k.table; exact = k.exact }
makes_whole (withdraw p) m e k = record { table = k.table; exact = k.exact }
makes_whole (load file) m e k = record { table = k.table; exact = k.exact }

-- so a step makes one of it,
step_whole : (c : Call) (m : Model) → Whole m → Whole (step c m)
unfolding step
step_whole c m k = go (takes c m) refl
  where
    go : (b : Bool) → takes c m ≡ b → Whole (cond b (makes c m) m)
    go true e = makes_whole c m e k
    go false e = k

-- and any steps do
pub steps_whole : (calls : List Call) (m : Model) → Whole m → Whole (steps calls m)
unfolding steps
steps_whole [] m k = k
steps_whole (c ∷ cs) m k = steps_whole cs (step c m) (step_whole c m k)
