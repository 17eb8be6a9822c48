-- What counting a run's case in or out says of the session on whose table it is run; and what a loop over the tallies reads. Assumes nothing.
use Prim.Native.Nat.{ℕ, ◌≤◌}
use mathlib.Core.Path.{◌≡◌, refl, ap}
use mathlib.Core.Bool.{Bool, true, false}
use mathlib.Core.List.{List}
use native.Mathlib.Omega.{arith}
use lib.ListN.{get_or}
use mir.Val.{bool_byte}
use Rattle.shapes.specs.Edit.{edit}
use Rattle.shapes.specs.First.{all_to}
use Rattle.shapes.specs.Keep.{bit}
use Rattle.shapes.proofs.First.{all_same}
use Rattle.shapes.proofs.Edit.{edit_out_above}
use Rattle.machine.specs.Head.{numbers}
use Rattle.machine.specs.Case.{Case}
use Rattle.machine.specs.Runs.{Bench, bench_of, run_case}
use Rattle.machine.specs.declared.replay.Run.{Run}
use Rattle.diagnosis.specs.Diagnosis.{misses}
use Rattle.memory.specs.Layout.{head_of, cells_of}
use Rattle.tallies.specs.Tallies.{can_lose_by, miss, miss_by, can_lower, can_lower_by, raised, raised_by, lowered, lowered_by}

-- the tally that a loop reads is still the old one
pub tally_next : (g : ℕ → ℕ → ℕ) (n : ℕ) (t t₀ : List ℕ) → t ≡ edit g 0 n t₀ → get_or t n 0 ≡ get_or t₀ n 0
tally_next g n t t₀ e = rw e (edit_out_above g 0 n t₀ n (omega arith))

-- what a walk of a run says of a number, as a number, is what the run adds to its tally
pub missed_by : (r q : Run) (f x : ℕ) (m : Bool) → q ≡ r → m ≡ misses q.table.head q.table.cells.now f (run_case q) → x ≡ bool_byte m → x ≡ miss_by (bench_of r) f
unfolding miss_by
missed_by r q f x m same em ex = rw (← same, ← em, ex) (go m)
  where
    go : (b : Bool) → bool_byte b ≡ bit b
    go true = refl
    go false = refl

-- which is 1 at most
pub few_by : (b : Bench) (f : ℕ) → miss_by b f ≤ 1
unfolding miss_by
few_by b f = go (misses b.head b.cells f b.case)
  where
    go : (x : Bool) → bit x ≤ 1
    go true = omega arith
    go false = omega arith

-- one tally can lose a run's case, by what a walk of the run says: it does not go below 0, nor stay above the cases left
abbrev pub can_lose : Run → List ℕ → ℕ → ℕ → Bool
can_lose q t left f = can_lose_by (bool_byte (misses q.table.head q.table.cells.now f (run_case q))) (get_or t f 0) left

-- and so can every tally in use
pub can_told : (r q : Run) (t : List ℕ) (left count : ℕ) → q ≡ r → count ≡ numbers r.table.head → all_to (can_lose q t left) count ≡ can_lower_by (bench_of r) t left
unfolding can_lower_by
can_told r q t left count same e =
    rw (e, same)
    (all_same _ _ (numbers r.table.head) (λ f l. ap (λ n. can_lose_by n (get_or t f 0) left) (missed_by r r f _ _ refl refl refl)))

-- a case on a session's table
abbrev pub on_table : List ℕ → Case → Bench
on_table s c = record { head = head_of s; cells = cells_of s; case = c }

module _ (s : List ℕ) (c : Case) (b : Bench) (e : b ≡ on_table s c) where
  -- a run of it misses it as the session's number does,
  pub miss_on : (f : ℕ) → miss_by b f ≡ miss s c f
  unfolding miss miss_by
  miss_on f = rw e

  -- can be counted out as it can,
  pub can_lower_on : (t : List ℕ) (left : ℕ) → can_lower_by b t left ≡ can_lower s t c left
  unfolding can_lower can_lower_by miss miss_by
  can_lower_on t left = rw e

  -- and is counted in and out as it is
  pub raised_on : (t : List ℕ) → raised_by b t ≡ raised s c t
  unfolding raised raised_by miss miss_by
  raised_on t = rw e

  pub lowered_on : (t : List ℕ) → lowered_by b t ≡ lowered s c t
  unfolding lowered lowered_by miss miss_by
  lowered_on t = rw e
