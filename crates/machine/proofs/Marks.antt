-- A walk that marks the cells it executes: what is left to mark from here, marked into what was marked so far, is the whole marked.
-- And what a marked list holds. Assumes nothing.
use Prim.Native.Nat.{ℕ, suc, ◌+◌, ◌*◌, ◌%◌, ◌≤◌, ◌<◌}
use mathlib.Core.Path.{◌≡◌, refl, sym, ◌∙◌}
use mathlib.Core.List.{List, [], ◌∷◌}
use mathlib.Core.Bool.{Bool, true, false, cond, ◌||◌, false≢true}
use native.Mathlib.Numerals.{add-one}
use native.Mathlib.Omega.{arith}
use lib.Dec.{eqb}
use lib.ListN.{length, get_or, set, drop, length-set, drop_of_length-le}
use lib.Seq.{drop-cons, get_or-set_same, get_or-set_other}
use borrow.Author.Tests.{eqb-true, eqb-false}
use Rattle.shapes.specs.Keep.{has}
use Rattle.machine.specs.Head.{HeadIn, cell_count}
use Rattle.machine.specs.Cell.{TableIn}
use Rattle.machine.specs.Machine.{Machine, initial, cell_number, specified}
use Rattle.machine.specs.Case.{InputsIn}
use Rattle.machine.specs.Run.{path, executed}
use Rattle.machine.specs.Marks.{marked}
use Rattle.machine.specs.declared.head.Head.{Head}
use Rattle.machine.proofs.Numbers.{cell_below}
use Rattle.machine.proofs.Moves.{specified_does, completed_in}

-- where the walk stands: at step t, in state s
pub record Marking (h : Head) (M : Machine) (is out₀ : List ℕ) (t s : ℕ) (out : List ℕ) : Type 0 where
  pub inside : t ≤ length is
  pub state_in : s < h.states
  pub long : length out ≡ length out₀
  pub whole : marked (path M s (drop t is)) out ≡ marked (executed M is) out₀

-- it begins so
pub marking_begins : (h : Head) (M : Machine) (is out₀ : List ℕ) → HeadIn h → Marking h M is out₀ 0 initial out₀
unfolding executed
marking_begins h M is out₀ head = record { inside = omega arith; state_in = omega (arith, head.some_states); long = refl; whole = refl }

-- and goes on so
pub marking_goes_on : (h : Head) (M : Machine) (is out₀ : List ℕ) (t s : ℕ) (out : List ℕ) (c x : ℕ) → Marking h M is out₀ t s out → t < length is
    → c ≡ cell_number M.inputs s (get_or is t 0) → x ≡ (M.does (cell_number M.inputs s (get_or is t 0))).next → x < h.states
    → Marking h M is out₀ (t + 1) x (set out c (get_or out c 0 % 2 + 2))
unfolding path marked
marking_goes_on h M is out₀ t s out c x m l ec ex lx =
    record {
      inside = omega arith;
      state_in = lx;
      long = length-set out c _ ∙ m.long;
      whole = rw (ec, ex, add-one) (rw (drop-cons is t 0 l) at m.whole);
    }

-- and ends with the whole marked
pub marking_ends : (h : Head) (M : Machine) (is out₀ : List ℕ) (t s : ℕ) (out : List ℕ) → Marking h M is out₀ t s out → length is ≤ t
    → out ≡ marked (executed M is) out₀
unfolding path marked
marking_ends h M is out₀ t s out m l = rw (drop_of_length-le is l) at m.whole

-- a marked list is as long
pub length_marked : (cs out : List ℕ) → length (marked cs out) ≡ length out
unfolding marked
length_marked [] out = refl
length_marked (c ∷ cs) out = length_marked cs (set out c (get_or out c 0 % 2 + 2)) ∙ length-set out c _

-- a mark put once more changes nothing
marked_again : (v : ℕ) → (v % 2 + 2) % 2 + 2 ≡ v % 2 + 2
marked_again v = omega arith

-- a marked list has its mark where a cell was executed, and what it had elsewhere
pub marked_at : (cs out : List ℕ) (c : ℕ) → c < length out
    → get_or (marked cs out) c 0 ≡ cond (has c cs) (get_or out c 0 % 2 + 2) (get_or out c 0)
unfolding marked has
marked_at [] out c l = refl
marked_at (d ∷ cs) out c l =
    marked_at cs (set out d (get_or out d 0 % 2 + 2)) c (rw length-set l) ∙ go (eqb c d) refl (has c cs)
  where
    there : List ℕ
    there = set out d (get_or out d 0 % 2 + 2)

    go : (b : Bool) → eqb c d ≡ b → (k : Bool)
        → cond k (get_or there c 0 % 2 + 2) (get_or there c 0) ≡ cond (b || k) (get_or out c 0 % 2 + 2) (get_or out c 0)
    go true e true = rw (sym (eqb-true c d e), get_or-set_same out c _ 0 l) (marked_again (get_or out c 0))
    go true e false = rw (sym (eqb-true c d e), get_or-set_same out c _ 0 l)
    go false e true = rw (get_or-set_other out d c _ 0 (eqb-false c d e))
    go false e false = rw (get_or-set_other out d c _ 0 (eqb-false c d e))

-- so a cell at which a 0 stands was not executed
pub unmarked : (cs out : List ℕ) (c : ℕ) → c < length out → get_or (marked cs out) c 0 ≡ 0 → has c cs ≡ false
unmarked cs out c l e = go (has c cs) (sym (marked_at cs out c l) ∙ e)
  where
    go : (b : Bool) → cond b (get_or out c 0 % 2 + 2) (get_or out c 0) ≡ 0 → b ≡ false
    go true e = absurd (omega arith)
    go false e = refl

-- every cell on the path of a machine that stays among n states is one of theirs
path_in : (M : Machine) (n : ℕ) → ((s i : ℕ) → s < n → i < M.inputs → (M.does (cell_number M.inputs s i)).next < n) → (s : ℕ) → s < n → (is : List ℕ)
    → ((t : ℕ) → t < length is → get_or is t 0 < M.inputs) → (c : ℕ) → has c (path M s is) ≡ true → c < n * M.inputs
unfolding path has
path_in M n stays s ls [] within c e = absurd (false≢true e)
path_in M n stays s ls (i ∷ is) within c e =
    go (eqb c (cell_number M.inputs s i)) refl
    (path_in M n stays (M.does (cell_number M.inputs s i)).next (stays s i ls (within 0 (omega arith))) is (λ t l. within (suc t) (omega arith)) c) e
  where
    go : (b : Bool) → eqb c (cell_number M.inputs s i) ≡ b → (has c (path M (M.does (cell_number M.inputs s i)).next is) ≡ true → c < n * M.inputs)
        → (b || has c (path M (M.does (cell_number M.inputs s i)).next is)) ≡ true → c < n * M.inputs
    go true here rest e = omega (arith, eqb-true c (cell_number M.inputs s i) here, cell_below n M.inputs s i ls (within 0 (omega arith)))
    go false here rest e = rest e

-- so is every cell that the specified machine executes in a case
pub executed_in : (h : Head) (cells : List ℕ) → TableIn h cells → (is : List ℕ) → InputsIn h is → (c : ℕ)
    → has c (executed (specified h cells) is) ≡ true → c < cell_count h
unfolding executed specified
executed_in h cells t is within c e = path_in (specified h cells) h.states stays initial t.head.some_states is within c e
  where
    stays : (s i : ℕ) → s < h.states → i < h.inputs → ((specified h cells).does (s * h.inputs + i)).next < h.states
    stays s i ls li =
        rw (specified_does h cells s i li)
        (completed_in h cells t s (s * h.inputs + i) ls (cell_below h.states h.inputs s i ls li))
