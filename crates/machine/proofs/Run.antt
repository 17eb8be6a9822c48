-- The laws of a run: all that the layers above may know of it. Each by induction on the inputs.
-- Assumes nothing.
use Prim.Native.Nat.{ℕ, zero, suc, ◌+◌, ◌<◌}
use mathlib.Core.Path.{◌≡◌, refl, sym, ap}
use mathlib.Core.List.{List, [], ◌∷◌}
use mathlib.Core.Bool.{Bool, true, false, cond, ◌&&◌, true≢false}
use mathlib.Core.Logic.{◌↔◌}
use native.Mathlib.Nat.{zero-add}
use native.Mathlib.Omega.{arith}
use lib.Dec.{eqb, eqb-suc-zero}
use lib.ListN.{length, take, get_or}
use borrow.Author.Tests.{eqb-false, ne_eqb}
use Rattle.shapes.proofs.Tests.{and_true, or_false}
use Rattle.shapes.specs.Keep.{has}
use Rattle.machine.specs.Limits.{steps_most}
use Rattle.machine.specs.Machine.{Machine, cell_number, specified}
use Rattle.machine.specs.Fault.{cell_of, fault_of, change_of, under, changed}
use Rattle.machine.specs.Run.{run, path, agrees, differing, first_differing, matching, expected, executed, symptoms_of, reproduces}
use Rattle.machine.specs.declared.head.Head.{Head}
use Rattle.machine.specs.declared.fault.Change.{Change}

-- length
pub length_run : (M : Machine) (s : ℕ) (is : List ℕ) → length (run M s is) ≡ length is
unfolding run
length_run M s [] = refl
length_run M s (i ∷ is) = ap suc (length_run M (M.does (cell_number M.inputs s i)).next is)

pub length_path : (M : Machine) (s : ℕ) (is : List ℕ) → length (path M s is) ≡ length is
unfolding path
length_path M s [] = refl
length_path M s (i ∷ is) = ap suc (length_path M (M.does (cell_number M.inputs s i)).next is)

-- prefix: the first steps of a run are the run of the first inputs
pub prefix_run : (M : Machine) (s : ℕ) (is : List ℕ) (t : ℕ) → take t (run M s is) ≡ run M s (take t is)
unfolding run
prefix_run M s [] zero = refl
prefix_run M s [] (suc t) = refl
prefix_run M s (i ∷ is) zero = refl
prefix_run M s (i ∷ is) (suc t) =
    ap (λ (l : List ℕ). (M.does (cell_number M.inputs s i)).output ∷ l) (prefix_run M (M.does (cell_number M.inputs s i)).next is t)

pub prefix_path : (M : Machine) (s : ℕ) (is : List ℕ) (t : ℕ) → take t (path M s is) ≡ path M s (take t is)
unfolding path
prefix_path M s [] zero = refl
prefix_path M s [] (suc t) = refl
prefix_path M s (i ∷ is) zero = refl
prefix_path M s (i ∷ is) (suc t) = ap (λ (l : List ℕ). cell_number M.inputs s i ∷ l) (prefix_path M (M.does (cell_number M.inputs s i)).next is t)

-- a machine with one change gives the same outputs if the changed cell is never executed
pub run_never : (M : Machine) (d : Change) (s : ℕ) (is : List ℕ) → has d.cell (path M s is) ≡ false → run (under M d) s is ≡ run M s is
unfolding run path has under
run_never M d s [] h = refl
run_never M d s (i ∷ is) h =
    let c : ℕ = cell_number M.inputs s i in
    let apart : (eqb d.cell c ≡ false) × (has d.cell (path M (M.does c).next is) ≡ false) = or_false _ _ h in
    let other : eqb c d.cell ≡ false = ne_eqb c d.cell (λ e. eqb-false d.cell c apart.0 (sym e)) in
    rw other (ap (λ (l : List ℕ). (M.does c).output ∷ l) (run_never M d (M.does c).next is apart.1))

-- so it gives them until the changed cell is first executed
pub run_until : (M : Machine) (d : Change) (s : ℕ) (is : List ℕ) (t : ℕ) → has d.cell (take t (path M s is)) ≡ false
    → take t (run (under M d) s is) ≡ take t (run M s is)
run_until M d s is t h = rw (prefix_run (under M d), prefix_run M) (run_never M d s (take t is) (rw prefix_path at h))

-- in a case: as many outputs are expected, and as many cells executed, as there are inputs
pub length_expected : (M : Machine) (is : List ℕ) → length (expected M is) ≡ length is
unfolding expected
length_expected M is = length_run M _ is

pub length_executed : (M : Machine) (is : List ℕ) → length (executed M is) ≡ length is
unfolding executed
length_executed M is = length_path M _ is

-- in the first steps of a case the cells executed are those under the first inputs
pub prefix_executed : (M : Machine) (is : List ℕ) (t : ℕ) → take t (executed M is) ≡ executed M (take t is)
unfolding executed
prefix_executed M is t = prefix_path M _ is t

-- a number's machine is expected to give the specified outputs until the number's cell is first executed ..
pub expected_until : (h : Head) (cells is : List ℕ) (f t : ℕ) → has (cell_of h f) (take t (executed (specified h cells) is)) ≡ false
    → take t (expected (changed h cells f) is) ≡ take t (expected (specified h cells) is)
unfolding expected executed changed change_of cell_of
expected_until h cells is f t e = run_until (specified h cells) (change_of (specified h cells) (fault_of h f)) _ is t e

-- .. and all of them if it never is
pub expected_never : (h : Head) (cells is : List ℕ) (f : ℕ) → has (cell_of h f) (executed (specified h cells) is) ≡ false
    → expected (changed h cells f) is ≡ expected (specified h cells) is
unfolding expected executed changed change_of cell_of
expected_never h cells is f e = run_never (specified h cells) (change_of (specified h cells) (fault_of h f)) _ is e

-- so such a number's machine reproduces a case exactly if the specified machine does
pub reproduces_never : (h : Head) (cells is ys : List ℕ) (f : ℕ) → has (cell_of h f) (executed (specified h cells) is) ≡ false
    → reproduces (changed h cells f) is ys ≡ reproduces (specified h cells) is ys
unfolding reproduces
reproduces_never h cells is ys f e = rw (expected_never h cells is f e)

-- outputs match exactly if they differ at no step
matching_differing : (gs ys : List ℕ) → matching gs ys ≡ eqb (differing gs ys) 0
unfolding matching differing
matching_differing [] ys = refl
matching_differing (g ∷ gs) [] = refl
matching_differing (g ∷ gs) (y ∷ ys) = go (agrees y g) (matching_differing gs ys)
  where
    go : (b : Bool) → matching gs ys ≡ eqb (differing gs ys) 0
        → (b && matching gs ys) ≡ eqb (cond b (differing gs ys) (suc (differing gs ys))) 0
    go true rest = rest
    go false rest = sym (eqb-suc-zero (differing gs ys))

-- a machine reproduces a case exactly if the case has no symptom against it
pub reproduces_symptoms : (M : Machine) (is ys : List ℕ) → reproduces M is ys ≡ eqb (symptoms_of M is ys).count 0
unfolding reproduces symptoms_of
reproduces_symptoms M is ys = matching_differing (expected M is) ys

-- where outputs match there is no first step at which they differ
first_matching : (t : ℕ) (gs ys : List ℕ) → matching gs ys ≡ true → first_differing t gs ys ≡ steps_most
unfolding matching first_differing
first_matching t [] ys h = refl
first_matching t (g ∷ gs) [] h = refl
first_matching t (g ∷ gs) (y ∷ ys) h =
    let both = and_true (agrees y g) (matching gs ys) h in
    rw both.0 (first_matching (suc t) gs ys both.1)

-- at step k of the given outputs the observed ones do not agree
record DiffersAt (gs ys : List ℕ) (k : ℕ) : Type 0 where
  within : k < length gs
  differs : agrees (get_or ys k 0) (get_or gs k 0) ≡ false

-- and where they do not match the first such step is one of the given outputs'
first_differing_law : (t : ℕ) (gs ys : List ℕ) → matching gs ys ≡ false → (k : ℕ) × (first_differing t gs ys ≡ t + k) × DiffersAt gs ys k
unfolding matching first_differing
first_differing_law t [] ys h = absurd (true≢false h)
first_differing_law t (g ∷ gs) [] h = absurd (true≢false h)
first_differing_law t (g ∷ gs) (y ∷ ys) h = go (agrees y g) refl (first_differing_law (suc t) gs ys) h
  where
    go : (b : Bool) → agrees y g ≡ b → (matching gs ys ≡ false → (k : ℕ) × (first_differing (suc t) gs ys ≡ suc t + k) × DiffersAt gs ys k)
        → (b && matching gs ys) ≡ false → (k : ℕ) × (cond b (first_differing (suc t) gs ys) t ≡ t + k) × DiffersAt (g ∷ gs) (y ∷ ys) k
    go true e rest h = let r = rest h in (suc r.0, omega arith, record { within = omega arith; differs = r.2.differs })
    go false e rest h = (zero, omega arith, record { within = omega arith; differs = e })

-- before the first such step they agree
before_differing : (t : ℕ) (gs ys : List ℕ) (k : ℕ) → k < length gs → k < length ys → t + k < first_differing t gs ys
    → agrees (get_or ys k 0) (get_or gs k 0) ≡ true
unfolding first_differing
before_differing t [] ys k inside seen h = absurd (omega arith)
before_differing t (g ∷ gs) [] k inside seen h = absurd (omega arith)
before_differing t (g ∷ gs) (y ∷ ys) zero inside seen h = go (agrees y g) refl h
  where
    go : (b : Bool) → agrees y g ≡ b → t + 0 < cond b (first_differing (suc t) gs ys) t → agrees y g ≡ true
    go true e h = e
    go false e h = absurd (omega arith)
before_differing t (g ∷ gs) (y ∷ ys) (suc k) inside seen h = go (agrees y g) (before_differing (suc t) gs ys k (omega arith) (omega arith)) h
  where
    go : (b : Bool) → (suc t + k < first_differing (suc t) gs ys → agrees (get_or ys k 0) (get_or gs k 0) ≡ true)
        → t + suc k < cond b (first_differing (suc t) gs ys) t → agrees (get_or ys k 0) (get_or gs k 0) ≡ true
    go true rest h = rest (omega arith)
    go false rest h = absurd (omega arith)

-- the first symptom is 64 where there is no symptom ..
pub first_symptom_none : (M : Machine) (is ys : List ℕ) → reproduces M is ys ≡ true → (symptoms_of M is ys).first ≡ steps_most
unfolding reproduces symptoms_of
first_symptom_none M is ys h = first_matching 0 (expected M is) ys h

-- .. and else it is a step of the case
pub first_step : (M : Machine) (is ys : List ℕ) → reproduces M is ys ≡ false → (symptoms_of M is ys).first < length is
unfolding reproduces symptoms_of
first_step M is ys h = let r = first_differing_law 0 (expected M is) ys h in omega (arith, length_expected M is)

-- at which the outputs do not agree, as they do before
pub first_differs : (M : Machine) (is ys : List ℕ) → reproduces M is ys ≡ false
    → agrees (get_or ys (symptoms_of M is ys).first 0) (get_or (expected M is) (symptoms_of M is ys).first 0) ≡ false
unfolding reproduces symptoms_of
first_differs M is ys h = let r = first_differing_law 0 (expected M is) ys h in rw (r.1, zero-add) r.2.differs

pub first_agrees : (M : Machine) (is ys : List ℕ) → length ys ≡ length is → (t : ℕ) → t < length is → t < (symptoms_of M is ys).first
    → agrees (get_or ys t 0) (get_or (expected M is) t 0) ≡ true
unfolding symptoms_of
first_agrees M is ys same t inside h =
    before_differing 0 (expected M is) ys t (omega (arith, length_expected M is)) (omega arith) (omega arith)

-- matching outputs agree at every step
matching_agrees : (gs ys : List ℕ) (k : ℕ) → matching gs ys ≡ true → k < length gs → k < length ys → agrees (get_or ys k 0) (get_or gs k 0) ≡ true
unfolding matching
matching_agrees [] ys k h inside seen = absurd (omega arith)
matching_agrees (g ∷ gs) [] k h inside seen = absurd (omega arith)
matching_agrees (g ∷ gs) (y ∷ ys) zero h inside seen = (and_true (agrees y g) (matching gs ys) h).0
matching_agrees (g ∷ gs) (y ∷ ys) (suc k) h inside seen =
    matching_agrees gs ys k (and_true (agrees y g) (matching gs ys) h).1 (omega arith) (omega arith)

-- a machine that reproduces a case agrees at every step
pub reproduces_agrees : (M : Machine) (is ys : List ℕ) → length ys ≡ length is → reproduces M is ys ≡ true → (t : ℕ) → t < length is
    → agrees (get_or ys t 0) (get_or (expected M is) t 0) ≡ true
unfolding reproduces
reproduces_agrees M is ys same h t inside = matching_agrees (expected M is) ys t h (omega (arith, length_expected M is)) (omega arith)

-- outputs that agree at every step match
agrees_matching : (gs ys : List ℕ) → length ys ≡ length gs → ((k : ℕ) → k < length gs → agrees (get_or ys k 0) (get_or gs k 0) ≡ true)
    → matching gs ys ≡ true
unfolding matching
agrees_matching [] ys same each = refl
agrees_matching (g ∷ gs) [] same each = refl
agrees_matching (g ∷ gs) (y ∷ ys) same each =
    rw (each 0 (omega arith)) (agrees_matching gs ys (omega arith) (λ k l. each (suc k) (omega arith)))

-- and one that agrees at every step reproduces it: so a machine reproduces a case exactly if every step agrees
pub reproduces_exactly : (M : Machine) (is ys : List ℕ) → length ys ≡ length is
    → (reproduces M is ys ≡ true) ↔ ((t : ℕ) → t < length is → agrees (get_or ys t 0) (get_or (expected M is) t 0) ≡ true)
unfolding reproduces
reproduces_exactly M is ys same = (
  reproduces_agrees M is ys same,
  λ each. agrees_matching (expected M is) ys (omega (arith, length_expected M is)) (λ k l. each k (omega (arith, length_expected M is))),
)
