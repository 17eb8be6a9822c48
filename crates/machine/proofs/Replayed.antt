-- The replay of a case is the run: its symptoms so far and the first of them are those of the steps replayed. By induction on the steps.
-- Assumes nothing.
use Prim.Native.Nat.{ℕ, suc, ◌+◌, ◌≤◌, ◌<◌}
use mathlib.Core.Path.{◌≡◌, refl, sym, ◌∙◌}
use mathlib.Core.List.{List, [], ◌∷◌}
use mathlib.Core.Bool.{Bool, true, false, cond}
use native.Mathlib.Nat.{zero-add}
use native.Mathlib.Numerals.{add-one}
use native.Mathlib.Omega.{arith}
use lib.Dec.{eqb}
use lib.ListN.{length, drop, get_or, drop_of_length-le}
use lib.Seq.{drop-cons}
use borrow.Author.Tests.{eq-eqb, ne_eqb}
use Rattle.machine.specs.Limits.{steps_most}
use Rattle.machine.specs.Head.{HeadIn}
use Rattle.machine.specs.Machine.{Machine, cell_number}
use Rattle.machine.specs.Case.{CaseIn}
use Rattle.machine.specs.Run.{run, agrees, differing, first_differing, expected, symptoms_of, reproduces}
use Rattle.machine.specs.Replay.{fresh, passed, failed, stepped, taken, replayed, ReplayIn, NextStep}
use Rattle.machine.specs.declared.head.Head.{Head}
use Rattle.machine.specs.declared.cell.Move.{Move}
use Rattle.machine.specs.declared.replay.Replay.{Replay}
use Rattle.machine.proofs.Cases.{case_step}
use Rattle.machine.proofs.Run.{reproduces_symptoms}

-- a loop's turn
pub replay_turn : (M : Machine) (r : Replay) (is ys : List ℕ) (t : ℕ) → t < length is → t < length ys
    → replayed M r (drop t is) (drop t ys) ≡ replayed M (taken M r (get_or is t 0) (get_or ys t 0)) (drop (t + 1) is) (drop (t + 1) ys)
unfolding replayed
replay_turn M r is ys t inside seen = rw (add-one, drop-cons is t 0, drop-cons ys t 0)

-- a loop's end
pub replay_ended : (M : Machine) (r : Replay) (is ys : List ℕ) (t : ℕ) → length is ≤ t → replayed M r (drop t is) (drop t ys) ≡ r
unfolding replayed
replay_ended M r is ys t h = rw (drop_of_length-le is h)

-- what holds after a step that agrees and after one that does not holds after the step
either_way : (M : Machine) (r : Replay) (i y : ℕ) (P : Bool → Replay → Type 0) → P true (passed r (M.does (cell_number M.inputs r.state i)))
    → P false (failed r (M.does (cell_number M.inputs r.state i))) → P (agrees y (M.does (cell_number M.inputs r.state i)).output) (taken M r i y)
unfolding taken stepped
either_way M r i y P agreed differed = go (agrees y (M.does (cell_number M.inputs r.state i)).output)
  where
    go : (b : Bool) → P b (cond b (passed r (M.does (cell_number M.inputs r.state i))) (failed r (M.does (cell_number M.inputs r.state i))))
    go true = agreed
    go false = differed

-- what a replay has counted when it ends
pub replay_count : (M : Machine) (r : Replay) (is ys : List ℕ) → (replayed M r is ys).symptoms ≡ r.symptoms + differing (run M r.state is) ys
unfolding replayed passed failed run differing
replay_count M r [] ys = omega arith
replay_count M r (i ∷ is) [] = omega arith
replay_count M r (i ∷ is) (y ∷ ys) =
    let to = M.does (cell_number M.inputs r.state i) in
    let later : ℕ = differing (run M to.next is) ys in
    let counted = replay_count M (failed r to) is ys in
    either_way M r i y (λ b q. (replayed M q is ys).symptoms ≡ r.symptoms + cond b later (suc later))
    (replay_count M (passed r to) is ys) (omega arith)

-- a replay that has met a symptom keeps its first
replay_kept : (M : Machine) (r : Replay) (is ys : List ℕ) → 0 < r.symptoms → (replayed M r is ys).first ≡ r.first
unfolding replayed passed failed
replay_kept M r [] ys h = refl
replay_kept M r (i ∷ is) [] h = refl
replay_kept M r (i ∷ is) (y ∷ ys) h =
    let to = M.does (cell_number M.inputs r.state i) in
    let met : eqb r.symptoms 0 ≡ false = ne_eqb r.symptoms 0 (λ none. omega arith) in
    either_way M r i y (λ b q. (replayed M q is ys).first ≡ r.first)
    (replay_kept M (passed r to) is ys h) (replay_kept M (failed r to) is ys (omega arith) ∙ rw met)

-- one that has met none ends with the first of the steps left
replay_first : (M : Machine) (r : Replay) (is ys : List ℕ) → r.symptoms ≡ 0 → r.first ≡ steps_most
    → (replayed M r is ys).first ≡ first_differing r.step (run M r.state is) ys
unfolding replayed passed failed run first_differing
replay_first M r [] ys none h = h
replay_first M r (i ∷ is) [] none h = h
replay_first M r (i ∷ is) (y ∷ ys) none h =
    let to = M.does (cell_number M.inputs r.state i) in
    let here : eqb r.symptoms 0 ≡ true = eq-eqb r.symptoms 0 none in
    either_way M r i y (λ b q. (replayed M q is ys).first ≡ cond b (first_differing (suc r.step) (run M to.next is) ys) r.step)
    (rw (← add-one r.step) (replay_first M (passed r to) is ys none h)) (replay_kept M (failed r to) is ys (omega arith) ∙ rw here)

-- a fresh replay ends with the symptoms of the case
pub replay_symptoms : (M : Machine) (is ys : List ℕ)
    → symptoms_of M is ys ≡ record { count = (replayed M fresh is ys).symptoms; first = (replayed M fresh is ys).first }
unfolding symptoms_of expected fresh
replay_symptoms M is ys = rw (replay_count, replay_first M fresh is ys refl refl, zero-add)

-- a replay with no symptom at the end is one of a machine that reproduces the case
pub replay_reproduces : (M : Machine) (is ys : List ℕ) → (replayed M fresh is ys).symptoms ≡ 0 → reproduces M is ys ≡ true
replay_reproduces M is ys h = rw (reproduces_symptoms, replay_symptoms) (eq-eqb _ _ h)

-- a step taken from a move is the machine's where the move is
pub taken_is : (M : Machine) (r : Replay) (to : Move) (i y : ℕ) (x : Replay) → to ≡ M.does (cell_number M.inputs r.state i) → x ≡ stepped r to y
    → x ≡ taken M r i y
unfolding taken
taken_is M r to i y x e step = rw (← e) step

-- a step to a state leaves a replay in a state, one step further
pub stepped_in : (h : Head) (r : Replay) (to : Move) (y : ℕ) (x : Replay) → ReplayIn h r → to.next < h.states → x ≡ stepped r to y
    → (ReplayIn h x) × NextStep r x
unfolding stepped passed failed
stepped_in h r to y x known l e = rw e (go (agrees y to.output))
  where
    go : (b : Bool) → (ReplayIn h (cond b (passed r to) (failed r to))) × NextStep r (cond b (passed r to) (failed r to))
    go true = (record { state_in = l; few_symptoms = omega (arith, known.few_symptoms) }, refl)
    go false = (record { state_in = l; few_symptoms = omega (arith, known.few_symptoms) }, refl)

-- where a loop over the steps of a case stands: at step t, with a replay that ends as a fresh one does
pub record Underway (h : Head) (M : Machine) (is ys : List ℕ) (t : ℕ) (r : Replay) : Type 0 where
  pub known : ReplayIn h r
  pub at_step : r.step ≡ t
  pub inside : t ≤ length is
  pub whole : replayed M r (drop t is) (drop t ys) ≡ replayed M fresh is ys

-- it begins so
pub begins : (h : Head) (M : Machine) (is ys : List ℕ) (r : Replay) → HeadIn h → r ≡ fresh → Underway h M is ys 0 r
unfolding fresh
begins h M is ys r head e =
    rw e
    (record {
      known = record { state_in = omega (arith, head.some_states); few_symptoms = omega arith };
      at_step = refl;
      inside = omega arith;
      whole = refl;
    })

-- and goes on so
pub goes_on : (h : Head) (M : Machine) (is ys : List ℕ) (t i y : ℕ) (r x : Replay) → Underway h M is ys t r → t < length is → length ys ≡ length is
    → i ≡ get_or is t 0 → y ≡ get_or ys t 0 → x ≡ taken M r i y → (ReplayIn h x) × NextStep r x → Underway h M is ys (t + 1) x
goes_on h M is ys t i y r x u l even ei ey e after =
    record {
      known = after.0;
      at_step = omega (arith, after.1, u.at_step);
      inside = omega arith;
      whole = rw (e, ei, ey) (sym (replay_turn M r is ys t l (omega arith)) ∙ u.whole);
    }

-- and ends with the fresh replay's end
pub ends : (h : Head) (M : Machine) (is ys : List ℕ) (t : ℕ) (r : Replay) → Underway h M is ys t r → length is ≤ t → replayed M fresh is ys ≡ r
ends h M is ys t r u l = sym u.whole ∙ replay_ended M r is ys t l

-- one that has met a symptom on the way is one of a machine that does not reproduce the case
pub symptom_misses : (h : Head) (M : Machine) (is ys : List ℕ) (t : ℕ) (r : Replay) → Underway h M is ys t r → 0 < r.symptoms → reproduces M is ys ≡ false
symptom_misses h M is ys t r u l =
    let met = replay_count M r (drop t is) (drop t ys) in
    rw (reproduces_symptoms, replay_symptoms, ← u.whole) (ne_eqb (replayed M r (drop t is) (drop t ys)).symptoms 0 (λ none. omega arith))

-- what a step on the way asks is known
pub step_asks : (h : Head) (M : Machine) (is ys : List ℕ) (t i : ℕ) (r : Replay) → CaseIn h is ys → Underway h M is ys t r → t < length is
    → i ≡ get_or is t 0 → (ReplayIn h r) × ((r.step < steps_most) × (i < h.inputs))
step_asks h M is ys t i r k u l e =
    (u.known, (omega (arith, u.at_step, k.few_steps), rw e (case_step h is ys k t l)))

-- a fresh replay has met no symptom
pub fresh_none : (r : Replay) → r ≡ fresh → r.symptoms ≡ 0
unfolding fresh
fresh_none r e = rw e
