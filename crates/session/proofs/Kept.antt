-- Every change keeps the form: an add, a withdrawal and an amendment by what the place and the tallies then hold; a load is adds, one after the
-- other. Assumes nothing.
use Prim.Native.Nat.{ℕ, ◌+◌, ◌≤◌, ◌<◌}
use mathlib.Core.Path.{◌≡◌, sym, subst, ◌∙◌}
use mathlib.Core.List.{List, [], ◌∷◌}
use mathlib.Core.Bool.{true}
use native.Mathlib.Omega.{arith}
use lib.ListN.{length, get_or}
use Rattle.shapes.specs.Keep.{every}
use Rattle.shapes.proofs.Tests.{and_true}
use Rattle.machine.specs.Head.{numbers}
use Rattle.machine.specs.Case.{Case, good_case, all_good, no_case}
use Rattle.machine.specs.declared.head.Head.{Head}
use Rattle.memory.specs.Layout.{places_most, head_of, case_of, cases, free_place}
use Rattle.memory.specs.Form.{Formed, is_slot}
use Rattle.tallies.specs.Tallies.{can_take, raised, lowered}
use Rattle.memory.specs.Store.{placed}
use Rattle.session.specs.Calls.{loaded_session, loaded_tallies}
use Rattle.memory.proofs.Stored.{Fits, no_fits, head_placed, place_stored, place_cleared}
use Rattle.tallies.proofs.Tallied.{raised_out, length_raised, raised_few, lowered_in, lowered_out, length_lowered, can_take_at}
use Rattle.memory.proofs.Held.{good_fits, slot_inside, add_count, withdraw_count, amend_count, place_keeps, free_left}

-- an add keeps the form,
pub add_keeps : (s t : List ℕ) (c : Case) → Formed s t → good_case (head_of s) c.inputs c.outputs ≡ true → free_place s < places_most
    → Formed (placed s (free_place s) c) (raised s c t)
add_keeps s t c k g l =
    place_keeps s t k (free_place s) l c fits (place_stored s k.session_room (free_place s) l c fits g) (raised s c t) (length_raised s c t)
    (λ f m n o. rw (add_count s t c k g l) (omega (arith, (raised_few s c t f).1))) (raised_out s c t)
  where
    fits : Fits c
    fits = good_fits (head_of s) c g

-- and so does a withdrawal
pub withdraw_keeps : (s t : List ℕ) (p : ℕ) → Formed s t → is_slot s p ≡ true → can_take s t p ≡ true
    → Formed (placed s p no_case) (lowered s (case_of s p) t)
withdraw_keeps s t p k slot can =
    place_keeps s t k p inside no_case no_fits (place_cleared s k.session_room p inside) (lowered s (case_of s p) t)
    (length_lowered s (case_of s p) t)
    (λ f m n o. rw (lowered_in s (case_of s p) t f m n) (omega (arith, (can_take_at s t p f can m).1, withdraw_count s t p k slot)))
    (lowered_out s (case_of s p) t)
  where
    inside : p < places_most
    inside = slot_inside s p slot

-- and an amendment
pub amend_keeps : (s t : List ℕ) (p : ℕ) (c : Case) → Formed s t → is_slot s p ≡ true → can_take s t p ≡ true
    → good_case (head_of s) c.inputs c.outputs ≡ true → Formed (placed s p c) (raised s c (lowered s (case_of s p) t))
amend_keeps s t p c k slot can g =
    place_keeps s t k p inside c fits (place_stored s k.session_room p inside c fits g) (raised s c less)
    (length_raised s c less ∙ length_lowered s (case_of s p) t) used
    (λ f m. raised_out s c less f m ∙ lowered_out s (case_of s p) t f m)
  where
    inside : p < places_most
    inside = slot_inside s p slot

    fits : Fits c
    fits = good_fits (head_of s) c g

    less : List ℕ
    less = lowered s (case_of s p) t

    used : (f : ℕ) → f < numbers (head_of s) → f < length t → get_or t f 0 ≤ length (cases s) → get_or (raised s c less) f 0 ≤ length (cases (placed s p c))
    used f m n o =
        rw (amend_count s t p c k slot g)
        (omega (arith, (raised_few s c less f).1, lowered_in s (case_of s p) t f m n, (can_take_at s t p f can m).1, withdraw_count s t p k slot))

-- a load is adds, one after the other: what every add keeps a load keeps
pub load_adds : (P : List ℕ → List ℕ → Type 0)
    → ((s t : List ℕ) (c : Case) → Formed s t → P s t → good_case (head_of s) c.inputs c.outputs ≡ true → free_place s < places_most
    → P (placed s (free_place s) c) (raised s c t))
    → (s t : List ℕ) (cs : List Case) → Formed s t → P s t → all_good (head_of s) cs ≡ true → length (cases s) + length cs ≤ places_most
    → P (loaded_session s cs) (loaded_tallies s cs t)
unfolding loaded_session loaded_tallies all_good every
load_adds P add s t [] k now good few = now
load_adds P add s t (c ∷ cs) k now good few =
    let g = and_true (good_case (head_of s) c.inputs c.outputs) _ good in
    let l = free_left s (omega arith) in
    let n = add_count s t c k g.0 l in
    let head = head_placed s k.session_room (free_place s) l c (good_fits (head_of s) c g.0) in
    load_adds P add (placed s (free_place s) c) (raised s c t) cs (add_keeps s t c k g.0 l) (add s t c k now g.0 l)
    (subst (λ (h : Head). all_good h cs ≡ true) (sym head) g.1) (omega arith)

-- so it keeps the form
pub load_keeps : (s t : List ℕ) (cs : List Case) → Formed s t → all_good (head_of s) cs ≡ true → length (cases s) + length cs ≤ places_most
    → Formed (loaded_session s cs) (loaded_tallies s cs t)
load_keeps s t cs k = load_adds Formed (λ s t c k now. add_keeps s t c k) s t cs k k
