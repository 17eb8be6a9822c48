-- Demand 3: after a start that answered Ok 0 and any list of calls, refused ones among them, the memory shows the model. A call's rules let it
-- pass exactly where the model takes it, so both change or both stay; what a store changes in the memory is what the model changes; and the
-- answer says which, with the number that the model tells.
-- Assumes nothing.
use Prim.Native.Nat.{ℕ, zero, suc, ◌+◌, ◌-◌, ◌≤◌, ◌<◌}
use mathlib.Core.Path.{◌≡◌, refl, sym, ap, subst, ◌∙◌}
use mathlib.Core.List.{List, [], ◌∷◌, ◌++◌}
use mathlib.Core.Bool.{Bool, true, false, cond, not, ◌&&◌, true≢false}
use mathlib.Core.Logic.{◌↔◌}
use native.Mathlib.Omega.{arith}
use lib.Dec.{eqb, ltb, leb}
use lib.ListN.{length, get_or}
use borrow.Author.Tests.{eqb-true, eqb-false, lt-ltb, le-ltb, le-leb, lt-leb, ltb-true, ltb-false, leb-true, leb-false}
use Rattle.std.specs.Prelude.{Err, Ok, Result}
use Rattle.shapes.specs.Keep.{every}
use Rattle.shapes.specs.Refusals.{Rule, when, Ruling, fine, refused, ruling}
use Rattle.shapes.proofs.First.{first_same}
use Rattle.shapes.proofs.Refusals.{through, fine_when, ruling_join_fine, ruling_joined}
use Rattle.shapes.proofs.Tests.{and_true}
use Rattle.machine.specs.Head.{numbers}
use Rattle.machine.specs.Cell.{TableIn}
use Rattle.machine.specs.Case.{Case, good_case, all_good, no_case}
use Rattle.machine.specs.declared.head.Head.{Head}
use Rattle.house.specs.Refusal.{checked, ruled}
use Rattle.house.specs.Table.{head_in, table_rules, table_read}
use Rattle.house.specs.Cases.{count_in, count_of, record_rules, record_read, cases_in, alone, case_rules, cases_rules}
use Rattle.house.specs.declared.refusal.Refusal.{Refusal}
use Rattle.house.proofs.Tables.{table_taken}
use Rattle.house.proofs.Against.{case_fine, cases_fine}
use Rattle.diagnosis.specs.Diagnosis.{tally}
use Rattle.diagnosis.proofs.Same.{tally_same}
use Rattle.memory.specs.Layout.{places_most, session_size, tallies_size, head_of, cells_of, is_held, case_of, case_if, held_to, cases, free_place, cases_at}
use Rattle.memory.specs.Form.{Formed, room_rules, form_rules, is_slot, slot_rules}
use Rattle.tallies.specs.Tallies.{TrueTallies, can_take, raised, lowered}
use Rattle.session.specs.Calls.{Offer, outcome_or, start_rules, start_call, add_rules, add_call, withdraw_rules, withdraw_call, amend_rules, amend_call, loaded_session, loaded_tallies, room_for_rules, load_rules, load_call}
use Rattle.memory.specs.Store.{placed, started, cleared}
use Rattle.session.specs.History.{Call, start, add, amend, withdraw, load, Memory, memory, answer_of, left, outcome_of, answered, called, called_all, Content, free, holds, Model, is_holding, content_cases, cases_to, cases_held, lowest, put, put_all, with_places, started_model, is_table, is_record, fits_table, holds_at, takes, makes, tells, step, steps, accepted, accepted_all, content_of, Shows}
use Rattle.memory.proofs.Formed.{formed_table, cases_good, cases_most_law}
use Rattle.memory.proofs.Checks.{room_known}
use Rattle.memory.proofs.Known.{room_rules_law, formed_rules, session_table}
use Rattle.memory.proofs.Stored.{Fits, no_fits, head_placed, cells_placed, case_placed, held_placed, steps_elsewhere, case_elsewhere}
use Rattle.memory.proofs.Held.{good_fits, good_fills, slot_inside, places_few, add_count, free_left}
use Rattle.session.proofs.Kept.{add_keeps, withdraw_keeps, amend_keeps}
use Rattle.memory.proofs.Started.{start_keeps, started_free, table_short, started_table}
use Rattle.session.proofs.AllKept.{table_read_law}
use Rattle.session.proofs.Outcomes.{outcome_done}
use Rattle.session.proofs.True.{add_true, true_can_take, withdraw_true, amend_true, start_true}

-- what a memory shows
abbrev pub ShowsMemory : Memory → Model → Type 0
ShowsMemory (memory s t) m = Shows s t m

-- a ruling is fine exactly if a test holds
abbrev Decides : Ruling Refusal → Bool → Type 0
Decides fine b = b ≡ true
Decides (refused r) b = b ≡ false

-- what is read from a file is a table exactly if its rules let it pass,
table_decides : (v : Ruling Refusal) (h : Head) → Decides v (is_table (ruled v h))
table_decides fine h = refl
table_decides (refused r) h = refl

-- and a record so too
record_decides : (v : Ruling Refusal) (n : ℕ) → Decides v (is_record (ruled v n))
record_decides fine n = refl
record_decides (refused r) n = refl

-- one rule lets pass exactly if its test fails
decides_one : (x b : Bool) (r : Refusal) → x ≡ not b → Decides (ruling (when x r ∷ [])) b
unfolding ruling
decides_one x true r e = rw e
decides_one x false r e = rw e

-- rules and rules after them let pass exactly if both do
decides_join : (l n : List (Rule Refusal)) (a b : Bool) → Decides (ruling l) a → Decides (ruling n) b → Decides (ruling (l ++ n)) (a && b)
unfolding ruling
decides_join [] n a b d e = rw d e
decides_join (when true r ∷ l) n a b d e = rw d
decides_join (when false r ∷ l) n a b d e = decides_join l n a b d e

-- what is fine exactly if a test holds is decided by it,
decides_from : (v : Ruling Refusal) (b : Bool) → (v ≡ fine) ↔ (b ≡ true) → Decides v b
decides_from fine b e = e.0 refl
decides_from (refused r) true e = let z = e.1 refl in cc
decides_from (refused r) false e = refl

-- and what is decided by a test is fine exactly if it holds:
decides_when : (v : Ruling Refusal) (b : Bool) → Decides v b → (v ≡ fine) ↔ (b ≡ true)
decides_when fine b d = (λ e. d, λ e. refl)
decides_when (refused r) b d = (λ e. cc, λ e. absurd (true≢false (sym e ∙ d)))

-- the rules let pass buffers that are long enough,
room_decides : (s t : List ℕ) → session_size ≤ length s → tallies_size ≤ length t → Decides (ruling (room_rules s t)) true
room_decides s t a b = decides_from _ true (λ e. refl, λ e. room_rules_law s t a b)

-- a well-formed session,
form_decides : (s t : List ℕ) → Formed s t → Decides (ruling (form_rules s t)) true
form_decides s t k = decides_from _ true (λ e. refl, λ e. formed_rules s t k)

-- a case that can be run,
case_decides : (h : Head) (c : Case) → Decides (ruling (case_rules h alone c)) (good_case h c.inputs c.outputs)
case_decides h c = decides_from _ _ (case_fine h alone c)

-- and cases that all can
cases_decide : (h : Head) (cs : List Case) → Decides (ruling (cases_rules h alone cs)) (all_good h cs)
cases_decide h cs = decides_from _ _ (cases_fine h alone cs)

-- what a place of the memory holds is a case exactly if the place is held
content_holding : (s : List ℕ) (p : ℕ) → is_holding (content_of s p) ≡ is_held s p
unfolding content_of
content_holding s p = go (is_held s p)
  where
    go : (b : Bool) → is_holding (cond b (holds (case_of s p)) free) ≡ b
    go true = refl
    go false = refl

-- and its cases are those of the place
content_cases_law : (s : List ℕ) (p : ℕ) → cases_at s p ≡ content_cases (content_of s p)
unfolding content_of
content_cases_law s p = go (is_held s p)
  where
    go : (b : Bool) → case_if b (case_of s p) ≡ content_cases (cond b (holds (case_of s p)) free)
    go true = refl
    go false = refl

-- places that hold the same hold the same cases
held_same : (s : List ℕ) (at : ℕ → Content) (n : ℕ) → ((p : ℕ) → p < n → content_of s p ≡ at p) → held_to s n ≡ cases_to at n
unfolding held_to cases_to
held_same s at zero each = refl
held_same s at (suc n) each =
    λ i. held_same s at n (λ p l. each p (omega arith)) i ++ (content_cases_law s n ∙ ap content_cases (each n (omega arith))) i

module _ (s t : List ℕ) (m : Model) (k : Shows s t m) where
  -- the cases held are those of the model, by rising place
  pub shown_cases : cases s ≡ cases_held m
  unfolding cases cases_held
  shown_cases = held_same s m.at places_most k.same_places

  -- a place is held exactly if it holds a case in the model
  held_shown : (p : ℕ) → p < places_most → is_holding (m.at p) ≡ is_held s p
  held_shown p l = ap is_holding (sym (k.same_places p l)) ∙ content_holding s p

  -- so the same place is the lowest that is free,
  free_shown : lowest m.at ≡ free_place s
  unfolding lowest free_place
  free_shown = first_same _ _ 0 places_most (λ p a l. ap not (held_shown p (omega arith)))

  -- the same places can be withdrawn or amended,
  slot_shown : (p : ℕ) → holds_at m p ≡ is_slot s p
  unfolding is_slot
  slot_shown p = go (ltb p places_most) refl
    where
      go : (b : Bool) → ltb p places_most ≡ b → (b && is_holding (m.at p)) ≡ (b && is_held s p)
      go true e = held_shown p (ltb-true p places_most e)
      go false e = refl

  -- and the same cases can be run
  fits_shown : (c : Case) → fits_table m c ≡ good_case (head_of s) c.inputs c.outputs
  fits_shown c = rw k.same_head

  -- a store in a place is shown by a change of that place
  place_shows : (p : ℕ) → p < places_most → (c : Case) → Fits c → (x : Content)
      → cond (not (eqb (length c.inputs) 0)) (holds c) free ≡ x → (t' : List ℕ) → Formed (placed s p c) t' → TrueTallies (placed s p c) t'
      → Shows (placed s p c) t' (with_places m (put m.at p x))
  unfolding content_of
  place_shows p l c fits x is t' form now =
      record {
        formed = form;
        true_tallies = now;
        same_head = head_placed s room p l c fits ∙ k.same_head;
        same_cells = λ i h. ap (λ (cells : List ℕ). get_or cells i 0) (cells_placed s room p l c fits) ∙ k.same_cells i h;
        same_places = λ q h. go q h (eqb q p) refl;
      }
    where
      room : session_size ≤ length s
      room = k.formed.session_room

      here : content_of (placed s p c) p ≡ x
      here = (λ i. cond (held_placed s room p l c fits i) (holds (case_placed s room p l c fits i)) free) ∙ is

      go : (q : ℕ) → q < places_most → (b : Bool) → eqb q p ≡ b → content_of (placed s p c) q ≡ cond b x (m.at q)
      go q h true e = rw (eqb-true q p e) here
      go q h false e =
          let other = eqb-false q p e in
          let steps = steps_elsewhere s room p l c fits q h other in
          let case = case_elsewhere s room p l c fits q h other (places_few s t k.formed q h) in
          (λ i. cond (not (eqb (steps i) 0)) (holds (case i)) free) ∙ k.same_places q h

  -- with a case that can be run the place then holds it
  case_shows : (p : ℕ) → p < places_most → (c : Case) → good_case (head_of s) c.inputs c.outputs ≡ true → (t' : List ℕ)
      → Formed (placed s p c) t' → TrueTallies (placed s p c) t' → Shows (placed s p c) t' (with_places m (put m.at p (holds c)))
  case_shows p l c good =
      place_shows p l c (good_fits (head_of s) c good) (holds c) (ap (λ (b : Bool). cond b (holds c) free) (good_fills (head_of s) c good))

  -- a case added is shown by the lowest free place holding it
  add_shows : (c : Case) → good_case (head_of s) c.inputs c.outputs ≡ true → free_place s < places_most
      → Shows (placed s (free_place s) c) (raised s c t) (with_places m (put m.at (lowest m.at) (holds c)))
  add_shows c good l =
      rw free_shown
      (case_shows (free_place s) l c good (raised s c t) (add_keeps s t c k.formed good l) (add_true s t c k.formed k.true_tallies good l))

  -- a place withdrawn, by its being free
  withdraw_shows : (p : ℕ) → is_slot s p ≡ true → Shows (placed s p no_case) (lowered s (case_of s p) t) (with_places m (put m.at p free))
  withdraw_shows p slot =
      place_shows p (slot_inside s p slot) no_case no_fits free refl (lowered s (case_of s p) t)
      (withdraw_keeps s t p k.formed slot (true_can_take s t p k.formed k.true_tallies slot))
      (withdraw_true s t p k.formed k.true_tallies slot)

  -- a place amended, by its holding the new case
  amend_shows : (p : ℕ) (c : Case) → is_slot s p ≡ true → good_case (head_of s) c.inputs c.outputs ≡ true
      → Shows (placed s p c) (raised s c (lowered s (case_of s p) t)) (with_places m (put m.at p (holds c)))
  amend_shows p c slot good =
      case_shows p (slot_inside s p slot) c good (raised s c (lowered s (case_of s p) t))
      (amend_keeps s t p c k.formed slot (true_can_take s t p k.formed k.true_tallies slot) good)
      (amend_true s t p c k.formed k.true_tallies slot good)

-- cases loaded are shown by the lowest free places holding them, in order
load_shows : (s t : List ℕ) (m : Model) (cs : List Case) → Shows s t m → all_good (head_of s) cs ≡ true → length (cases s) + length cs ≤ places_most
    → Shows (loaded_session s cs) (loaded_tallies s cs t) (with_places m (put_all m.at cs))
unfolding loaded_session loaded_tallies put_all all_good every
load_shows s t m [] k good few = k
load_shows s t m (c ∷ cs) k good few =
    let g = and_true (good_case (head_of s) c.inputs c.outputs) _ good in
    let l = free_left s (omega arith) in
    let n = add_count s t c k.formed g.0 l in
    let next = add_shows s t m k c g.0 l in
    let head = next.same_head ∙ sym k.same_head in
    load_shows (placed s (free_place s) c) (raised s c t) _ cs next (subst (λ (h : Head). all_good h cs ≡ true) (sym head) g.1) (omega arith)

-- a session that was started shows the model that its file starts
started_shows : (s t file : List ℕ) → session_size ≤ length s → tallies_size ≤ length t → table_read file ≡ Ok (head_in file)
    → Shows (started s file) (cleared t) (started_model file)
unfolding started_model content_of
started_shows s t file room rest read =
    record {
      formed = start_keeps s t file (head_in file) room rest read;
      true_tallies = start_true s t file (head_in file) room rest read;
      same_head = (started_table s file (head_in file) room read).0;
      same_cells = (started_table s file (head_in file) room read).1;
      same_places = λ p l. rw (started_free s file room (table_short file (head_in file) read) p l);
    }

-- no rule refuses a start exactly if there is room and the file is a table
start_fine : (s t file : List ℕ)
    → (ruling (start_rules s t file) ≡ fine) ↔ ((session_size ≤ length s) × ((tallies_size ≤ length t) × (table_read file ≡ Ok (head_in file))))
unfolding start_rules
start_fine s t file = (
  λ e.
      let j = ruling_joined (room_rules s t) (table_rules file) e in
      let r = room_known s t (ap checked j.0) in
      (r.0, (r.1, table_read_law file j.1)),
  λ k.
      ruling_join_fine (room_rules s t) (table_rules file) (room_rules_law s t k.0 k.1.0)
      ∙ (fine_when (table_rules file)).1 (table_taken file (head_in file) k.1.1).0,
)

-- a start that answered Ok 0 had room and a table file, and else it did not
pub start_accepted : (s t file : List ℕ)
    → (answer_of (start_call s t file) ≡ Ok 0)
    ↔ ((session_size ≤ length s) × ((tallies_size ≤ length t) × (table_read file ≡ Ok (head_in file))))
unfolding start_call
start_accepted s t file =
    let v = ruling (start_rules s t file) in
    through (outcome_done v 0 0 s t (started s file) (cleared t)) (λ e. (start_fine s t file).0 e.0, λ k. ((start_fine s t file).1 k, refl))

-- and such a start shows its model
pub start_shows : (s t file : List ℕ) → answer_of (start_call s t file) ≡ Ok 0 → ShowsMemory (left (start_call s t file)) (started_model file)
unfolding start_call
start_shows s t file e =
    let k = (start_accepted s t file).0 e in rw ((start_fine s t file).1 k) (started_shows s t file k.0 k.1.0 k.1.1)

-- a start is let pass exactly if its file is a table
start_decides : (s t file : List ℕ) → session_size ≤ length s → tallies_size ≤ length t
    → Decides (ruling (start_rules s t file)) (is_table (table_read file))
unfolding start_rules table_read
start_decides s t file room rest =
    decides_join (room_rules s t) (table_rules file) true _ (room_decides s t room rest) (table_decides (ruling (table_rules file)) (head_in file))

-- an add is let pass exactly if the model takes it
add_decides : (s t : List ℕ) (m : Model) → Shows s t m → (o : Offer)
    → Decides (ruling (add_rules s t o)) (fits_table m o.case && ltb (lowest m.at) places_most)
unfolding add_rules
add_decides s t m k o =
    rw (fits_shown s t m k o.case, free_shown s t m k)
    (decides_join (form_rules s t) _ true _ (form_decides s t k.formed)
    (decides_join (case_rules (head_of s) alone o.case) _ _ _ (case_decides (head_of s) o.case)
    (decides_one (leb places_most (free_place s)) (ltb (free_place s) places_most) _ (low (ltb (free_place s) places_most) refl))))
  where
    low : (b : Bool) → ltb (free_place s) places_most ≡ b → leb places_most (free_place s) ≡ not b
    low true e = lt-leb places_most (free_place s) (ltb-true (free_place s) places_most e)
    low false e = le-leb places_most (free_place s) (ltb-false (free_place s) places_most e)

-- a place is let pass exactly if it holds a case
slot_decides : (s t : List ℕ) (m : Model) → Shows s t m → (p : ℕ) → Decides (ruling (slot_rules s t p)) (is_slot s p)
unfolding slot_rules
slot_decides s t m k p = decides_join (form_rules s t) _ true _ (form_decides s t k.formed) (decides_one _ (is_slot s p) _ refl)

-- a withdrawal is let pass exactly if the model takes it, since every held case can be taken away;
withdraw_decides : (s t : List ℕ) (m : Model) → Shows s t m → (p : ℕ)
    → Decides (ruling (withdraw_rules s t p)) (holds_at m p)
unfolding withdraw_rules
withdraw_decides s t m k p =
    rw (slot_shown s t m k p, ← can (is_slot s p) refl)
    (decides_join (slot_rules s t p) _ _ _ (slot_decides s t m k p) (decides_one _ (can_take s t p) _ refl))
  where
    can : (b : Bool) → is_slot s p ≡ b → (b && can_take s t p) ≡ b
    can true e = true_can_take s t p k.formed k.true_tallies e
    can false e = refl

-- so is an amendment,
amend_decides : (s t : List ℕ) (m : Model) → Shows s t m → (p : ℕ) (o : Offer)
    → Decides (ruling (amend_rules s t p o)) (holds_at m p && fits_table m o.case)
unfolding amend_rules
amend_decides s t m k p o =
    rw (slot_shown s t m k p, fits_shown s t m k o.case, ← can (is_slot s p) refl good)
    (decides_join (slot_rules s t p) _ _ _ (slot_decides s t m k p)
    (decides_join (case_rules (head_of s) alone o.case) _ _ _ (case_decides (head_of s) o.case) (decides_one _ (can_take s t p) _ refl)))
  where
    good : Bool
    good = good_case (head_of s) o.case.inputs o.case.outputs

    can : (b : Bool) → is_slot s p ≡ b → (g : Bool) → (b && (g && can_take s t p)) ≡ (b && g)
    can true e true = true_can_take s t p k.formed k.true_tallies e
    can true e false = refl
    can false e g = refl

-- there are fewer free places than cases to add exactly if the cases would be too many
room_left : (n k : ℕ) → n ≤ places_most → ltb (places_most - n) k ≡ not (leb (n + k) places_most)
room_left n k few = go (leb (n + k) places_most) refl
  where
    go : (b : Bool) → leb (n + k) places_most ≡ b → ltb (places_most - n) k ≡ not b
    go true e = let l = leb-true (n + k) places_most e in le-ltb (places_most - n) k (omega arith)
    go false e = let l = leb-false (n + k) places_most e in lt-ltb (places_most - n) k (omega arith)

-- and a load
load_decides : (s t : List ℕ) (m : Model) → Shows s t m → (file : List ℕ)
    → Decides (ruling (load_rules s t file))
    (is_record (record_read file) && (all_good m.head (cases_in file) && leb (length (cases_held m) + length (cases_in file)) places_most))
unfolding load_rules room_for_rules record_read
load_decides s t m k file =
    rw (← shown_cases s t m k, ← k.same_head)
    (decides_join (form_rules s t) _ true _ (form_decides s t k.formed)
    (decides_join (record_rules file) _ _ _ (record_decides (ruling (record_rules file)) (count_of (count_in file)))
    (decides_join (cases_rules (head_of s) alone (cases_in file)) _ _ _ (cases_decide (head_of s) (cases_in file))
    (decides_one _ _ _ (room_left (length (cases s)) (length (cases_in file)) (cases_most_law s))))))

-- a call follows a model: it is let pass exactly if the model takes it, and then it tells what the model tells and leaves what shows what it makes
record Follows (c : Call) (s t : List ℕ) (m : Model) : Type 0 where
  said : Ruling Refusal
  number : ℕ
  session : List ℕ
  tallies : List ℕ
  does : outcome_of c (memory s t) ≡ outcome_or said number s t session tallies
  decided : Decides said (takes c m)
  told : number ≡ tells c m
  next : takes c m ≡ true → Shows session tallies (makes c m)

-- every call follows the model that the memory shows
call_follows : (c : Call) (s t : List ℕ) (m : Model) → Shows s t m → Follows c s t m
unfolding outcome_of takes makes tells start_call add_call amend_call withdraw_call load_call
call_follows (start file) s t m k =
    record {
      said = ruling (start_rules s t file);
      number = _;
      session = _;
      tallies = _;
      does = refl;
      decided = pass;
      told = refl;
      next = λ e. let a = (start_fine s t file).0 ((decides_when _ _ pass).1 e) in started_shows s t file a.0 a.1.0 a.1.1;
    }
  where
    pass : Decides (ruling (start_rules s t file)) (is_table (table_read file))
    pass = start_decides s t file k.formed.session_room k.formed.tallies_room
call_follows (add o) s t m k =
    record {
      said = ruling (add_rules s t o);
      number = _;
      session = _;
      tallies = _;
      does = refl;
      decided = add_decides s t m k o;
      told = sym (free_shown s t m k);
      next = λ e.
          let a = and_true (fits_table m o.case) _ e in
          add_shows s t m k o.case (sym (fits_shown s t m k o.case) ∙ a.0)
          (rw (free_shown s t m k) at (ltb-true (lowest m.at) places_most a.1));
    }
call_follows (amend p o) s t m k =
    record {
      said = ruling (amend_rules s t p o);
      number = _;
      session = _;
      tallies = _;
      does = refl;
      decided = amend_decides s t m k p o;
      told = refl;
      next = λ e.
          let a = and_true (holds_at m p) _ e in
          amend_shows s t m k p o.case (sym (slot_shown s t m k p) ∙ a.0) (sym (fits_shown s t m k o.case) ∙ a.1);
    }
call_follows (withdraw p) s t m k =
    record {
      said = ruling (withdraw_rules s t p);
      number = _;
      session = _;
      tallies = _;
      does = refl;
      decided = withdraw_decides s t m k p;
      told = refl;
      next = λ e. withdraw_shows s t m k p (sym (slot_shown s t m k p) ∙ e);
    }
call_follows (load file) s t m k =
    record {
      said = ruling (load_rules s t file);
      number = _;
      session = _;
      tallies = _;
      does = refl;
      decided = load_decides s t m k file;
      told = refl;
      next = λ e.
          let a = and_true (is_record (record_read file)) _ e in
          let b = and_true (all_good m.head (cases_in file)) _ a.1 in
          load_shows s t m (cases_in file) k (subst (λ (h : Head). all_good h (cases_in file) ≡ true) (sym k.same_head) b.0)
          (rw (← shown_cases s t m k) at (leb-true (length (cases_held m) + length (cases_in file)) places_most b.1));
    }

-- a call whose rules let it pass exactly if the model takes it changes both or neither,
done_shows : (v : Ruling Refusal) (n : ℕ) (s t s' t' : List ℕ) (b : Bool) (m m' : Model) → Decides v b → Shows s t m
    → (b ≡ true → Shows s' t' m') → ShowsMemory (left (outcome_or v n s t s' t')) (cond b m' m)
done_shows fine n s t s' t' b m m' d k next = rw d (next d)
done_shows (refused r) n s t s' t' b m m' d k next = rw d k

-- and by its answer the model changes or stays alike
done_accepted : (v : Ruling Refusal) (n : ℕ) (s t s' t' : List ℕ) (b : Bool) (c : Call) (m : Model) → Decides v b
    → accepted (answer_of (outcome_or v n s t s' t')) c m ≡ cond b (makes c m) m
done_accepted fine n s t s' t' b c m d = rw d
done_accepted (refused r) n s t s' t' b c m d = rw d

module _ (c : Call) (s t : List ℕ) (m : Model) (k : Shows s t m) where
  -- every call keeps the memory showing the model, refused or not
  pub call_shows : ShowsMemory (called c (memory s t)) (step c m)
  unfolding called step
  call_shows =
      let f = call_follows c s t m k in
      rw f.does (done_shows f.said f.number s t f.session f.tallies (takes c m) m (makes c m) f.decided k f.next)

  -- a call answers Ok exactly where the model takes it, with the number that the model tells
  pub answered_exactly : (n : ℕ) → (answered c (memory s t) ≡ Ok n) ↔ ((takes c m ≡ true) × (n ≡ tells c m))
  unfolding answered
  answered_exactly n =
      let f = call_follows c s t m k in
      let d = decides_when f.said (takes c m) f.decided in
      rw f.does
      (through (outcome_done f.said f.number n s t f.session f.tallies)
      (λ e. (d.0 e.0, e.1 ∙ f.told), λ e. (d.1 e.0, e.1 ∙ sym f.told)))

  -- so what a call that answered Ok makes of the model is the model's step
  accepted_step : accepted (answered c (memory s t)) c m ≡ step c m
  unfolding answered step
  accepted_step =
      let f = call_follows c s t m k in
      rw f.does (done_accepted f.said f.number s t f.session f.tallies (takes c m) c m f.decided)

  -- where a call is refused the model stays
  pub refused_step : (r : Refusal) → answered c (memory s t) ≡ Err r → step c m ≡ m
  refused_step r e = sym accepted_step ∙ ap (λ (a : Result ℕ Refusal). accepted a c m) e

-- calls one after the other keep it so too,
calls_show : (calls : List Call) (x : Memory) (m : Model) → ShowsMemory x m → ShowsMemory (called_all calls x) (steps calls m)
unfolding called_all steps
calls_show [] x m k = k
calls_show (c ∷ cs) (memory s t) m k = calls_show cs (called c (memory s t)) (step c m) (call_shows c s t m k)

-- so the calls that answered Ok leave what the model's steps leave
pub accepted_steps : (calls : List Call) (x : Memory) (m : Model) → ShowsMemory x m → accepted_all calls x m ≡ steps calls m
unfolding accepted_all steps
accepted_steps [] x m k = refl
accepted_steps (c ∷ cs) (memory s t) m k =
    ap (accepted_all cs (called c (memory s t))) (accepted_step c s t m k)
    ∙ accepted_steps cs (called c (memory s t)) (step c m) (call_shows c s t m k)

-- after a start that answered Ok 0 and any list of calls the memory shows the model
pub history : (s t file : List ℕ) → answer_of (start_call s t file) ≡ Ok 0 → (calls : List Call)
    → ShowsMemory (called_all calls (left (start_call s t file))) (steps calls (started_model file))
history s t file e calls = calls_show calls (left (start_call s t file)) (started_model file) (start_shows s t file e)

module _ (s t : List ℕ) (m : Model) (k : Shows s t m) where
  -- the memory's cells are a table with the model's head,
  pub shown_table : TableIn m.head (cells_of s)
  shown_table = session_table s (sym k.same_head) k.formed.session_room (formed_table s t k.formed)

  -- and the model's cases can be run against it
  pub shown_good : all_good m.head (cases_held m) ≡ true
  shown_good = (λ i. all_good (sym k.same_head i) (sym (shown_cases s t m k) i)) ∙ cases_good s t k.formed

  -- each tally in use counts the held cases that its changed table fails to reproduce
  pub shown_tally : (f : ℕ) → f < numbers m.head → get_or t f 0 ≡ tally m.head m.cells (cases_held m) f
  shown_tally f l =
      k.true_tallies f (rw (ap numbers k.same_head) l)
      ∙ (λ i. tally (k.same_head i) (cells_of s) (shown_cases s t m k i) f)
      ∙ tally_same m.head (cells_of s) m.cells shown_table k.same_cells (cases_held m) shown_good f l
