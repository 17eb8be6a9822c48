-- The calls that change a session: what is known where no rule of a call refuses, what the call then answers and leaves, and a record's cases
-- held one after the other: what is left to hold makes of the session so far what all the cases make of the session as it was.
-- Assumes nothing.
use Prim.Native.Nat.{ℕ, ◌+◌, ◌-◌, ◌≤◌, ◌<◌}
use mathlib.Core.Path.{◌≡◌, refl, sym, subst, ◌∙◌}
use mathlib.Core.Bool.{Bool, true, false, cond}
use mathlib.Core.List.{List, [], ◌∷◌}
use borrow.Author.Tests.{ltb-false, leb-false, not-false}
use native.Mathlib.Omega.{arith}
use lib.Dec.{ltb}
use lib.ListN.{length, get_or}
use Rattle.std.specs.Prelude.{Result, Ok, Err}
use Rattle.shapes.specs.Keep.{every}
use Rattle.shapes.specs.Refusals.{Ruling, fine, refused, ruling}
use Rattle.shapes.proofs.Refusals.{fine_when, ruling_joined}
use Rattle.shapes.proofs.Tests.{and_true}
use Rattle.machine.specs.Limits.{steps_most}
use Rattle.machine.specs.Head.{numbers}
use Rattle.machine.specs.Cell.{TableIn}
use Rattle.machine.specs.Case.{Case, good_case, CaseIn, all_good, no_case}
use Rattle.machine.specs.declared.head.Head.{Head}
use Rattle.machine.proofs.Cases.{case_in}
use Rattle.house.specs.Cases.{count_in, count_of, record_rules, record_read, cases_in, alone, case_rules, cases_rules}
use Rattle.house.specs.Refusal.{checked, ruled}
use Rattle.house.specs.declared.refusal.Refusal.{Refusal}
use Rattle.house.proofs.Records.{cases_counted}
use Rattle.house.proofs.Against.{case_fine, cases_fine}
use Rattle.memory.specs.Layout.{places_most, session_size, tallies_size, head_of, cells_of, case_of, cases, free_place}
use Rattle.memory.specs.Form.{tally_most, Formed, form_rules, is_slot, slot_rules}
use Rattle.session.specs.Calls.{Offer, after, outcome_or, add_rules, add_call, withdraw_rules, withdraw_call, amend_rules, amend_call, room_for_rules, load_rules, load_call, loaded_session, loaded_tallies}
use Rattle.tallies.specs.Tallies.{can_take, raised, raised_by, lowered}
use Rattle.memory.specs.Store.{placed}
use Rattle.memory.proofs.Formed.{formed_table, formed_tally, table_good, cases_most_law}
use Rattle.memory.proofs.Stored.{head_placed, length_placed}
use Rattle.machine.proofs.Sound.{numbers_few}
use Rattle.tallies.proofs.Tallying.{raised_on}
use Rattle.tallies.proofs.Tallied.{lowered_in, length_lowered, length_raised}
use Rattle.memory.proofs.Held.{good_fits, slot_inside, add_count, free_left, formed_numbers}
use Rattle.session.proofs.Kept.{add_keeps}
use Rattle.memory.proofs.Known.{told_fine, told_refused, rules_formed, rules_slot, slot_room}

-- a tally in use is at most 64
tally_room : (s t : List ℕ) → Formed s t → (f : ℕ) → f < numbers (head_of s) → get_or t f 0 ≤ places_most
unfolding tally_most
tally_room s t k f l = go (ltb f (numbers (head_of s))) (formed_tally s t k f (omega (arith, formed_numbers s t k)))
  where
    go : (b : Bool) → get_or t f 0 ≤ cond b (length (cases s)) 0 → get_or t f 0 ≤ places_most
    go true e = omega (arith, cases_most_law s)
    go false e = omega arith

-- what counting a case into tallies asks
abbrev CanRaise : List ℕ → List ℕ → Case → Type 0
CanRaise s t c =
    ((session_size ≤ length s) × (tallies_size ≤ length t))
    × (TableIn (head_of s) (cells_of s)
    × (CaseIn (head_of s) c.inputs c.outputs
    × ((f : ℕ) → f < numbers (head_of s) → get_or t f 0 < 65535)))

-- what storing a case asks
abbrev CanStore : List ℕ → ℕ → Case → Type 0
CanStore s p c =
    ((session_size ≤ length s) × (p < places_most)) × ((length c.inputs ≤ steps_most) × (length c.outputs ≡ length c.inputs))

-- a case on a table that is the session's, as the code lends it
module _ (s : List ℕ) (c : Case) {h : Head} {cells : List ℕ} (eh : h ≡ head_of s) (ec : cells ≡ cells_of s) where
  -- can be counted in where it can be on the session's own,
  pub raise_on : (t : List ℕ) → CanRaise s t c
      → CaseIn h c.inputs c.outputs × ((numbers h ≤ length t) × ((f : ℕ) → f < numbers h → get_or t f 0 < 65535))
  raise_on t k =
      rw eh
      (let few = numbers_few (head_of s) k.1.0.head in (k.1.1.0, ((let room = k.0.1 in omega arith), k.1.1.1)))

  -- and is counted in as it is there
  pub raised_told : (t : List ℕ) {t' : List ℕ} → t' ≡ raised_by (record { head = h; cells = cells; case = c }) t → t' ≡ raised s c t
  raised_told t e = e ∙ raised_on s c (record { head = h; cells = cells; case = c }) (rw (eh, ec)) t

module _ (s t : List ℕ) (k : Formed s t) (c : Case) (g : good_case (head_of s) c.inputs c.outputs ≡ true) where
  -- a case can be counted into tallies that are no higher than those of a well-formed session,
  raise_lower : (t' : List ℕ) → length t' ≡ length t → ((f : ℕ) → f < numbers (head_of s) → get_or t' f 0 ≤ get_or t f 0) → CanRaise s t' c
  raise_lower t' same less = (
    (k.session_room, rw same k.tallies_room),
    (
      table_good s k.session_room (formed_table s t k),
      (
        case_in (head_of s) c.inputs c.outputs g,
        λ f l. omega (arith, less f l, tally_room s t k f l),
      ),
    ),
  )

  -- so into its own,
  pub raise_known : CanRaise s t c
  raise_known = raise_lower t refl (λ f l. omega arith)

  -- and into those that a case was counted out of
  raise_again : (d : Case) (t' : List ℕ) → t' ≡ lowered s d t → CanRaise s t' c
  raise_again d t' e =
      rw e
      (raise_lower (lowered s d t) (length_lowered s d t)
      (λ f l. rw (lowered_in s d t f l (omega (arith, formed_numbers s t k, k.tallies_room))) (omega arith)))

  -- and it can be stored in any place
  pub store_known : (p : ℕ) → p < places_most → CanStore s p c
  store_known p l = let f = good_fits (head_of s) c g in ((k.session_room, l), (f.few, f.even))

module _ (s t : List ℕ) (o : Offer) (x : Result (Unit {0}) Refusal) (e : x ≡ checked (ruling (add_rules s t o))) where
  -- an addition that the check refuses is refused so, and changes nothing;
  pub add_refused : {r : Refusal} → x ≡ Err r → after (Err r) s t ≡ add_call s t o
  unfolding add_call
  add_refused d = rw (told_refused (ruling (add_rules s t o)) e d)

  module _ (d : x ≡ Ok tt) where
    -- one that is not is of a case that can be run, with a place free for it,
    pub add_known : Formed s t × ((good_case (head_of s) o.case.inputs o.case.outputs ≡ true) × (free_place s < places_most))
    unfolding add_rules
    add_known =
        let a = ruling_joined (form_rules s t) _ (told_fine _ e d) in
        let b = ruling_joined (case_rules (head_of s) alone o.case) _ a.1 in
        (rules_formed s t a.0, ((case_fine (head_of s) alone o.case).0 b.0, leb-false _ _ ((fine_when _).0 b.1).0))

    -- and answers and leaves what an addition is to
    pub add_done : {n : ℕ} {s' t' : List ℕ} → n ≡ free_place s → s' ≡ placed s (free_place s) o.case → t' ≡ raised s o.case t
        → after (Ok n) s' t' ≡ add_call s t o
    unfolding add_call
    add_done a b f = rw (told_fine (ruling (add_rules s t o)) e d, a, b, f)

module _ (s t : List ℕ) (p : ℕ) (x : Result (Unit {0}) Refusal) (e : x ≡ checked (ruling (withdraw_rules s t p))) where
  -- a withdrawal that the check refuses is refused so, and changes nothing;
  pub withdraw_refused : {r : Refusal} → x ≡ Err r → after (Err r) s t ≡ withdraw_call s t p
  unfolding withdraw_call
  withdraw_refused d = rw (told_refused (ruling (withdraw_rules s t p)) e d)

  module _ (d : x ≡ Ok tt) where
    -- one that is not is of a case that is held and can be counted out of the tallies,
    pub withdraw_known : Formed s t × ((is_slot s p ≡ true) × (can_take s t p ≡ true))
    unfolding withdraw_rules
    withdraw_known =
        let a = ruling_joined (slot_rules s t p) _ (told_fine _ e d) in
        let b = rules_slot s t p a.0 in
        (b.0, (b.1, not-false _ ((fine_when _).0 a.1).0))

    -- whose place can be cleared;
    pub clear_known : (session_size ≤ length s) × (p < places_most)
    clear_known = let k = withdraw_known in slot_room s t p (k.0, k.1.0)

    -- and answers and leaves what a withdrawal is to
    pub withdraw_done : {s' t' : List ℕ} → s' ≡ placed s p no_case → t' ≡ lowered s (case_of s p) t
        → after (Ok 0) s' t' ≡ withdraw_call s t p
    unfolding withdraw_call
    withdraw_done a b = rw (told_fine (ruling (withdraw_rules s t p)) e d, a, b)

module _ (s t : List ℕ) (p : ℕ) (o : Offer) (x : Result (Unit {0}) Refusal) (e : x ≡ checked (ruling (amend_rules s t p o))) where
  -- an amendment that the check refuses is refused so, and changes nothing;
  pub amend_refused : {r : Refusal} → x ≡ Err r → after (Err r) s t ≡ amend_call s t p o
  unfolding amend_call
  amend_refused d = rw (told_refused (ruling (amend_rules s t p o)) e d)

  module _ (d : x ≡ Ok tt) where
    -- one that is not is of a case that can be run, for one that is held and can be counted out of the tallies,
    pub amend_known : (Formed s t × ((is_slot s p ≡ true) × (can_take s t p ≡ true))) × (good_case (head_of s) o.case.inputs o.case.outputs ≡ true)
    unfolding amend_rules
    amend_known =
        let a = ruling_joined (slot_rules s t p) _ (told_fine _ e d) in
        let b = ruling_joined (case_rules (head_of s) alone o.case) _ a.1 in
        let k = rules_slot s t p a.0 in
        ((k.0, (k.1, not-false _ ((fine_when _).0 b.1).0)), (case_fine (head_of s) alone o.case).0 b.0)

    -- so that the old case can be counted out,
    pub amend_takes : Formed s t × ((is_slot s p ≡ true) × (can_take s t p ≡ true))
    amend_takes = amend_known.0

    -- the new one counted in,
    pub amend_raises : {t' : List ℕ} → t' ≡ lowered s (case_of s p) t → CanRaise s t' o.case
    amend_raises {t'} = let k = amend_known in raise_again s t k.0.0 o.case k.1 (case_of s p) t'

    -- and stored;
    pub amend_stores : CanStore s p o.case
    amend_stores = let k = amend_known in store_known s t k.0.0 o.case k.1 p (slot_inside s p k.0.1.0)

    -- and answers and leaves what an amendment is to
    pub amend_done : {s' t' t'' : List ℕ} → s' ≡ placed s p o.case → t' ≡ lowered s (case_of s p) t → t'' ≡ raised s o.case t'
        → after (Ok 0) s' t'' ≡ amend_call s t p o
    unfolding amend_call
    amend_done a b f = rw (told_fine (ruling (amend_rules s t p o)) e d, a, f, b)

module _ (s t file : List ℕ) (x : Result ℕ Refusal) (e : x ≡ ruled (ruling (load_rules s t file)) (count_of (count_in file))) where
  -- a load that the check refuses is refused so, and changes nothing;
  pub load_refused : {r : Refusal} → x ≡ Err r → after (Err r) s t ≡ load_call s t file
  unfolding load_call
  load_refused {r} d = go (ruling (load_rules s t file)) (sym e ∙ d)
    where
      go : (v : Ruling Refusal) → ruled v (count_of (count_in file)) ≡ Err r
          → after (Err r) s t
          ≡ outcome_or v (length (cases_in file)) s t (loaded_session s (cases_in file)) (loaded_tallies s (cases_in file) t)
      go fine k = cc
      go (refused q) k = cc

  module _ (n : ℕ) (d : x ≡ Ok n) where
    -- where the check answers a count no rule refuses, and it is the count of the record's cases;
    load_counted : (ruling (load_rules s t file) ≡ fine) × (n ≡ count_of (count_in file))
    load_counted = go (ruling (load_rules s t file)) (sym e ∙ d)
      where
        go : (v : Ruling Refusal) → ruled v (count_of (count_in file)) ≡ Ok n → (v ≡ fine) × (n ≡ count_of (count_in file))
        go fine k = (refl, cc)
        go (refused q) k = (cc, cc)

    -- the record is whole, and its cases can be run, with places free for all;
    pub load_known : Formed s t
        × ((ruling (record_rules file) ≡ fine)
        × ((n ≡ count_of (count_in file))
        × ((all_good (head_of s) (cases_in file) ≡ true)
        × (length (cases s) + length (cases_in file) ≤ places_most))))
    unfolding load_rules room_for_rules
    load_known =
        let a = ruling_joined (form_rules s t) _ load_counted.0 in
        let b = ruling_joined (record_rules file) _ a.1 in
        let g = ruling_joined (cases_rules (head_of s) alone (cases_in file)) _ b.1 in
        let l : length (cases_in file) ≤ places_most - length (cases s) = ltb-false _ _ ((fine_when _).0 g.1).0 in
        (rules_formed s t a.0, (b.0, (load_counted.1, ((cases_fine (head_of s) alone (cases_in file)).0 g.0, omega (arith, cases_most_law s)))))

    -- so it was read,
    pub load_read : record_read file ≡ Ok n
    unfolding record_read
    load_read = let k = load_known in rw (k.1.0, ← k.1.1.0)

    -- and what a load is to answer and to leave
    pub load_done : {s' t' : List ℕ} → s' ≡ loaded_session s (cases_in file) → t' ≡ loaded_tallies s (cases_in file) t
        → after (Ok n) s' t' ≡ load_call s t file
    unfolding load_call
    load_done a b = rw (load_counted.0, a, b, load_counted.1, cases_counted file)

-- where holding cases one after the other stands: with some that are left to hold
pub record Holding (s t : List ℕ) (cs left : List Case) (s' t' : List ℕ) : Type 0 where
  pub formed : Formed s' t'
  pub same_session : length s' ≡ length s
  pub same_tallies : length t' ≡ length t
  pub stored : loaded_session s' left ≡ loaded_session s cs
  pub counted : loaded_tallies s' left t' ≡ loaded_tallies s cs t
  pub good : all_good (head_of s') left ≡ true
  pub room : length (cases s') + length left ≤ places_most

module _ (s t : List ℕ) (cs : List Case) where
  -- it begins with all of them,
  pub holding_begins : (left : List Case) → left ≡ cs → Formed s t → all_good (head_of s) cs ≡ true → length (cases s) + length cs ≤ places_most
      → Holding s t cs left s t
  holding_begins left e k g l =
      rw e (record { formed = k; same_session = refl; same_tallies = refl; stored = refl; counted = refl; good = g; room = l })

  module _ (c : Case) (left rest : List Case) (s' t' : List ℕ) (e : left ≡ c ∷ rest) (h : Holding s t cs left s' t') where
    -- the next can be run, and so can those after it,
    next_good : (good_case (head_of s') c.inputs c.outputs ≡ true) × (all_good (head_of s') rest ≡ true)
    unfolding all_good every
    next_good = and_true (good_case (head_of s') c.inputs c.outputs) _ (rw e at h.good)

    -- so it can be held,
    pub holding_next : Formed s' t' × ((good_case (head_of s') c.inputs c.outputs ≡ true) × (free_place s' < places_most))
    holding_next = (h.formed, (next_good.0, free_left s' (omega (arith, rw e at h.room))))

    -- and once it is those after it are left
    pub holding_goes_on : (s'' t'' : List ℕ) → s'' ≡ placed s' (free_place s') c → t'' ≡ raised s' c t' → Holding s t cs rest s'' t''
    unfolding loaded_session loaded_tallies
    holding_goes_on s'' t'' es et =
        let k = holding_next in
        let f = good_fits (head_of s') c k.1.0 in
        let head = head_placed s' k.0.session_room (free_place s') k.1.1 c f in
        let room = rw e at h.room in
        rw (es, et)
        (record {
          formed = add_keeps s' t' c k.0 k.1.0 k.1.1;
          same_session = length_placed s' k.0.session_room (free_place s') k.1.1 c f ∙ h.same_session;
          same_tallies = length_raised s' c t' ∙ h.same_tallies;
          stored = rw e at h.stored;
          counted = rw e at h.counted;
          good = subst (λ (g : Head). all_good g rest ≡ true) (sym head) next_good.1;
          room = omega (arith, room, add_count s' t' c k.0 k.1.0 k.1.1);
        })

  -- and where none is left all are held
  pub holding_ends : (left : List Case) (s' t' : List ℕ) → left ≡ [] → Holding s t cs left s' t' → (s' ≡ loaded_session s cs) × (t' ≡ loaded_tallies s cs t)
  unfolding loaded_session loaded_tallies
  holding_ends left s' t' e h = (rw e at h.stored, rw e at h.counted)
