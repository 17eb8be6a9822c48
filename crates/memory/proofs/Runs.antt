-- What the run of a place tells, where there is one: the place holds a case, and the run is of it on the session's table; and what it tells
-- where there is none.
-- Assumes nothing.
use Prim.Native.Nat.{ℕ, ◌<◌}
use mathlib.Core.Path.{◌≡◌, refl, sym, ap, ◌∙◌}
use mathlib.Core.Bool.{Bool, true, false, cond, not}
use mathlib.Core.List.{List}
use borrow.Author.Tests.{lt-ltb}
use Rattle.std.specs.Prelude.{Option, Some, None, Result, Ok, Err}
use Rattle.std.specs.Option.{is_some, option_map, ok_or}
use Rattle.shapes.specs.Refusals.{fine, refused, ruling}
use Rattle.shapes.proofs.Refusals.{ruling_join_refused, ruling_join_fine, ruling_here, ruling_past, ruling_end}
use Rattle.machine.specs.Runs.{Bench, bench_of}
use Rattle.machine.specs.declared.replay.Run.{Run}
use Rattle.house.specs.declared.refusal.Refusal.{Refusal}
use Rattle.house.specs.declared.refusal.Refusal.TheVariants.{Slot}
use Rattle.memory.specs.Layout.{places_most, head_of, is_held}
use Rattle.memory.specs.Form.{is_slot, form_rules, slot_rules}
use Rattle.memory.specs.Held.{bench_in, bench_at, slot_of, told_bench}

module _ (s : List ℕ) (p : ℕ) where
  module _ (o : Option Run) (e : option_map bench_of o ≡ bench_at s p) where
    -- a place whose run was answered holds the case of the run,
    pub run_held : {r : Run} → o ≡ Some r → (is_held s p ≡ true) × (bench_of r ≡ bench_in s p)
    run_held {r} d = go (is_held s p) (sym (ap (option_map bench_of) d) ∙ e)
      where
        go : (b : Bool) → Some (bench_of r) ≡ cond b (Some (bench_in s p)) None → (b ≡ true) × (bench_of r ≡ bench_in s p)
        go true h = (refl, cc)
        go false h = (cc, cc)

    -- and the run is on the session's table,
    pub run_head : {r : Run} → o ≡ Some r → r.table.head ≡ head_of s
    run_head d = ap (λ (b : Bench). b.head) (run_held d).1

    -- one that holds a case is answered,
    pub run_some : is_held s p ≡ true → is_some o ≡ true
    run_some held = go o (e ∙ rw held)
      where
        go : (o : Option Run) → option_map bench_of o ≡ Some (bench_in s p) → is_some o ≡ true
        go (Some r) h = refl
        go None h = cc

    -- and one of which none was is free
    pub run_free : o ≡ None → is_held s p ≡ false
    run_free d = go (is_held s p) (sym (ap (option_map bench_of) d) ∙ e)
      where
        none : Option Bench
        none = None

        go : (b : Bool) → none ≡ cond b (Some (bench_in s p)) None → b ≡ false
        go true h = cc
        go false h = refl

    -- so it is of any number below 64
    pub slot_told : p < places_most → told_bench (ok_or o Slot) ≡ slot_of s p
    unfolding is_slot
    slot_told l = rw (lt-ltb _ _ l) (go o (is_held s p) e)
      where
        go : (o : Option Run) (b : Bool) → option_map bench_of o ≡ cond b (Some (bench_in s p)) None
            → told_bench (ok_or o Slot) ≡ cond b (Ok (bench_in s p)) (Err Slot)
        go (Some r) true h = cc
        go (Some r) false h = cc
        go None true h = cc
        go None false h = refl

  module _ (x : Result Run Refusal) (e : told_bench x ≡ slot_of s p) where
    -- a number that was refused is that of no place that holds a case, and the refusal is SLOT;
    pub slot_refused : {r : Refusal} → x ≡ Err r → (is_slot s p ≡ false) × (r ≡ Slot)
    slot_refused {r} d = go (is_slot s p) (sym (ap told_bench d) ∙ e)
      where
        go : (b : Bool) → Err r ≡ cond b (Ok (bench_in s p)) (Err Slot) → (b ≡ false) × (r ≡ Slot)
        go true h = (cc, cc)
        go false h = (refl, cc)

    -- any other is that of one that does, and the run is of it
    pub slot_taken : {r : Run} → x ≡ Ok r → (is_slot s p ≡ true) × (bench_of r ≡ bench_in s p)
    slot_taken {r} d = go (is_slot s p) (sym (ap told_bench d) ∙ e)
      where
        go : (b : Bool) → Ok (bench_of r) ≡ cond b (Ok (bench_in s p)) (Err Slot) → (b ≡ true) × (bench_of r ≡ bench_in s p)
        go true h = (refl, cc)
        go false h = (cc, cc)

-- so the rules for a place say what those for form say, and then what the place's number does
module _ (s t : List ℕ) (p : ℕ) where
  pub slot_by_form : {r : Refusal} → ruling (form_rules s t) ≡ refused r → ruling (slot_rules s t p) ≡ refused r
  unfolding slot_rules
  slot_by_form {r} e = ruling_join_refused (form_rules s t) _ r e

  module _ (f : ruling (form_rules s t) ≡ fine) (x : Result Run Refusal) (e : told_bench x ≡ slot_of s p) where
    pub slot_ruled : {r : Refusal} → x ≡ Err r → ruling (slot_rules s t p) ≡ refused r
    unfolding slot_rules
    slot_ruled d = let k = slot_refused s p x e d in ruling_join_fine (form_rules s t) _ f ∙ ruling_here _ _ (ap not k.0) ∙ ap refused (sym k.1)

    pub slot_fine : {r : Run} → x ≡ Ok r → ruling (slot_rules s t p) ≡ fine
    unfolding slot_rules
    slot_fine d = ruling_join_fine (form_rules s t) _ f ∙ ruling_past _ _ (ap not (slot_taken s p x e d).0) ∙ ruling_end
