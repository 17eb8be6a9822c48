-- Every call keeps a session well-formed, whatever its tallies: a refused one changes nothing, and an accepted one keeps the form.
-- Assumes nothing.
use Prim.Native.Nat.{ℕ}
use mathlib.Core.Path.{◌≡◌, refl, ap}
use mathlib.Core.List.{List}
use Rattle.std.specs.Prelude.{Ok}
use Rattle.shapes.specs.Refusals.{Ruling, fine, refused, ruling}
use Rattle.shapes.proofs.Refusals.{ruling_joined}
use Rattle.house.specs.Refusal.{checked, ruled}
use Rattle.house.specs.Table.{head_in, table_rules, table_read}
use Rattle.house.specs.Cases.{count_in, count_of, cases_in}
use Rattle.house.specs.declared.refusal.Refusal.{Refusal}
use Rattle.memory.specs.Form.{Formed, room_rules}
use Rattle.session.specs.Calls.{outcome_or, start_rules, start_call, add_rules, add_call, withdraw_rules, withdraw_call, amend_rules, amend_call, load_rules, load_call}
use Rattle.session.specs.History.{Call, start, add, amend, withdraw, load, Memory, memory, left, called}
use Rattle.memory.proofs.Started.{start_keeps}
use Rattle.session.proofs.Kept.{add_keeps, withdraw_keeps, amend_keeps, load_keeps}
use Rattle.session.proofs.Changed.{add_known, withdraw_known, amend_known, load_known}

-- a memory whose session is well-formed
abbrev pub FormedMemory : Memory → Type 0
FormedMemory (memory s t) = Formed s t

-- what a call leaves is well-formed if what it does where nothing refuses is
keeps_or : (v : Ruling Refusal) (n : ℕ) (s t s' t' : List ℕ) → Formed s t → (v ≡ fine → Formed s' t') → FormedMemory (left (outcome_or v n s t s' t'))
keeps_or fine n s t s' t' k done = done refl
keeps_or (refused r) n s t s' t' k done = k

-- a table file that no rule refuses reads as its table
pub table_read_law : (file : List ℕ) → ruling (table_rules file) ≡ fine → table_read file ≡ Ok (head_in file)
unfolding table_read
table_read_law file e = rw e

-- every call keeps the form
pub form_kept : (c : Call) (s t : List ℕ) → Formed s t → FormedMemory (called c (memory s t))
unfolding called start_call start_rules add_call withdraw_call amend_call load_call
form_kept (start file) s t k =
    keeps_or (ruling (start_rules s t file)) _ s t _ _ k
    (λ e. start_keeps s t file (head_in file) k.session_room k.tallies_room (table_read_law file (ruling_joined (room_rules s t) (table_rules file) e).1))
form_kept (add o) s t k =
    keeps_or (ruling (add_rules s t o)) _ s t _ _ k
    (λ e. let a = add_known s t o (checked (ruling (add_rules s t o))) refl (ap checked e) in add_keeps s t o.case k a.1.0 a.1.1)
form_kept (amend p o) s t k =
    keeps_or (ruling (amend_rules s t p o)) _ s t _ _ k
    (λ e.
    let a = amend_known s t p o (checked (ruling (amend_rules s t p o))) refl (ap checked e) in
    amend_keeps s t p o.case k a.0.1.0 a.0.1.1 a.1)
form_kept (withdraw p) s t k =
    keeps_or (ruling (withdraw_rules s t p)) _ s t _ _ k
    (λ e. let a = withdraw_known s t p (checked (ruling (withdraw_rules s t p))) refl (ap checked e) in withdraw_keeps s t p k a.1.0 a.1.1)
form_kept (load file) s t k =
    keeps_or (ruling (load_rules s t file)) _ s t _ _ k
    (λ e.
    let x = ruled (ruling (load_rules s t file)) (count_of (count_in file)) in
    let a = load_known s t file x refl (count_of (count_in file)) (ap (λ v. ruled v (count_of (count_in file))) e) in
    load_keeps s t (cases_in file) k a.1.1.1.0 a.1.1.1.1)
