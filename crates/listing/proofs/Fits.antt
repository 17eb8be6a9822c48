-- What a listing that is not refused tells: the session has a table's head, the count is no more than the buffer holds, and each number
-- counted is in use, so every one of them can be printed.
-- Assumes nothing.
use Prim.Native.Nat.{ℕ, ◌≤◌, ◌<◌}
use mathlib.Core.Path.{◌≡◌, refl, ap}
use mathlib.Core.List.{List}
use borrow.Author.Tests.{ltb-false}
use native.Mathlib.Nat.{zero-add}
use native.Mathlib.Omega.{arith}
use lib.ListN.{length, get_or, take}
use lib.Seq.{get_or-take, length-take-le}
use Rattle.std.specs.Prelude.{Result, Ok}
use Rattle.shapes.specs.Edit.{filled}
use Rattle.shapes.specs.Refusals.{Ruling, fine, refused, ruling}
use Rattle.shapes.proofs.Edit.{length_filled, filled_in}
use Rattle.shapes.proofs.Keep.{kept_below}
use Rattle.shapes.proofs.Refusals.{ruling_joined, fine_when}
use Rattle.machine.specs.Head.{HeadIn, numbers}
use Rattle.machine.specs.declared.head.Head.{Head}
use Rattle.house.specs.declared.refusal.Refusal.{Refusal}
use Rattle.memory.specs.Layout.{session_size, head_of}
use Rattle.memory.specs.Form.{Formed}
use Rattle.memory.specs.Form.{form_rules}
use Rattle.reading.specs.Reads.{list_of, verdict_in, list_rules, listed, listed_or, list_call}
use Rattle.reading.specs.declared.list.Listing.{Listing}
use Rattle.memory.proofs.Formed.{formed_table, table_good}
use Rattle.memory.proofs.Known.{rules_formed}

-- each number listed is in use
list_in_use : (s t : List ℕ) (i : ℕ) → i < length (list_of s t) → get_or (list_of s t) i 0 < numbers (head_of s)
unfolding list_of
list_in_use s t i h = kept_below _ (numbers (head_of s)) i h

-- where the first of some numbers are in use, they are as a list of their own, and under a head that is the same
pub first_in_use : (l : List ℕ) (n : ℕ) {h g : Head} → h ≡ g → n ≤ length l → ((i : ℕ) → i < n → get_or l i 0 < numbers g)
    → (i : ℕ) → i < length (take n l) → get_or (take n l) i 0 < numbers h
first_in_use l n e fits low =
    rw e (λ i below. let k = rw (length-take-le n l fits) at below in rw (get_or-take n l i 0 k) (low i k))

module _ (s t out : List ℕ) {r : Result Listing Refusal} {new : List ℕ} {l : Listing} (e : listed r new ≡ list_call s t out) (d : r ≡ Ok l) where
  -- a listing that is not refused: no rule holds, and the whole list is counted and written
  listing_done : (ruling (list_rules s t out) ≡ fine) × ((l.count ≡ length (list_of s t)) × (new ≡ filled out 0 (list_of s t)))
  unfolding list_call
  listing_done = go (ruling (list_rules s t out)) refl (rw d at e)
    where
      go : (w : Ruling Refusal) → ruling (list_rules s t out) ≡ w
          → listed (Ok l) new ≡ listed_or w (verdict_in s t) (length (list_of s t)) out (filled out 0 (list_of s t))
          → (ruling (list_rules s t out) ≡ fine) × ((l.count ≡ length (list_of s t)) × (new ≡ filled out 0 (list_of s t)))
      go fine q told =
          let same : l ≡ record { verdict = verdict_in s t; count = length (list_of s t) } = cc in
          (q, (ap (λ m. m.count) same, cc))
      go (refused _) q told = let z : ◌≡◌ {A = ℕ} 0 1 = cc in absurd (omega arith)

  -- so the session is well-formed, and there is room for all
  listing_formed : Formed s t × (length (list_of s t) ≤ length out)
  unfolding list_rules
  listing_formed =
      let j = ruling_joined (form_rules s t) _ listing_done.0 in
      (rules_formed s t j.0, ltb-false _ _ ((fine_when _).0 j.1).0)

  -- it has a session's bytes,
  pub listing_room : session_size ≤ length s
  listing_room = listing_formed.0.session_room

  -- its table has a head,
  pub listing_head : HeadIn (head_of s)
  listing_head = (table_good s listing_room (formed_table s t listing_formed.0)).head

  -- no more is counted than the buffer holds,
  pub listing_fits : l.count ≤ length new
  listing_fits = rw (listing_done.1.0, listing_done.1.1, length_filled) listing_formed.1

  -- and each number counted is in use
  pub listing_in_use : (i : ℕ) → i < l.count → get_or new i 0 < numbers (head_of s)
  listing_in_use i h =
      let k : i < length (list_of s t) = omega (arith, listing_done.1.0) in
      let w = rw zero-add at (filled_in out 0 (list_of s t) i k (omega (arith, listing_formed.1))) in
      rw (listing_done.1.1, w) (list_in_use s t i k)
