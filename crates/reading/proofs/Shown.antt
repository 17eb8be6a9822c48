-- Demand 3 for the calls that read: where a memory shows a model, list, verdict and audit are those of the model's cases taken afresh. Assumes nothing.
use Prim.Native.Nat.{ℕ}
use mathlib.Core.Path.{◌≡◌, ◌∙◌}
use mathlib.Core.List.{List}
use Rattle.std.specs.Prelude.{None, Ok}
use Rattle.diagnosis.specs.Diagnosis.{list, some_fails, verdict_of}
use Rattle.diagnosis.proofs.Same.{list_same, some_fails_same}
use Rattle.memory.specs.Layout.{head_of, cells_of, cases}
use Rattle.reading.specs.Reads.{list_of, verdict_in, audit_call}
use Rattle.session.specs.History.{Model, cases_held, Shows}
use Rattle.reading.proofs.Listed.{list_by_replay}
use Rattle.reading.proofs.Told.{audit_true_exactly}
use Rattle.session.proofs.Histories.{shown_cases, shown_table, shown_good}

module _ (s t : List ℕ) (m : Model) (k : Shows s t m) where
  -- the list by tallies is that of the model's cases taken afresh,
  pub shown_list : list_of s t ≡ list m.head m.cells (cases_held m)
  shown_list =
      list_by_replay s t k.true_tallies
      ∙ (λ i. list (k.same_head i) (cells_of s) (shown_cases s t m k i))
      ∙ list_same m.head (cells_of s) m.cells (shown_table s t m k) k.same_cells (cases_held m) (shown_good s t m k)

  -- some case fails exactly if one of the model's does,
  shown_fails : some_fails (head_of s) (cells_of s) (cases s) ≡ some_fails m.head m.cells (cases_held m)
  shown_fails =
      (λ i. some_fails (k.same_head i) (cells_of s) (shown_cases s t m k i))
      ∙ some_fails_same m.head (cells_of s) m.cells (shown_table s t m k) k.same_cells (cases_held m) (shown_good s t m k)

  -- so the verdict is that of the model too
  pub shown_verdict : verdict_in s t ≡ verdict_of (some_fails m.head m.cells (cases_held m)) (list m.head m.cells (cases_held m))
  unfolding verdict_in
  shown_verdict = λ i. verdict_of (shown_fails i) (shown_list i)

  -- an audit says true
  pub shown_audit : audit_call s t ≡ Ok None
  shown_audit = (audit_true_exactly s t).1 (k.formed, k.true_tallies)
