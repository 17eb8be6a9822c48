-- One diagnosis, however the cells are stored: bytes that agree as far as the table goes make machines that no good case tells apart, so each
-- test of a good case says the same of both, and so does whatever counts or joins such tests.
-- Assumes nothing.
use Prim.Native.Nat.{ℕ, ◌<◌}
use mathlib.Core.Path.{◌≡◌, refl, ap}
use mathlib.Core.List.{List, [], ◌∷◌}
use mathlib.Core.Bool.{Bool, true, not, ◌&&◌, ◌||◌}
use Rattle.shapes.specs.Keep.{count, every, some}
use Rattle.shapes.proofs.Keep.{keep_same}
use Rattle.shapes.proofs.Tests.{and_true}
use Rattle.machine.specs.Head.{HeadIn, numbers}
use Rattle.machine.specs.Cell.{TableIn, SameCells}
use Rattle.machine.specs.Machine.{Machine, specified}
use Rattle.machine.specs.Fault.{changed}
use Rattle.machine.specs.Case.{Case, InputsIn, good_case, all_good}
use Rattle.machine.specs.declared.head.Head.{Head}
use Rattle.machine.proofs.Cases.{case_in, case_step}
use Rattle.machine.proofs.Same.{Alike, specified_same, changed_same_cells, fault_same, executed_alike, symptoms_alike, reproduces_alike}
use Rattle.diagnosis.specs.Diagnosis.{explains, fails, misses, tally, explains_all, is_listed, list, some_fails, conflicts, is_candidate}

-- two tests that agree for every good case
abbrev Agree : Head → (Case → Bool) → (Case → Bool) → Type 0
Agree h p q = (c : Case) → good_case h c.inputs c.outputs ≡ true → p c ≡ q c

-- they hold for as many of some good cases, ..
count_agree : (h : Head) (p q : Case → Bool) → Agree h p q → (cs : List Case) → all_good h cs ≡ true → count p cs ≡ count q cs
unfolding count all_good every
count_agree h p q e [] good = refl
count_agree h p q e (c ∷ cs) good = let g = and_true _ _ good in rw (e c g.0, count_agree h p q e cs g.1)

-- .. for all of them alike, ..
every_agree : (h : Head) (p q : Case → Bool) → Agree h p q → (cs : List Case) → all_good h cs ≡ true → every p cs ≡ every q cs
unfolding all_good every
every_agree h p q e [] good = refl
every_agree h p q e (c ∷ cs) good = let g = and_true _ _ good in rw (e c g.0, every_agree h p q e cs g.1)

-- .. and for some of them alike
some_agree : (h : Head) (p q : Case → Bool) → Agree h p q → (cs : List Case) → all_good h cs ≡ true → some p cs ≡ some q cs
unfolding all_good every some
some_agree h p q e [] good = refl
some_agree h p q e (c ∷ cs) good = let g = and_true _ _ good in rw (e c g.0, some_agree h p q e cs g.1)

-- the inputs of a good case are the head's
inputs_good : (h : Head) (c : Case) → good_case h c.inputs c.outputs ≡ true → InputsIn h c.inputs
inputs_good h c good = case_step h c.inputs c.outputs (case_in h c.inputs c.outputs good)

-- machines alike explain the same good cases, ..
explains_alike : (h : Head) (M N : Machine) → HeadIn h → Alike h M N → Agree h (explains M) (explains N)
unfolding explains
explains_alike h M N head a c good = reproduces_alike h M N head a c.inputs c.outputs (inputs_good h c good)

-- .. and the same ones fail against them
fails_alike : (h : Head) (M N : Machine) → HeadIn h → Alike h M N → Agree h (fails M) (fails N)
unfolding fails
fails_alike h M N head a c good = rw (explains_alike h M N head a c good)

module _ (h : Head) (cells cells' : List ℕ) (table : TableIn h cells) (same : SameCells h cells cells') where
  -- the two specified machines
  specified_alike : Alike h (specified h cells) (specified h cells')
  specified_alike = specified_same h cells cells' table same

  -- a good case fails by both or by neither
  pub fails_same : (c : Case) → good_case h c.inputs c.outputs ≡ true → fails (specified h cells) c ≡ fails (specified h cells') c
  fails_same c good = fails_alike h (specified h cells) (specified h cells') table.head specified_alike c good

  -- the tallies are the same
  pub tally_same : (cs : List Case) → all_good h cs ≡ true → (f : ℕ) → f < numbers h → tally h cells cs f ≡ tally h cells' cs f
  unfolding tally misses
  tally_same cs good f l =
      count_agree h (misses h cells f) (misses h cells' f)
      (fails_alike h (changed h cells f) (changed h cells' f) table.head (changed_same_cells h cells cells' table same f l)) cs good

  -- a number's machine explains all the cases by both or by neither
  pub explains_all_same : (cs : List Case) → all_good h cs ≡ true → (f : ℕ) → f < numbers h
      → explains_all h cells cs f ≡ explains_all h cells' cs f
  unfolding explains_all
  explains_all_same cs good f l =
      every_agree h (explains (changed h cells f)) (explains (changed h cells' f))
      (explains_alike h (changed h cells f) (changed h cells' f) table.head (changed_same_cells h cells cells' table same f l)) cs good

  -- the list is the same
  pub list_same : (cs : List Case) → all_good h cs ≡ true → list h cells cs ≡ list h cells' cs
  unfolding list is_listed
  list_same cs good =
      keep_same (is_listed h cells cs) (is_listed h cells' cs) (numbers h)
      (λ f l. rw (fault_same h cells cells' table.head same f, explains_all_same cs good f l))

  -- some case fails by both or by neither
  pub some_fails_same : (cs : List Case) → all_good h cs ≡ true → some_fails h cells cs ≡ some_fails h cells' cs
  unfolding some_fails
  some_fails_same cs good = some_agree h (fails (specified h cells)) (fails (specified h cells')) fails_same cs good

  -- a good case's conflict set is the same
  pub conflicts_same : (c : Case) → good_case h c.inputs c.outputs ≡ true → (cell : ℕ)
      → conflicts (specified h cells) c cell ≡ conflicts (specified h cells') c cell
  unfolding conflicts
  conflicts_same c good cell =
      let k = inputs_good h c good in
      rw
      (fails_same c good, symptoms_alike h _ _ table.head specified_alike c.inputs c.outputs k, executed_alike h _ _ table.head specified_alike c.inputs k)

  -- and so are the candidates
  pub candidate_same : (cs : List Case) → all_good h cs ≡ true → (cell : ℕ)
      → is_candidate (specified h cells) cs cell ≡ is_candidate (specified h cells') cs cell
  unfolding is_candidate
  candidate_same cs good cell =
      rw (some_agree h (fails M) (fails N) fails_same cs good)
      (ap (λ (b : Bool). some (fails N) cs && b) (every_agree h (λ c. not (fails M c) || conflicts M c cell) (λ c. not (fails N c) || conflicts N c cell) each cs good))
    where
      M : Machine
      M = specified h cells

      N : Machine
      N = specified h cells'

      each : Agree h (λ c. not (fails M c) || conflicts M c cell) (λ c. not (fails N c) || conflicts N c cell)
      each c g = rw (fails_same c g, conflicts_same c g cell)
