-- Demand 2 of the list call: "A fault is listed, once and in rising number, exactly if the table with that one change gives every observed output of
-- every held case. NONE exactly if some case fails and no such fault exists. A record reads back as its cases in order." Where an audit finds the
-- tallies true the list by tallies is the list by replay; a number on it stands for a single fault, every single fault has a number, and its
-- machine is that of the table with one byte changed. Assumes nothing.
use Prim.Native.Nat.{ℕ, ◌≤◌, ◌<◌}
use mathlib.Core.Path.{◌≡◌, refl, sym, ap, subst, ◌∙◌}
use mathlib.Core.Bool.{Bool, true, false, not, ◌&&◌, true≢false}
use mathlib.Core.Logic.{◌↔◌}
use mathlib.Core.List.{List, [], ◌∷◌}
use native.Mathlib.Nat.{zero-add}
use native.Mathlib.Omega.{arith}
use borrow.Author.Tests.{lt-ltb, eq-eqb, not-true}
use lib.ListN.{length, get_or, take}
use Rattle.std.specs.Prelude.{None, Ok}
use Rattle.shapes.specs.Edit.{filled}
use Rattle.shapes.specs.Keep.{has, bit, some, Among}
use Rattle.shapes.proofs.Edit.{filled_in, filled_keeps}
use Rattle.shapes.proofs.Keep.{has_at, every_among, some_among}
use Rattle.shapes.proofs.Refusals.{through}
use Rattle.shapes.proofs.Tests.{and_true}
use Rattle.machine.specs.Head.{numbers}
use Rattle.machine.specs.Cell.{TableIn}
use Rattle.machine.specs.Machine.{Machine, specified}
use Rattle.machine.specs.Limits.{cells_most}
use Rattle.machine.specs.Fault.{fault_of, fault_number, cell_of, changed, is_fault}
use Rattle.machine.specs.Mutant.{mutant, OtherByte}
use Rattle.machine.specs.Case.{Case, good_case, all_good}
use Rattle.machine.specs.Run.{symptoms_of}
use Rattle.machine.specs.declared.fault.Fault.{Fault}
use Rattle.machine.proofs.Sound.{cells_few}
use Rattle.machine.proofs.Faults.{fault_number_law, fault_in}
use Rattle.machine.proofs.Mutants.{fault_numbered, changed_mutant, fault_exactly}
use Rattle.machine.proofs.Cases.{case_in}
use Rattle.machine.proofs.Run.{first_step, first_differs, reproduces_exactly}
use Rattle.house.specs.Refusal.{wrote}
use Rattle.house.specs.Cases.{record_read, cases_in}
use Rattle.diagnosis.specs.Diagnosis.{explains, fails, explains_all, some_fails, verdict_of, is_candidate}
use Rattle.diagnosis.proofs.Lists.{listed_exactly, listed_rising, clear_exactly, found_exactly, none_exactly}
use Rattle.memory.specs.Layout.{head_of, cases}
use Rattle.diagnosis.proofs.Candidates.{candidate_law}
use Rattle.memory.specs.Form.{Formed}
use Rattle.memory.proofs.Formed.{table_good, formed_table, cases_good}
use Rattle.reading.specs.Reads.{list_call, audit_call}
use Rattle.report.specs.Reports.{save_call, candidates_call}
use Rattle.reading.proofs.Told.{audit_true_exactly, list_answers}
use Rattle.report.proofs.Told.{save_reads_back, candidates_done, candidates_byte}
use Rattle.demands.specs.Demand2.{Evidence, evidence_in, AgreesAt, GivesEvery, SomeFails, Explains, Suspect, suspects, Stands, Lists, ListAnswers}

-- what is known of a table and cases that a session holds: a sound table, and cases that can be run against it
pub record Sound (b : Evidence) : Type 0 where
  pub table : TableIn b.head b.cells
  pub good : all_good b.head b.held ≡ true

-- a machine explains a case exactly if it gives every observed output of it
explains_exactly : (M : Machine) (c : Case) → length c.outputs ≡ length c.inputs → (explains M c ≡ true) ↔ GivesEvery M c
unfolding explains
explains_exactly M c even = reproduces_exactly M c.inputs c.outputs even

-- a case that a machine does not explain has a step at which the observed output differs
differs_somewhere : (M : Machine) (c : Case) → explains M c ≡ false → (t : ℕ) × ((t < length c.inputs) × (AgreesAt M c t → ⊥))
unfolding explains
differs_somewhere M c e = (
  (symptoms_of M c.inputs c.outputs).first,
  (first_step M c.inputs c.outputs e, λ same. true≢false (sym same ∙ first_differs M c.inputs c.outputs e)),
)

-- the first of some numbers is among them, and among none there is none
has_head : (f : ℕ) (l : List ℕ) → has f (f ∷ l) ≡ true
unfolding has
has_head f l = rw (eq-eqb f f refl)

has_none : (f : ℕ) → has f [] ≡ false
unfolding has
has_none f = refl

-- two statements that are exactly two others are so together
both : {A B C D : Type 0} → A ↔ B → C ↔ D → (A × C) ↔ (B × D)
both f g = (λ x. (f.0 x.0, g.0 x.1), λ y. (f.1 y.0, g.1 y.1))

module _ (b : Evidence) (k : Sound b) where
  -- a held case can be run: it has as many outputs as inputs
  held_even : (c : Case) → Among c b.held → length c.outputs ≡ length c.inputs
  unfolding all_good
  held_even c m =
      (case_in b.head c.inputs c.outputs ((every_among (λ d. good_case b.head d.inputs d.outputs) b.held).0 k.good c m)).even

  -- the call's test that some case fails says that one does
  pub fails_exactly : (some_fails b.head b.cells b.held ≡ true) ↔ SomeFails b
  unfolding some_fails fails
  fails_exactly = (there, back)
    where
      M : Machine
      M = specified b.head b.cells

      differs_at : (c : Case) → Among c b.held → ((t : ℕ) × ((t < length c.inputs) × (AgreesAt M c t → ⊥))) → SomeFails b
      differs_at c held (t, (inside, differs)) = record { case = c; is_held = held; step = t; in_case = inside; differs = differs }

      one_fails : ((c : Case) × (Among c b.held × (fails M c ≡ true))) → SomeFails b
      one_fails (c, (held, failed)) = differs_at c held (differs_somewhere M c (not-true _ failed))

      there : some (fails M) b.held ≡ true → SomeFails b
      there e = one_fails ((some_among (fails M) b.held).0 e)

      missed : (f : SomeFails b) (x : Bool) → explains M f.case ≡ x → not x ≡ true
      missed f true e = absurd (f.differs ((explains_exactly M f.case (held_even f.case f.is_held)).0 e f.step f.in_case))
      missed f false e = refl

      back : SomeFails b → some (fails M) b.held ≡ true
      back f = (some_among (fails M) b.held).1 (f.case, (f.is_held, missed f (explains M f.case) refl))

  -- where a number is a fault, its machine explains all held cases exactly if the table with that one change gives every observed output of each
  all_exactly : (f : ℕ) → f < numbers b.head → OtherByte b.cells (fault_of b.head f)
      → (explains_all b.head b.cells b.held f ≡ true)
      ↔ ((c : Case) → Among c b.held → GivesEvery (specified b.head (mutant b.cells (fault_of b.head f))) c)
  unfolding explains_all
  all_exactly f l o = (
    λ e c m. (explains_exactly N c (held_even c m)).0 (ap (λ (X : Machine). explains X c) (sym same) ∙ (every_among (explains M) b.held).0 e c m),
    λ each.
        (every_among (explains M) b.held).1
        (λ c m. ap (λ (X : Machine). explains X c) same ∙ (explains_exactly N c (held_even c m)).1 (each c m)),
  )
    where
      M : Machine
      M = changed b.head b.cells f

      N : Machine
      N = specified b.head (mutant b.cells (fault_of b.head f))

      same : M ≡ N
      same = changed_mutant b.head b.cells f k.table l o.on_defined

  -- a number is on the list exactly if it is that of a single fault which explains all
  pub suspect_exactly : (f : ℕ) → (has f (suspects b) ≡ true) ↔ Suspect b f
  suspect_exactly f = (there, λ s. subst (λ (g : ℕ). has g (suspects b) ≡ true) s.number (back s.fault s.explains))
    where
      there : has f (suspects b) ≡ true → Suspect b f
      there e =
          let a = and_true (is_fault b.head b.cells f) _ (sym (listed_exactly b.head b.cells b.held f) ∙ e) in
          let o = (fault_exactly b.head b.cells f).0 a.0 in
          record {
            fault = fault_of b.head f;
            number = fault_number_law b.head f;
            explains =
                record {
                  is_fault_law =
                      record {
                        in_range = fault_in b.head k.table.head f (lt-ltb _ _ o.0);
                        other_byte = o.1;
                      };
                  gives_all = (all_exactly f o.0 o.1).0 a.1;
                };
          }

      back : (x : Fault) → Explains b x → has (fault_number b.head x) (suspects b) ≡ true
      back x e =
          let n = fault_numbered b.head x e.is_fault_law.in_range in
          let g : ℕ = fault_number b.head x in
          let o = subst (OtherByte b.cells) (sym n.1) e.is_fault_law.other_byte in
          let all = (all_exactly g n.0 o).1 (subst (λ (y : Fault). (c : Case) → Among c b.held → GivesEvery (specified b.head (mutant b.cells y)) c) (sym n.1) e.gives_all) in
          listed_exactly b.head b.cells b.held g ∙ rw ((fault_exactly b.head b.cells g).1 (n.0, o), all)

  -- some fault explains all exactly if the list isn't empty
  some_suspect : ((suspects b ≡ []) → ⊥) ↔ ((x : Fault) × Explains b x)
  some_suspect = (there (suspects b) refl, back)
    where
      there : (l : List ℕ) → suspects b ≡ l → ((suspects b ≡ []) → ⊥) → (x : Fault) × Explains b x
      there [] e full = absurd (full e)
      there (f ∷ l) e full = let s = (suspect_exactly f).0 (rw e (has_head f l)) in (s.fault, s.explains)

      back : ((x : Fault) × Explains b x) → (suspects b ≡ []) → ⊥
      back e none =
          let g : ℕ = fault_number b.head e.0 in
          true≢false (sym ((suspect_exactly g).1 (record { fault = e.0; number = refl; explains = e.1 })) ∙ (ap (has g) none ∙ has_none g))

  -- no number is listed exactly if no fault explains all
  no_suspect : ((f : ℕ) → (is_fault b.head b.cells f && explains_all b.head b.cells b.held f) ≡ false) ↔ ((x : Fault) → Explains b x → ⊥)
  no_suspect = (
    λ none x e.
        let g : ℕ = fault_number b.head x in
        true≢false
        (sym ((suspect_exactly g).1 (record { fault = x; number = refl; explains = e }))
        ∙ (listed_exactly b.head b.cells b.held g ∙ none g)),
    λ none f. go f none _ refl,
  )
    where
      go : (f : ℕ) → ((x : Fault) → Explains b x → ⊥) → (x : Bool)
          → (is_fault b.head b.cells f && explains_all b.head b.cells b.held f) ≡ x → x ≡ false
      go f none true e =
          let s = (suspect_exactly f).0 (listed_exactly b.head b.cells b.held f ∙ e) in absurd (none s.fault s.explains)
      go f none false e = refl

  -- the call's test that some case fails is false exactly if none does
  pub passes_exactly : (some_fails b.head b.cells b.held ≡ false) ↔ (SomeFails b → ⊥)
  passes_exactly = (λ e f. true≢false (sym (fails_exactly.1 f) ∙ e), λ none. go none _ refl)
    where
      go : (SomeFails b → ⊥) → (x : Bool) → some_fails b.head b.cells b.held ≡ x → x ≡ false
      go none true e = absurd (none (fails_exactly.0 e))
      go none false e = refl

  -- the list of a sound table and cases, written to a buffer with room for it, with its verdict: this is what demand 2 says
  pub evidence_lists : (out : List ℕ) → length (suspects b) ≤ length out
      → Lists b out (verdict_of (some_fails b.head b.cells b.held) (suspects b)) (length (suspects b)) (filled out 0 (suspects b))
  evidence_lists out room =
      record {
        listed_exactly = λ f. (
          λ h. (suspect_exactly f).0 ((has_at f (suspects b)).1 (h.at, (h.within, sym (entry h.at h.within) ∙ h.is_there))),
          λ s. stands f ((has_at f (suspects b)).0 ((suspect_exactly f).1 s)),
        );
        once_and_rising = λ i j l m. rw (entry i (omega arith), entry j m) (listed_rising b.head b.cells b.held i j l m);
        whole = refl;
        entries = entry;
        rest_untouched = filled_keeps out (suspects b);
        clear_exactly = through (clear_exactly b.head b.cells b.held) passes_exactly;
        found_exactly = through (found_exactly b.head b.cells b.held) (both fails_exactly some_suspect);
        none_exactly = through (none_exactly b.head b.cells b.held) (both fails_exactly no_suspect);
      }
    where
      entry : (i : ℕ) → i < length (suspects b) → get_or (filled out 0 (suspects b)) i 0 ≡ get_or (suspects b) i 0
      entry i l = rw zero-add at (filled_in out 0 (suspects b) i l (omega arith))

      stands : (f : ℕ) → ((i : ℕ) × ((i < length (suspects b)) × (get_or (suspects b) i 0 ≡ f))) → Stands f (length (suspects b)) (filled out 0 (suspects b))
      stands f (i, (inside, here)) = record { at = i; within = inside; is_there = entry i inside ∙ here }

  -- where some case fails the cell of a suspect is a candidate, and one of the 256
  pub suspect_candidate : SomeFails b → (f : ℕ) → Suspect b f
      → (is_candidate (specified b.head b.cells) b.held (cell_of b.head f) ≡ true) × (cell_of b.head f < cells_most)
  unfolding cell_of
  suspect_candidate bad f suspect =
      let on = (suspect_exactly f).1 suspect in
      let is_listed = and_true (is_fault b.head b.cells f) _ (sym (listed_exactly b.head b.cells b.held f) ∙ on) in
      let used = ((fault_exactly b.head b.cells f).0 is_listed.0).0 in
      let inside = (fault_in b.head k.table.head f (lt-ltb _ _ used)).cell_in in (
        candidate_law b.head b.cells b.held f k.good (fails_exactly.1 bad) on,
        omega (arith, inside, cells_few b.head k.table.head),
      )

-- a well-formed session's table is sound, and its cases can be run
pub session_sound : (s t : List ℕ) → Formed s t → Sound (evidence_in s)
session_sound s t k = record { table = table_good s k.session_room (formed_table s t k); good = cases_good s t k }

-- **Demand 2**: while an audit finds the tallies true, and the buffer has room for the list, the list call answers and leaves it. An audit means
-- what it says: `audit-true-exactly`, `audit-false-exactly` of `reading/proofs/Told.antt`
pub demand_2 : (s t out : List ℕ) → audit_call s t ≡ Ok None → length (suspects (evidence_in s)) ≤ length out
    → ListAnswers (evidence_in s) out (list_call s t out)
demand_2 s t out audited room =
    let k = (audit_true_exactly s t).0 audited in
    record {
      verdict = _;
      count = _;
      left = _;
      answered = list_answers s t out k.0 k.1 room;
      lists = evidence_lists (evidence_in s) (session_sound s t k.0) out room;
    }

-- "A record reads back as its cases in order": what a save answers and leaves reads back as the cases held, in order
pub demand_2_record : (s t out : List ℕ) (n : ℕ) (left : List ℕ) → save_call s t out ≡ wrote (Ok n) left
    → (record_read (take n left) ≡ Ok (length (cases s))) × (cases_in (take n left) ≡ cases s)
demand_2_record s t out n left e = save_reads_back s t out n left e

-- where some case fails, the byte that the candidates call leaves at the cell of a listed fault is 1
pub demand_2_candidates : (s t out : List ℕ) (n : ℕ) (left : List ℕ) → candidates_call s t out ≡ wrote (Ok n) left → SomeFails (evidence_in s)
    → (f : ℕ) → Suspect (evidence_in s) f → get_or left (cell_of (head_of s) f) 0 ≡ 1
demand_2_candidates s t out n left e bad f suspect =
    let one = suspect_candidate (evidence_in s) (session_sound s t (candidates_done s t out n left e)) bad f suspect in
    candidates_byte s t out n left e (cell_of (head_of s) f) one.1 ∙ ap bit one.0
