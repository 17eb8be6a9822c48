-- Demand 1: "Every call takes any bytes, numbers and lent buffers, ends, and checks for itself. A refusal gives its number exactly when the paper's
-- table says, and changes no lent memory." The ruling of a call's list of rules alone decides whether its outcome is a refusal: so it refuses with
-- what the first rule whose test is true names, and there leaves what was lent. The table at the end has a row to each public call: what is said
-- of it, that its contract allows one answer only, and that whatever the contract allows is what is said. Assumes nothing.
use Prim.Native.Nat.{ℕ, ◌+◌, ◌≤◌}
use mathlib.Core.Path.{◌≡◌, refl, sym, ap, ◌∙◌}
use mathlib.Core.Bool.{Bool, true, false}
use mathlib.Core.List.{List, [], ◌∷◌, ◌++◌}
use native.Mathlib.Omega.{arith}
use contract.Lifetimes.{Lfts}
use borrow.Fn.Kinds.{ParamKind, ResultKind, Dens, Out, res_t, ended_of}
use denote.Triple.Clauses.{Lasts, at_exit}
use Rattle.std.specs.Prelude.{Ok, Err}
use Rattle.shapes.specs.Edit.{KeptFrom, filled}
use Rattle.shapes.specs.OneAnswer.{OneAnswer, OneReading}
use Rattle.shapes.specs.Refusals.{Rule, Ruling, fine, refused, ruling, AllFalse, RefusedBy}
use Rattle.shapes.proofs.Edit.{kept_all, filled_keeps}
use Rattle.shapes.proofs.Refusals.{through, refused_when, fine_when}
use Rattle.machine.specs.Head.{within, made_head}
use Rattle.machine.specs.Case.{as_case, good_case}
use Rattle.machine.proofs.Answers.{is_within_one, head_new_one, is_case_one}
use Rattle.machine.proofs.head.is_within.Kinds as is_within_kinds
use Rattle.machine.proofs.head.is_within.Reads as is_within_reads
use Rattle.machine.proofs.head.Head.new.Kinds as head_new_kinds
use Rattle.machine.proofs.head.Head.new.Reads as head_new_reads
use Rattle.machine.proofs.case.is_case.Kinds as is_case_kinds
use Rattle.machine.proofs.case.is_case.Reads as is_case_reads
use Rattle.house.specs.Refusal.{number_of, carried_of, checked, Written, wrote, written_or, ruled}
use Rattle.house.specs.File.{file_rules}
use Rattle.house.specs.Table.{head_in, cells_in, table_rules, table_read, table_bytes, table_file}
use Rattle.house.specs.Cases.{case_rules, record_rules, record_read, cases_in}
use Rattle.diagnosis.specs.Diagnosis.{explains_all}
use Rattle.house.specs.declared.refusal.Refusal.{Refusal}
use Rattle.house.specs.declared.refusal.Refusal.TheVariants.{Short, Version, Length, Size, Cell, Step, Full, Slot, Damaged, Record, Number}
use Rattle.house.proofs.Refusing.{refusal_leaves}
use Rattle.house.proofs.Answers.{check_file_one, read_table_one, read_record_one, check_case_one, refusal_number_one, refusal_carried_one}
use Rattle.house.proofs.file.check_file.Kinds as check_file_kinds
use Rattle.house.proofs.file.check_file.Reads as check_file_reads
use Rattle.house.proofs.table.read_table.Kinds as read_table_kinds
use Rattle.house.proofs.table.read_table.Reads as read_table_reads
use Rattle.house.proofs.cases.read_record.Kinds as read_record_kinds
use Rattle.house.proofs.cases.read_record.Reads as read_record_reads
use Rattle.house.proofs.cases.check_case.Kinds as check_case_kinds
use Rattle.house.proofs.cases.check_case.Reads as check_case_reads
use Rattle.house.proofs.refusal.Refusal.number.Kinds as refusal_number_kinds
use Rattle.house.proofs.refusal.Refusal.number.Reads as refusal_number_reads
use Rattle.house.proofs.refusal.Refusal.carried.Kinds as refusal_carried_kinds
use Rattle.house.proofs.refusal.Refusal.carried.Reads as refusal_carried_reads
use Rattle.retest.specs.Retest.{retest_rules, retested, retest_number}
use Rattle.retest.proofs.Retests.{retest_refused, number_refused, number_fine}
use Rattle.retest.proofs.Answers.{pick_one, pick_refusal_one}
use Rattle.retest.proofs.pick.Kinds as pick_kinds
use Rattle.retest.proofs.pick.Reads as pick_reads
use Rattle.retest.proofs.pick_refusal.Kinds as pick_refusal_kinds
use Rattle.retest.proofs.pick_refusal.Reads as pick_refusal_reads
use Rattle.product.specs.Tables.{product_head, product_cells, write_rules, written}
use Rattle.product.specs.declared.Product.{Product}
use Rattle.product.specs.declared.Product.TheVariants.{FiveLitre, EightLitre}
use Rattle.product.proofs.Answers.{five_litre_one, eight_litre_one}
use Rattle.product.proofs.BuiltIn.{built_in_bytes}
use Rattle.product.proofs.five_litre.Kinds as five_litre_kinds
use Rattle.product.proofs.five_litre.Reads as five_litre_reads
use Rattle.product.proofs.eight_litre.Kinds as eight_litre_kinds
use Rattle.product.proofs.eight_litre.Reads as eight_litre_reads
use Rattle.diagnosis.specs.declared.Verdict.{Verdict}
use Rattle.memory.specs.Form.{room_rules, form_rules, slot_rules}
use Rattle.memory.proofs.Answers.{check_room_one, check_form_one, check_slot_one}
use Rattle.memory.proofs.form.check_room.Kinds as check_room_kinds
use Rattle.memory.proofs.form.check_room.Reads as check_room_reads
use Rattle.memory.proofs.form.check_form.Kinds as check_form_kinds
use Rattle.memory.proofs.form.check_form.Reads as check_form_reads
use Rattle.memory.proofs.slot.check_slot.Kinds as check_slot_kinds
use Rattle.memory.proofs.slot.check_slot.Reads as check_slot_reads
use Rattle.session.specs.Calls.{Outcome, after, outcome_or, offered, start_rules, start_call, add_rules, add_call, amend_rules, amend_call, withdraw_rules, withdraw_call, load_rules, load_call}
use Rattle.session.specs.History.{start, add, amend, withdraw, load, left, called}
use Rattle.session.proofs.Tails.{TailsKept, tails_kept}
use Rattle.session.proofs.Answers.{start_one, add_one, amend_one, withdraw_one, load_one}
use Rattle.session.proofs.calls.start.Kinds as start_kinds
use Rattle.session.proofs.calls.start.Reads as start_reads
use Rattle.session.proofs.calls.add.Kinds as add_kinds
use Rattle.session.proofs.calls.add.Reads as add_reads
use Rattle.session.proofs.calls.amend.Kinds as amend_kinds
use Rattle.session.proofs.calls.amend.Reads as amend_reads
use Rattle.session.proofs.calls.withdraw.Kinds as withdraw_kinds
use Rattle.session.proofs.calls.withdraw.Reads as withdraw_reads
use Rattle.session.proofs.calls.load.Kinds as load_kinds
use Rattle.session.proofs.calls.load.Reads as load_reads
use Rattle.reading.specs.Reads.{Listed, listed, listed_or, list_rules, list_call, audit_call}
use Rattle.report.specs.Reports.{save_rules, save_call, symptoms_call, bytes_rules, conflict_call, candidates_call}
use Rattle.reading.proofs.Tails.{ListTail, list_tail}
use Rattle.report.proofs.Tails.{WrittenTail, save_tail, conflict_tail, candidates_tail, written_tail}
use Rattle.reading.proofs.Answers.{list_one, audit_one}
use Rattle.report.proofs.Answers.{save_one, symptoms_one, conflict_set_one, candidates_one}
use Rattle.reading.proofs.list.list.Kinds as list_kinds
use Rattle.reading.proofs.list.list.Reads as list_reads
use Rattle.report.proofs.save.save.Kinds as save_kinds
use Rattle.report.proofs.save.save.Reads as save_reads
use Rattle.reading.proofs.audit.audit.Kinds as audit_kinds
use Rattle.reading.proofs.audit.audit.Reads as audit_reads
use Rattle.report.proofs.conflicts.symptoms.Kinds as symptoms_kinds
use Rattle.report.proofs.conflicts.symptoms.Reads as symptoms_reads
use Rattle.report.proofs.conflicts.conflict_set.Kinds as conflict_set_kinds
use Rattle.report.proofs.conflicts.conflict_set.Reads as conflict_set_reads
use Rattle.report.proofs.conflicts.candidates.Kinds as candidates_kinds
use Rattle.report.proofs.conflicts.candidates.Reads as candidates_reads
use Rattle.judge.specs.Judge.{judge_rules, refused_from, judged, judgement}
use Rattle.judge.proofs.Answers.{judge_one}
use Rattle.judge.proofs.Exactly.{judge_done}
use Rattle.judge.proofs.judge.Kinds as judge_kinds
use Rattle.judge.proofs.judge.Reads as judge_reads
use Rattle.demands.specs.Demand1.{HowRead, Lent, before, TailsLeft, Obeys, ObeysBy, says_answer, says_outcome, leaves_outcome, says_written, leaves_written, says_listed, leaves_listed, reads_only, changes_memory, writes_bytes, writes_numbers, memory_lent, buffer_lent, Start, Add, Amend, Withdraw, Load, ListFaults, Save, Audit, Symptoms, ConflictSet, Candidates, CheckRoom, CheckForm, CheckSlot, CheckFile, ReadTable, ReadRecord, CheckCase, WriteTable, Pick, PickRefusal, Judges}

-- An outcome that says what its rules say, leaves what was lent where they refuse, and leaves the tails, obeys: when rules refuse, and when they
-- do not, is the laws `refused-when` and `fine-when`, of any list of rules
module _ {O : Type 0} (how : HowRead O) (rules : List (Rule Refusal)) (lent : List Lent) (outcome : O) where
  obeys : how.says outcome ≡ ruling rules → ((r : Refusal) → ruling rules ≡ refused r → how.leaves outcome ≡ before lent)
      → TailsLeft lent (how.leaves outcome) → Obeys how rules lent outcome
  obeys same kept tails =
      record {
        refused_exactly = λ r. rw same (refused_when rules r);
        answered_exactly = rw same (fine_when rules);
        nothing_changed = λ r e. kept r (sym same ∙ e);
        tails_untouched = tails;
      }

-- a call that writes nothing has nothing to leave
reads_obeys : {O : Type 0} (says : O → Ruling Refusal) (rules : List (Rule Refusal)) (outcome : O) → says outcome ≡ ruling rules
    → Obeys (reads_only says) rules [] outcome
reads_obeys says rules outcome same = obeys (reads_only says) rules [] outcome same (λ r e. refl) tt

-- What each kind of outcome says is the ruling that it was made from
outcome_says : (v : Ruling Refusal) (n : ℕ) (s t s' t' : List ℕ) → says_outcome (outcome_or v n s t s' t') ≡ v
outcome_says fine n s t s' t' = refl
outcome_says (refused r) n s t s' t' = refl

written_says : (v : Ruling Refusal) (n : ℕ) (old new : List ℕ) → says_written (written_or v n old new) ≡ v
written_says fine n old new = refl
written_says (refused r) n old new = refl

listed_says : (v : Ruling Refusal) (d : Verdict) (n : ℕ) (old new : List ℕ) → says_listed (listed_or v d n old new) ≡ v
listed_says fine d n old new = refl
listed_says (refused r) d n old new = refl

ruled_says : {A : Type 0} (v : Ruling Refusal) (a : A) → says_answer (ruled v a) ≡ v
ruled_says fine a = refl
ruled_says (refused r) a = refl

-- What is left where that ruling refuses is what was lent
outcome_leaves : (v : Ruling Refusal) (n : ℕ) (s t s' t' : List ℕ) (r : Refusal) → v ≡ refused r
    → leaves_outcome (outcome_or v n s t s' t') ≡ s ∷ t ∷ []
outcome_leaves fine n s t s' t' r e = cc
outcome_leaves (refused q) n s t s' t' r e = refl

written_leaves : (v : Ruling Refusal) (n : ℕ) (old new : List ℕ) (r : Refusal) → v ≡ refused r → leaves_written (written_or v n old new) ≡ old ∷ []
written_leaves v n old new r e = ap leaves_written (refusal_leaves v r n old new e)

listed_leaves : (v : Ruling Refusal) (d : Verdict) (n : ℕ) (old new : List ℕ) (r : Refusal) → v ≡ refused r
    → leaves_listed (listed_or v d n old new) ≡ old ∷ []
listed_leaves fine d n old new r e = cc
listed_leaves (refused q) d n old new r e = refl

-- The tails that were proved of each call, as those of all that it leaves
outcome_tails : (s t : List ℕ) (x : Outcome) → TailsKept s t (left x) → TailsLeft (memory_lent s t) (leaves_outcome x)
outcome_tails s t (after a s' t') kept = (kept.0, (kept.1, tt))

written_tails : (n : ℕ) (old : List ℕ) (x : Written) → WrittenTail n old x → TailsLeft (buffer_lent old n) (leaves_written x)
written_tails n old (wrote (Ok m) new) kept = (kept, tt)
written_tails n old (wrote (Err r) new) same = (rw same (kept_all n old), tt)

listed_tails : (n : ℕ) (old : List ℕ) (x : Listed) → ListTail n old x → TailsLeft (buffer_lent old n) (leaves_listed x)
listed_tails n old (listed (Ok x) new) kept = (kept, tt)
listed_tails n old (listed (Err r) new) same = (rw same (kept_all n old), tt)

-- So each kind of outcome obeys the rules that it was made from
module _ (rules : List (Rule Refusal)) (n : ℕ) (s t s' t' : List ℕ) where
  abbrev outcome : Outcome
  outcome = outcome_or (ruling rules) n s t s' t'

  outcome_obeys : TailsKept s t (left outcome) → Obeys changes_memory rules (memory_lent s t) outcome
  outcome_obeys tails =
      obeys changes_memory rules (memory_lent s t) outcome
      (outcome_says (ruling rules) n s t s' t') (outcome_leaves (ruling rules) n s t s' t') (outcome_tails s t outcome tails)

module _ (rules : List (Rule Refusal)) (n needed : ℕ) (old new : List ℕ) where
  abbrev writing : Written
  writing = written_or (ruling rules) n old new

  written_obeys : WrittenTail needed old writing → Obeys writes_bytes rules (buffer_lent old needed) writing
  written_obeys tail =
      obeys writes_bytes rules (buffer_lent old needed) writing
      (written_says (ruling rules) n old new) (written_leaves (ruling rules) n old new) (written_tails needed old writing tail)

module _ (rules : List (Rule Refusal)) (d : Verdict) (n needed : ℕ) (old new : List ℕ) where
  abbrev listing : Listed
  listing = listed_or (ruling rules) d n old new

  listed_obeys : ListTail needed old listing → Obeys writes_numbers rules (buffer_lent old needed) listing
  listed_obeys tail =
      obeys writes_numbers rules (buffer_lent old needed) listing
      (listed_says (ruling rules) d n old new) (listed_leaves (ruling rules) d n old new) (listed_tails needed old listing tail)

-- a check answers the ruling itself
checked_obeys : (rules : List (Rule Refusal)) → Obeys (reads_only says_answer) rules [] (checked (ruling rules))
checked_obeys rules = reads_obeys says_answer rules (checked (ruling rules)) (ruled_says (ruling rules) tt)

-- The calls that change a session
start_obeys : Start start_call
unfolding start_call called
start_obeys s t file = outcome_obeys (start_rules s t file) _ s t _ _ (tails_kept (start file) s t)

add_obeys : Add add_call
unfolding add_call called
add_obeys s t o = outcome_obeys (add_rules s t o) _ s t _ _ (tails_kept (add o) s t)

amend_obeys : Amend amend_call
unfolding amend_call called
amend_obeys s t p o = outcome_obeys (amend_rules s t p o) _ s t _ _ (tails_kept (amend p o) s t)

withdraw_obeys : Withdraw withdraw_call
unfolding withdraw_call called
withdraw_obeys s t p = outcome_obeys (withdraw_rules s t p) _ s t _ _ (tails_kept (withdraw p) s t)

load_obeys : Load load_call
unfolding load_call called
load_obeys s t file = outcome_obeys (load_rules s t file) _ s t _ _ (tails_kept (load file) s t)

-- The calls that read one
list_obeys : ListFaults list_call
unfolding list_call
list_obeys s t out = listed_obeys (list_rules s t out) _ _ _ out _ (list_tail s t out)

save_obeys : Save save_call
unfolding save_call
save_obeys s t out = written_obeys (save_rules s t out) _ _ out _ (save_tail s t out)

audit_obeys : Audit audit_call
unfolding audit_call
audit_obeys s t =
    reads_obeys says_answer (form_rules s t) _ (ruled_says (ruling (form_rules s t)) _)

symptoms_obeys : Symptoms symptoms_call
unfolding symptoms_call
symptoms_obeys s t p = reads_obeys says_answer (slot_rules s t p) _ (ruled_says (ruling (slot_rules s t p)) _)

conflict_set_obeys : ConflictSet conflict_call
unfolding conflict_call
conflict_set_obeys s t p out = written_obeys (slot_rules s t p ++ bytes_rules out) _ _ out _ (conflict_tail s t p out)

candidates_obeys : Candidates candidates_call
unfolding candidates_call
candidates_obeys s t out = written_obeys (form_rules s t ++ bytes_rules out) _ _ out _ (candidates_tail s t out)

-- The checks that these begin with
check_room_obeys : CheckRoom (λ s t. checked (ruling (room_rules s t)))
check_room_obeys s t = checked_obeys (room_rules s t)

check_form_obeys : CheckForm (λ s t. checked (ruling (form_rules s t)))
check_form_obeys s t = checked_obeys (form_rules s t)

check_slot_obeys : CheckSlot (λ s t p. checked (ruling (slot_rules s t p)))
check_slot_obeys s t p = checked_obeys (slot_rules s t p)

-- The files
check_file_obeys : CheckFile (λ v file. checked (ruling (file_rules v file)))
check_file_obeys v file = checked_obeys (file_rules v file)

read_table_obeys : ReadTable table_read
unfolding table_read
read_table_obeys file = reads_obeys says_answer (table_rules file) _ (ruled_says (ruling (table_rules file)) _)

read_record_obeys : ReadRecord record_read
unfolding record_read
read_record_obeys file = reads_obeys says_answer (record_rules file) _ (ruled_says (ruling (record_rules file)) _)

check_case_obeys : CheckCase (λ h a c. checked (ruling (case_rules h a c)))
check_case_obeys h a c = checked_obeys (case_rules h a c)

-- A product's table: its file has as many bytes as are asked for, so what it fills leaves the tail after them
product_keeps : (m : Product) (out : List ℕ) → KeptFrom (table_bytes (product_head m)) out (filled out 0 (table_file (product_head m) (product_cells m)))
product_keeps m out = rw (← built_in_bytes m) (filled_keeps out (table_file (product_head m) (product_cells m)))

write_table_obeys : (m : Product) → WriteTable m (written m)
unfolding written
write_table_obeys m out =
    written_obeys (write_rules m out) _ _ out _ (written_tail (ruling (write_rules m out)) _ _ out _ (product_keeps m out))

-- The calls that answer a number: each refusal has one, from 1 on
number_counts : (r : Refusal) → 1 ≤ number_of r
number_counts (Short n) = omega arith
number_counts Version = omega arith
number_counts Length = omega arith
number_counts Size = omega arith
number_counts (Cell c) = omega arith
number_counts Step = omega arith
number_counts Full = omega arith
number_counts Slot = omega arith
number_counts Damaged = omega arith
number_counts Record = omega arith
number_counts Number = omega arith

-- so an answer that is at most `from` where the rules refuse nothing, and the refusal's number after `from` where they do, obeys
module _ (from : ℕ) (rules : List (Rule Refusal)) (answer : ℕ)
    (low : ruling rules ≡ fine → answer ≤ from) (high : (r : Refusal) → ruling rules ≡ refused r → answer ≡ from + number_of r) where
  -- a number after `from` is that of a refusal
  high_refused : (q : ℕ) → 1 ≤ q → answer ≡ from + q → (v : Ruling Refusal) → ruling rules ≡ v
      → (r : Refusal) × (RefusedBy rules r × (number_of r ≡ q))
  high_refused q some e fine is = let l = low is in absurd (omega arith)
  high_refused q some e (refused r) is = let h = high r is in (r, ((refused_when rules r).0 is, omega arith))

  -- and no refusal's number is at most `from`
  low_fine : answer ≤ from → (v : Ruling Refusal) → ruling rules ≡ v → AllFalse rules
  low_fine l fine is = (fine_when rules).0 is
  low_fine l (refused r) is = let h = high r is in let c = number_counts r in absurd (omega arith)

  -- the number of a refusal is answered
  refused_high : (q : ℕ) (r : Refusal) → RefusedBy rules r → number_of r ≡ q → answer ≡ from + q
  refused_high q r by same = rw (← same) (high r ((refused_when rules r).1 by))

  numbers_obey : ObeysBy from rules answer
  numbers_obey =
      record {
        refused_exactly = λ q some. (λ e. high_refused q some e (ruling rules) refl, λ (r, (by, same)). refused_high q r by same);
        answered_exactly = (λ l. low_fine l (ruling rules) refl, λ none. low ((fine_when rules).1 none));
      }

-- A part is handed back empty exactly where the rules refuse, so exactly where one of them does
pick_obeys : Pick retested
pick_obeys a b position = through (retest_refused a b position) (
  λ (r, e). (r, (refused_when (retest_rules a b position) r).0 e),
  λ (r, by). (r, (refused_when (retest_rules a b position) r).1 by),
)

-- the second call answers 0 where they do not, else the refusal's number
pick_refusal_obeys : PickRefusal retest_number
pick_refusal_obeys a b position =
    numbers_obey 0 (retest_rules a b position) (retest_number a b position)
    (λ e. let z = number_fine a b position e in omega arith)
    (λ r e. let n = number_refused a b position e in omega arith)

-- the judge answers 1 or 0 where they do not, which is at most 16,
judged_low : (v : Ruling Refusal) (b : Bool) → v ≡ fine → judged v b ≤ refused_from
judged_low fine true e = omega arith
judged_low fine false e = omega arith
judged_low (refused r) b e = let z : ◌≡◌ {A = ℕ} 0 1 = cc in absurd (omega arith)

-- else 16 and the refusal's number
judged_high : (v : Ruling Refusal) (b : Bool) (r : Refusal) → v ≡ refused r → judged v b ≡ refused_from + number_of r
judged_high fine b r e = cc
judged_high (refused q) b r e = let same : q ≡ r = cc in rw same

judge_obeys : Judges judgement
unfolding judgement
judge_obeys table file number =
    let v : Ruling Refusal = ruling (judge_rules table file number) in (
      numbers_obey refused_from (judge_rules table file number) (judgement table file number) (judged_low v _) (judged_high v _),
      λ none. (judge_done table file number (explains_all (head_in table) (cells_in table) (cases_in file) number)).1 (none, refl),
    )

-- a row: what is said of a call's definition; that the call's contract, as the check generates it, allows one answer only; and that whatever the
-- contract allows is what the definition gives
pub record Row {Call : Type 0} (call : Call) (Says : Call → Type 0) {n : ℕ} (ps : List (ParamKind n)) (r : ResultKind n) (Post : Out n ps r)
    (Is : Call → (κs : Lfts n) (a : Dens κs ps) → (res_t r κs).Denot → Lasts (ended_of n ps r) κs a → Type 0) : Type 0 where
  pub says : Says call
  pub one_answer : OneAnswer ps r Post
  pub is_that : (κs : Lfts n) (a : Dens κs ps) (z : (res_t r κs).Denot) (ws : Lasts (ended_of n ps r) κs a)
      → Post κs a z (at_exit (ended_of n ps r) κs a ws) → Is call κs a z ws

-- the row of a call that hands back a part of what was lent to it: what is read of the part is one
pub record PartRow {Call : Type 0} (call : Call) (Says : Call → Type 0) {n : ℕ} {A : Type 0} (ps : List (ParamKind n)) (r : ResultKind n) (read : (κs : Lfts n) → (res_t r κs).Denot → A)
    (Post : Out n ps r) (Is : Call → (κs : Lfts n) (a : Dens κs ps) → (res_t r κs).Denot → Lasts (ended_of n ps r) κs a → Type 0) : Type 0 where
  pub says : Says call
  pub one_answer : OneReading ps r read Post
  pub is_that : (κs : Lfts n) (a : Dens κs ps) (z : (res_t r κs).Denot) (ws : Lasts (ended_of n ps r) κs a)
      → Post κs a z (at_exit (ended_of n ps r) κs a ws) → Is call κs a z ws

-- what is read of the part that `pick` hands back: where it begins, and its bytes
abbrev pub place_and_bytes : (κs : Lfts 1) → (res_t pick_kinds.r κs).Denot → (ℕ × ℕ) × List ℕ
place_and_bytes κs part = (part.ref_ptr, part.now)

-- a call that refuses nothing and writes nothing
abbrev pub RefusesNothing : {Call : Type 0} → Call → Type 0
RefusesNothing call = Unit {0}

-- **Demand 1**: the table, a row to each public call. In the last line of a row `_` stands for a slice that is lent to be read, which no call can
-- write, or for nothing more
pub demand_1 :
    -- session
    Row start_call Start start_kinds.ps start_kinds.r start_reads.Post
    (λ call κs (session, (tallies, (file, _))) z (s', (t', _)). after z s' t' ≡ call session.now tallies.now file.now)
    × Row add_call Add add_kinds.ps add_kinds.r add_reads.Post
    (λ call κs (session, (tallies, (inputs, (outputs, _)))) z (s', (t', _)). after z s' t' ≡ call session.now tallies.now (offered inputs.now outputs.now))
    × Row amend_call Amend amend_kinds.ps amend_kinds.r amend_reads.Post
    (λ call κs (session, (tallies, (place, (inputs, (outputs, _))))) z (s', (t', _)). after z s' t' ≡ call session.now tallies.now place (offered inputs.now outputs.now))
    × Row withdraw_call Withdraw withdraw_kinds.ps withdraw_kinds.r withdraw_reads.Post
    (λ call κs (session, (tallies, (place, _))) z (s', (t', _)). after z s' t' ≡ call session.now tallies.now place)
    × Row load_call Load load_kinds.ps load_kinds.r load_reads.Post
    (λ call κs (session, (tallies, (file, _))) z (s', (t', _)). after z s' t' ≡ call session.now tallies.now file.now)
    -- reading
    × Row list_call ListFaults list_kinds.ps list_kinds.r list_reads.Post
    (λ call κs (session, (tallies, (out, _))) z (_, (_, (out', _))). listed z out' ≡ call session.now tallies.now out.now)
    × Row save_call Save save_kinds.ps save_kinds.r save_reads.Post
    (λ call κs (session, (tallies, (out, _))) z (_, (_, (out', _))). wrote z out' ≡ call session.now tallies.now out.now)
    × Row audit_call Audit audit_kinds.ps audit_kinds.r audit_reads.Post
    (λ call κs (session, (tallies, _)) z ws. z ≡ call session.now tallies.now)
    × Row symptoms_call Symptoms symptoms_kinds.ps symptoms_kinds.r symptoms_reads.Post
    (λ call κs (session, (tallies, (place, _))) z ws. z ≡ call session.now tallies.now place)
    × Row conflict_call ConflictSet conflict_set_kinds.ps conflict_set_kinds.r conflict_set_reads.Post
    (λ call κs (session, (tallies, (place, (out, _)))) z (_, (_, (_, (out', _)))). wrote z out' ≡ call session.now tallies.now place out.now)
    × Row candidates_call Candidates candidates_kinds.ps candidates_kinds.r candidates_reads.Post
    (λ call κs (session, (tallies, (out, _))) z (_, (_, (out', _))). wrote z out' ≡ call session.now tallies.now out.now)
    -- memory
    × Row (λ s t. checked (ruling (room_rules s t))) CheckRoom check_room_kinds.ps check_room_kinds.r check_room_reads.Post
    (λ call κs (session, (tallies, _)) z ws. z ≡ call session.now tallies.now)
    × Row (λ s t. checked (ruling (form_rules s t))) CheckForm check_form_kinds.ps check_form_kinds.r check_form_reads.Post
    (λ call κs (session, (tallies, _)) z ws. z ≡ call session.now tallies.now)
    × Row (λ s t p. checked (ruling (slot_rules s t p))) CheckSlot check_slot_kinds.ps check_slot_kinds.r check_slot_reads.Post
    (λ call κs (session, (tallies, (place, _))) z ws. z ≡ call session.now tallies.now place)
    -- house
    × Row (λ v file. checked (ruling (file_rules v file))) CheckFile check_file_kinds.ps check_file_kinds.r check_file_reads.Post
    (λ call κs (file, (version, _)) z ws. z ≡ call version file.now)
    × Row table_read ReadTable read_table_kinds.ps read_table_kinds.r read_table_reads.Post
    (λ call κs (file, _) z ws. z ≡ call file.now)
    × Row record_read ReadRecord read_record_kinds.ps read_record_kinds.r read_record_reads.Post
    (λ call κs (file, _) z ws. z ≡ call file.now)
    × Row (λ h a c. checked (ruling (case_rules h a c))) CheckCase check_case_kinds.ps check_case_kinds.r check_case_reads.Post
    (λ call κs (head, (about, (inputs, (outputs, _)))) z ws. z ≡ call head about (as_case inputs.now outputs.now))
    × Row number_of RefusesNothing refusal_number_kinds.ps refusal_number_kinds.r refusal_number_reads.Post
    (λ call κs (self, _) z ws. z ≡ call self)
    × Row carried_of RefusesNothing refusal_carried_kinds.ps refusal_carried_kinds.r refusal_carried_reads.Post
    (λ call κs (self, _) z ws. z ≡ call self)
    -- machine
    × Row within RefusesNothing is_within_kinds.ps is_within_kinds.r is_within_reads.Post
    (λ call κs (x, (top, _)) z ws. z ≡ call x top)
    × Row made_head RefusesNothing head_new_kinds.ps head_new_kinds.r head_new_reads.Post
    (λ call κs (states, (inputs, (outputs, _))) z ws. z ≡ call states inputs outputs)
    × Row good_case RefusesNothing is_case_kinds.ps is_case_kinds.r is_case_reads.Post
    (λ call κs (head, (inputs, (outputs, _))) z ws. z ≡ call head inputs.now outputs.now)
    -- product
    × Row (written FiveLitre) (WriteTable FiveLitre) five_litre_kinds.ps five_litre_kinds.r five_litre_reads.Post
    (λ call κs (out, _) z (out', _). wrote z out' ≡ call out.now)
    × Row (written EightLitre) (WriteTable EightLitre) eight_litre_kinds.ps eight_litre_kinds.r eight_litre_reads.Post
    (λ call κs (out, _) z (out', _). wrote z out' ≡ call out.now)
    -- retest
    × PartRow retested Pick pick_kinds.ps pick_kinds.r place_and_bytes pick_reads.Post
    (λ call κs (first, (retest, (position, _))) part ws. part.now ≡ call first.now retest.now position)
    × Row retest_number PickRefusal pick_refusal_kinds.ps pick_refusal_kinds.r pick_refusal_reads.Post
    (λ call κs (first, (retest, (position, _))) z ws. z ≡ call first.now retest.now position)
    -- judge
    × Row judgement Judges judge_kinds.ps judge_kinds.r judge_reads.Post
    (λ call κs (table, (file, (number, _))) z ws. z ≡ call table.now file.now number)
demand_1 = (
  -- session
  record { says = start_obeys; one_answer = start_one; is_that = λ κs a z ws p. p },
  record { says = add_obeys; one_answer = add_one; is_that = λ κs a z ws p. p },
  record { says = amend_obeys; one_answer = amend_one; is_that = λ κs a z ws p. p },
  record { says = withdraw_obeys; one_answer = withdraw_one; is_that = λ κs a z ws p. p },
  record { says = load_obeys; one_answer = load_one; is_that = λ κs a z ws p. p },
  -- reading
  record { says = list_obeys; one_answer = list_one; is_that = λ κs a z ws p. p },
  record { says = save_obeys; one_answer = save_one; is_that = λ κs a z ws p. p },
  record { says = audit_obeys; one_answer = audit_one; is_that = λ κs a z ws p. p },
  record { says = symptoms_obeys; one_answer = symptoms_one; is_that = λ κs a z ws p. p },
  record { says = conflict_set_obeys; one_answer = conflict_set_one; is_that = λ κs a z ws p. p },
  record { says = candidates_obeys; one_answer = candidates_one; is_that = λ κs a z ws p. p },
  -- memory
  record { says = check_room_obeys; one_answer = check_room_one; is_that = λ κs a z ws p. p },
  record { says = check_form_obeys; one_answer = check_form_one; is_that = λ κs a z ws p. p },
  record { says = check_slot_obeys; one_answer = check_slot_one; is_that = λ κs a z ws p. p },
  -- house
  record { says = check_file_obeys; one_answer = check_file_one; is_that = λ κs a z ws p. p },
  record { says = read_table_obeys; one_answer = read_table_one; is_that = λ κs a z ws p. p },
  record { says = read_record_obeys; one_answer = read_record_one; is_that = λ κs a z ws p. p },
  record { says = check_case_obeys; one_answer = check_case_one; is_that = λ κs a z ws p. p },
  record { says = tt; one_answer = refusal_number_one; is_that = λ κs a z ws p. p },
  record { says = tt; one_answer = refusal_carried_one; is_that = λ κs a z ws p. p },
  -- machine
  record { says = tt; one_answer = is_within_one; is_that = λ κs a z ws p. p },
  record { says = tt; one_answer = head_new_one; is_that = λ κs a z ws p. p.0 },
  record { says = tt; one_answer = is_case_one; is_that = λ κs a z ws p. p },
  -- product
  record { says = write_table_obeys FiveLitre; one_answer = five_litre_one; is_that = λ κs a z ws p. p },
  record { says = write_table_obeys EightLitre; one_answer = eight_litre_one; is_that = λ κs a z ws p. p },
  -- retest
  record { says = pick_obeys; one_answer = pick_one; is_that = λ κs a z ws p. p.0 },
  record { says = pick_refusal_obeys; one_answer = pick_refusal_one; is_that = λ κs a z ws p. p },
  -- judge
  record { says = judge_obeys; one_answer = judge_one; is_that = λ κs a z ws p. p },
)
