-- `memory::view::Held::run_at` meets its contract: a place of a well-formed session is free, or the two parts of it are a case that can be run.
use native.Mathlib.Omega.{arith}
use Rattle.memory.proofs.Formed.{held_place}
use Rattle.memory.proofs.Known.{place_within, case_runs, held_read, free_read, parts_case, bench_read}
use Rattle.memory.proofs.view.Held.run_at.Goals as goal

pub slice_bounds-result-end : goal.slice_bounds-result-end
slice_bounds-result-end c =
    let f = c.args.self.now.known in
    let w = place_within _ _ c.of-here.ensures.value (held_place _ f c.args.place c.requires) in
    let r = f.room in
    omega arith

pub slice_bounds-result-end-2 : goal.slice_bounds-result-end-2
slice_bounds-result-end-2 c =
    let f = c.args.self.now.known in
    let w = place_within _ _ c.of-here.ensures.value (held_place _ f c.args.place c.requires) in
    let r = f.room in
    omega arith

pub invariant_of-result : goal.invariant_of-result
invariant_of-result c =
    let f = c.args.self.now.known in
    let g = held_place _ f c.args.place c.requires in
    let held = held_read _ _ c.of-here.ensures.value c.if-here-eq0.false in
    record { fits = (case_runs _ _ f.room f.table g held c.table.ensures.head (parts_case _ _ c.of-here.ensures.value)).1 }

pub returns-then-here-eq0 : goal.returns-then-here-eq0
returns-then-here-eq0 c = rw (free_read c.args.self.now.bytes.now c.args.place c.of-here.ensures.value c.if-here-eq0.true)

pub returns : goal.returns
returns c =
    bench_read _ _ (held_read _ _ c.of-here.ensures.value c.if-here-eq0.false) c.table.ensures.head c.table.ensures.cells (parts_case _ _ c.of-here.ensures.value)
