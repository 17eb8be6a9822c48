-- What is read of a session that is well-formed (code: `Held`): the case of a place, with the table on which it is run.
use Rattle.std.specs.Prelude.{ℕ, List, cond, Option, Some, None, Result, Ok, Err}
use Rattle.machine.specs.Runs.{Bench, bench_of}
use Rattle.machine.specs.declared.replay.Run.{Run}
use Rattle.house.specs.declared.refusal.Refusal.{Refusal}
use Rattle.house.specs.declared.refusal.Refusal.TheVariants.{Slot}
use Rattle.memory.specs.Layout.{head_of, cells_of, is_held, case_of}
use Rattle.memory.specs.Form.{is_slot}

-- the case of a place on the session's table
abbrev pub bench_in : List ℕ → ℕ → Bench
bench_in s p = record { head = head_of s; cells = cells_of s; case = case_of s p }

-- that, if the place holds a case
abbrev pub bench_at : List ℕ → ℕ → Option Bench
bench_at s p = cond (is_held s p) (Some (bench_in s p)) None

-- and SLOT where there is no such place, or none that holds one
abbrev pub slot_of : List ℕ → ℕ → Result Bench Refusal
slot_of s p = cond (is_slot s p) (Ok (bench_in s p)) (Err Slot)

-- what is told of the run that is answered
abbrev pub told_bench : Result Run Refusal → Result Bench Refusal
told_bench (Ok r) = Ok (bench_of r)
told_bench (Err r) = Err r
