-- For loops of the code: what they make place by place. No promise of the paper's speaks of these.
use Rattle.std.specs.Prelude.{ℕ, zero, suc, List, Bool, true, false, ◌&&◌}
use Rattle.diagnosis.specs.Diagnosis.{fails}
use Rattle.diagnosis.specs.declared.Verdict.{Verdict}
use Rattle.diagnosis.specs.declared.Verdict.TheVariants as verdicts
use Rattle.memory.specs.Layout.{is_held, case_of}
use Rattle.reading.specs.Reads.{machine_of}

-- a place holds a case that fails
abbrev pub fails_at : List ℕ → ℕ → Bool
fails_at s p = is_held s p && fails (machine_of s) (case_of s p)

-- the verdict from how many are listed
abbrev pub verdict_by : Bool → ℕ → Verdict
verdict_by false n = verdicts.Clear
verdict_by true zero = verdicts.None
verdict_by true (suc n) = verdicts.Found
