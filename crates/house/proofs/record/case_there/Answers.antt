-- `house::record::case_there` meets its contract: the bytes are the case's, and what comes after the length byte, cut after the inputs, is the case.
use mathlib.Core.Path.{refl}
use native.Mathlib.Omega.{arith}
use Rattle.house.proofs.Records.{case_fits_law}
use Rattle.house.proofs.Left.{case_stands, case_halves}
use Rattle.house.proofs.record.case_there.Goals as goal

pub byte-steps-requires : goal.byte-steps-requires
byte-steps-requires c = omega (arith, case_fits_law _ _ c.requires)

pub overflow_add-bytes : goal.overflow_add-bytes
overflow_add-bytes c = omega (arith, case_fits_law _ _ c.requires)

pub overflow_add-bytes-2 : goal.overflow_add-bytes-2
overflow_add-bytes-2 c = omega (arith, case_fits_law _ _ c.requires, c.byte-steps.ensures.value)

pub slice_bounds-bytes-end : goal.slice_bounds-bytes-end
slice_bounds-bytes-end c = omega (arith, case_fits_law _ _ c.requires, c.byte-steps.ensures.value)

pub invariant_of-result : goal.invariant_of-result
invariant_of-result c =
    let b = case_stands _ _ c.requires _ _ c.byte-steps.ensures.value refl in
    let h = case_halves _ _ c.requires _ _ _ _ _ c.byte-steps.ensures.value b refl c.split_at.ensures.front c.split_at.ensures.back in
    record { whole = rw h b }

pub returns-clause-case : goal.returns-clause-case
returns-clause-case c =
    let b = case_stands _ _ c.requires _ _ c.byte-steps.ensures.value refl in
    case_halves _ _ c.requires _ _ _ _ _ c.byte-steps.ensures.value b refl c.split_at.ensures.front c.split_at.ensures.back
