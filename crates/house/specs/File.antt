-- What every house file begins with: "All multi-byte numbers are big-endian. Byte 0 is the version, 1. Bytes 1 and 2 are the length of the rest."
use Rattle.std.specs.Prelude.{ℕ, ◌+◌, ◌-◌, ◌*◌, ◌/◌, ◌%◌, min, List, [], ◌∷◌, ◌++◌, not, eqb, ltb, length, get_or}
use Rattle.shapes.specs.Refusals.{Rule, when}
use Rattle.house.specs.declared.refusal.Refusal.{Refusal}
use Rattle.house.specs.declared.refusal.Refusal.TheVariants.{Version, Length}

-- the version of both files
abbrev pub version : ℕ
version = 1

-- where the rest begins
abbrev pub rest_at : ℕ
rest_at = 3

-- two bytes as one number, the higher first
abbrev pub two_bytes : List ℕ → ℕ → ℕ
two_bytes file at = get_or file at 0 * 256 + get_or file (at + 1) 0

-- the order for files of a version: "LENGTH for under 3 bytes, VERSION, LENGTH", then what the file holds
unfoldable pub file_rules : ℕ → List ℕ → List (Rule Refusal)
file_rules v file =
    when (ltb (length file) rest_at) Length
    ∷ when (not (eqb (get_or file 0 0) v)) Version
    ∷ when (not (eqb (two_bytes file 1) (length file - rest_at))) Length ∷ []

-- the first three bytes of a file of a version, before a rest of so many
unfoldable pub file_head : ℕ → ℕ → List ℕ
file_head v n = v ∷ n / 256 ∷ n % 256 ∷ []

-- where the first of files that stand one after the other ends: where its length field says, or with the bytes if that is earlier
abbrev pub first_end : List ℕ → ℕ
first_end bytes = min (rest_at + two_bytes bytes 1) (length bytes)

-- the file of a version with a rest
unfoldable pub file_of : ℕ → List ℕ → List ℕ
file_of v rest = file_head v (length rest) ++ rest
