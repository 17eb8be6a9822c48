-- Every entry of the list is a byte.
use Rattle.std.specs.Prelude.{ℕ, ◌<◌, List, length, get_or}

abbrev pub Bytes : List ℕ → Type 0
Bytes l = (i : ℕ) → i < length l → get_or l i 0 < 256
