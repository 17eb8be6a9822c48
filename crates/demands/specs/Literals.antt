-- The paper's numbers as one claim (document 01): each contract cites a definition, and here the definitions are held to the paper's numbers and
-- bytes, so that none of these can be changed in a definition and its code alike. `proofs/Literals.antt` has the law.
use Rattle.std.specs.Prelude.{ℕ, ◌≡◌, List, [], ◌∷◌}
use Rattle.machine.specs.Limits.{states_most, inputs_most, outputs_most, cells_most, steps_most}
use Rattle.machine.specs.Cell.{undefined_byte}
use Rattle.house.specs.Refusal.{PaperRefusals}
use Rattle.house.specs.File.{version}
use Rattle.house.specs.Table.{table_bytes, table_file}
use Rattle.machine.specs.Case.{Case, as_case}
use Rattle.house.specs.Cases.{cases_most, record_file}
use Rattle.product.specs.Tables.{product_head, product_cells}
use Rattle.product.specs.declared.Product.TheVariants.{FiveLitre, EightLitre}
use Rattle.memory.specs.Layout.{places_most, cells_room, place_size, session_size, tallies_size, place_byte}
use Rattle.judge.specs.Judge.{refused_from}

-- the five-litre file: "01 00 1B 04 03 04 01 01 02 03 00 00 00 02 02 03 01 00 03 01 02 00 00 00 02 02 FF FF 01 00", a row of cells to a state
abbrev pub five_bytes : List ℕ
five_bytes =
    1 ∷ 0 ∷ 27 ∷ 4 ∷ 3 ∷ 4
    ∷ 1 ∷ 1 ∷ 2 ∷ 3 ∷ 0 ∷ 0
    ∷ 0 ∷ 2 ∷ 2 ∷ 3 ∷ 1 ∷ 0
    ∷ 3 ∷ 1 ∷ 2 ∷ 0 ∷ 0 ∷ 0
    ∷ 2 ∷ 2 ∷ 255 ∷ 255 ∷ 1 ∷ 0 ∷ []

-- the eight-litre file: 01 00 21 05 03 05, then "1/1 2/3 0/0", "0/2 2/3 1/0", "3/1 4/4 0/0", "2/2 4/4 1/0", "4/0 U 0/0"
abbrev pub eight_bytes : List ℕ
eight_bytes =
    1 ∷ 0 ∷ 33 ∷ 5 ∷ 3 ∷ 5
    ∷ 1 ∷ 1 ∷ 2 ∷ 3 ∷ 0 ∷ 0
    ∷ 0 ∷ 2 ∷ 2 ∷ 3 ∷ 1 ∷ 0
    ∷ 3 ∷ 1 ∷ 4 ∷ 4 ∷ 0 ∷ 0
    ∷ 2 ∷ 2 ∷ 4 ∷ 4 ∷ 1 ∷ 0
    ∷ 4 ∷ 0 ∷ 255 ∷ 255 ∷ 0 ∷ 0 ∷ []

-- the case of P5, "case 1 2 1 seen 3 0 0", and the record of it: "01 00 07 03 01 02 01 03 00 00"
abbrev pub case_p5 : Case
case_p5 = as_case (1 ∷ 2 ∷ 1 ∷ []) (3 ∷ 0 ∷ 0 ∷ [])

abbrev pub record_bytes : List ℕ
record_bytes = 1 ∷ 0 ∷ 7 ∷ 3 ∷ 1 ∷ 2 ∷ 1 ∷ 3 ∷ 0 ∷ 0 ∷ []

-- the paper's numbers
pub record Literals : Type 0 where
  -- "n, k and m are each 1 to 16"
  pub states_sixteen : states_most ≡ 16
  pub inputs_sixteen : inputs_most ≡ 16
  pub outputs_sixteen : outputs_most ≡ 16
  -- a conflict set "is written as 256 bytes of 0 or 1"
  pub cells_most_law : cells_most ≡ 256
  -- "or 255 and 255 for undefined"
  pub undefined_byte_law : undefined_byte ≡ 255
  -- "a length byte L of 1 to 64"
  pub steps_most_law : steps_most ≡ 64
  -- "zero to 64 cases"
  pub cases_most_law : cases_most ≡ 64
  -- "Byte 0 is the version, 1"
  pub version_one : version ≡ 1
  -- "8,771 bytes: n, k, m; 512 bytes of cells .. ; 64 places of 129 bytes"
  pub session_size_law : session_size ≡ 8771
  pub cells_room_law : cells_room ≡ 512
  pub places_most_law : places_most ≡ 64
  pub place_size_law : place_size ≡ 129
  -- "Beside it 8,192 tallies"
  pub tallies_size_law : tallies_size ≡ 8192
  -- "else 16 plus the refusal"
  pub refused_from_law : refused_from ≡ 16
  -- the paper's table of refusals
  pub refusals : PaperRefusals
  -- "a call for each writes it as a table file (30 and 36 bytes)"
  pub five_size : table_bytes (product_head FiveLitre) ≡ 30
  pub eight_size : table_bytes (product_head EightLitre) ≡ 36
  -- and these are the bytes
  pub five_file : table_file (product_head FiveLitre) (product_cells FiveLitre) ≡ five_bytes
  pub eight_file : table_file (product_head EightLitre) (product_cells EightLitre) ≡ eight_bytes
  -- a record has "a length byte L .., L inputs, L observed outputs", and these too are the paper's bytes
  pub record_file_law : record_file (case_p5 ∷ []) ≡ record_bytes
  -- a place has "a length .., 64 inputs, 64 outputs": where its first input and its first output stand
  pub place_length : place_byte case_p5 0 ≡ 3
  pub place_input : place_byte case_p5 1 ≡ 1
  pub place_output : place_byte case_p5 65 ≡ 3
