-- The paper's numbers are the definitions' numbers, by computation. Assumes nothing.
use mathlib.Core.Path.{refl}
use Rattle.house.specs.File.{file_head, file_of}
use Rattle.house.specs.Cases.{case_bytes, rest_of, record_file}
use Rattle.memory.specs.Layout.{place_byte}
use Rattle.house.specs.Table.{table_head_bytes, table_file}
use Rattle.house.proofs.Refusing.{paper_refusals}
use Rattle.demands.specs.Literals.{Literals}

-- every number is the paper's
pub literals : Literals
unfolding table_file table_head_bytes file_head file_of case_bytes rest_of record_file place_byte
literals =
    record {
      states_sixteen = refl;
      inputs_sixteen = refl;
      outputs_sixteen = refl;
      cells_most_law = refl;
      undefined_byte_law = refl;
      steps_most_law = refl;
      cases_most_law = refl;
      version_one = refl;
      session_size_law = refl;
      cells_room_law = refl;
      places_most_law = refl;
      place_size_law = refl;
      tallies_size_law = refl;
      refused_from_law = refl;
      refusals = paper_refusals;
      five_size = refl;
      eight_size = refl;
      five_file = refl;
      eight_file = refl;
      record_file_law = refl;
      place_length = refl;
      place_input = refl;
      place_output = refl;
    }
