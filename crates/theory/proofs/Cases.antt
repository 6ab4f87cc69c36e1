-- Theorem 6: the cases that document 01 marks with *. Each holds by computation. Assumes nothing.
use mathlib.Core.Path.{◌≡◌, refl}
use Prim.Native.Nat.{ℕ, min}
use lib.ListN.{length, get_or}
use Rattle.spec.specs.Bytes.{le_value, le_bytes, fields_of, fields_bytes, splice, in_set}
use Rattle.spec.specs.Outcome.{answer, unless_refused}
use Rattle.spec.specs.Keywords.{is_upper, fold_byte, folded, keyword_list_bytes, keywords_of, list_size, folded_keywords, keyword_code, keyword_front_code}
use Rattle.spec.specs.Form.{Form, form_of}
use Rattle.spec.specs.Store.{store_directory_bytes, placed_bytes, store_bytes, store_keys, chunk_at, chunks_of, store_code}
use Rattle.spec.specs.Records.{MatchRecord, reach, prefix_of, suffix_of, offsets_of, record_of, records_of, in_range, offsets_bytes, full_bytes, head_bytes}
use Rattle.spec.specs.Records.{record_bytes, body_from, read_offsets, read_record, record_size, read_from, all_in_range, good_body, inner_of, set_in_range, set_bytes}
use Rattle.spec.specs.Records.{record_taken, set_taken, read_set, read_keyword, behind_keyword}
use Rattle.spec.specs.Index.{directory_bytes, entry_bytes, index_bytes, index_layout, index_keys, body_at, lengths_in, index_records, all_good, header_code, directory_code, laid_code, index_code}
use Rattle.spec.specs.Table.{cell_of, in_cell}
use Rattle.spec.specs.Recipes.{file_bytes, recipes_bytes, files_of, recipes_code, file_code, files_code}
use Rattle.spec.specs.Join.{occurrences_at, crosses, listed, join_from, join_files, file_records, join_list, occurrence_bytes, list_bytes, inner_least}
use Rattle.spec.specs.Join.{joinable_code, join_code, join_outcome, join_buffer, starts, ends, goes_on}
use Rattle.spec.specs.Join.{count_by, counts_by, tally_with, is_key, fit64, clients_code, join_tally}
use Rattle.spec.specs.Scan.{scan_records, scan_body, scan_entry, scan_index, scannable_code, scan_code, scan_outcome, scan_answer, scan_buffer}
use Rattle.spec.proofs.MoveExamples.{moving}
use Rattle.theory.specs.Cases.{Cases}

-- the definitions that the cases compute with: of bytes and outcomes, keyword lists, stores and recipes, records, bodies and cells, index files,
-- the join, its clients, the scan; and all of them
unfoldable byte_definitions : ℕ
unfolding le_value le_bytes fields_of fields_bytes splice in_set answer unless_refused
byte_definitions = 0

unfoldable keyword_definitions : ℕ
unfolding is_upper fold_byte folded keyword_list_bytes keywords_of list_size folded_keywords keyword_code keyword_front_code
keyword_definitions = 0

unfoldable store_definitions : ℕ
unfolding store_directory_bytes placed_bytes store_bytes store_keys chunk_at chunks_of store_code file_bytes recipes_bytes files_of recipes_code file_code files_code
store_definitions = 0

unfoldable record_definitions : ℕ
unfolding reach prefix_of suffix_of offsets_of inner_of record_of records_of in_range set_in_range offsets_bytes full_bytes head_bytes record_bytes set_bytes
record_definitions = 0

unfoldable body_definitions : ℕ
unfolding body_from read_offsets read_record record_size record_taken set_taken read_set read_keyword behind_keyword read_from all_in_range good_body cell_of in_cell
body_definitions = 0

unfoldable index_definitions : ℕ
unfolding form_of directory_bytes entry_bytes index_bytes index_layout index_keys body_at lengths_in index_records all_good header_code directory_code laid_code index_code
index_definitions = 0

unfoldable join_definitions : ℕ
unfolding occurrences_at crosses starts ends goes_on listed join_from join_files file_records join_list occurrence_bytes list_bytes inner_least joinable_code join_code join_outcome join_buffer
join_definitions = 0

unfoldable client_definitions : ℕ
unfolding count_by counts_by tally_with is_key fit64 clients_code join_tally
client_definitions = 0

unfoldable scan_definitions : ℕ
unfolding scan_records scan_body scan_entry scan_index scannable_code scan_code scan_outcome scan_answer scan_buffer moving
scan_definitions = 0

unfoldable pub definitions : ℕ
unfolding byte_definitions keyword_definitions store_definitions record_definitions body_definitions index_definitions join_definitions client_definitions scan_definitions
definitions = 0

-- REQUEST #102: in every full record, of any form, the count byte is the smaller of the count and FF
pub count-byte : (f : Form) (k : ℕ) (r : MatchRecord) → get_or (full_bytes f k r) 4 0 ≡ min (length r.offsets) 255
unfolding full_bytes head_bytes
count-byte f k r = refl

pub cases : Cases
unfolding definitions
cases =
    record {
      spelled = (refl, refl, refl);
      sizes = (refl, refl, refl, refl);
      xab = (refl, refl);
      abax = (refl, refl);
      a = (refl, refl);
      list = (refl, refl);
      dedup = refl;
      aaaa = refl;
      aa_in_aaa = (refl, refl);
      xab_then_a = (refl, refl);
      inner_short = (refl, refl);
      as254 = refl;
      as255 = refl;
      as256 = refl;
      moves = (refl, refl, refl);
      chunk_by_chunk = (refl, refl, refl);
      folded_moves = (refl, refl, refl);
      wider = (refl, refl, refl, refl);
      wider_bodies = (refl, refl, refl, refl);
      wider_list = (refl, refl);
      longest_by_mark = (refl, refl, refl, refl);
      b_matches_b = (refl, refl);
      brace_and_bracket = refl;
      accents = (refl, refl);
      accents_found = (refl, refl, refl);
      accents_alike = (refl, refl, refl, refl);
      accent_cell = (refl, refl);
      accents_joined = refl;
      accent_moves = refl;
      alike = (refl, refl);
    }
