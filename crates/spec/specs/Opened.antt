-- An opened index: what its readers take from an index that passed its check, read once.
use Rattle.std.specs.Prelude.{List, ℕ, ◌+◌, length}
use Rattle.spec.specs.declared.Opened.{Opened}
use Rattle.spec.specs.Keywords.{keywords_of, list_size, longest}
use Rattle.spec.specs.Store.{chunk_count}
use Rattle.spec.specs.Form.{form_of, format_of}
use Rattle.spec.specs.Index.{list_in}

-- Where the directory starts, how many entries and keywords there are, the longest keyword's length, and the format that the mark names.
unfoldable pub opened_of : List ℕ → Opened
opened_of index = record {
  directory = 8 + list_size (list_in index);
  entries = chunk_count index;
  keywords = length (keywords_of (list_in index));
  longest = longest (keywords_of (list_in index));
  format = format_of (form_of index);
}
