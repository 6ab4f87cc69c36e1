-- Forms: what differs between the marks of an index (document 01, "Notes file"). A reader goes by the form that the index's mark names, a writer by
-- the newest.
use Rattle.std.specs.Prelude.{Bool, true, false, cond, List, [], ◌∷◌, ℕ, ◌+◌, ◌-◌, take, get_or}
use Rattle.spec.specs.declared.Format.{Format}
use Rattle.spec.specs.Bytes.{same}

pub record Form : Type 0 where
  -- the index's first four bytes
  pub mark : List ℕ
  -- bytes of an offset inside a chunk, and of the exact count
  pub width : ℕ
  -- the longest chunk
  pub longest_chunk : ℕ
  -- the longest prefix or suffix of a tiny record, by the keyword's length
  pub tiny_most : ℕ → ℕ
  -- what a suffix of length 1 adds to the tiny byte
  pub tiny_step : ℕ
  -- records have sets of inner starts, so that keywords are found across any number of chunks (request #108)
  pub sets : Bool

-- Document 01's form: mark 44 4D 31 0A, fields of 2 bytes, L at most 65,535, tiny up to length 1 with 1 for prefix and 2 for suffix.
abbrev pub form1 : Form
form1 = record { mark = 0x44 ∷ 0x4D ∷ 0x31 ∷ 0x0A ∷ []; width = 2; longest_chunk = 65535; tiny_most = λ n. 1; tiny_step = 2; sets = false }

-- Request #105's form: mark 44 4D 32 0A, fields of 3 bytes, L at most 1,048,576.
abbrev pub form2 : Form
form2 = record { mark = 0x44 ∷ 0x4D ∷ 0x32 ∷ 0x0A ∷ []; width = 3; longest_chunk = 1048576; tiny_most = λ n. 1; tiny_step = 2; sets = false }

-- Request #108's form: mark 44 4D 33 0A, the same fields, and sets of inner starts.
abbrev pub form3 : Form
form3 = record { mark = 0x44 ∷ 0x4D ∷ 0x33 ∷ 0x0A ∷ []; width = 3; longest_chunk = 1048576; tiny_most = λ n. 1; tiny_step = 2; sets = true }

-- The form that a scan writes.
abbrev pub newest : Form
newest = form3

-- The form that an index's mark names. With a mark that names none it is the newest, by which the index check then refuses.
unfoldable pub form_of : List ℕ → Form
form_of index = cond (same (take 4 index) form1.mark) form1 (cond (same (take 4 index) form2.mark) form2 newest)

-- ---- the code's `Format`: what it reads of a form

-- The format of a form: the digit that is the mark's third byte, the width of an offset, the longest chunk, whether there are sets.
abbrev pub format_of : Form → Format
format_of f = record { number = get_or f.mark 2 0 - 0x30; width = f.width; longest = f.longest_chunk; sets = f.sets }

-- The form that a format says.
abbrev pub form_in : Format → Form
form_in format = record {
  mark = 0x44 ∷ 0x4D ∷ (0x30 + format.number) ∷ 0x0A ∷ [];
  width = format.width;
  longest_chunk = format.longest;
  tiny_most = λ n. 1;
  tiny_step = 2;
  sets = format.sets;
}
