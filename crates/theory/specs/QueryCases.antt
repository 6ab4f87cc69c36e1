-- Request #109 by cases, on the small vault and on As, under document 01's mark and under the newest.
use Rattle.std.specs.Prelude.{◌≡◌, List, [], ◌∷◌, ◌++◌, map, ℕ, replicate}
use Rattle.spec.specs.Outcome.{Outcome, Done, Refused}
use Rattle.spec.specs.Bytes.{le_bytes, fields_bytes}
use Rattle.spec.specs.Form.{Form, form1, newest, form_of}
use Rattle.spec.specs.Query.{query_outcome, query_buffer}
use Rattle.spec.specs.Scan.{scan_index}
use Rattle.theory.specs.Cases.{store, keywords, recipes_of, one_chunk, one_keyword}
use Rattle.theory.specs.SetCases.{three_chunks, aaaa_index}

-- The two marks.
abbrev pub marks : List Form
marks = form1 ∷ newest ∷ []

-- A query of an index: its answer, its buffer after it.
abbrev pub asked_of : List ℕ → List ℕ → List ℕ → ℕ → Outcome
asked_of index recipes query room = query_outcome (form_of index) index recipes query room

abbrev pub lines_of : List ℕ → List ℕ → List ℕ → List ℕ → List ℕ
lines_of index recipes query out = query_buffer (form_of index) index recipes query out

-- The small vault's index in a form; its keywords are ABA and AA.
abbrev pub small : Form → List ℕ
small f = scan_index f keywords store

-- The index of one keyword, of As, and one chunk, of As, in a form; a file of that chunk.
abbrev pub as_index : Form → ℕ → ℕ → List ℕ
as_index f keyword chunk = scan_index f (one_keyword 0 (replicate keyword 0x41)) (one_chunk (replicate chunk 0x41))

abbrev pub one_file : List ℕ
one_file = recipes_of ((1 ∷ []) ∷ [])

-- XAB, ABAX, XAB, ABAX: ABA at 1, 3, 8 and 10, where 1 and 8 are over two chunks. A file before it and one behind it are A, A: AA at 0.
abbrev pub repeated : List ℕ
repeated = recipes_of ((3 ∷ 3 ∷ []) ∷ (1 ∷ 2 ∷ 1 ∷ 2 ∷ []) ∷ (3 ∷ 3 ∷ []) ∷ [])

-- The same file first and last.
abbrev pub two_files : List ℕ
two_files = recipes_of ((1 ∷ 2 ∷ 1 ∷ 2 ∷ []) ∷ (3 ∷ 3 ∷ []) ∷ (1 ∷ 2 ∷ 1 ∷ 2 ∷ []) ∷ [])

-- A line as it is written.
abbrev pub line : ℕ → List ℕ → List ℕ
line file offsets = le_bytes 4 file ++ fields_bytes 4 offsets

pub record QueryCases : Type 0 where
  -- ABA twice: 3 overlaps 1, so 8 is the second; the line takes 12 bytes, and those behind it are as they were
  pub twice : (map (λ f. asked_of (small f) repeated (0 ∷ 0 ∷ []) 13) marks ≡ Done 1 ∷ Done 1 ∷ [])
      × (map (λ f. lines_of (small f) repeated (0 ∷ 0 ∷ []) (replicate 13 7)) marks
      ≡ (line 1 (1 ∷ 8 ∷ []) ++ (7 ∷ [])) ∷ (line 1 (1 ∷ 8 ∷ []) ++ (7 ∷ [])) ∷ [])
  -- 12 bytes are enough; with 11, and with none, 18, and the buffer is as it was
  pub room : map (λ room. asked_of (small newest) repeated (0 ∷ 0 ∷ []) room) (12 ∷ 11 ∷ 0 ∷ []) ≡ Done 1 ∷ Refused 18 ∷ Refused 18 ∷ []
  pub kept : map (λ f. lines_of (small f) repeated (0 ∷ 0 ∷ []) (replicate 11 7)) marks ≡ replicate 11 7 ∷ replicate 11 7 ∷ []
  -- three times there is no choice: no line, for which no room is needed; nor for AA behind ABA
  pub none : map (λ query. asked_of (small newest) repeated query 0) ((0 ∷ 0 ∷ 0 ∷ []) ∷ (0 ∷ 1 ∷ []) ∷ []) ≡ Done 0 ∷ Done 0 ∷ []
  -- lines by rising file; the room is that of all lines together
  pub files : (map (λ room. asked_of (small newest) two_files (0 ∷ 0 ∷ []) room) (24 ∷ 23 ∷ []) ≡ Done 2 ∷ Refused 18 ∷ [])
      × (lines_of (small newest) two_files (0 ∷ 0 ∷ []) (replicate 24 7) ≡ line 0 (1 ∷ 8 ∷ []) ++ line 2 (1 ∷ 8 ∷ []))
  -- AA twice in AAAA: 2, at the end of the first, qualifies; in AAA nothing does
  pub adjacent : (map (λ f. lines_of (as_index f 2 4) one_file (0 ∷ 0 ∷ []) (replicate 12 7)) marks ≡ line 0 (0 ∷ 2 ∷ []) ∷ line 0 (0 ∷ 2 ∷ []) ∷ [])
      × (map (λ f. asked_of (as_index f 2 3) one_file (0 ∷ 0 ∷ []) 12) marks ≡ Done 0 ∷ Done 0 ∷ [])
  -- ABA and then AA in XAB, A, A, A: AA at 3 overlaps, 4 does not; with an A less there is no choice, nor in the other order
  pub order : (lines_of (small newest) (recipes_of ((1 ∷ 3 ∷ 3 ∷ 3 ∷ []) ∷ [])) (0 ∷ 1 ∷ []) (replicate 12 7) ≡ line 0 (1 ∷ 4 ∷ []))
      × (asked_of (small newest) (recipes_of ((1 ∷ 3 ∷ 3 ∷ []) ∷ [])) (0 ∷ 1 ∷ []) 12 ≡ Done 0)
      × (asked_of (small newest) (recipes_of ((1 ∷ 3 ∷ 3 ∷ 3 ∷ []) ∷ [])) (1 ∷ 0 ∷ []) 12 ≡ Done 0)
  -- AAAA twice needs eight As: in one chunk, and in eight
  pub eight_as : (map (λ f. lines_of (as_index f 4 8) one_file (0 ∷ 0 ∷ []) (replicate 12 7)) marks ≡ line 0 (0 ∷ 4 ∷ []) ∷ line 0 (0 ∷ 4 ∷ []) ∷ [])
      × (map (λ f. asked_of (as_index f 4 7) one_file (0 ∷ 0 ∷ []) 12) marks ≡ Done 0 ∷ Done 0 ∷ [])
      × (lines_of aaaa_index (recipes_of (replicate 8 1 ∷ [])) (0 ∷ 0 ∷ []) (replicate 12 7) ≡ line 0 (0 ∷ 4 ∷ []))
      × (asked_of aaaa_index (recipes_of (replicate 7 1 ∷ [])) (0 ∷ 0 ∷ []) 12 ≡ Done 0)
  -- lengths: 2 to 8 numbers
  pub lengths : map (λ n. asked_of (small newest) repeated (replicate n 0) 65536) (0 ∷ 1 ∷ 2 ∷ 8 ∷ 9 ∷ [])
      ≡ Refused 21 ∷ Refused 21 ∷ Done 1 ∷ Done 0 ∷ Refused 21 ∷ []
  pub longest : lines_of (as_index newest 1 8) one_file (replicate 8 0) (replicate 36 7) ≡ line 0 (0 ∷ 1 ∷ 2 ∷ 3 ∷ 4 ∷ 5 ∷ 6 ∷ 7 ∷ [])
  -- w is no number, wherever it stands
  pub above : map (λ query. asked_of (small newest) repeated query 65536) ((0 ∷ 2 ∷ []) ∷ (2 ∷ 0 ∷ []) ∷ (1 ∷ 1 ∷ []) ∷ [])
      ≡ Refused 21 ∷ Refused 21 ∷ Done 0 ∷ []
  -- 21 after 17, which the newest form does not have
  pub after_seventeen : map (λ f. asked_of (small f) three_chunks (0 ∷ []) 0) marks ≡ Refused 17 ∷ Refused 21 ∷ []
  -- 21 before 18: ABA alone has a line here, and there is no room
  pub before_eighteen : map (λ f. asked_of (small f) repeated (0 ∷ []) 0) marks ≡ Refused 21 ∷ Refused 21 ∷ []
