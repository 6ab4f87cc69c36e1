-- The cases that document 01 marks with *, said of the byte-level definitions: one field for each marked line, in the paper's order. Beside them the
-- cases of the requests.
use Rattle.std.specs.Prelude.{◌≡◌, List, [], ◌∷◌, ◌++◌, map, ℕ, suc, ◌+◌, replicate, length, take, ltb}
use Rattle.spec.specs.Outcome.{Outcome, Done, Refused}
use Rattle.spec.specs.Scanned as Scanned
use Rattle.spec.specs.Bytes.{le_bytes, fields_bytes, each, keep}
use Rattle.spec.specs.Keywords.{folded, keyword_list_bytes, keyword_code}
use Rattle.spec.specs.Store.{store_mark, Chunk, store_bytes}
use Rattle.spec.specs.Directory.{offset_at}
use Rattle.spec.specs.Form.{form1, form2, newest, form_of}
use Rattle.spec.specs.Records.{offsets_of}
use Rattle.spec.specs.Table.{cell_of}
use Rattle.spec.specs.Index.{index_layout, entry_bytes, body_at, index_code}
use Rattle.spec.specs.Recipes.{recipes_bytes}
use Rattle.spec.specs.Join.{one_client, join_outcome, join_buffer}
use Rattle.spec.specs.Scan.{scan_index, scan_answer, told_moves}

-- ---- the inputs

-- The paper's fingerprints: twenty equal bytes.
abbrev pub fingerprint : ℕ → List ℕ
fingerprint n = replicate 20 n

-- The small vault: chunks XAB, ABAX, A at 92, 95, 99.
abbrev pub store : List ℕ
store =
    store_mark ++ (3 ∷ 0 ∷ 0 ∷ 0 ∷ [])
    ++ fingerprint 1 ++ (92 ∷ 0 ∷ 0 ∷ 0 ∷ 3 ∷ 0 ∷ 0 ∷ 0 ∷ [])
    ++ fingerprint 2 ++ (95 ∷ 0 ∷ 0 ∷ 0 ∷ 4 ∷ 0 ∷ 0 ∷ 0 ∷ [])
    ++ fingerprint 3 ++ (99 ∷ 0 ∷ 0 ∷ 0 ∷ 1 ∷ 0 ∷ 0 ∷ 0 ∷ [])
    ++ (0x58 ∷ 0x41 ∷ 0x42 ∷ [])
    ++ (0x41 ∷ 0x42 ∷ 0x41 ∷ 0x58 ∷ [])
    ++ (0x41 ∷ [])

-- Its keywords: ABA, AA.
abbrev pub keywords : List ℕ
keywords = 0x02 ∷ 0x00 ∷ 0x03 ∷ 0x41 ∷ 0x42 ∷ 0x41 ∷ 0x02 ∷ 0x41 ∷ 0x41 ∷ []

-- File 0 is XAB, ABAX; file 1 is A, A; file 2 is empty.
abbrev pub recipes : List ℕ
recipes =
    (3 ∷ 0 ∷ 0 ∷ 0 ∷ [])
    ++ (2 ∷ 0 ∷ 0 ∷ 0 ∷ []) ++ fingerprint 1 ++ fingerprint 2
    ++ (2 ∷ 0 ∷ 0 ∷ 0 ∷ []) ++ fingerprint 3 ++ fingerprint 3
    ++ (0 ∷ 0 ∷ 0 ∷ 0 ∷ [])

-- The vault's chunks under their fingerprints.
abbrev pub chunk_xAB : Chunk
chunk_xAB = record { key = fingerprint 1; bytes = 0x58 ∷ 0x41 ∷ 0x42 ∷ [] }

abbrev pub chunk_aBAX : Chunk
chunk_aBAX = record { key = fingerprint 2; bytes = 0x41 ∷ 0x42 ∷ 0x41 ∷ 0x58 ∷ [] }

abbrev pub chunk_a : Chunk
chunk_a = record { key = fingerprint 3; bytes = 0x41 ∷ [] }

-- Recipes, by the numbers of the fingerprints that each file names.
abbrev pub recipes_of : List (List ℕ) → List ℕ
recipes_of files = recipes_bytes (map (map fingerprint) files)

-- Its index under document 01's mark.
abbrev pub index : List ℕ
index = scan_index form1 keywords store

-- Its index under request #105's mark.
abbrev pub wider_index : List ℕ
wider_index = scan_index form2 keywords store

-- A store of one chunk, and one keyword with a flag.
abbrev pub one_chunk : List ℕ → List ℕ
one_chunk chunk = store_bytes (record { key = fingerprint 1; bytes = chunk } ∷ [])

abbrev pub one_keyword : ℕ → List ℕ → List ℕ
one_keyword flag keyword = keyword_list_bytes flag (keyword ∷ [])

-- The body that is written for it under document 01's mark.
abbrev pub body_for : List ℕ → List ℕ → List ℕ
body_for keyword chunk = body_at (scan_index form1 (one_keyword 0 keyword) (one_chunk chunk)) 0

-- What a join of the index that a scan writes for it says of the file that is this chunk.
abbrev pub one_index : ℕ → List ℕ → List ℕ → List ℕ
one_index flag keyword chunk = scan_index newest (one_keyword flag keyword) (one_chunk chunk)

abbrev pub count_for : ℕ → List ℕ → List ℕ → Outcome
count_for flag keyword chunk =
    join_outcome (form_of (one_index flag keyword chunk)) (one_index flag keyword chunk) (recipes_of ((1 ∷ []) ∷ [])) one_client 65536

-- Request #103's keywords DEDUP and UP; chunks of a store under the fingerprints of 1, 2, ..
abbrev pub dedup_and_up : List (List ℕ)
dedup_and_up = (0x44 ∷ 0x45 ∷ 0x44 ∷ 0x55 ∷ 0x50 ∷ []) ∷ (0x55 ∷ 0x50 ∷ []) ∷ []

abbrev pub numbered : ℕ → List (List ℕ) → List Chunk
numbered n [] = []
numbered n (chunk ∷ chunks) = record { key = fingerprint n; bytes = chunk } ∷ numbered (suc n) chunks

-- The moves that a scan of these chunks reports.
abbrev pub moves_for : ℕ → List (List ℕ) → List (List ℕ) → ℕ
moves_for flag words chunks = told_moves (scan_answer newest (keyword_list_bytes flag words) (store_bytes (numbered 1 chunks)) 65536) 0

-- Request #104's bytes: those at the borders of the accented capitals, and the last two that compare as themselves.
abbrev pub accent_borders : List ℕ
accent_borders = 0xBF ∷ 0xC0 ∷ 0xD6 ∷ 0xD7 ∷ 0xD8 ∷ 0xDE ∷ 0xDF ∷ 0xF7 ∷ 0xFF ∷ []

-- Keywords É and é in Latin-1, with a flag; an index under document 01's mark that has them and no chunk.
abbrev pub accented : ℕ → List ℕ
accented flag = keyword_list_bytes flag ((0xC9 ∷ []) ∷ (0xE9 ∷ []) ∷ [])

abbrev pub older_index : ℕ → List ℕ
older_index flag = 0x44 ∷ 0x4D ∷ 0x31 ∷ 0x0A ∷ 0 ∷ 0 ∷ 0 ∷ 0 ∷ accented flag

-- Keyword éÉ over the chunks É and é, one after the other in a file.
abbrev pub accented_index : ℕ → List ℕ
accented_index flag =
    scan_index newest (one_keyword flag (0xE9 ∷ 0xC9 ∷ [])) (store_bytes (numbered 1 ((0xC9 ∷ []) ∷ (0xE9 ∷ []) ∷ [])))

-- Request #105: an index under the mark with a digit, of a chunk of a length and no record, and the keyword A; its check.
abbrev pub marked_index : ℕ → ℕ → List ℕ
marked_index digit size =
    0x44 ∷ 0x4D ∷ (0x30 + digit) ∷ 0x0A ∷ 1 ∷ 0 ∷ 0 ∷ 0 ∷ one_keyword 0 (0x41 ∷ []) ++ entry_bytes (fingerprint 1) size 44 0

abbrev pub marked_code : ℕ → ℕ → ℕ
marked_code digit size = index_code (form_of (marked_index digit size)) (marked_index digit size)

-- The cells of a keyword's table that hold something, by i and then by j, each from 0 to n - 1.
abbrev pub filled_cells : List ℕ → List (ℕ × ℕ × List ℕ)
filled_cells keyword =
    each (λ i. each (λ j. keep (ltb 0 (length (cell_of keyword i j))) (i, j, cell_of keyword i j)) 0 (length keyword)) 0 (length keyword)

-- An occurrence as the join writes it.
abbrev pub nine : ℕ → ℕ → ℕ → List ℕ
nine file offset keyword = le_bytes 4 file ++ le_bytes 4 offset ++ le_bytes 1 keyword

-- ---- the cases

pub record Cases : Type 0 where
  -- the small vault, as it is spelled above byte by byte, is the written form of its chunks, its keywords and its files
  pub spelled : (store ≡ store_bytes (chunk_xAB ∷ chunk_aBAX ∷ chunk_a ∷ []))
      × (keywords ≡ keyword_list_bytes 0 ((0x41 ∷ 0x42 ∷ 0x41 ∷ []) ∷ (0x41 ∷ 0x41 ∷ []) ∷ []))
      × (recipes ≡ recipes_of ((1 ∷ 2 ∷ []) ∷ (3 ∷ 3 ∷ []) ∷ [] ∷ []))
  -- the store has 100 bytes, the index 136, and both are good; the scan takes 10 moves, and refused it reports its number alone
  pub sizes : (length store ≡ 100)
      × (scan_answer form1 keywords store 136 ≡ Scanned.Done 136 10)
      × (scan_answer form1 keywords store 135 ≡ Scanned.Refused 9)
      × (index_code (form_of index) index ≡ 0)
  -- * XAB, ABAX and A: the bodies, at 113, 120 and 130
  pub xab : (offset_at (index_layout index) index 0 ≡ 113) × (body_at index 0 ≡ 0x00 ∷ 0x01 ∷ 0x02 ∷ 0x00 ∷ 0x00 ∷ 0x00 ∷ 0x00 ∷ [])
  pub abax : (offset_at (index_layout index) index 1 ≡ 120) × (body_at index 1 ≡ 0x00 ∷ 0x01 ∷ 0x00 ∷ 0x01 ∷ 0x01 ∷ 0x00 ∷ 0x00 ∷ 0x01 ∷ 0x00 ∷ 0x02 ∷ [])
  pub a : (offset_at (index_layout index) index 2 ≡ 130) × (body_at index 2 ≡ 0x00 ∷ 0x00 ∷ 0x03 ∷ 0x01 ∷ 0x00 ∷ 0x03 ∷ [])
  -- the small vault's list, in a buffer of 30 bytes: 27 are written
  pub list : (join_outcome (form_of index) index recipes one_client 30 ≡ Done 3)
      × (join_buffer (form_of index) index recipes one_client (replicate 30 7) ≡ nine 0 1 0 ++ nine 0 3 0 ++ nine 1 0 1 ++ replicate 3 7)
  -- * DEDUP's five cells, and no others
  pub dedup : filled_cells (0x44 ∷ 0x45 ∷ 0x44 ∷ 0x55 ∷ 0x50 ∷ [])
      ≡ (1, 4, 0 ∷ []) ∷ (2, 3, 0 ∷ []) ∷ (3, 2, 0 ∷ []) ∷ (3, 4, 2 ∷ []) ∷ (4, 1, 0 ∷ []) ∷ []
  -- * AAAA's (3,3)
  pub aaaa : cell_of (replicate 4 0x41) 3 3 ≡ 0 ∷ 1 ∷ 2 ∷ []
  -- * AA in AAA: 0, 1; kind 2, prefix 1, suffix 1, count 2, 0, then 0 and 1
  pub aa_in_aaa : (offsets_of (0x41 ∷ 0x41 ∷ []) (replicate 3 0x41) ≡ 0 ∷ 1 ∷ [])
      × (body_for (0x41 ∷ 0x41 ∷ []) (replicate 3 0x41) ≡ 0x00 ∷ 0x02 ∷ 0x01 ∷ 0x01 ∷ 0x02 ∷ 0x00 ∷ 0x00 ∷ 0x00 ∷ 0x00 ∷ 0x01 ∷ 0x00 ∷ [])
  -- * file XAB, A: ABA at 1
  pub xab_then_a : (join_outcome (form_of index) index (recipes_of ((1 ∷ 3 ∷ []) ∷ [])) one_client 9 ≡ Done 1)
      × (join_buffer (form_of index) index (recipes_of ((1 ∷ 3 ∷ []) ∷ [])) one_client (replicate 9 7) ≡ nine 0 1 0)
  -- * XAB, A, ABAX is refused with 17
  pub inner_short : (join_outcome (form_of index) index (recipes_of ((1 ∷ 3 ∷ 2 ∷ []) ∷ [])) one_client 65536 ≡ Refused 17)
      × (join_buffer (form_of index) index (recipes_of ((1 ∷ 3 ∷ 2 ∷ []) ∷ [])) one_client (replicate 30 7) ≡ replicate 30 7)
  -- * 254 As and keyword A: kind 2, count FE, 0, then 0 to 253
  pub as254 : body_for (0x41 ∷ []) (replicate 254 0x41) ≡ 0x00 ∷ 0x02 ∷ 0x00 ∷ 0x00 ∷ 0xFE ∷ 0x00 ∷ 0x00 ∷ fields_bytes 2 (each (λ k. k ∷ []) 0 254)
  -- * 255: kind 3, count FF, 0, the exact count, then 0 to 254
  pub as255 : body_for (0x41 ∷ []) (replicate 255 0x41) ≡ 0x00 ∷ 0x03 ∷ 0x00 ∷ 0x00 ∷ 0xFF ∷ 0x00 ∷ 0x00 ∷ 0xFF ∷ 0x00 ∷ fields_bytes 2 (each (λ k. k ∷ []) 0 255)
  -- request #102: 256 As: kind 3, count FF, 0, the exact count, then 0 to 255; so the count bytes of 254, 255 and 256 are FE, FF and FF
  pub as256 : body_for (0x41 ∷ []) (replicate 256 0x41) ≡ 0x00 ∷ 0x03 ∷ 0x00 ∷ 0x00 ∷ 0xFF ∷ 0x00 ∷ 0x00 ∷ 0x00 ∷ 0x01 ∷ fields_bytes 2 (each (λ k. k ∷ []) 0 256)
  -- request #103, DEDUP and UP: DEDE 5 moves, DEDUP 5, DEDUPX 8; AAAA: AAAAAA 8, AAAX 7; A: AAAA 7, BBBB 4
  pub moves : (map (λ chunk. moves_for 0 dedup_and_up (chunk ∷ []))
      ((0x44 ∷ 0x45 ∷ 0x44 ∷ 0x45 ∷ []) ∷ (0x44 ∷ 0x45 ∷ 0x44 ∷ 0x55 ∷ 0x50 ∷ []) ∷ (0x44 ∷ 0x45 ∷ 0x44 ∷ 0x55 ∷ 0x50 ∷ 0x58 ∷ []) ∷ [])
      ≡ 5 ∷ 5 ∷ 8 ∷ [])
      × (map (λ chunk. moves_for 0 (replicate 4 0x41 ∷ []) (chunk ∷ [])) (replicate 6 0x41 ∷ (0x41 ∷ 0x41 ∷ 0x41 ∷ 0x58 ∷ []) ∷ []) ≡ 8 ∷ 7 ∷ [])
      × (map (λ chunk. moves_for 0 ((0x41 ∷ []) ∷ []) (chunk ∷ [])) (replicate 4 0x41 ∷ replicate 4 0x42 ∷ []) ≡ 7 ∷ 4 ∷ [])
  -- each chunk starts at the root: DEDU and PUP 7, DEDUPUP 9; no chunks 0
  pub chunk_by_chunk : (moves_for 0 dedup_and_up ((0x44 ∷ 0x45 ∷ 0x44 ∷ 0x55 ∷ []) ∷ (0x50 ∷ 0x55 ∷ 0x50 ∷ []) ∷ []) ≡ 7)
      × (moves_for 0 dedup_and_up ((0x44 ∷ 0x45 ∷ 0x44 ∷ 0x55 ∷ 0x50 ∷ 0x55 ∷ 0x50 ∷ []) ∷ []) ≡ 9)
      × (scan_answer form1 keywords (store_bytes []) 17 ≡ Scanned.Done 17 0)
  -- keyword ab, chunk ABX: with flag 1 as many moves as ab_x, with flag 0 one a byte
  pub folded_moves : (moves_for 1 ((0x61 ∷ 0x62 ∷ []) ∷ []) ((0x41 ∷ 0x42 ∷ 0x58 ∷ []) ∷ []) ≡ 4)
      × (moves_for 0 ((0x61 ∷ 0x62 ∷ []) ∷ []) ((0x61 ∷ 0x62 ∷ 0x58 ∷ []) ∷ []) ≡ 4)
      × (moves_for 0 ((0x61 ∷ 0x62 ∷ []) ∷ []) ((0x41 ∷ 0x42 ∷ 0x58 ∷ []) ∷ []) ≡ 3)
  -- request #105: under its mark the index has 138 bytes, the bodies at 113, 121 and 132, with fields of 3 bytes; the list is the same
  pub wider : (scan_answer form2 keywords store 138 ≡ Scanned.Done 138 10)
      × (scan_answer form2 keywords store 137 ≡ Scanned.Refused 9)
      × (take 4 wider_index ≡ 0x44 ∷ 0x4D ∷ 0x32 ∷ 0x0A ∷ [])
      × (index_code (form_of wider_index) wider_index ≡ 0)
  pub wider_bodies : (map (offset_at (index_layout wider_index) wider_index) (0 ∷ 1 ∷ 2 ∷ []) ≡ 113 ∷ 121 ∷ 132 ∷ [])
      × (body_at wider_index 0 ≡ 0x00 ∷ 0x01 ∷ 0x02 ∷ 0x00 ∷ 0x00 ∷ 0x00 ∷ 0x00 ∷ 0x00 ∷ [])
      × (body_at wider_index 1 ≡ 0x00 ∷ 0x01 ∷ 0x00 ∷ 0x01 ∷ 0x01 ∷ 0x00 ∷ 0x00 ∷ 0x00 ∷ 0x01 ∷ 0x00 ∷ 0x02 ∷ [])
      × (body_at wider_index 2 ≡ 0x00 ∷ 0x00 ∷ 0x03 ∷ 0x01 ∷ 0x00 ∷ 0x03 ∷ [])
  pub wider_list : (join_outcome (form_of wider_index) wider_index recipes one_client 30 ≡ Done 3)
      × (join_buffer (form_of wider_index) wider_index recipes one_client (replicate 30 7) ≡ nine 0 1 0 ++ nine 0 3 0 ++ nine 1 0 1 ++ replicate 3 7)
  -- L: 65,535 and not 65,536 under the old mark, 1,048,576 and not 1,048,577 under the new ones; the next digit is no mark yet
  pub longest_by_mark : (map (marked_code 1) (65535 ∷ 65536 ∷ []) ≡ 0 ∷ 11 ∷ [])
      × (map (marked_code 2) (65536 ∷ 1048576 ∷ 1048577 ∷ []) ≡ 0 ∷ 0 ∷ 11 ∷ [])
      × (map (marked_code 3) (65536 ∷ 1048576 ∷ 1048577 ∷ []) ≡ 0 ∷ 0 ∷ 11 ∷ [])
      × (marked_code 4 1 ≡ 10)
  -- * flag 1: b matches B (with flag 0 it does not), { does not match [
  pub b_matches_b : (count_for 1 (0x62 ∷ []) (0x42 ∷ []) ≡ Done 1) × (count_for 0 (0x62 ∷ []) (0x42 ∷ []) ≡ Done 0)
  pub brace_and_bracket : count_for 1 (0x7B ∷ []) (0x5B ∷ []) ≡ Done 0
  -- request #104: with flag 1 C0, D6, D8 and DE compare as the byte 20 (hexadecimal) higher, BF, D7, DF, F7 and FF as themselves; with flag 0 all do
  pub accents : (folded 1 accent_borders ≡ 0xBF ∷ 0xE0 ∷ 0xF6 ∷ 0xD7 ∷ 0xF8 ∷ 0xFE ∷ 0xDF ∷ 0xF7 ∷ 0xFF ∷ []) × (folded 0 accent_borders ≡ accent_borders)
  -- the byte 20 higher as a keyword: it occurs in C0, D6, D8, DE, and not in BF, D7, DF; with flag 0 in none. F7 and FF occur in themselves
  pub accents_found : (map (λ b. count_for 1 ((b + 0x20) ∷ []) (b ∷ [])) (0xBF ∷ 0xC0 ∷ 0xD6 ∷ 0xD7 ∷ 0xD8 ∷ 0xDE ∷ 0xDF ∷ [])
      ≡ Done 0 ∷ Done 1 ∷ Done 1 ∷ Done 0 ∷ Done 1 ∷ Done 1 ∷ Done 0 ∷ [])
      × (map (λ b. count_for 0 ((b + 0x20) ∷ []) (b ∷ [])) (0xC0 ∷ 0xD6 ∷ 0xD8 ∷ 0xDE ∷ []) ≡ replicate 4 (Done 0))
      × (map (λ b. count_for 1 (b ∷ []) (b ∷ [])) (0xF7 ∷ 0xFF ∷ []) ≡ replicate 2 (Done 1))
  -- keywords É and é: 4 with flag 1, accepted with 0; in the check of an index under document 01's mark too
  pub accents_alike : (keyword_code (accented 1) ≡ 4) × (keyword_code (accented 0) ≡ 0)
      × (index_code (form_of (older_index 1)) (older_index 1) ≡ 4) × (index_code (form_of (older_index 0)) (older_index 0) ≡ 0)
  -- ÉéÉ: its cell (2,2) holds 0 and 1 with flag 1, nothing with 0
  pub accent_cell : (cell_of (folded 1 (0xC9 ∷ 0xE9 ∷ 0xC9 ∷ [])) 2 2 ≡ 0 ∷ 1 ∷ []) × (cell_of (folded 0 (0xC9 ∷ 0xE9 ∷ 0xC9 ∷ [])) 2 2 ≡ [])
  -- éÉ occurs across the chunks É and é with flag 1, not with 0; the moves of ÉÈX for éè are those of éèX, with flag 0 one a byte
  pub accents_joined : map (λ flag. join_outcome (form_of (accented_index flag)) (accented_index flag) (recipes_of ((1 ∷ 2 ∷ []) ∷ [])) one_client 9) (1 ∷ 0 ∷ [])
      ≡ Done 1 ∷ Done 0 ∷ []
  pub accent_moves : map (λ flag. moves_for flag ((0xE9 ∷ 0xE8 ∷ []) ∷ []) ((0xC9 ∷ 0xC8 ∷ 0x58 ∷ []) ∷ [])) (1 ∷ 0 ∷ []) ≡ 4 ∷ 3 ∷ []
  -- * keywords Ab and a_b: 4 with flag 1, accepted with 0
  pub alike : (keyword_code (2 ∷ 1 ∷ 2 ∷ 0x41 ∷ 0x62 ∷ 2 ∷ 0x61 ∷ 0x42 ∷ []) ≡ 4) × (keyword_code (2 ∷ 0 ∷ 2 ∷ 0x41 ∷ 0x62 ∷ 2 ∷ 0x61 ∷ 0x42 ∷ []) ≡ 0)
