-- Request #108 by cases: what the paper lists for document 01's refused case, and the corners of kind 4.
use Rattle.std.specs.Prelude.{◌≡◌, true, false, List, [], ◌∷◌, ◌++◌, map, ℕ, replicate, take}
use Rattle.spec.specs.Outcome.{Outcome, Done, Refused}
use Rattle.spec.specs.Scanned as Scanned
use Rattle.spec.specs.Form.{Form, form1, form2, form3, form_of}
use Rattle.spec.specs.Records.{inner_of, good_body}
use Rattle.spec.specs.Index.{body_at, index_code}
use Rattle.spec.specs.Join.{one_client, join_outcome, join_buffer}
use Rattle.spec.specs.Scan.{scan_index, scan_answer}
use Rattle.theory.specs.Cases.{store, keywords, recipes_of, one_chunk, one_keyword, nine}

-- The small vault's index under request #108's mark.
abbrev pub sets_index : List ℕ
sets_index = scan_index form3 keywords store

-- Document 01's refused file: XAB, A, ABAX.
abbrev pub three_chunks : List ℕ
three_chunks = recipes_of ((1 ∷ 3 ∷ 2 ∷ []) ∷ [])

-- What a join of the small vault's index in a form says of it.
abbrev pub three_joined : Form → Outcome
three_joined f = join_outcome (form_of (scan_index f keywords store)) (scan_index f keywords store) three_chunks one_client 65536

-- Keyword AAAA and a chunk A.
abbrev pub aaaa_index : List ℕ
aaaa_index = scan_index form3 (one_keyword 0 (replicate 4 0x41)) (one_chunk (0x41 ∷ []))

-- A set of a keyword, as four bytes, of which the first is given.
abbrev pub set_from : ℕ → ℕ → List ℕ
set_from k first = k ∷ 4 ∷ first ∷ 0 ∷ 0 ∷ 0 ∷ []

pub record SetCases : Type 0 where
  -- XAB, A, ABAX: 0 1 0, 0 3 1, 0 4 0; under the two older marks 17 stands
  pub listed : (join_outcome (form_of sets_index) sets_index three_chunks one_client 27 ≡ Done 3)
      × (join_buffer (form_of sets_index) sets_index three_chunks one_client (replicate 30 7) ≡ nine 0 1 0 ++ nine 0 3 1 ++ nine 0 4 0 ++ replicate 3 7)
  pub older : map three_joined (form1 ∷ form2 ∷ form3 ∷ []) ≡ Refused 17 ∷ Refused 17 ∷ Done 3 ∷ []
  -- the small vault's index is as long as under the second mark, its mark but one byte the same: the chunk A lies inside neither keyword
  pub small : (scan_answer form3 keywords store 138 ≡ Scanned.Done 138 10)
      × (take 4 sets_index ≡ 0x44 ∷ 0x4D ∷ 0x33 ∷ 0x0A ∷ [])
      × (index_code (form_of sets_index) sets_index ≡ 0)
      × (body_at sets_index 2 ≡ 0x00 ∷ 0x00 ∷ 0x03 ∷ 0x01 ∷ 0x00 ∷ 0x03 ∷ [])
  -- AAAA on A: starts 1 and 2 behind the tiny record; six As: 0, 1, 2
  pub body : body_at aaaa_index 0 ≡ 0x00 ∷ 0x00 ∷ 0x03 ∷ set_from 0 0x06
  pub six_as : join_buffer (form_of aaaa_index) aaaa_index (recipes_of ((replicate 6 1) ∷ [])) one_client (replicate 27 7) ≡ nine 0 0 0 ++ nine 0 1 0 ++ nine 0 2 0
  -- a piece does not go on over a file's end: two files of two and of three As
  pub two_files : join_outcome (form_of aaaa_index) aaaa_index (recipes_of ((1 ∷ 1 ∷ []) ∷ (1 ∷ 1 ∷ 1 ∷ []) ∷ [])) one_client 0 ≡ Done 0
  -- starts 1 to n - 1 - L: of AAAA on A not 0 and not 3, on AA 1 alone, on AAA none; AAA on A 1; AA on A none; the widest set: 32 bytes and one
  pub starts : map (λ size. inner_of (replicate 4 0x41) (replicate size 0x41)) (1 ∷ 2 ∷ 3 ∷ 4 ∷ []) ≡ 6 ∷ 2 ∷ 0 ∷ 0 ∷ []
  pub shortest : map (λ n. inner_of (replicate n 0x41) (0x41 ∷ [])) (1 ∷ 2 ∷ 3 ∷ []) ≡ 0 ∷ 0 ∷ 2 ∷ []
  pub widest : (inner_of (replicate 32 0x41) (0x41 ∷ []) ≡ 0x7FFFFFFE)
      × (good_body form3 (32 ∷ []) 1 (0x00 ∷ 0x04 ∷ 0xFE ∷ 0xFF ∷ 0xFF ∷ 0x7F ∷ []) ≡ true)
  -- bits 0 and 31, a set for a chunk of n - 1 bytes, for a keyword of 2, an empty set: not good
  pub out_of_range : (good_body form3 (32 ∷ []) 1 (set_from 0 0x01) ≡ false)
      × (good_body form3 (32 ∷ []) 1 (0x00 ∷ 0x04 ∷ 0x00 ∷ 0x00 ∷ 0x00 ∷ 0x80 ∷ []) ≡ false)
      × (good_body form3 (4 ∷ []) 1 (set_from 0 0x08) ≡ false)
      × (good_body form3 (4 ∷ []) 3 (set_from 0 0x02) ≡ false)
      × (good_body form3 (2 ∷ []) 1 (set_from 0 0x02) ≡ false)
      × (good_body form3 (4 ∷ []) 1 (set_from 0 0x00) ≡ false)
  -- a second set, a set before the other record, a set behind the next keyword's record, a set cut short: not good
  pub second : good_body form3 (4 ∷ []) 1 (set_from 0 0x02 ++ set_from 0 0x04) ≡ false
  pub before : good_body form3 (4 ∷ []) 1 (set_from 0 0x02 ++ (0x00 ∷ 0x00 ∷ 0x01 ∷ [])) ≡ false
  pub behind_next : good_body form3 (4 ∷ 4 ∷ []) 1 (0x01 ∷ 0x00 ∷ 0x01 ∷ set_from 0 0x02) ≡ false
  pub cut : good_body form3 (4 ∷ []) 1 (0x00 ∷ 0x04 ∷ 0x02 ∷ 0x00 ∷ 0x00 ∷ []) ≡ false
  -- any set under an older mark: not good
  pub plain : map (λ f. good_body f (4 ∷ []) 1 (set_from 0 0x02)) (form1 ∷ form2 ∷ form3 ∷ []) ≡ false ∷ false ∷ true ∷ []
  -- a set behind the other record, and one alone: good
  pub good : (good_body form3 (4 ∷ []) 1 (0x00 ∷ 0x00 ∷ 0x01 ∷ set_from 0 0x02) ≡ true) × (good_body form3 (4 ∷ 4 ∷ []) 1 (set_from 1 0x06) ≡ true)
