-- What measuring and writing a chunk's body from the tally of its log asks, and what a body is that has no lists of offsets yet.
use Rattle.std.specs.Prelude.{◌≡◌, cond, List, [], ◌∷◌, ℕ, zero, suc, ◌+◌, ◌*◌, ◌≤◌, ◌<◌, length, get_or, ltb}
use Rattle.spec.specs.Bytes.{each}
use Rattle.spec.specs.Join.{keyword_at}
use Rattle.spec.specs.Keywords.{flag_of, folded, folded_keywords}
use Rattle.spec.specs.Form.{newest}
use Rattle.spec.specs.Records.{MatchRecord, record_of}
use Rattle.spec.specs.Scan.{scan_body}
use Rattle.keywords.specs.declared.Keywords.{Keywords}
use Rattle.keywords.specs.Parsed.{Reads}
use Rattle.records.specs.Summaries.{summary_of, start_bytes, list_bytes}
use Rattle.logs.specs.declared.Tally.{Tally}
use Rattle.records.specs.declared.Started.{Started}

-- The record of keyword k in a chunk, as keywords and chunk compare.
unfoldable pub found_at : List ℕ → List ℕ → ℕ → MatchRecord
found_at list chunk k = record_of newest (keyword_at (folded_keywords list) k) (folded (flag_of list) chunk)

-- A tally and the tails of a chunk's last node, keyword by keyword: they say the chunk's records.
pub record Tells (list : List ℕ) (words : Keywords) (chunk tails : List ℕ) (last : ℕ) (tally : Tally) : Type 0 where
  pub reads : Reads list words
  pub short : length chunk ≤ newest.longest_chunk
  pub counted : length tally.counts ≡ 16
  pub kept : length tally.firsts ≡ 16
  pub inside : last * 16 + 16 ≤ length tails
  pub prefix : (k : ℕ) → k < words.count → get_or tails (last * 16 + k) 0 ≡ (found_at list chunk k).prefix
  pub count : (k : ℕ) → k < words.count → get_or tally.counts k 0 ≡ length (found_at list chunk k).offsets
  pub first : (k : ℕ) → k < words.count → get_or tally.firsts k 0 ≡ get_or (found_at list chunk k).offsets 0 0

-- What is written of keyword k before its list of offsets; the list.
abbrev pub start_of : List ℕ → List ℕ → ℕ → List ℕ
start_of list chunk k = start_bytes newest (length (keyword_at (folded_keywords list) k)) k (summary_of (found_at list chunk k))

abbrev pub list_of : List ℕ → List ℕ → ℕ → List ℕ
list_of list chunk k = list_bytes newest (found_at list chunk k).offsets

-- Where keyword k's record stands in the body: behind those before it and their sets.
unfoldable pub place_of : List ℕ → List ℕ → ℕ → ℕ
place_of list chunk zero = 0
place_of list chunk (suc k) = place_of list chunk k + length (start_of list chunk k) + length (list_of list chunk k)

-- Where its list goes: behind its start; 0 behind the last keyword.
unfoldable pub list_place : List ℕ → List ℕ → ℕ → ℕ
list_place list chunk k = cond (ltb k (length (folded_keywords list))) (place_of list chunk k + length (start_of list chunk k)) 0

-- A body that is begun: its length, and where the lists go.
unfoldable pub started_of : List ℕ → List ℕ → Started
started_of list chunk = record { size = length (scan_body newest list chunk); cursors = each (λ k. list_place list chunk k ∷ []) 0 16 }
