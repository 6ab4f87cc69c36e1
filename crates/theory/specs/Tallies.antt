-- Request #110: joins into one tally, one after the other, and the sums that its counts are then; what a key and a tally that are not refused say, in the
-- request's words. Then cases by computation, on the small vault: three occurrences, of the keywords 0, 0 and 1.
use Rattle.std.specs.Prelude.{◌≡◌, ◌↔◌, true, List, [], ◌∷◌, ◌++◌, map, ℕ, ◌+◌, ◌^◌, ◌≤◌, ◌<◌, replicate, length, get_or, eqb}
use Rattle.spec.specs.Outcome.{Outcome, Done, Refused, code_of}
use Rattle.spec.specs.Bytes.{keep}
use Rattle.spec.specs.Form.{form_of}
use Rattle.spec.specs.Join.{Occurrence, Clients, count_by, tally_with, is_key, fit64, join_list, join_outcome, join_buffer, join_tally}
use Rattle.theory.specs.Cases.{recipes, recipes_of, nine}
use Rattle.theory.specs.SetCases.{sets_index}

-- ---- joins one after the other

-- What a join is given beside the tally; `room` is the length of its list buffer.
pub record Joining : Type 0 where
  pub index : List ℕ
  pub recipes : List ℕ
  pub key : List ℕ
  pub room : ℕ

abbrev pub with_tally : List ℕ → Joining → Clients
with_tally tally j = record { key = j.key; tally = tally }

-- Its list; how many occurrences of a client's keywords the list has.
abbrev pub list_of : Joining → List Occurrence
list_of j = join_list (form_of j.index) j.index j.recipes

abbrev pub of_client : ℕ → Joining → ℕ
of_client c j = count_by (λ k. get_or j.key k 0) c (list_of j)

-- Its answer into a tally, and the tally after it.
abbrev pub answer_at : List ℕ → Joining → Outcome
answer_at tally j = join_outcome (form_of j.index) j.index j.recipes (with_tally tally j) j.room

abbrev pub after : List ℕ → Joining → List ℕ
after tally j = join_tally (form_of j.index) j.index j.recipes (with_tally tally j) j.room

-- The tally after joins one after the other, and the joins among them that were accepted.
abbrev pub after_all : List ℕ → List Joining → List ℕ
after_all tally [] = tally
after_all tally (j ∷ rest) = after_all (after tally j) rest

abbrev pub accepted_of : List ℕ → List Joining → List Joining
accepted_of tally [] = []
accepted_of tally (j ∷ rest) = keep (eqb (code_of (answer_at tally j)) 0) j ++ accepted_of (after tally j) rest

-- A tally at zero.
abbrev pub at_zero : List ℕ
at_zero = replicate 4 0

-- ---- a key and a tally that are not refused

pub record ClientsSentence : Type 0 where
  -- not 22: the key has 16 bytes and names a client up to 3 for each keyword of the list
  pub key : (n : ℕ) (key : List ℕ) → n ≤ 16 → (is_key n key ≡ true) ↔ ((length key ≡ 16) × ((k : ℕ) → k < n → get_or key k 0 ≤ 3))
  -- each client's count after the join is the one before it and the number of occurrences of its keywords
  pub added : (clients : Clients) (list : List Occurrence) → length clients.tally ≡ 4 → (c : ℕ) → c < 4
      → get_or (tally_with clients list) c 0 ≡ get_or clients.tally c 0 + count_by (λ k. get_or clients.key k 0) c list
  -- not 23: none of these passes 64 bits
  pub counts : (clients : Clients) (list : List Occurrence) → length clients.tally ≡ 4
      → (fit64 (tally_with clients list) ≡ true)
      ↔ ((c : ℕ) → c < 4 → get_or clients.tally c 0 + count_by (λ k. get_or clients.key k 0) c list < 2 ^ 64)

-- ---- cases

-- The small vault's join, with a key, a tally and a list buffer of 27 bytes, which the list fills.
abbrev pub small_join : List ℕ → Joining
small_join key = record { index = sets_index; recipes = recipes; key = key; room = 27 }

-- Its answer and the tally after it.
abbrev pub answered : List ℕ → List ℕ → Outcome
answered key tally = answer_at tally (small_join key)

abbrev pub tallied : List ℕ → List ℕ → List ℕ
tallied key tally = after tally (small_join key)

-- The same for other recipes, or for another length of the list buffer: its answer.
abbrev pub answered_for : List ℕ → ℕ → List ℕ → Outcome
answered_for files room key = answer_at at_zero (record { index = sets_index; recipes = files; key = key; room = room })

-- A key that names a client for keyword 0, one for keyword 1, and another number for what no keyword has.
abbrev pub key_for : ℕ → ℕ → ℕ → List ℕ
key_for first second others = first ∷ second ∷ replicate 14 others

-- The largest number of 64 bits.
abbrev pub largest64 : ℕ
largest64 = 18446744073709551615

pub record TallyCases : Type 0 where
  -- clients 0 and 1 have keywords 0 and 1: counts 2 and 1, added to those before; one client for both keywords; the list is the small vault's
  pub counts : (tallied (key_for 0 1 0) at_zero ≡ 2 ∷ 1 ∷ 0 ∷ 0 ∷ [])
      × (tallied (key_for 0 1 0) (10 ∷ 20 ∷ 30 ∷ 40 ∷ []) ≡ 12 ∷ 21 ∷ 30 ∷ 40 ∷ [])
      × (tallied (key_for 3 3 0) at_zero ≡ 0 ∷ 0 ∷ 0 ∷ 3 ∷ [])
  pub list : join_buffer (form_of sets_index) sets_index recipes (record { key = key_for 0 1 0; tally = at_zero }) (replicate 30 7)
      ≡ nine 0 1 0 ++ nine 0 3 0 ++ nine 1 0 1 ++ replicate 3 7
  -- three joins one after the other, the second with a wrong key: it adds nothing
  pub in_turn : after_all at_zero (small_join (key_for 0 1 0) ∷ small_join (key_for 0 4 0) ∷ small_join (key_for 1 2 0) ∷ []) ≡ 2 ∷ 3 ∷ 1 ∷ 0 ∷ []
  -- 22 behind 18: a wrong key with too small a buffer
  pub before_twenty_two : map (λ room. answered_for recipes room []) (26 ∷ 27 ∷ []) ≡ Refused 18 ∷ Refused 22 ∷ []
  -- 16 bytes: not 0, 15 or 17
  pub lengths : map (λ n. answered (replicate n 0) at_zero) (0 ∷ 15 ∷ 16 ∷ 17 ∷ []) ≡ Refused 22 ∷ Refused 22 ∷ Done 3 ∷ Refused 22 ∷ []
  -- a client above 3 for a keyword of the list, the first or the last; not behind those
  pub named : map (λ key. answered key at_zero) (key_for 4 0 0 ∷ key_for 0 4 0 ∷ key_for 0 3 4 ∷ key_for 0 3 0xFF ∷ [])
      ≡ Refused 22 ∷ Refused 22 ∷ Done 3 ∷ Done 3 ∷ []
  -- also where the keyword does not occur, and where the list is empty
  pub absent : map (answered_for (recipes_of ((1 ∷ 2 ∷ []) ∷ [])) 27) (key_for 0 4 0 ∷ key_for 0 3 0 ∷ []) ≡ Refused 22 ∷ Done 2 ∷ []
  pub empty : map (answered_for (recipes_of []) 0) (key_for 0 4 0 ∷ key_for 0 3 0 ∷ []) ≡ Refused 22 ∷ Done 0 ∷ []
  -- a refused join changes no byte and no count
  pub stays : (join_buffer (form_of sets_index) sets_index recipes (record { key = key_for 0 4 0; tally = at_zero }) (replicate 30 7) ≡ replicate 30 7)
      × (tallied (key_for 0 4 0) (1 ∷ 2 ∷ 3 ∷ 4 ∷ []) ≡ 1 ∷ 2 ∷ 3 ∷ 4 ∷ [])
  -- 23 behind 22: a wrong key with counts that are all full
  pub before_twenty_three : map (λ key. answered key (replicate 4 largest64)) (key_for 0 4 0 ∷ key_for 0 1 0 ∷ []) ≡ Refused 22 ∷ Refused 23 ∷ []
  -- a count may reach the largest number; one more is 23, and no count changes
  pub reached : (answered (key_for 0 1 0) (18446744073709551613 ∷ 0 ∷ 0 ∷ 0 ∷ []) ≡ Done 3)
      × (tallied (key_for 0 1 0) (18446744073709551613 ∷ 0 ∷ 0 ∷ 0 ∷ []) ≡ largest64 ∷ 1 ∷ 0 ∷ 0 ∷ [])
  pub passed : (answered (key_for 0 1 0) (18446744073709551614 ∷ 0 ∷ 0 ∷ 0 ∷ []) ≡ Refused 23)
      × (tallied (key_for 0 1 0) (18446744073709551614 ∷ 0 ∷ 0 ∷ 0 ∷ []) ≡ 18446744073709551614 ∷ 0 ∷ 0 ∷ 0 ∷ [])
  -- a full count of a client without occurrences
  pub full : (answered (key_for 0 1 0) (0 ∷ 0 ∷ largest64 ∷ largest64 ∷ []) ≡ Done 3)
      × (tallied (key_for 0 1 0) (0 ∷ 0 ∷ largest64 ∷ largest64 ∷ []) ≡ 2 ∷ 1 ∷ largest64 ∷ largest64 ∷ [])
  -- the last client's count would pass 64 bits: those of the others stay too
  pub fourth : (answered (key_for 0 3 0) (5 ∷ 6 ∷ 7 ∷ largest64 ∷ []) ≡ Refused 23)
      × (tallied (key_for 0 3 0) (5 ∷ 6 ∷ 7 ∷ largest64 ∷ []) ≡ 5 ∷ 6 ∷ 7 ∷ largest64 ∷ [])
