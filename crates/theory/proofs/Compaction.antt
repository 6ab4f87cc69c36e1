-- Request #107. The new store is a written one (WrittenStores), so it is read back; the named chunks stand in it with their old bytes, so a search of those
-- recipes goes as before (Agreeing); and its length is a sum over fingerprints that every other such store has too (AnyOrder). Assumes nothing.
use mathlib.Core.Path.{◌≡◌, refl, sym, ap, ◌∙◌}
use mathlib.Core.Logic.{⊎_elim}
use mathlib.Core.Bool.{Bool, true, false, ◌||◌, cond, or-true, true≢false, false≢true}
use mathlib.Core.List.{List, [], ◌∷◌, ◌++◌, map}
use Prim.Native.Nat.{ℕ, zero, suc, ◌+◌, ◌*◌, ◌≤◌, ◌<◌}
use native.Mathlib.Nat.{zero-add, mul-suc}
use native.Mathlib.Omega.{arith}
use borrow.Author.Tests.{le-leb, eq-eqb, ne_eqb}
use lib.Dec.{eqb}
use lib.ListN.{length, take, get_or, length-append, length-map}
use Rattle.spec.specs.Searched.{JoinRefused, Found}
use Rattle.spec.specs.Bytes.{largest32, written, same, contains, twice, position_of, every, sum, joined}
use Rattle.spec.specs.Outcome.{first_number, whole, code_of, value_of}
use Rattle.spec.specs.Directory.{size_at}
use Rattle.spec.specs.Store.{Chunk, store_layout, most_chunks, placed_bytes, gapless, store_bytes, chunk_count, store_keys, chunk_at, stored_chunk, stored_chunks}
use Rattle.spec.specs.Store.{store_code}
use Rattle.spec.specs.Form.{newest}
use Rattle.spec.specs.Recipes.{files_of}
use Rattle.spec.specs.Join.{Occurrence, Clients, tally_with, list_bytes}
use Rattle.spec.specs.Scan.{scan_code, scanned_code}
use Rattle.spec.specs.Search.{occurrences_in, occurrences_in_all, restored, chunk_named, search_join_code, search_code, search_outcome, search_buffer, search_tally}
use Rattle.spec.specs.Search.{searched_code, searched_count, direct_search}
use Rattle.spec.specs.Compact.{named_in, named_among, compacted, compactable_code, compact_code, compact_outcome, compact_buffer, compact_size}
use Rattle.spec.proofs.Tests.{bool_cases, and_left, and_right, false_of}
use Rattle.spec.proofs.Codes.{passed-whole, or_left, or_right, buffer-done}
use Rattle.spec.proofs.Same.{same-eq, same_refl}
use Rattle.spec.proofs.StoreLaws.{StoreGood, sizes_from, store-good, length-store_keys, store-key-length, store-size-some, store-size-most, chunk-length}
use Rattle.spec.proofs.Tabulated.{tabulated, length-tabulated, tabulated-at, tabulated-get_or, tabulated-same, map-tabulated}
use Rattle.theory.specs.WrittenInputs.{chunk_fits, chunks_in, chunks_fit, bytes_under}
use Rattle.theory.specs.Compaction.{SameNamed, Compaction, CompactionCases}
use Rattle.theory.proofs.Cases.{definitions}
use Rattle.theory.proofs.AnyOrder.{weigh, weigh-le, weigh-same}
use Rattle.theory.proofs.ScanThenJoin.{buffer-same}
use Rattle.theory.proofs.Agreeing.{knows, place_of, place_in, Agree, same-join-code, same-list, agreed-joins, agreed-queries}
use Rattle.theory.proofs.SameChunks.{by-fingerprint, join_is, buffer-is, tally-is}
use Rattle.theory.proofs.Demand3.{code-of-answer, value-of-answer, written-front, scan-number}
use Rattle.theory.proofs.WrittenStores.{laid_bytes, length-written, store-read, store-accepted}
use Rattle.theory.proofs.WrittenInputs.{bytes-under}

-- ---- the chunks of an accepted store

-- Their fingerprints.
abbrev keys_of_all : List Chunk → List (List ℕ)
keys_of_all chunks = map (λ c. c.key) chunks

-- What an entry and its chunk take of a store, and all of them.
abbrev weight : Chunk → ℕ
weight c = 28 + length c.bytes

abbrev total : List Chunk → ℕ
total chunks = sum (map weight chunks)

-- The same by fingerprint.
abbrev weight_of : List ℕ → List ℕ → ℕ
weight_of store key = 28 + length (chunk_named store key)

sum_more : (m : ℕ) (f : ℕ → ℕ) (at n : ℕ) → sum (tabulated (λ k. m + f k) at n) ≡ m * n + sum (tabulated f at n)
sum_more m f at zero = omega arith
sum_more m f at (suc n) = omega (arith, sum_more m f (suc at) n, mul-suc m n)

module _ (store : List ℕ) (good : StoreGood store) where
  stored-keys : keys_of_all (stored_chunks store) ≡ store_keys store
  unfolding stored_chunks
  stored-keys =
      map-tabulated (λ c. c.key) (stored_chunk store) 0 (chunk_count store) ∙ tabulated-get_or (store_keys store) [] (chunk_count store) (length-store_keys store)

  stored-count : length (stored_chunks store) ≡ chunk_count store
  unfolding stored_chunks
  stored-count = length-tabulated (stored_chunk store) 0 (chunk_count store)

  chunk-fits : (k : ℕ) → k < chunk_count store → chunk_fits (stored_chunk store k) ≡ true
  chunk-fits k l =
      let size = chunk-length store good k l in
      rw (
        eq-eqb (length (get_or (store_keys store) k [])) 20 (store-key-length store good k l),
        le-leb 1 (length (chunk_at store k)) (omega (arith, size, store-size-some store good k l)),
        le-leb (length (chunk_at store k)) newest.longest_chunk (omega (arith, size, store-size-most store good k l)),
      )

  stored-fit : every chunk_fits (stored_chunks store) ≡ true
  unfolding stored_chunks
  stored-fit = all_fit (chunk_count store) 0 (omega arith)
    where
      all_fit : (n at : ℕ) → at + n ≤ chunk_count store → every chunk_fits (tabulated (stored_chunk store) at n) ≡ true
      all_fit zero at h = refl
      all_fit (suc n) at h = rw (chunk-fits at (omega arith), all_fit n (suc at) (omega arith))

  -- by entry, and by fingerprint
  total-sizes : total (stored_chunks store) ≡ 28 * chunk_count store + sum (sizes_from store 0 (chunk_count store))
  unfolding stored_chunks
  total-sizes =
      ap sum
      (map-tabulated weight (stored_chunk store) 0 (chunk_count store)
      ∙ tabulated-same (λ k. weight (stored_chunk store k)) (λ k. 28 + size_at store_layout store k) (chunk_count store)
      (λ k l. ap (λ (n : ℕ). 28 + n) (chunk-length store good k l)))
      ∙ sum_more 28 (size_at store_layout store) 0 (chunk_count store)

  total-weighs : total (stored_chunks store) ≡ weigh (weight_of store) (store_keys store)
  unfolding stored_chunks
  total-weighs =
      ap sum (map-tabulated weight (stored_chunk store) 0 (chunk_count store) ∙ by-fingerprint store good (λ bytes. 28 + length bytes))

  -- directory and chunks take no more than the store, and no more than 32 bits
  store-holds : (8 + total (stored_chunks store) ≤ length store) × (8 + total (stored_chunks store) ≤ largest32)
  store-holds = (omega (arith, total-sizes, good.holds.0), omega (arith, total-sizes, good.holds.1))

  -- the chunk that a fingerprint names, in the list of the chunks
  named-under : (key : List ℕ) → knows store key ≡ true → chunk_named store key ≡ bytes_under (stored_chunks store) key
  unfolding stored_chunks
  named-under key c =
      let k = place_of store key in
      let l = place_in store key c in
      let all : List Chunk = tabulated (stored_chunk store) 0 (chunk_count store) in
      sym (bytes-under all key
      ∙ ap (λ (keys : List (List ℕ)). get_or (map (λ c. c.bytes) all) (position_of key keys) []) stored-keys
      ∙ ap (λ (chunks : List (List ℕ)). get_or chunks k []) (map-tabulated (λ c. c.bytes) (stored_chunk store) 0 (chunk_count store))
      ∙ tabulated-at (chunk_at store) 0 (chunk_count store) k [] l
      ∙ ap (chunk_at store) (zero-add k))

-- ---- the named ones among chunks

module _ (keys : List (List ℕ)) where
  abbrev kept : List Chunk → List Chunk
  kept chunks = named_among keys chunks

  -- a chunk is kept or not
  kept_by : (P : List Chunk → Type 0) (c : Chunk) (cs : List Chunk) → (contains c.key keys ≡ true → P (c ∷ kept cs))
      → (contains c.key keys ≡ false → P (kept cs)) → P (kept (c ∷ cs))
  kept_by P c cs taken left = ⊎_elim (λ t. rw t (taken t)) (λ f. rw f (left f)) (bool_cases (contains c.key keys))

  kept-few : (cs : List Chunk) → length (kept cs) ≤ length cs
  kept-few [] = omega arith
  kept-few (c ∷ cs) =
      let l = kept-few cs in
      kept_by (λ (x : List Chunk). length x ≤ suc (length cs)) c cs (λ t. omega arith) (λ f. omega arith)

  kept-total : (cs : List Chunk) → total (kept cs) ≤ total cs
  kept-total [] = omega arith
  kept-total (c ∷ cs) =
      let l = kept-total cs in
      kept_by (λ (x : List Chunk). total x ≤ weight c + total cs) c cs (λ t. omega arith) (λ f. omega arith)

  kept-every : (test : Chunk → Bool) (cs : List Chunk) → every test cs ≡ true → every test (kept cs) ≡ true
  kept-every test [] e = refl
  kept-every test (c ∷ cs) e =
      let rest = kept-every test cs (and_right (test c) (every test cs) e) in
      kept_by (λ (x : List Chunk). every test x ≡ true) c cs (λ t. rw (and_left (test c) (every test cs) e, rest)) (λ f. rest)

  kept_again : (cs : List Chunk) → kept (kept cs) ≡ kept cs
  kept_again [] = refl
  kept_again (c ∷ cs) =
      let rest = kept_again cs in
      kept_by (λ (x : List Chunk). kept x ≡ x) c cs (λ t. rw (t, rest)) (λ f. rest)

  -- what is kept was there, and is named
  kept_step : (key : List ℕ) (c : Chunk) (cs : List Chunk)
      → (contains key (keys_of_all (kept cs)) ≡ true → (contains key (keys_of_all cs) ≡ true) × (contains key keys ≡ true))
      → contains key (keys_of_all (kept (c ∷ cs))) ≡ true → (contains key (keys_of_all (c ∷ cs)) ≡ true) × (contains key keys ≡ true)
  kept_step key c cs ih =
      kept_by (λ (x : List Chunk). contains key (keys_of_all x) ≡ true → (contains key (keys_of_all (c ∷ cs)) ≡ true) × (contains key keys ≡ true)) c cs
      (λ t h.
      ⊎_elim (λ u. (rw u, ap (λ (y : List ℕ). contains y keys) (same-eq key c.key u) ∙ t)) (λ u. behind (rw u at h)) (bool_cases (same key c.key)))
      (λ f. behind)
    where
      behind : contains key (keys_of_all (kept cs)) ≡ true → (contains key (keys_of_all (c ∷ cs)) ≡ true) × (contains key keys ≡ true)
      behind h = let b = ih h in (rw b.0 (or-true (same key c.key)), b.1)

  kept_in : (key : List ℕ) (cs : List Chunk) → contains key (keys_of_all (kept cs)) ≡ true
      → (contains key (keys_of_all cs) ≡ true) × (contains key keys ≡ true)
  kept_in key [] e = absurd (false≢true e)
  kept_in key (c ∷ cs) e = kept_step key c cs (λ h. kept_in key cs h) e

  kept-once : (cs : List Chunk) → twice (keys_of_all cs) ≡ false → twice (keys_of_all (kept cs)) ≡ false
  kept-once [] t = refl
  kept-once (c ∷ cs) t =
      let rest = kept-once cs (or_right (contains c.key (keys_of_all cs)) (twice (keys_of_all cs)) t) in
      let none : contains c.key (keys_of_all (kept cs)) ≡ false =
      false_of (contains c.key (keys_of_all (kept cs)))
      (λ h. true≢false (sym (kept_in c.key cs h).0 ∙ or_left (contains c.key (keys_of_all cs)) (twice (keys_of_all cs)) t)) in
      kept_by (λ (x : List Chunk). twice (keys_of_all x) ≡ false) c cs (λ u. rw (none, rest)) (λ u. rest)

  -- a named fingerprint is kept if it was there, with its bytes
  module _ (key : List ℕ) (named : contains key keys ≡ true) where
    other : (c : Chunk) → contains c.key keys ≡ false → same key c.key ≡ false
    other c f = false_of (same key c.key) (λ u. true≢false (sym named ∙ ap (λ (y : List ℕ). contains y keys) (same-eq key c.key u) ∙ f))

    kept-has : (cs : List Chunk) → contains key (keys_of_all cs) ≡ contains key (keys_of_all (kept cs))
    kept-has [] = refl
    kept-has (c ∷ cs) =
        let rest = kept-has cs in
        kept_by (λ (x : List Chunk). contains key (keys_of_all (c ∷ cs)) ≡ contains key (keys_of_all x)) c cs
        (λ t. ap (λ (b : Bool). same key c.key || b) rest) (λ f. rw (other c f) rest)

    kept-bytes : (cs : List Chunk) → bytes_under cs key ≡ bytes_under (kept cs) key
    kept-bytes [] = refl
    kept-bytes (c ∷ cs) =
        let rest = kept-bytes cs in
        kept_by (λ (x : List Chunk). bytes_under (c ∷ cs) key ≡ bytes_under x key) c cs
        (λ t. ap (λ (b : List ℕ). cond (same key c.key) c.bytes b) rest) (λ f. rw (other c f) rest)

-- ---- a store without holes

gapless-chunks : (cs : List Chunk) → chunks_in (map gapless cs) ≡ cs
gapless-chunks [] = refl
gapless-chunks (c ∷ cs) = ap (λ (l : List Chunk). c ∷ l) (gapless-chunks cs)

length-laid : (cs : List Chunk) → 28 * length cs + length (laid_bytes (map gapless cs)) ≡ total cs
length-laid [] = refl
length-laid (c ∷ cs) = omega (arith, length-laid cs, length-append c.bytes (laid_bytes (map gapless cs)))

length-gapless : (cs : List Chunk) → every chunk_fits cs ≡ true → length (store_bytes cs) ≡ 8 + total cs
unfolding store_bytes
length-gapless cs fit =
    length-written (map gapless cs) [] (rw (gapless-chunks cs) fit) ∙ omega (arith, length-laid cs, length-map cs gapless)

-- ---- searches and recipes

-- an answer whose scan is done: its number, and its count where the join is done
found-code : (n m v w j : ℕ) → searched_code (cond (eqb j 0) (Found n v) (JoinRefused n j)) ≡ searched_code (cond (eqb j 0) (Found m w) (JoinRefused m j))
found-code n m v w zero = refl
found-code n m v w (suc j) = rw (ne_eqb (suc j) 0 (λ z. let y : ⊥ = omega arith in absurd y))

found-count : (n m v w j : ℕ) → (j ≡ 0 → v ≡ w)
    → searched_count (cond (eqb j 0) (Found n v) (JoinRefused n j)) ≡ searched_count (cond (eqb j 0) (Found m w) (JoinRefused m j))
found-count n m v w zero h = h refl
found-count n m v w (suc j) h = rw (ne_eqb (suc j) 0 (λ z. let y : ⊥ = omega arith in absurd y))

-- what is in one of two lists is in both joined
contains-left : (key : List ℕ) (l m : List (List ℕ)) → contains key l ≡ true → contains key (l ++ m) ≡ true
contains-left key [] m e = absurd (false≢true e)
contains-left key (x ∷ l) m e = ⊎_elim (λ t. rw t) (λ f. rw f (contains-left key l m (rw f at e))) (bool_cases (same key x))

contains-right : (key : List ℕ) (l m : List (List ℕ)) → contains key m ≡ true → contains key (l ++ m) ≡ true
contains-right key [] m e = e
contains-right key (x ∷ l) m e = rw (contains-right key l m e) (or-true (same key x))

-- every element of some lists passes a test that all of their joined elements pass
every_in : (test : List ℕ → Bool) (file : List (List ℕ)) → ((key : List ℕ) → contains key file ≡ true → test key ≡ true) → every test file ≡ true
every_in test [] h = refl
every_in test (key ∷ file) h = rw (h key (rw same_refl), every_in test file (λ k c. h k (rw c (or-true (same k key)))))

within-joined : (test : List ℕ → Bool) (files : List (List (List ℕ))) → ((key : List ℕ) → contains key (joined files) ≡ true → test key ≡ true)
    → every (every test) files ≡ true
within-joined test [] h = refl
within-joined test (file ∷ files) h =
    rw (
      every_in test file (λ key c. h key (contains-left key file (joined files) c)),
      within-joined test files (λ key c. h key (contains-right key file (joined files) c)),
    )

-- ---- the new store

module _ (store recipes : List ℕ) (e : store_code store ≡ 0) where
  good : StoreGood store
  good = store-good store e

  abbrev names : List (List ℕ)
  names = named_in recipes

  abbrev chunks : List Chunk
  chunks = named_among names (stored_chunks store)

  each_fits : every chunk_fits chunks ≡ true
  each_fits = kept-every names chunk_fits (stored_chunks store) (stored-fit store good)

  long : length (store_bytes chunks) ≡ 8 + total chunks
  long = length-gapless chunks each_fits

  short : length (store_bytes chunks) ≤ largest32
  short = omega (arith, long, kept-total names (stored_chunks store), (store-holds store good).1)

  few : length (map gapless chunks) ≤ most_chunks
  few = omega (arith, length-map chunks gapless, kept-few names (stored_chunks store), stored-count store good, good.few)

  fits : chunks_fit (map gapless chunks) ≡ true
  unfolding store_bytes
  fits =
      rw (
        le-leb (length (map gapless chunks)) most_chunks few,
        gapless-chunks chunks,
        each_fits,
        le-leb (length (placed_bytes (map gapless chunks) [])) largest32 short,
      )

  chunks-read : stored_chunks (compacted store recipes) ≡ chunks
  unfolding compacted store_bytes
  chunks-read = (store-read (map gapless chunks) [] fits).stored ∙ gapless-chunks chunks

  keys-read : store_keys (compacted store recipes) ≡ keys_of_all chunks
  unfolding compacted store_bytes
  keys-read = (store-read (map gapless chunks) [] fits).keys ∙ ap keys_of_all (gapless-chunks chunks)

  once : twice (keys_of_all chunks) ≡ false
  once = kept-once names (stored_chunks store) (ap twice (stored-keys store good) ∙ good.differ)

  compacted-accepted : store_code (compacted store recipes) ≡ 0
  unfolding compacted store_bytes
  compacted-accepted = (store-accepted (map gapless chunks) [] fits).1 (ap (λ (l : List Chunk). twice (keys_of_all l)) (gapless-chunks chunks) ∙ once)

  good_new : StoreGood (compacted store recipes)
  good_new = store-good (compacted store recipes) compacted-accepted

  compacted-again : compacted (compacted store recipes) recipes ≡ compacted store recipes
  unfolding compacted
  compacted-again = ap store_bytes (ap (named_among names) chunks-read ∙ kept_again names (stored_chunks store))

  -- ---- a search of those recipes

  known-new : (key : List ℕ) → contains key names ≡ true → knows store key ≡ knows (compacted store recipes) key
  known-new key n =
      ap (contains key) (sym (stored-keys store good)) ∙ kept-has names key n (stored_chunks store) ∙ ap (contains key) (sym keys-read)

  named_new : (key : List ℕ) → contains key names ≡ true → knows store key ≡ true → chunk_named store key ≡ chunk_named (compacted store recipes) key
  named_new key n c =
      named-under store good key c ∙ kept-bytes names key n (stored_chunks store)
      ∙ ap (λ (l : List Chunk). bytes_under l key) (sym chunks-read)
      ∙ sym (named-under (compacted store recipes) good_new key (sym (known-new key n) ∙ c))

  agrees : Agree store (compacted store recipes) (λ key. contains key names)
  agrees = record { stored = good; stored_other = good_new; known = known-new; named = named_new }

  -- every file names only what the recipes name
  all_named : every (every (λ key. contains key names)) (files_of recipes) ≡ true
  unfolding named_in
  all_named = within-joined (λ key. contains key names) (files_of recipes) (λ key c. c)

  -- where both scans do their work
  module _ (list : List ℕ) (clients : Clients) (index_room index_room₂ : ℕ) (a : scan_code newest list store index_room ≡ 0)
      (b : scan_code newest list (compacted store recipes) index_room₂ ≡ 0) (out : List ℕ) where
    join-same : search_join_code newest list store recipes clients (length out)
        ≡ search_join_code newest list (compacted store recipes) recipes clients (length out)
    join-same = same-join-code store (compacted store recipes) (λ key. contains key names) agrees newest list recipes clients (length out) all_named

    list_same : search_join_code newest list store recipes clients (length out) ≡ 0
        → direct_search list store recipes ≡ direct_search list (compacted store recipes) recipes
    list_same = same-list store (compacted store recipes) (λ key. contains key names) agrees newest list recipes clients (length out) all_named

    number_same : searched_code (search_outcome newest list store recipes clients index_room (length out))
        ≡ searched_code (search_outcome newest list (compacted store recipes) recipes clients index_room₂ (length out))
    unfolding search_outcome
    number_same = rw (a, b, join-same) (found-code _ _ _ _ (search_join_code newest list (compacted store recipes) recipes clients (length out)))

    count_same : searched_count (search_outcome newest list store recipes clients index_room (length out))
        ≡ searched_count (search_outcome newest list (compacted store recipes) recipes clients index_room₂ (length out))
    unfolding search_outcome
    count_same =
        rw (a, b, join-same)
        (found-count _ _ _ _ (search_join_code newest list (compacted store recipes) recipes clients (length out)) (λ z. ap length (list_same (join-same ∙ z))))

    bytes_same : search_buffer newest list store recipes clients index_room out
        ≡ search_buffer newest list (compacted store recipes) recipes clients index_room₂ out
    unfolding search_buffer search_code
    bytes_same =
        rw (a, b)
        (buffer-same _ _ _ _ out (ap (λ (n : ℕ). first_number (whole n ∷ [])) join-same)
        (λ z. ap (λ (l : List Occurrence). written out (list_bytes l)) (list_same (join-same ∙ (passed-whole _ _ z).0))))

    tally-same : search_tally newest list store recipes clients index_room (length out)
        ≡ search_tally newest list (compacted store recipes) recipes clients index_room₂ (length out)
    unfolding search_tally search_code
    tally-same =
        rw (a, b)
        (buffer-same _ _ _ _ clients.tally (ap (λ (n : ℕ). first_number (whole n ∷ [])) join-same)
        (λ z. ap (tally_with clients) (list_same (join-same ∙ (passed-whole _ _ z).0))))

  -- ---- no other store is shorter

  length-new : length (compacted store recipes) ≡ 8 + total chunks
  unfolding compacted
  length-new = long

  compacted-long : length (compacted store recipes) ≡ 8 + weigh (weight_of (compacted store recipes)) (store_keys (compacted store recipes))
  compacted-long =
      length-new ∙ ap (λ (l : List Chunk). 8 + total l) (sym chunks-read)
      ∙ ap (λ (n : ℕ). 8 + n) (total-weighs (compacted store recipes) good_new)

  -- a fingerprint of the new store was in the old one, and is named
  new-key : (key : List ℕ) → contains key (store_keys (compacted store recipes)) ≡ true → (knows store key ≡ true) × (contains key names ≡ true)
  new-key key c =
      let k = kept_in names key (stored_chunks store) (ap (contains key) (sym keys-read) ∙ c) in
      (ap (contains key) (sym (stored-keys store good)) ∙ k.0, k.1)

  compacted-shortest : (other : List ℕ) → store_code other ≡ 0 → SameNamed store recipes other → length (compacted store recipes) ≤ length other
  compacted-shortest other accepted s =
      let there = store-good other accepted in
      let alike = weigh-same (weight_of (compacted store recipes)) (weight_of other) (store_keys (compacted store recipes))
      (λ key c.
      let k = new-key key c in
      ap (λ (bytes : List ℕ). 28 + length bytes) (sym (named_new key k.1 k.0) ∙ sym (s key k.1).1)) in
      let fewer = weigh-le (weight_of other) (store_keys (compacted store recipes)) (store_keys other) good_new.differ
      (λ key c. (s key (new-key key c).1).0) in
      omega (arith, compacted-long, alike, fewer, total-weighs other there, (store-holds other there).0)

-- ---- a call

compact-wrote : (store recipes out : List ℕ) → code_of (compact_outcome store recipes (length out)) ≡ 0
    → take (value_of (compact_outcome store recipes (length out))) (compact_buffer store recipes out) ≡ compacted store recipes
unfolding compact_outcome compact_buffer
compact-wrote store recipes out d =
    let new = compacted store recipes in
    let z : compact_code store recipes (length out) ≡ 0 = sym (code-of-answer _ (length new)) ∙ d in
    rw (value-of-answer (compact_code store recipes (length out)) (length new) z)
    (ap (take (length new)) (sym (buffer-done (compact_code store recipes (length out)) (written out new) out z)) ∙ written-front out new)

-- ---- the claim

-- REQUEST #107: the compacted form of an accepted store.
pub compaction : (store recipes : List ℕ) → store_code store ≡ 0 → Compaction store recipes
compaction store recipes e =
    let new = compacted store recipes in
    record {
      accepted = compacted-accepted store recipes e;
      chunks = chunks-read store recipes e;
      again = compacted-again store recipes e;
      calls = λ list clients buffer out scan join buffer' index out' tally' c buffer₂ out₂ scan₂ join₂ buffer₂' index₂ out₂' tally₂' c₂ w l.
          rw (
            join_is list store recipes clients buffer out scan join buffer' index out' tally' c,
            join_is list new recipes clients buffer₂ out₂ scan₂ join₂ buffer₂' index₂ out₂' tally₂' c₂,
            buffer-is list store recipes clients buffer out scan join buffer' index out' tally' c,
            buffer-is list new recipes clients buffer₂ out₂ scan₂ join₂ buffer₂' index₂ out₂' tally₂' c₂,
            tally-is list store recipes clients buffer out scan join buffer' index out' tally' c,
            tally-is list new recipes clients buffer₂ out₂ scan₂ join₂ buffer₂' index₂ out₂' tally₂' c₂,
          )
          (agreed-joins store new (λ key. contains key (named_in recipes)) (agrees store recipes e) list buffer buffer₂
          (sym (scan-number list store (length buffer)) ∙ ap scanned_code (sym c.scanned) ∙ w.0)
          (sym (scan-number list new (length buffer₂)) ∙ ap scanned_code (sym c₂.scanned) ∙ w.1)
          recipes (all_named store recipes e) clients out out₂ l);
      searches = λ list clients index_room index_room₂ a b out.
          let s = sym (scan-number list store index_room) ∙ a in
          let t = sym (scan-number list new index_room₂) ∙ b in (
            number_same store recipes e list clients index_room index_room₂ s t out,
            count_same store recipes e list clients index_room index_room₂ s t out,
            bytes_same store recipes e list clients index_room index_room₂ s t out,
            tally-same store recipes e list clients index_room index_room₂ s t out,
          );
      queries = λ list buffer buffer₂ a b.
          agreed-queries store new (λ key. contains key (named_in recipes)) (agrees store recipes e) list buffer buffer₂
          (sym (scan-number list store (length buffer)) ∙ a) (sym (scan-number list new (length buffer₂)) ∙ b) recipes (all_named store recipes e);
      shortest = compacted-shortest store recipes e;
      within = omega (arith, length-new store recipes e, kept-total (named_in recipes) (stored_chunks store), (store-holds store (store-good store e)).0);
      wrote = compact-wrote store recipes;
    }

-- ---- cases

pub compaction-cases : CompactionCases
unfolding definitions stored_chunks named_in compacted compactable_code compact_code compact_outcome compact_buffer compact_size search_code search_join_code occurrences_in occurrences_in_all restored direct_search
compaction-cases =
    record {
      small = refl;
      named = refl;
      room = (refl, refl);
      behind = refl;
      stays = refl;
      size = refl;
      unnamed = (refl, refl);
      refusals = (refl, refl, refl, refl, refl);
      inner = (refl, refl, refl);
    }
