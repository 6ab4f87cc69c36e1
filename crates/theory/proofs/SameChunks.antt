-- Request #101: two accepted stores with the same chunks, in any two orders, answer the same, and so do two scans and two joins. No fingerprint is twice,
-- so each stands for the same bytes in both; lookups, bodies, tests 15 to 17 and the direct search go by fingerprint; lengths and moves are sums
-- over the chunks (AnyOrder). Assumes nothing.
use mathlib.Core.Path.{◌≡◌, refl, sym, ap, ap₂, ◌∙◌}
use mathlib.Core.Logic.{⊎_elim}
use mathlib.Core.Bool.{Bool, true, false, cond, false≢true}
use mathlib.Core.List.{List, [], ◌∷◌, map, map-map}
use Prim.Native.Nat.{ℕ, zero, suc, ◌+◌, ◌*◌, ◌<◌}
use native.Mathlib.Nat.{zero-add}
use native.Mathlib.Omega.{arith}
use borrow.Author.Tests.{lt-ltb, ne_eqb}
use lib.Dec.{eqb}
use lib.ListN.{length, take, get_or, length-append}
use Rattle.spec.specs.Outcome.{Outcome, code_of, value_of, answer, unless_refused}
use Rattle.spec.specs.Scanned.{Scanned}
use Rattle.spec.specs.Searched.{ScanRefused, JoinRefused, Found}
use Rattle.spec.specs.Bytes.{written, part, same, contains, position_of, every, sum}
use Rattle.spec.specs.Keywords.{flag_of, folded, folded_keywords}
use Rattle.spec.specs.Directory.{Layout, pointed_at}
use Rattle.spec.specs.Store.{Chunk, store_layout, chunk_count, store_keys, chunk_at, chunks_of, store_code, stored_chunk, stored_chunks}
use Rattle.spec.specs.Form.{Form, newest, form_of}
use Rattle.spec.specs.Index.{Entry, index_bytes, index_layout, index_keys, body_at, index_code}
use Rattle.spec.specs.Recipes.{files_of}
use Rattle.spec.specs.Join.{Occurrence, Clients, tally_with, list_bytes, join_outcome, join_buffer, join_tally, read_list}
use Rattle.spec.specs.Lookup.{lookup_code, lookup_start, lookup_length, find_chunk, chunk_start, chunk_length, chunk_of, find_body, body_start, body_length, body_of}
use Rattle.spec.specs.Trie.{moves_of, moves_of_all, scan_moves}
use Rattle.spec.specs.Scan.{scan_body, scan_entry, scan_index, scannable_code, scan_code, scan_outcome, with_moves, scan_answer, scanned_length}
use Rattle.spec.specs.Search.{chunk_named, direct_search, search_join_code, search_code, search_outcome, search_buffer, search_tally, searched_count}
use Rattle.spec.proofs.Tests.{bool_cases, and_left, and_right}
use Rattle.spec.proofs.Codes.{passed-whole, buffer-done}
use Rattle.spec.proofs.Same.{same-eq}
use Rattle.spec.proofs.Fields.{length-le_bytes}
use Rattle.spec.proofs.EntryLaws.{contains-position, position-of, contains-at, position_at}
use Rattle.spec.proofs.LookupLaws.{lookup-passed}
use Rattle.spec.proofs.FileLaws.{every-at}
use Rattle.spec.proofs.StoreLaws.{StoreGood, store-good, length-store_keys, store-key-length, store-size-most}
use Rattle.spec.proofs.WrittenEntries.{bodies_of, Fits, no_entry, Every, length-directory}
use Rattle.spec.proofs.ScanLaws.{ScanReads, newest-scans, scan-done-reads}
use Rattle.spec.proofs.Tabulated.{tabulated, length-tabulated, tabulated-at, tabulated-get_or, tabulated-same, map-tabulated}
use Rattle.theory.specs.Demand3.{scanned}
use Rattle.theory.specs.Demands.{Calls}
use Rattle.theory.specs.SameChunks.{same_chunk, among, held_by, same_chunks, Reordered, AnswerAlike, SameChunks, SameCalls, SmallReordered}
use Rattle.theory.proofs.AnyOrder.{weigh, weigh-le, weigh-same, weigh-one}
use Rattle.theory.proofs.Agreeing.{knows, place_of, place_in, join_kept, every_true, Agree, same-join-code, same-list}
use Rattle.theory.proofs.Agreeing.{agreed-outcome, agreed-buffer, agreed-tally, agreed-list, agreed-queries}
use Rattle.theory.proofs.ScanThenJoin.{position_in, buffer-same}
use Rattle.theory.proofs.Cases.{definitions}
use Rattle.theory.proofs.Demand3.{code-of-answer, value-of-answer, scan-number, scanned-is, scanned-form, join-of-scan}

-- ---- a fingerprint stands for the same bytes in both stores

bool_same : (a b : Bool) → (a ≡ true → b ≡ true) → (b ≡ true → a ≡ true) → a ≡ b
bool_same true b f g = sym (f refl)
bool_same false true f g = g refl
bool_same false false f g = refl

-- what is in a tabulated list is at one of its places
among-at : (P : Type 0) (c : Chunk) (f : ℕ → Chunk) (at n : ℕ) → among c (tabulated f at n) ≡ true
    → ((k : ℕ) → k < at + n → c.key ≡ (f k).key → c.bytes ≡ (f k).bytes → P) → P
among-at P c f at zero e h = absurd (false≢true e)
among-at P c f at (suc n) e h =
    ⊎_elim
    (λ t. h at (omega arith) (same-eq c.key (f at).key (and_left _ _ t)) (same-eq c.bytes (f at).bytes (and_right (same c.key (f at).key) _ t)))
    (λ t. among-at P c f (suc at) n (rw t at e) (λ k l p q. h k (omega arith) p q))
    (bool_cases (same_chunk c (f at)))

module _ (store : List ℕ) (good : StoreGood store) where
  -- a chunk that the store holds is the one that its fingerprint names
  named_by : (c : Chunk) → among c (stored_chunks store) ≡ true → (knows store c.key ≡ true) × (chunk_named store c.key ≡ c.bytes)
  unfolding stored_chunks
  named_by c e = among-at _ c (stored_chunk store) 0 (chunk_count store) e (λ k l p q.
      let m : k < length (store_keys store) = omega (arith, length-store_keys store) in
      let place : place_of store c.key ≡ k = ap (place_of store) p ∙ position_at (store_keys store) k good.differ m in
      (ap (knows store) p ∙ contains-at (store_keys store) k m, ap (chunk_at store) place ∙ sym q))

  -- the chunk that a fingerprint names, under it
  abbrev under : List ℕ → Chunk
  under key = record { key = key; bytes = chunk_named store key }

  -- what holds of every chunk holds of the one that a known fingerprint names
  every-named : (test : Chunk → Bool) → every test (stored_chunks store) ≡ true → (key : List ℕ) → knows store key ≡ true
      → test (under key) ≡ true
  unfolding stored_chunks
  every-named test e key c =
      let k = place_of store key in
      let none : Chunk = record { key = []; bytes = [] } in
      let all : List Chunk = tabulated (stored_chunk store) 0 (chunk_count store) in
      let at : get_or all k none ≡ stored_chunk store k = tabulated-at (stored_chunk store) 0 (chunk_count store) k none (place_in store key c) ∙ rw zero-add in
      ap (λ (x : List ℕ). test (record { key = x; bytes = chunk_named store key }))
      (sym (position-of key (store_keys store) (position_in (store_keys store) key c)))
      ∙ ap test (sym at)
      ∙ every-at test all k none e (omega (arith, length-tabulated (stored_chunk store) 0 (chunk_count store), place_in store key c))

-- Two accepted stores in which the same fingerprints stand for the same bytes.
pub record Alike (store other : List ℕ) : Type 0 where
  pub stored : StoreGood store
  pub stored_other : StoreGood other
  pub code : store_code store ≡ 0
  pub code_other : store_code other ≡ 0
  pub known : (key : List ℕ) → knows store key ≡ knows other key
  pub named : (key : List ℕ) → knows store key ≡ true → chunk_named store key ≡ chunk_named other key

held-named : (store other : List ℕ) → StoreGood store → StoreGood other → held_by store other ≡ true → (key : List ℕ) → knows store key ≡ true
    → (knows other key ≡ true) × (chunk_named other key ≡ chunk_named store key)
held-named store other a b e key c = named_by other b (under store a key) (every-named store a (λ d. among d (stored_chunks other)) e key c)

pub stores-alike : (store other : List ℕ) → Reordered store other → Alike store other
unfolding same_chunks
stores-alike store other r =
    let a = store-good store r.accepted in
    let b = store-good other r.accepted_there in
    let there = held-named store other a b (and_left (held_by store other) (held_by other store) r.chunks) in
    let back = held-named other store b a (and_right (held_by store other) (held_by other store) r.chunks) in
    record {
      stored = a;
      stored_other = b;
      code = r.accepted;
      code_other = r.accepted_there;
      known = λ key. bool_same (knows store key) (knows other key) (λ c. (there key c).0) (λ c. (back key c).0);
      named = λ key c. sym (there key c).1;
    }

-- ---- the slice of a lookup

-- it is what the entry points to; on a refusal it is empty
slice_is : (code : ℕ) (layout : Layout) (bytes : List ℕ) (keys : List (List ℕ)) (key : List ℕ)
    → part bytes (lookup_start code layout bytes keys key) (lookup_length code layout bytes keys key)
    ≡ unless_refused (lookup_code code keys key) (pointed_at layout bytes (position_of key keys)) []
unfolding unless_refused
slice_is code layout bytes keys key = ⊎_elim (λ t. rw t) (λ f. rw f) (bool_cases (eqb (lookup_code code keys key) 0))

lookup-known : (code : ℕ) (keys : List (List ℕ)) (key : List ℕ) → lookup_code code keys key ≡ 0 → contains key keys ≡ true
lookup-known code keys key e = contains-position key keys ∙ lt-ltb (position_of key keys) (length keys) (lookup-passed code keys key e).2

-- ---- sums over the chunks of a store

module _ (store : List ℕ) (good : StoreGood store) (g : List ℕ → ℕ) where
  -- g of the chunk that a fingerprint names
  abbrev named : List ℕ → ℕ
  named key = g (chunk_named store key)

  -- by entry, and by fingerprint
  by-entry : (k : ℕ) → k < chunk_count store → g (chunk_at store k) ≡ named (get_or (store_keys store) k [])
  by-entry k l = ap (λ (j : ℕ). g (chunk_at store j)) (sym (position_at (store_keys store) k good.differ (omega (arith, length-store_keys store))))

  pub by-fingerprint : tabulated (λ k. g (chunk_at store k)) 0 (chunk_count store) ≡ map named (store_keys store)
  by-fingerprint =
      tabulated-same (λ k. g (chunk_at store k)) (λ k. named (get_or (store_keys store) k [])) (chunk_count store) by-entry
      ∙ sym (map-tabulated named (λ k. get_or (store_keys store) k []) 0 (chunk_count store))
      ∙ ap (map named) (tabulated-get_or (store_keys store) [] (chunk_count store) (length-store_keys store))

-- The moves that a chunk takes, as it compares.
abbrev chunk_moves : List ℕ → List ℕ → ℕ
chunk_moves list chunk = moves_of (folded_keywords list) (folded (flag_of list) chunk)

scan-moves-are : (list store : List ℕ) → StoreGood store → scan_moves list store ≡ weigh (λ key. chunk_moves list (chunk_named store key)) (store_keys store)
unfolding scan_moves moves_of_all chunks_of
scan-moves-are list store good =
    ap sum
    (map-map (moves_of (folded_keywords list)) (folded (flag_of list)) (tabulated (chunk_at store) 0 (chunk_count store))
    ∙ map-tabulated (chunk_moves list) (chunk_at store) 0 (chunk_count store)
    ∙ by-fingerprint store good (chunk_moves list))

-- ---- the length of a scan's index

length-bodies : (es : List Entry) → length (bodies_of es) ≡ sum (map (λ e. length e.body) es)
length-bodies [] = refl
length-bodies (e ∷ es) = length-append e.body (bodies_of es) ∙ ap (λ (n : ℕ). length e.body + n) (length-bodies es)

length-index : (f : Form) (list : List ℕ) (es : List Entry) → Every Fits es
    → length (index_bytes f list es) ≡ length f.mark + 4 + length list + 32 * length es + length (bodies_of es)
unfolding index_bytes
length-index f list es fit = simp (length-append, length-le_bytes, length-directory (8 + length list + 32 * length es) es fit) (omega arith)

module _ (f : Form) (list store : List ℕ) (good : StoreGood store) where
  -- the length of a fingerprint's body
  abbrev body_size : List ℕ → ℕ
  body_size key = length (scan_body f list (chunk_named store key))

  abbrev entries : List Entry
  entries = tabulated (scan_entry f list store) 0 (chunk_count store)

  entries_fit : Every Fits entries
  unfolding scan_entry
  entries_fit k l =
      let m : k < chunk_count store = omega (arith, length-tabulated (scan_entry f list store) 0 (chunk_count store)) in
      let at : get_or entries k no_entry ≡ scan_entry f list store k = tabulated-at (scan_entry f list store) 0 (chunk_count store) k no_entry m ∙ rw zero-add in
      rw at (record { long = store-key-length store good k m; small = omega (arith, store-size-most store good k m) })

  sizes-are : map (λ e. length e.body) entries ≡ map body_size (store_keys store)
  unfolding scan_entry
  sizes-are =
      map-tabulated (λ e. length e.body) (scan_entry f list store) 0 (chunk_count store)
      ∙ by-fingerprint store good (λ chunk. length (scan_body f list chunk))

  scan-length-is : length (scan_index f list store) ≡ length f.mark + 4 + length list + 32 * chunk_count store + weigh body_size (store_keys store)
  unfolding scan_index
  scan-length-is =
      length-index f list entries entries_fit
      ∙ rw (length-tabulated (scan_entry f list store) 0 (chunk_count store), length-bodies entries, sizes-are)

-- ---- what is the same

-- answers that differ at most in a count, which is the same where it is reported
searched : (c j n v w : ℕ) → (j ≡ 0 → v ≡ w)
    → cond (eqb c 0) (cond (eqb j 0) (Found n v) (JoinRefused n j)) (ScanRefused c)
    ≡ cond (eqb c 0) (cond (eqb j 0) (Found n w) (JoinRefused n j)) (ScanRefused c)
searched c zero n v w h = rw (h refl)
searched c (suc j) n v w h = rw (ne_eqb (suc j) 0 (λ z. let y : ⊥ = omega arith in absurd y))

-- where a search does its work, the list read from its buffer is the direct search's
search-listed : (list store recipes : List ℕ) (clients : Clients) (index_room : ℕ) (out : List ℕ)
    → search_code newest list store recipes clients index_room (length out) ≡ 0
    → read_list (searched_count (search_outcome newest list store recipes clients index_room (length out)))
    (search_buffer newest list store recipes clients index_room out) ≡ direct_search list store recipes
unfolding search_code search_outcome search_buffer
search-listed list store recipes clients index_room out e =
    let found = direct_search list store recipes in
    let p = passed-whole (scan_code newest list store index_room) _ e in
    let a : scan_code newest list store index_room ≡ 0 = p.0 in
    let b : search_join_code newest list store recipes clients (length out) ≡ 0 =
    (passed-whole (search_join_code newest list store recipes clients (length out)) _ p.1).0 in
    let j = join-of-scan list store index_room a recipes clients (scan_index newest list store) out refl in
    let v = ap value_of j.outcome ∙ value-of-answer (search_join_code newest list store recipes clients (length out)) (length found) b in
    let c = ap code_of j.outcome ∙ code-of-answer (search_join_code newest list store recipes clients (length out)) (length found) ∙ b in
    let w = j.bytes ∙ sym (buffer-done (search_join_code newest list store recipes clients (length out)) (written out (list_bytes found)) out b) in
    let u = sym (buffer-done (search_code newest list store recipes clients index_room (length out)) (written out (list_bytes found)) out e) in
    ap₂ read_list (found-count a b ∙ sym v) (u ∙ sym w) ∙ j.listed c
  where
    found-count : scan_code newest list store index_room ≡ 0 → search_join_code newest list store recipes clients (length out) ≡ 0
        → searched_count (search_outcome newest list store recipes clients index_room (length out)) ≡ length (direct_search list store recipes)
    found-count a b = rw (a, b)

module _ (store other : List ℕ) (a : Alike store other) where
  -- ---- lookups

  pub same-find : (key : List ℕ) → find_chunk store key ≡ find_chunk other key
  unfolding find_chunk
  same-find key = rw (a.code, a.code_other, a.known key)

  pub same-chunk : (key : List ℕ) → chunk_of store key ≡ chunk_of other key
  unfolding chunk_of chunk_start chunk_length find_chunk chunk_at
  same-chunk key =
      slice_is (store_code store) store_layout store (store_keys store) key
      ∙ buffer-same (find_chunk store key) (find_chunk other key) (chunk_named store key) (chunk_named other key) [] (same-find key)
      (λ z. a.named key (lookup-known (store_code store) (store_keys store) key (same-find key ∙ z)))
      ∙ sym (slice_is (store_code other) store_layout other (store_keys other) key)

  -- ---- lengths

  weighs : (g : List ℕ → ℕ) → weigh g (store_keys store) ≡ weigh g (store_keys other)
  weighs g =
      let l = weigh-le g (store_keys store) (store_keys other) a.stored.differ (λ key c. sym (a.known key) ∙ c) in
      let m = weigh-le g (store_keys other) (store_keys store) a.stored_other.differ (λ key c. a.known key ∙ c) in
      omega arith

  pub same_count : chunk_count store ≡ chunk_count other
  same_count = sym (weigh-one (store_keys store) ∙ length-store_keys store) ∙ weighs (λ key. 1) ∙ weigh-one (store_keys other) ∙ length-store_keys other

  -- whatever is summed over the chunks
  same-sums : (g : List ℕ → ℕ) → weigh (λ key. g (chunk_named store key)) (store_keys store) ≡ weigh (λ key. g (chunk_named other key)) (store_keys other)
  same-sums g = weigh-same _ _ (store_keys store) (λ key c. ap g (a.named key c)) ∙ weighs (λ key. g (chunk_named other key))

  -- request #103: the moves
  pub same-moves : (list : List ℕ) → scan_moves list store ≡ scan_moves list other
  same-moves list = scan-moves-are list store a.stored ∙ same-sums (chunk_moves list) ∙ sym (scan-moves-are list other a.stored_other)

  module _ (f : Form) (list : List ℕ) where
    pub same-index-length : length (scan_index f list store) ≡ length (scan_index f list other)
    same-index-length =
        scan-length-is f list store a.stored
        ∙ rw (same_count, same-sums (λ chunk. length (scan_body f list chunk))) (sym (scan-length-is f list other a.stored_other))

    pub same-scan-code : (room : ℕ) → scan_code f list store room ≡ scan_code f list other room
    unfolding scan_code scannable_code
    same-scan-code room = rw (a.code, a.code_other, same-index-length)

    -- scans both done, or refused alike
    pub same-scan : (room room₂ : ℕ) → scan_code f list store room ≡ scan_code f list other room₂ → scan_answer f list store room ≡ scan_answer f list other room₂
    unfolding scan_answer scan_outcome
    same-scan room room₂ e = ap₂ with_moves (ap₂ answer e same-index-length) (same-moves list)

  -- ---- the search

  agrees : Agree store other (λ key. true)
  agrees = record { stored = a.stored; stored_other = a.stored_other; known = λ key t. a.known key; named = λ key t. a.named key }

  all_named : (recipes : List ℕ) → every (every (λ key. true)) (files_of recipes) ≡ true
  all_named recipes = every_true (every (λ key. true)) (files_of recipes) (λ file. every_true (λ key. true) file (λ key. refl))

  module _ (f : Form) (list recipes : List ℕ) (clients : Clients) (room : ℕ) where
    join-same : search_join_code f list store recipes clients room ≡ search_join_code f list other recipes clients room
    join-same = same-join-code store other (λ key. true) agrees f list recipes clients room (all_named recipes)

    list_same : search_join_code f list store recipes clients room ≡ 0 → direct_search list store recipes ≡ direct_search list other recipes
    list_same = same-list store other (λ key. true) agrees f list recipes clients room (all_named recipes)

    -- the scans are both done, or refused alike
    module _ (index_room index_room₂ : ℕ) (e : scan_code f list store index_room ≡ scan_code f list other index_room₂) where
      pub same-chunks-search : search_outcome f list store recipes clients index_room room ≡ search_outcome f list other recipes clients index_room₂ room
      unfolding search_outcome
      same-chunks-search =
          rw (e, same-index-length f list, join-same)
          (searched (scan_code f list other index_room₂) (search_join_code f list other recipes clients room) (length (scan_index f list other)) _ _
          (λ z. ap length (list_same (join-same ∙ z))))

      pub same-search-code : search_code f list store recipes clients index_room room ≡ search_code f list other recipes clients index_room₂ room
      unfolding search_code
      same-search-code = rw (e, join-same)

      pub same-chunks-direct : search_code f list store recipes clients index_room room ≡ 0 → direct_search list store recipes ≡ direct_search list other recipes
      unfolding search_code
      same-chunks-direct z =
          list_same (passed-whole (search_join_code f list store recipes clients room) _ (passed-whole (scan_code f list store index_room) _ z).1).0

  module _ (f : Form) (list recipes : List ℕ) (clients : Clients) (index_room index_room₂ : ℕ)
      (e : scan_code f list store index_room ≡ scan_code f list other index_room₂) where
    pub same-chunks-search-buffer : (out : List ℕ)
        → search_buffer f list store recipes clients index_room out ≡ search_buffer f list other recipes clients index_room₂ out
    unfolding search_buffer
    same-chunks-search-buffer out =
        let same_code = same-search-code f list recipes clients (length out) index_room index_room₂ e in
        buffer-same _ _ _ _ out same_code
        (λ z. ap (λ (l : List Occurrence). written out (list_bytes l))
        (same-chunks-direct f list recipes clients (length out) index_room index_room₂ e (same_code ∙ z)))

    pub same-chunks-search-tally : (room : ℕ)
        → search_tally f list store recipes clients index_room room ≡ search_tally f list other recipes clients index_room₂ room
    unfolding search_tally
    same-chunks-search-tally room =
        let same_code = same-search-code f list recipes clients room index_room index_room₂ e in
        buffer-same _ _ _ _ clients.tally same_code
        (λ z. ap (tally_with clients) (same-chunks-direct f list recipes clients room index_room index_room₂ e (same_code ∙ z)))

  -- ---- bodies, of two indexes that read as the stores' scans

  module _ (f : Form) (list index other_index : List ℕ) (r : ScanReads f list store index) (s : ScanReads f list other other_index) (key : List ℕ) where
    pub same-find-body : find_body f index key ≡ find_body f other_index key
    unfolding find_body
    same-find-body = rw (r.passes, s.passes, r.keys, s.keys, a.known key)

    known-body : knows store key ≡ true → body_at index (position_of key (index_keys index)) ≡ body_at other_index (position_of key (index_keys other_index))
    known-body c =
        rw (r.keys, s.keys)
        (r.bodies (place_of store key) (place_in store key c)
        ∙ ap (scan_body f list) (a.named key c)
        ∙ sym (s.bodies (place_of other key) (place_in other key (sym (a.known key) ∙ c))))

    pub same_body : body_of f index key ≡ body_of f other_index key
    unfolding body_of body_start body_length find_body body_at
    same_body =
        slice_is (index_code f index) (index_layout index) index (index_keys index) key
        ∙ buffer-same (find_body f index key) (find_body f other_index key) _ _ [] same-find-body
        (λ z. known-body (ap (contains key) (sym r.keys) ∙ lookup-known (index_code f index) (index_keys index) key (same-find-body ∙ z)))
        ∙ sym (slice_is (index_code f other_index) (index_layout other_index) other_index (index_keys other_index) key)

  -- ---- joins, of two indexes that scans wrote in full

  module _ (list buffer buffer₂ : List ℕ) (e : scan_code newest list store (length buffer) ≡ 0) (e₂ : scan_code newest list other (length buffer₂) ≡ 0) where
    abbrev index : List ℕ
    index = scanned list store buffer

    abbrev other_index : List ℕ
    other_index = scanned list other buffer₂

    form : form_of index ≡ newest
    form = scanned-form list store buffer e

    other-form : form_of other_index ≡ newest
    other-form = scanned-form list other buffer₂ e₂

    reads : ScanReads newest list store index
    reads = rw (scanned-is list store buffer e) (scan-done-reads newest newest-scans list store (length buffer) e)

    other-reads : ScanReads newest list other other_index
    other-reads = rw (scanned-is list other buffer₂ e₂) (scan-done-reads newest newest-scans list other (length buffer₂) e₂)

    pub answer-alike : AnswerAlike index other_index
    answer-alike =
        record {
          size = rw (scanned-is list store buffer e, scanned-is list other buffer₂ e₂) (same-index-length newest list);
          find = λ key. rw (form, other-form) (same-find-body newest list index other_index reads other-reads key);
          body = λ key. rw (form, other-form) (same_body newest list index other_index reads other-reads key);
          outcome = λ recipes. agreed-outcome store other (λ key. true) agrees list buffer buffer₂ e e₂ recipes (all_named recipes);
          bytes = λ recipes. agreed-buffer store other (λ key. true) agrees list buffer buffer₂ e e₂ recipes (all_named recipes);
          tally = λ recipes. agreed-tally store other (λ key. true) agrees list buffer buffer₂ e e₂ recipes (all_named recipes);
          listed = λ recipes. agreed-list store other (λ key. true) agrees list buffer buffer₂ e e₂ recipes (all_named recipes);
          queries = λ recipes. agreed-queries store other (λ key. true) agrees list buffer buffer₂ e e₂ recipes (all_named recipes);
        }

-- ---- the claim

-- where the same fingerprints stand for the same bytes
pub alike-chunks : (list store other : List ℕ) → Alike store other → SameChunks list store other
alike-chunks list store other a =
    record {
      find = same-find store other a;
      chunk = same-chunk store other a;
      count = same_count store other a;
      scan = λ room. same-scan store other a newest list room room (same-scan-code store other a newest list room);
      written = λ room room₂ e e₂.
          same-scan store other a newest list room room₂ (sym (scan-number list store room) ∙ e ∙ sym e₂ ∙ scan-number list other room₂);
      indexes = λ buffer buffer₂ e e₂.
          answer-alike store other a list buffer buffer₂
          (sym (scan-number list store (length buffer)) ∙ e)
          (sym (scan-number list other (length buffer₂)) ∙ e₂);
      searches = λ index_room index_room₂ e.
          let c : scan_code newest list store index_room ≡ scan_code newest list other index_room₂ =
          sym (scan-number list store index_room) ∙ e ∙ scan-number list other index_room₂ in
          record {
            outcome = λ recipes clients room. same-chunks-search store other a newest list recipes clients room index_room index_room₂ c;
            bytes = λ recipes clients. same-chunks-search-buffer store other a newest list recipes clients index_room index_room₂ c;
            tally = λ recipes clients. same-chunks-search-tally store other a newest list recipes clients index_room index_room₂ c;
            listed = λ recipes clients out out₂ l z.
                let z₂ : search_code newest list other recipes clients index_room₂ (length out₂) ≡ 0 =
                ap (search_code newest list other recipes clients index_room₂) (sym l)
                ∙ sym (same-search-code store other a newest list recipes clients (length out) index_room index_room₂ c) ∙ z in
                search-listed list store recipes clients index_room out z
                ∙ same-chunks-direct store other a newest list recipes clients (length out) index_room index_room₂ c z
                ∙ sym (search-listed list other recipes clients index_room₂ out₂ z₂);
          };
    }

-- Request #101: two accepted stores that hold the same fingerprints with the same bytes, in any two orders.
pub same-chunks : (list store other : List ℕ) → Reordered store other → SameChunks list store other
same-chunks list store other r = alike-chunks list store other (stores-alike store other r)

-- ---- the claim of calls

-- of what the contracts say the calls do; it goes by the fields of `SameChunks` alone
calls-alike : (list store other : List ℕ) → SameChunks list store other → (recipes : List ℕ) (clients : Clients) (buffer buffer₂ out out₂ : List ℕ)
    → SameCalls buffer buffer₂ out out₂
    (scan_answer newest list store (length buffer)) (scan_answer newest list other (length buffer₂))
    (join_outcome (form_of (scanned list store buffer)) (scanned list store buffer) recipes clients (length out))
    (join_outcome (form_of (scanned list other buffer₂)) (scanned list other buffer₂) recipes clients (length out₂))
    (scanned list store buffer) (scanned list other buffer₂)
    (join_buffer (form_of (scanned list store buffer)) (scanned list store buffer) recipes clients out)
    (join_buffer (form_of (scanned list other buffer₂)) (scanned list other buffer₂) recipes clients out₂)
    (join_tally (form_of (scanned list store buffer)) (scanned list store buffer) recipes clients (length out))
    (join_tally (form_of (scanned list other buffer₂)) (scanned list other buffer₂) recipes clients (length out₂))
calls-alike list store other s recipes clients buffer buffer₂ out out₂ =
    let index = scanned list store buffer in
    let index₂ = scanned list other buffer₂ in
    record {
      scans = λ l. ap (scan_answer newest list store) l ∙ s.scan (length buffer₂);
      reports = λ e. s.written (length buffer) (length buffer₂) e.0 e.1;
      indexes = λ e. s.indexes buffer buffer₂ e.0 e.1;
      joins = λ e l.
          let a = s.indexes buffer buffer₂ e.0 e.1 in
          let o : join_outcome (form_of index) index recipes clients (length out) ≡ join_outcome (form_of index₂) index₂ recipes clients (length out₂) =
          a.outcome recipes clients (length out) ∙ ap (join_outcome (form_of index₂) index₂ recipes clients) l in
          record {
            answers = o;
            listed = a.listed recipes clients out out₂ l;
            kept = λ d. (join_kept index recipes clients out d, join_kept index₂ recipes clients out₂ (λ z. d (ap code_of o ∙ z)));
            tallies = a.tally recipes clients (length out) ∙ ap (join_tally (form_of index₂) index₂ recipes clients) l;
            bytes = λ p. a.bytes recipes clients out ∙ ap (join_buffer (form_of index₂) index₂ recipes clients) p;
          };
    }

-- the index that a join is handed, its answer, its buffer and its tally, of the scan alone
module _ (list store recipes : List ℕ) (clients : Clients) (buffer out : List ℕ) (scan : Scanned) (join : Outcome) (buffer' index out' tally' : List ℕ)
    (c : Calls list store recipes clients buffer out scan join buffer' index out' tally') where
  pub index_is : index ≡ scanned list store buffer
  index_is = c.handed ∙ ap₂ (λ (a : Scanned) (b : List ℕ). take (scanned_length a) b) c.scanned c.wrote

  pub join_is : join ≡ join_outcome (form_of (scanned list store buffer)) (scanned list store buffer) recipes clients (length out)
  join_is = c.joined ∙ ap (λ (x : List ℕ). join_outcome (form_of x) x recipes clients (length out)) index_is

  pub buffer-is : out' ≡ join_buffer (form_of (scanned list store buffer)) (scanned list store buffer) recipes clients out
  buffer-is = c.listed ∙ ap (λ (x : List ℕ). join_buffer (form_of x) x recipes clients out) index_is

  pub tally-is : tally' ≡ join_tally (form_of (scanned list store buffer)) (scanned list store buffer) recipes clients (length out)
  tally-is = c.tallied ∙ ap (λ (x : List ℕ). join_tally (form_of x) x recipes clients (length out)) index_is

-- Request #101 of four calls: a scan and a join on each of the two stores, with the same keyword list, recipes and key, and tallies that are equal at entry.
pub same-chunks-of-calls : (list store other recipes : List ℕ) (clients : Clients) → Reordered store other
    → (buffer out : List ℕ) (scan : Scanned) (join : Outcome) (buffer' index out' tally' : List ℕ)
    → Calls list store recipes clients buffer out scan join buffer' index out' tally'
    → (buffer₂ out₂ : List ℕ) (scan₂ : Scanned) (join₂ : Outcome) (buffer₂' index₂ out₂' tally₂' : List ℕ)
    → Calls list other recipes clients buffer₂ out₂ scan₂ join₂ buffer₂' index₂ out₂' tally₂'
    → SameCalls buffer buffer₂ out out₂ scan scan₂ join join₂ index index₂ out' out₂' tally' tally₂'
same-chunks-of-calls list store other recipes clients r buffer out scan join buffer' index out' tally' c
    buffer₂ out₂ scan₂ join₂ buffer₂' index₂ out₂' tally₂' d =
    rw (
      c.scanned,
      d.scanned,
      index_is list store recipes clients buffer out scan join buffer' index out' tally' c,
      index_is list other recipes clients buffer₂ out₂ scan₂ join₂ buffer₂' index₂ out₂' tally₂' d,
      join_is list store recipes clients buffer out scan join buffer' index out' tally' c,
      join_is list other recipes clients buffer₂ out₂ scan₂ join₂ buffer₂' index₂ out₂' tally₂' d,
      buffer-is list store recipes clients buffer out scan join buffer' index out' tally' c,
      buffer-is list other recipes clients buffer₂ out₂ scan₂ join₂ buffer₂' index₂ out₂' tally₂' d,
      tally-is list store recipes clients buffer out scan join buffer' index out' tally' c,
      tally-is list other recipes clients buffer₂ out₂ scan₂ join₂ buffer₂' index₂ out₂' tally₂' d,
    )
    (calls-alike list store other (same-chunks list store other r) recipes clients buffer buffer₂ out out₂)

-- ---- the small vault in another order

pub small-reordered : SmallReordered
unfolding definitions stored_chunks same_chunks chunk_start
small-reordered =
    record {
      same = record { accepted = refl; accepted_there = refl; chunks = refl };
      elsewhere = (refl, refl);
      scan = refl;
      entries = refl;
      list = (refl, refl);
      other_byte = refl;
      fewer = refl;
      more = refl;
    }
