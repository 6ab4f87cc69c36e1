-- The answers of the store check and of a lookup, each by the tests that led there. Assumes nothing.
use mathlib.Core.Path.{◌≡◌, refl, sym, ap, ap₂, ◌∙◌}
use mathlib.Core.Logic.{◌≢◌}
use mathlib.Core.Bool.{Bool, true, false, cond, ◌||◌, ◌&&◌}
use mathlib.Core.List.{List, [], ◌∷◌}
use Prim.Native.Nat.{ℕ, zero, suc, ◌+◌, ◌*◌, ◌-◌, ◌≤◌, ◌<◌}
use native.Mathlib.Nat.{add-sub_cancel_left}
use native.Mathlib.Omega.{arith}
use borrow.Author.Tests.{ne_eqb, lt-ltb, le-ltb}
use lib.Dec.{eqb, ltb}
use lib.ListN.{length, get_or, take, drop}
use Rattle.std.proofs.lemmas.Bool.Decides.{nat_tests}
use Rattle.std.specs.Cmp.Lexicographic.{pointwise}
use Rattle.std.specs.List.{starts_with}
use Rattle.spec.specs.Bytes.{largest32, part, same, twice, position_of, written}
use Rattle.spec.specs.Outcome.{first_number, whole}
use Rattle.spec.specs.Directory.{size_at, offset_at, length_at}
use Rattle.spec.specs.Store.{store_mark, store_layout, store_keys, chunks_code, store_code, chunk_count, chunk_at, chunk_end}
use Rattle.spec.specs.Form.{newest}
use Rattle.spec.specs.Lookup.{find_chunk, chunk_start, chunk_length, chunk_of}
use Rattle.spec.proofs.Codes.{refused-whole}
use Rattle.spec.proofs.EntryLaws.{key_in-at}
use Rattle.spec.proofs.LookupLaws.{lookup-passed, start-found, length_found, start-refused, length-refused}
use Rattle.spec.proofs.StoreLaws.{store-good, length-store_keys}
use Rattle.directory.specs.Chains.{keys_from, chains_of, Lies, Empty}
use Rattle.directory.proofs.ChainLists.{Built, chained}
use Rattle.store.specs.Examined.{examined_chains, StoreEntry, Findable}

-- ---- the numbers of the entries

last-not-8 : (a : Bool) → ◌≢◌ {A = ℕ} (cond a 7 0) 8
last-not-8 true e = omega arith
last-not-8 false e = omega arith

next-not-8 : (a b c : Bool) (x : ℕ) → x ≢ 8 → cond a 7 (cond b 7 (cond c 20 (cond (ltb 0 x) x 0))) ≢ 8
next-not-8 true b c x h e = omega arith
next-not-8 false true c x h e = omega arith
next-not-8 false false true x h e = omega arith
next-not-8 false false false zero h e = h e
next-not-8 false false false (suc x) h e = h (rw (lt-ltb 0 (suc x) (omega arith)) at e)

-- none is that of a duplicate
chunks-not-8 : (store : List ℕ) (n k at : ℕ) → chunks_code store n k at ≢ 8
chunks-not-8 store zero k at = last-not-8 (ltb (length store) at)
chunks-not-8 store (suc n) k at =
    next-not-8 (eqb (size_at store_layout store k) 0 || ltb newest.longest_chunk (size_at store_layout store k))
    (ltb (offset_at store_layout store k) at) (ltb largest32 (chunk_end store k)) (chunks_code store n (suc k) (chunk_end store k))
    (chunks-not-8 store n (suc k) (chunk_end store k))

-- ---- the store check

-- what the check answers and leaves in the array, which was chains₀
abbrev pub Told : List ℕ → List ℕ → List ℕ → ℕ → Type 0
Told store chains₀ chains code = (code ≡ store_code store) × (chains ≡ examined_chains store chains₀)

-- refused before the fingerprints are compared: the array is as it was
pub refused-early : (store chains : List ℕ) (code : ℕ) → code ≡ store_code store → code ≢ 0 → code ≢ 8 → Told store chains chains code
unfolding examined_chains
refused-early store chains code e p q = (e, rw (← e, ne_eqb code 0 p, ne_eqb code 8 q))

pub short : (store : List ℕ) → length store < 8 → 5 ≡ store_code store
unfolding store_code
short store a = rw (lt-ltb (length store) 8 a)

pub unmarked : (store : List ℕ) → 8 ≤ length store → same (take 4 store) store_mark ≡ false → 5 ≡ store_code store
unfolding store_code
unmarked store a m = rw (le-ltb (length store) 8 a, m)

pub keys_from_lem : (store : List ℕ) (c : ℕ) → c ≡ chunk_count store → keys_from store 8 28 c ≡ store_keys store
unfolding store_keys
keys_from_lem store c e = ap (keys_from store 8 28) e

-- by the tests, with the chunk count c that was read
module _ (store : List ℕ) (a : 8 ≤ length store) (m : same (take 4 store) store_mark ≡ true) (c : ℕ) (e : c ≡ chunk_count store) where
  pub many : 65000 < c → 6 ≡ store_code store
  unfolding store_code
  many h = rw (le-ltb (length store) 8 a, m, lt-ltb 65000 (chunk_count store) (rw (← e) h))

  pub cut : c ≤ 65000 → length store < 8 + 28 * c → 6 ≡ store_code store
  unfolding store_code
  cut h l =
      rw (le-ltb (length store) 8 a, m, le-ltb 65000 (chunk_count store) (rw (← e) h), lt-ltb (length store) (8 + 28 * chunk_count store) (rw (← e) l))

  -- the header is good: what is left are the entries and the fingerprints
  rest : c ≤ 65000 → 8 + 28 * c ≤ length store → store_code store ≡ first_number
      (whole (chunks_code store c 0 (8 + 28 * c)) ∷ (twice (keys_from store 8 28 c), 8) ∷ [])
  unfolding store_code store_keys
  rest h l =
      rw (e, le-ltb (length store) 8 a, m, le-ltb 65000 (chunk_count store) (rw (← e) h), le-ltb (length store) (8 + 28 * chunk_count store) (rw (← e) l))

  -- a wrong entry
  pub wrong : c ≤ 65000 → 8 + 28 * c ≤ length store → (chains : List ℕ) (code : ℕ) → code ≡ chunks_code store c 0 (8 + 28 * c) → code ≢ 0
      → Told store chains chains code
  wrong h l chains code q d =
      refused-early store chains code
      (q ∙ refused-whole (chunks_code store c 0 (8 + 28 * c)) _ (λ z. d (q ∙ z)) ∙ sym (rest h l)) d (λ z. chunks-not-8 store c 0 (8 + 28 * c) (sym q ∙ z))

  -- the directory is whole, and the crate below built the chains
  module _ (h : c ≤ 65000) (l : 8 + 28 * c ≤ length store) (n : ℕ) (q : n ≡ chunks_code store c 0 (8 + 28 * c)) (z : n ≡ 0)
      (chains₀ chains : List ℕ) (t : Bool) (b : Built (keys_from store 8 28 c) chains₀ chains t) where
    number : store_code store ≡ cond t 8 0
    number = rest h l ∙ rw (← q, z, ← b.0)

    built : chains ≡ written chains₀ (chains_of (store_keys store))
    built = b.1 ∙ ap (λ (keys : List (List ℕ)). written chains₀ (chains_of keys)) (keys_from_lem store c e)

    pub duplicate-told : t ≡ true → Told store chains₀ chains 8
    unfolding examined_chains
    duplicate-told p = let r : store_code store ≡ 8 = number ∙ rw p in (sym r, rw r built)

    pub all_told : t ≡ false → Told store chains₀ chains 0
    unfolding examined_chains
    all_told p = let r : store_code store ≡ 0 = number ∙ rw p in (sym r, rw r built)

-- where the check passes, fingerprints can be looked up
pub findable : (store : List ℕ) (count : ℕ) (chains₀ chains : List ℕ) → store_code store ≡ 0 → count ≡ chunk_count store → Empty chains₀
    → chains ≡ examined_chains store chains₀ → Findable store count chains
unfolding examined_chains
findable store count chains₀ chains z e l q = record {
  checked = z;
  counts = e;
  chained = chained (store_keys store) chains chains₀ (rw z at q) (omega (arith, l.long, length-store_keys store, (store-good store z).few));
}

-- ---- the directory of a store, as the crate below takes it

pub found_at : (store fp : List ℕ) (c : ℕ) → c ≡ chunk_count store → (k : ℕ) → k ≡ position_of fp (keys_from store 8 28 c) → k ≡ position_of fp (store_keys store)
found_at store fp c e k q = q ∙ ap (position_of fp) (keys_from_lem store c e)

pub lies : (store : List ℕ) (c : ℕ) → store_code store ≡ 0 → c ≡ chunk_count store → Lies store 8 28 c
lies store c z e = let g = store-good store z in record { inside = omega (arith, g.room); keyed = omega arith; few = omega (arith, g.few) }

-- ---- the entries of a store that passed its check

module _ (store : List ℕ) (k : ℕ) (entry : StoreEntry store k) where
  pub entry-room : 8 + 28 * k + 28 ≤ length store
  entry-room = omega (arith, entry.within, (store-good store entry.checked).room)

  pub chunk-room : offset_at store_layout store k + length_at store_layout store k ≤ length store
  chunk-room = ((store-good store entry.checked).chunks.within k (omega arith) (omega (arith, entry.within))).1

  pub key-is : part store (8 + 28 * k) 20 ≡ get_or (store_keys store) k []
  unfolding store_keys
  key-is = sym (key_in-at store_layout store (chunk_count store) k entry.within)

  -- the slice that chunk_at takes
  pub chunk-slice : (at n : ℕ) → at ≡ offset_at store_layout store k → n ≡ length_at store_layout store k → take (at + n - at) (drop at store) ≡ chunk_at store k
  unfolding chunk_at
  chunk-slice at n p q = rw (add-sub_cancel_left, p, q)

-- ---- where a lookup's chunk is

-- a fingerprint that is found has an entry
pub found-entry : (store fp : List ℕ) (k : ℕ) → find_chunk store fp ≡ 0 → k ≡ position_of fp (store_keys store) → StoreEntry store k
unfolding find_chunk
found-entry store fp k z q =
    let p = lookup-passed (store_code store) (store_keys store) fp z in
    record { checked = p.0; within = omega (arith, p.2, length-store_keys store) }

module _ (store fp : List ℕ) (k : ℕ) (z : find_chunk store fp ≡ 0) (q : k ≡ position_of fp (store_keys store)) where
  pub chunk-start-found : offset_at store_layout store k ≡ chunk_start store fp
  unfolding chunk_start find_chunk
  chunk-start-found = start-found (store_code store) (store_keys store) fp store_layout store k z q

  pub chunk-length-found : length_at store_layout store k ≡ chunk_length store fp
  unfolding chunk_length find_chunk
  chunk-length-found = length_found (store_code store) (store_keys store) fp store_layout store k z q

  pub chunk-found : {bytes : List ℕ} → bytes ≡ chunk_at store k → bytes ≡ chunk_of store fp
  unfolding chunk_at chunk_of
  chunk-found e = e ∙ ap₂ (part store) chunk-start-found chunk-length-found

module _ (store fp : List ℕ) (d : find_chunk store fp ≢ 0) where
  pub chunk-start-refused : 0 ≡ chunk_start store fp
  unfolding chunk_start find_chunk
  chunk-start-refused = start-refused (store_code store) (store_keys store) fp store_layout store d

  pub chunk-length-refused : 0 ≡ chunk_length store fp
  unfolding chunk_length find_chunk
  chunk-length-refused = length-refused (store_code store) (store_keys store) fp store_layout store d

  pub slice-refused : [] ≡ chunk_of store fp
  unfolding chunk_of
  slice-refused = rw (← chunk-length-refused)
