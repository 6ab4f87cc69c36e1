-- What the store check's 0 gives: the header, the entries, and of each chunk that it has the length its entry says. Assumes nothing.
use mathlib.Core.Path.{◌≡◌, refl}
use mathlib.Core.Bool.{false, ◌||◌, not, or-true}
use mathlib.Core.List.{List, [], ◌∷◌}
use Prim.Native.Nat.{ℕ, zero, suc, ◌+◌, ◌≤◌, ◌<◌}
use native.Mathlib.Omega.{arith}
use borrow.Author.Tests.{eq-eqb, ne_eqb, eqb-false, lt-ltb, le-ltb, ltb-false, not-false}
use lib.Dec.{eqb, ltb}
use lib.ListN.{length, take, get_or, length-take, length-drop}
use Rattle.spec.specs.Bytes.{largest32, same, twice, each, sum}
use Rattle.spec.specs.Directory.{directory_end, size_at, offset_at}
use Rattle.spec.specs.Store.{store_mark, store_layout, chunk_count, most_chunks, store_keys, chunk_at, chunk_end, chunks_code, store_code}
use Rattle.spec.specs.Form.{newest}
use Rattle.spec.proofs.Codes.{passed, passed-whole, last-whole, or_left, or_right}
use Rattle.spec.proofs.EntryLaws.{range_cons, length-keys_in, key_in-length}
use Rattle.spec.proofs.Same.{same-eq}

-- ---- the entries, test by test

module _ (store : List ℕ) where
  abbrev size : ℕ → ℕ
  size k = size_at store_layout store k

  abbrev offset : ℕ → ℕ
  offset k = offset_at store_layout store k

  pub chunks-none : (n k at : ℕ) → size k ≡ 0 → chunks_code store (suc n) k at ≡ 7
  chunks-none n k at e = rw (eq-eqb (size k) 0 e)

  pub chunks_long : (n k at : ℕ) → newest.longest_chunk < size k → chunks_code store (suc n) k at ≡ 7
  chunks_long n k at h = rw (lt-ltb newest.longest_chunk (size k) h, or-true)

  module _ (n k at : ℕ) (low : 1 ≤ size k) (high : size k ≤ newest.longest_chunk) where
    pub chunks-early : offset k < at → chunks_code store (suc n) k at ≡ 7
    chunks-early h = rw (ne_eqb (size k) 0 (λ z. omega arith), le-ltb newest.longest_chunk (size k) high, lt-ltb (offset k) at h)

    module _ (from : at ≤ offset k) where
      pub chunks-beyond : largest32 < chunk_end store k → chunks_code store (suc n) k at ≡ 20
      chunks-beyond h =
          rw (
            ne_eqb (size k) 0 (λ z. omega arith),
            le-ltb newest.longest_chunk (size k) high,
            le-ltb (offset k) at from,
            lt-ltb largest32 (chunk_end store k) h,
          )

      pub chunks-more : chunk_end store k ≤ largest32 → chunks_code store (suc n) k at ≡ chunks_code store n (suc k) (chunk_end store k)
      chunks-more h =
          rw (
            ne_eqb (size k) 0 (λ z. omega arith),
            le-ltb newest.longest_chunk (size k) high,
            le-ltb (offset k) at from,
            le-ltb largest32 (chunk_end store k) h,
          )
          (last-whole (chunks_code store n (suc k) (chunk_end store k)))

  pub chunks-short : (k at : ℕ) → length store < at → chunks_code store 0 k at ≡ 7
  chunks-short k at h = rw (lt-ltb (length store) at h)

  pub chunks-end : (k at : ℕ) → at ≤ length store → chunks_code store 0 k at ≡ 0
  chunks-end k at h = rw (le-ltb (length store) at h)

  -- what an accepted entry is: its length in range, its offset at or after the end before, its end within 32 bits; and the others are accepted
  pub record Passed (n k at : ℕ) : Type 0 where
    pub low : 1 ≤ size k
    pub high : size k ≤ newest.longest_chunk
    pub from : at ≤ offset k
    pub below : chunk_end store k ≤ largest32
    pub others : chunks_code store n (suc k) (chunk_end store k) ≡ 0

  pub chunks-step : (n k at : ℕ) → chunks_code store (suc n) k at ≡ 0 → Passed n k at
  chunks-step n k at z =
      let a = passed (eqb (size k) 0 || ltb newest.longest_chunk (size k)) 7 _ (omega arith) z in
      let b = passed (ltb (offset k) at) 7 _ (omega arith) a.1 in
      let c = passed (ltb largest32 (chunk_end store k)) 20 _ (omega arith) b.1 in
      record {
        low = positive (size k) (eqb-false (size k) 0 (or_left (eqb (size k) 0) _ a.0));
        high = ltb-false newest.longest_chunk (size k) (or_right (eqb (size k) 0) _ a.0);
        from = ltb-false (offset k) at b.0;
        below = ltb-false largest32 (chunk_end store k) c.0;
        others = (passed-whole (chunks_code store n (suc k) (chunk_end store k)) 0 c.1).0;
      }
    where
      positive : (m : ℕ) → (m ≡ 0 → ⊥) → 1 ≤ m
      positive zero h = absurd (h refl)
      positive (suc m) h = omega arith

  pub chunks-last : (k at : ℕ) → chunks_code store 0 k at ≡ 0 → at ≤ length store
  chunks-last k at z = ltb-false (length store) at (passed (ltb (length store) at) 7 0 (omega arith) z).0

  -- ---- all of them

  -- n entries from k on are good: their chunks lie one after the other from `at` on, within the store and within 32 bits
  pub record Chunks (n k at : ℕ) : Type 0 where
    pub sized : (e : ℕ) → k ≤ e → e < k + n → (1 ≤ size e) × (size e ≤ newest.longest_chunk)
    pub within : (e : ℕ) → k ≤ e → e < k + n → (at ≤ offset e) × (chunk_end store e ≤ length store) × (chunk_end store e ≤ largest32)
    pub next : (e : ℕ) → k ≤ e → suc e < k + n → chunk_end store e ≤ offset (suc e)
    pub room : at ≤ length store

  pub chunks-good : (n k at : ℕ) → chunks_code store n k at ≡ 0 → Chunks n k at
  chunks-good zero k at z =
      record {
        sized = λ e l h. absurd (omega arith);
        within = λ e l h. absurd (omega arith);
        next = λ e l h. absurd (omega arith);
        room = chunks-last k at z;
      }
  chunks-good (suc n) k at z =
      let s = chunks-step n k at z in
      let g = chunks-good n (suc k) (chunk_end store k) s.others in
      record {
        sized = range_cons (λ (e : ℕ). (1 ≤ size e) × (size e ≤ newest.longest_chunk)) k n (s.low, s.high) g.sized;
        within = range_cons (λ (e : ℕ). (at ≤ offset e) × (chunk_end store e ≤ length store) × (chunk_end store e ≤ largest32)) k n
            (s.from, g.room, s.below)
            (λ e l h. let w = g.within e l h in (omega (arith, s.from, w.0), w.1, w.2));
        next = λ e l h. range_cons (λ (e : ℕ). suc e < k + suc n → chunk_end store e ≤ offset (suc e)) k n
            (λ m. (g.within (suc k) (omega arith) (omega arith)).0)
            (λ e l h m. g.next e l (omega arith)) e l (omega arith) h;
        room = omega (arith, s.from, g.room);
      }

  -- the lengths of n chunks from entry k on
  abbrev pub sizes_from : ℕ → ℕ → List ℕ
  sizes_from k n = each (λ e. size e ∷ []) k n

  -- they have room behind `at`, within the store and within 32 bits
  pub chunks-room : (n k at : ℕ) → at ≤ largest32 → chunks_code store n k at ≡ 0
      → (at + sum (sizes_from k n) ≤ length store) × (at + sum (sizes_from k n) ≤ largest32)
  chunks-room zero k at h z = (omega (arith, chunks-last k at z), omega arith)
  chunks-room (suc n) k at h z =
      let s = chunks-step n k at z in
      let r = chunks-room n (suc k) (chunk_end store k) s.below s.others in
      (omega (arith, s.from, r.0), omega (arith, s.from, r.1))

-- ---- the whole check

pub record StoreGood (store : List ℕ) : Type 0 where
  pub header : 8 ≤ length store
  pub mark : take 4 store ≡ store_mark
  pub few : chunk_count store ≤ most_chunks
  pub room : directory_end store_layout (chunk_count store) ≤ length store
  pub chunks : Chunks store (chunk_count store) 0 (directory_end store_layout (chunk_count store))
  -- directory and chunks have room in the store, and within 32 bits
  pub holds : (directory_end store_layout (chunk_count store) + sum (sizes_from store 0 (chunk_count store)) ≤ length store)
      × (directory_end store_layout (chunk_count store) + sum (sizes_from store 0 (chunk_count store)) ≤ largest32)
  pub differ : twice (store_keys store) ≡ false

pub store-good : (store : List ℕ) → store_code store ≡ 0 → StoreGood store
unfolding store_code
store-good store e =
    let a = passed (ltb (length store) 8 || not (same (take 4 store) store_mark)) 5 _ (omega arith) e in
    let b = passed (ltb most_chunks (chunk_count store) || ltb (length store) (directory_end store_layout (chunk_count store))) 6 _ (omega arith) a.1 in
    let c = passed-whole (chunks_code store (chunk_count store) 0 (directory_end store_layout (chunk_count store))) _ b.1 in
    let d = passed (twice (store_keys store)) 8 _ (omega arith) c.1 in
    let few : chunk_count store ≤ most_chunks = ltb-false most_chunks (chunk_count store) (or_left (ltb most_chunks (chunk_count store)) _ b.0) in
    record {
      header = ltb-false (length store) 8 (or_left (ltb (length store) 8) _ a.0);
      mark = same-eq (take 4 store) store_mark (not-false (same (take 4 store) store_mark) (or_right (ltb (length store) 8) _ a.0));
      few = few;
      room = ltb-false (length store) (directory_end store_layout (chunk_count store)) (or_right (ltb most_chunks (chunk_count store)) _ b.0);
      chunks = chunks-good store (chunk_count store) 0 (directory_end store_layout (chunk_count store)) c.0;
      holds = chunks-room store (chunk_count store) 0 (directory_end store_layout (chunk_count store)) (omega (arith, few)) c.0;
      differ = d.0;
    }

pub length-store_keys : (store : List ℕ) → length (store_keys store) ≡ chunk_count store
unfolding store_keys
length-store_keys store = length-keys_in store_layout store (chunk_count store)

module _ (store : List ℕ) (good : StoreGood store) (k : ℕ) (l : k < chunk_count store) where
  pub store-key-length : length (get_or (store_keys store) k []) ≡ 20
  unfolding store_keys
  store-key-length = key_in-length store_layout store (chunk_count store) k l (omega (arith, good.room))

  pub store-size-some : 1 ≤ size_at store_layout store k
  store-size-some = (good.chunks.sized k (omega arith) (omega arith)).0

  pub store-size-most : size_at store_layout store k ≤ newest.longest_chunk
  store-size-most = (good.chunks.sized k (omega arith) (omega arith)).1

  pub chunk-length : length (chunk_at store k) ≡ size_at store_layout store k
  unfolding chunk_at
  chunk-length =
      let w = good.chunks.within k (omega arith) (omega arith) in
      simp (length-take, length-drop) (omega arith)
