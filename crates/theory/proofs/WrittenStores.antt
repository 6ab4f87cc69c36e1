-- A written store, with holes or without, is read back, the check accepts it exactly when no fingerprint is twice, and what it accepts is written so. Each
-- law goes entry by entry, with the bytes known from the next entry on and from the hole before its chunk on (as WrittenEntries and OneForm do for an
-- index). Assumes nothing.
use mathlib.Core.Path.{◌≡◌, refl, sym, ap, ap₂, ◌∙◌}
use mathlib.Core.Logic.{◌↔◌}
use mathlib.Core.Bool.{Bool, true, false, ◌&&◌, ◌||◌, not}
use mathlib.Core.List.{List, [], ◌∷◌, ◌++◌, map, append_assoc}
use Prim.Native.Nat.{ℕ, zero, suc, ◌+◌, ◌*◌, ◌-◌, ◌≤◌, ◌<◌}
use native.Mathlib.Nat.{add_assoc, add-zero, not-suc-le-zero, le_of_suc-le-suc}
use native.Mathlib.Omega.{arith}
use borrow.Author.Tests.{eqb-true, le-ltb}
use lib.Dec.{leb, ltb}
use lib.ListN.{length, take, drop, get_or, length-append, length-take, length-drop, length-map}
use lib.Seq.{drop-drop}
use Rattle.spec.specs.Bytes.{largest32, part, le_bytes, field_at, same, twice, every, joined, AllBytes}
use Rattle.spec.specs.Directory.{keys_of, size_at, offset_at}
use Rattle.spec.specs.Form.{newest}
use Rattle.spec.specs.Store.{Chunk, Placed, store_mark, store_layout, most_chunks, store_directory_bytes, placed_bytes}
use Rattle.spec.specs.Store.{chunk_count, store_keys, chunk_at, stored_chunk, stored_chunks, chunk_end, chunks_code, store_code}
use Rattle.spec.proofs.Tests.{le-of-and, and_left, and_right}
use Rattle.spec.proofs.Codes.{passed, passed-whole}
use Rattle.spec.proofs.Fields.{length-le_bytes}
use Rattle.spec.proofs.EntryLaws.{key_in-at}
use Rattle.spec.proofs.KnownBytes.{part-here, behind-part, field-here, behind-field}
use Rattle.spec.proofs.OneForm.{part-split, field-split}
use Rattle.spec.proofs.JoinIsSearch.{get_d_map}
use Rattle.spec.proofs.StoreLaws.{StoreGood, store-good, chunks-end, chunks-more, chunks-step, chunks-good}
use Rattle.spec.proofs.Tabulated.{tabulated, tabulated-get_or, tabulated-same}
use Rattle.theory.specs.WrittenInputs.{is_fingerprint, chunk_fits, chunks_in, chunks_fit, StoreReads, WrittenStore, WrittenStores}

-- ---- chunks that can be written

-- Their fingerprints; their bytes, chunk by chunk; and joined, with the holes before them.
abbrev pub keys_under : List Placed → List (List ℕ)
keys_under placed = map (λ c. c.key) (chunks_in placed)

abbrev pub chunks_under : List Placed → List (List ℕ)
chunks_under placed = map (λ c. c.bytes) (chunks_in placed)

abbrev pub laid_bytes : List Placed → List ℕ
laid_bytes placed = joined (map (λ p. p.hole ++ p.chunk.bytes) placed)

abbrev pub all_fit : List Placed → Bool
all_fit placed = every chunk_fits (chunks_in placed)

abbrev no_chunk : Chunk
no_chunk = record { key = []; bytes = [] }

record Fits (c : Chunk) : Type 0 where
  long : length c.key ≡ 20
  low : 1 ≤ length c.bytes
  high : length c.bytes ≤ newest.longest_chunk

chunk-fits : (c : Chunk) → chunk_fits c ≡ true → Fits c
chunk-fits c e =
    let ab : (is_fingerprint c.key && leb 1 (length c.bytes)) ≡ true = and_left _ (leb (length c.bytes) newest.longest_chunk) e in
    record {
      long = eqb-true (length c.key) 20 (and_left _ (leb 1 (length c.bytes)) ab);
      low = le-of-and 1 (length c.bytes) true (rw (and_right (is_fingerprint c.key) _ ab));
      high = le-of-and (length c.bytes) newest.longest_chunk true (rw (and_right (is_fingerprint c.key && leb 1 (length c.bytes)) _ e));
    }

first_fits : (p : Placed) (ps : List Placed) → all_fit (p ∷ ps) ≡ true → Fits p.chunk
first_fits p ps e = chunk-fits p.chunk (and_left (chunk_fits p.chunk) (all_fit ps) e)

rest-fits : (p : Placed) (ps : List Placed) → all_fit (p ∷ ps) ≡ true → all_fit ps ≡ true
rest-fits p ps e = and_right (chunk_fits p.chunk) (all_fit ps) e

-- Where the chunk of the first starts, and where it ends, behind `at`.
abbrev start_of : ℕ → Placed → ℕ
start_of at p = at + length p.hole

abbrev end_of : ℕ → Placed → ℕ
end_of at p = start_of at p + length p.chunk.bytes

length-directory : (at : ℕ) (ps : List Placed) → all_fit ps ≡ true → length (store_directory_bytes at ps) ≡ 28 * length ps
unfolding store_directory_bytes
length-directory at [] e = refl
length-directory at (p ∷ ps) e =
    let k : length p.chunk.key ≡ 20 = (first_fits p ps e).long in
    simp (length-append, length-le_bytes, length-directory (end_of at p) ps (rest-fits p ps e)) (omega arith)

-- the next entry, and what follows it
directory-cons : (at : ℕ) (p : Placed) (ps : List Placed) (rest : List ℕ)
    → store_directory_bytes at (p ∷ ps) ++ rest
    ≡ p.chunk.key ++ (le_bytes 4 (start_of at p) ++ (le_bytes 4 (length p.chunk.bytes) ++ (store_directory_bytes (end_of at p) ps ++ rest)))
unfolding store_directory_bytes
directory-cons at p ps rest = simp append_assoc

-- the next hole and chunk, and what follows them
laid_cons : (p : Placed) (ps : List Placed) (rest : List ℕ) → laid_bytes (p ∷ ps) ++ rest ≡ p.hole ++ (p.chunk.bytes ++ (laid_bytes ps ++ rest))
laid_cons p ps rest = simp append_assoc

length-laid : (p : Placed) (ps : List Placed) → length (laid_bytes (p ∷ ps)) ≡ length p.hole + length p.chunk.bytes + length (laid_bytes ps)
length-laid p ps = simp length-append

store-parts : (placed : List Placed) (hole : List ℕ)
    → placed_bytes placed hole
    ≡ store_mark ++ (le_bytes 4 (length placed) ++ (store_directory_bytes (8 + 28 * length placed) placed ++ (laid_bytes placed ++ hole)))
unfolding placed_bytes
store-parts placed hole = simp append_assoc

pub length-written : (placed : List Placed) (hole : List ℕ) → all_fit placed ≡ true
    → length (placed_bytes placed hole) ≡ 8 + 28 * length placed + length (laid_bytes placed) + length hole
unfolding placed_bytes
length-written placed hole fit = simp (length-append, length-le_bytes, length-directory (8 + 28 * length placed) placed fit)

-- ---- entry by entry

-- The bytes hold the entries from `at` on, and their holes and chunks from b on.
record Holds (store : List ℕ) (at b : ℕ) (ps : List Placed) : Type 0 where
  rest : List ℕ
  behind : List ℕ
  directory : drop at store ≡ store_directory_bytes b ps ++ rest
  bytes : drop b store ≡ laid_bytes ps ++ behind
  fit : all_fit ps ≡ true
  within : b + length (laid_bytes ps) ≤ largest32

module _ (store : List ℕ) (at b : ℕ) (p : Placed) (ps : List Placed) (h : Holds store at b (p ∷ ps)) where
  abbrev size : ℕ
  size = length p.chunk.bytes

  own : Fits p.chunk
  own = first_fits p ps h.fit

  d0 : drop at store ≡ p.chunk.key ++ (le_bytes 4 (start_of b p) ++ (le_bytes 4 size ++ (store_directory_bytes (end_of b p) ps ++ h.rest)))
  d0 = h.directory ∙ directory-cons b p ps h.rest

  d20 : drop (at + 20) store ≡ le_bytes 4 (start_of b p) ++ (le_bytes 4 size ++ (store_directory_bytes (end_of b p) ps ++ h.rest))
  d20 = behind-part store at p.chunk.key _ 20 own.long d0

  d24 : drop (at + 24) store ≡ le_bytes 4 size ++ (store_directory_bytes (end_of b p) ps ++ h.rest)
  d24 = rw add_assoc at (behind-field store (at + 20) 4 (start_of b p) _ d20)

  d28 : drop (at + 28) store ≡ store_directory_bytes (end_of b p) ps ++ h.rest
  d28 = rw add_assoc at (behind-field store (at + 24) 4 size _ d24)

  rest-length : end_of b p + length (laid_bytes ps) ≤ largest32
  rest-length = omega (arith, h.within, length-laid p ps)

  first_key : part store at 20 ≡ p.chunk.key
  first_key = part-here store at p.chunk.key _ 20 own.long d0

  first-offset : field_at store (at + 20) 4 ≡ start_of b p
  first-offset = field-here store (at + 20) 4 (start_of b p) _ (omega (arith, rest-length)) d20

  first-size : field_at store (at + 24) 4 ≡ size
  first-size = field-here store (at + 24) 4 size _ (omega (arith, rest-length)) d24

  -- behind the hole
  chunk-on : drop (start_of b p) store ≡ p.chunk.bytes ++ (laid_bytes ps ++ h.behind)
  chunk-on = behind-part store b p.hole _ (length p.hole) refl (h.bytes ∙ laid_cons p ps h.behind)

  first_chunk : part store (start_of b p) size ≡ p.chunk.bytes
  first_chunk = part-here store (start_of b p) p.chunk.bytes (laid_bytes ps ++ h.behind) size refl chunk-on

  next-holds : Holds store (at + 28) (end_of b p) ps
  next-holds =
      record {
        rest = h.rest;
        behind = h.behind;
        directory = d28;
        bytes = behind-part store (start_of b p) p.chunk.bytes (laid_bytes ps ++ h.behind) size refl chunk-on;
        fit = rest-fits p ps h.fit;
        within = rest-length;
      }

keys-read : (store : List ℕ) (at b : ℕ) (ps : List Placed) → Holds store at b ps → keys_of 28 (length ps) (drop at store) ≡ keys_under ps
keys-read store at b [] h = refl
keys-read store at b (p ∷ ps) h =
    ap₂ {C = List (List ℕ)} (λ x xs. x ∷ xs) (first_key store at b p ps h)
    (rw drop-drop (keys-read store (at + 28) (end_of b p) ps (next-holds store at b p ps h)))

-- entry k of those from `at` on points to its chunk
chunk_read : (store : List ℕ) (at b : ℕ) (ps : List Placed) → Holds store at b ps → (k : ℕ) → k < length ps
    → part store (field_at store (at + 28 * k + 20) 4) (field_at store (at + 28 * k + 24) 4) ≡ get_or (chunks_under ps) k []
chunk_read store at b [] h k l = absurd (not-suc-le-zero l)
chunk_read store at b (p ∷ ps) h zero l =
    let n : at + 28 * 0 ≡ at = omega arith in
    rw (n, first-offset store at b p ps h, first-size store at b p ps h) (first_chunk store at b p ps h)
chunk_read store at b (p ∷ ps) h (suc k) l =
    let n : at + 28 * suc k ≡ at + 28 + 28 * k = omega arith in
    rw n (chunk_read store (at + 28) (end_of b p) ps (next-holds store at b p ps h) k (le_of_suc-le-suc l))

entries-written : (store : List ℕ) (k b : ℕ) (ps : List Placed) → Holds store (8 + 28 * k) b ps → b + length (laid_bytes ps) ≤ length store
    → chunks_code store (length ps) k b ≡ 0
entries-written store k b [] h e = chunks-end store k b (omega arith)
entries-written store k b (p ∷ ps) h e =
    let at = 8 + 28 * k in
    let s = first-size store at b p ps h in
    let o = first-offset store at b p ps h in
    let f = own store at b p ps h in
    let n : 8 + 28 * suc k ≡ at + 28 = omega arith in
    let end : chunk_end store k ≡ end_of b p = ap₂ {C = ℕ} (λ x y. x + y) o s in
    chunks-more store (length ps) k b (rw s f.low) (rw s f.high) (omega (arith, o)) (omega (arith, end, rest-length store at b p ps h))
    ∙ ap (chunks_code store (length ps) (suc k)) end
    ∙ entries-written store (suc k) (end_of b p) ps (rw n (next-holds store at b p ps h)) (omega (arith, length-laid p ps))

-- ---- a written store

module _ (placed : List Placed) (hole : List ℕ) (fits : chunks_fit placed ≡ true) where
  abbrev store : List ℕ
  store = placed_bytes placed hole

  abbrev start : ℕ
  start = 8 + 28 * length placed

  both-fit : (leb (length placed) most_chunks && all_fit placed) ≡ true
  both-fit = and_left _ (leb (length (placed_bytes placed [])) largest32) fits

  few : length placed ≤ most_chunks
  few = le-of-and (length placed) most_chunks (all_fit placed) both-fit

  each_fits : all_fit placed ≡ true
  each_fits = and_right (leb (length placed) most_chunks) (all_fit placed) both-fit

  length-store : (behind : List ℕ) → length (placed_bytes placed behind) ≡ start + length (laid_bytes placed) + length behind
  length-store behind = length-written placed behind each_fits

  short : start + length (laid_bytes placed) ≤ largest32
  short =
      let l = le-of-and (length (placed_bytes placed [])) largest32 true (rw (and_right (leb (length placed) most_chunks && all_fit placed) _ fits)) in
      omega (arith, l, length-store [])

  s4 : drop 4 store ≡ le_bytes 4 (length placed) ++ (store_directory_bytes start placed ++ (laid_bytes placed ++ hole))
  s4 = behind-part store 0 store_mark (le_bytes 4 (length placed) ++ (store_directory_bytes start placed ++ (laid_bytes placed ++ hole))) 4 refl
      (store-parts placed hole)

  s8 : drop 8 store ≡ store_directory_bytes start placed ++ (laid_bytes placed ++ hole)
  s8 = behind-field store 4 4 (length placed) (store_directory_bytes start placed ++ (laid_bytes placed ++ hole)) s4

  mark-read : take 4 store ≡ store_mark
  mark-read = part-here store 0 store_mark (le_bytes 4 (length placed) ++ (store_directory_bytes start placed ++ (laid_bytes placed ++ hole))) 4 refl
      (store-parts placed hole)

  count-read : chunk_count store ≡ length placed
  count-read = field-here store 4 4 (length placed) (store_directory_bytes start placed ++ (laid_bytes placed ++ hole)) (omega (arith, few)) s4

  holds : Holds store 8 start placed
  holds =
      record {
        rest = laid_bytes placed ++ hole;
        behind = hole;
        directory = s8;
        bytes = behind-part store 8 (store_directory_bytes start placed) (laid_bytes placed ++ hole) (28 * length placed)
            (length-directory start placed each_fits) s8;
        fit = each_fits;
        within = short;
      }

  keys-are : store_keys store ≡ keys_under placed
  unfolding store_keys
  keys-are = rw count-read (keys-read store 8 start placed holds)

  chunk-is : (k : ℕ) → k < length placed → chunk_at store k ≡ get_or (chunks_under placed) k []
  unfolding chunk_at
  chunk-is k l = chunk_read store 8 start placed holds k l

  entry-is : (k : ℕ) → k < length placed → stored_chunk store k ≡ get_or (chunks_in placed) k no_chunk
  entry-is k l =
      let m : k < length (chunks_in placed) = omega (arith, length-map placed (λ p. p.chunk)) in
      λ i. record {
        key = (ap (λ (keys : List (List ℕ)). get_or keys k []) keys-are ∙ get_d_map (λ c. c.key) (chunks_in placed) k no_chunk [] m) i;
        bytes = (chunk-is k l ∙ get_d_map (λ c. c.bytes) (chunks_in placed) k no_chunk [] m) i;
      }

  stored_is : stored_chunks store ≡ chunks_in placed
  unfolding stored_chunks
  stored_is =
      ap (tabulated (stored_chunk store) 0) count-read
      ∙ tabulated-same (stored_chunk store) (λ k. get_or (chunks_in placed) k no_chunk) (length placed) entry-is
      ∙ tabulated-get_or (chunks_in placed) no_chunk (length placed) (length-map placed (λ p. p.chunk))

  pub store-read : StoreReads placed hole
  store-read = record { count = count-read; keys = keys-are; bytes = chunk-is; stored = stored_is }

  store-passes : twice (keys_under placed) ≡ false → store_code store ≡ 0
  unfolding store_code
  store-passes t =
      rw (
        le-ltb (length store) 8 (omega (arith, length-store hole)),
        mark-read,
        count-read,
        le-ltb most_chunks (length placed) few,
        le-ltb (length store) start (omega (arith, length-store hole)),
        entries-written store 0 start placed holds (omega (arith, length-store hole)),
        keys-are,
        t,
      )

  pub store-accepted : (store_code store ≡ 0) ↔ (twice (keys_under placed) ≡ false)
  store-accepted = (λ e. ap twice (sym keys-are) ∙ (store-good store e).differ, store-passes)

-- ---- read and written again

entry-same : (key : List ℕ) (offset at n m : ℕ) (rest more : List ℕ) → offset ≡ at → n ≡ m → rest ≡ more
    → key ++ (le_bytes 4 offset ++ (le_bytes 4 n ++ rest)) ≡ key ++ (le_bytes 4 at ++ (le_bytes 4 m ++ more))
entry-same key offset at n m rest more o l r = cc

module _ (store : List ℕ) (bytes : AllBytes store) where
  abbrev size_in : ℕ → ℕ
  size_in k = size_at store_layout store k

  abbrev offset_in : ℕ → ℕ
  offset_in k = offset_at store_layout store k

  -- what entry k says; the n entries from k on, the first with the hole from `at` to its chunk; where the last ends
  abbrev chunk_in : ℕ → Chunk
  chunk_in k = record { key = part store (8 + 28 * k) 20; bytes = chunk_at store k }

  abbrev placed_from : ℕ → ℕ → ℕ → List Placed
  placed_from zero k at = []
  placed_from (suc n) k at = record { hole = part store at (offset_in k - at); chunk = chunk_in k } ∷ placed_from n (suc k) (chunk_end store k)

  abbrev end_from : ℕ → ℕ → ℕ → ℕ
  end_from zero k at = at
  end_from (suc n) k at = end_from n (suc k) (chunk_end store k)

  placed-chunks : (n k at : ℕ) → chunks_in (placed_from n k at) ≡ tabulated chunk_in k n
  placed-chunks zero k at = refl
  placed-chunks (suc n) k at = ap (λ (l : List Chunk). chunk_in k ∷ l) (placed-chunks n (suc k) (chunk_end store k))

  length-placed : (n k at : ℕ) → length (placed_from n k at) ≡ n
  length-placed zero k at = refl
  length-placed (suc n) k at = ap suc (length-placed n (suc k) (chunk_end store k))

  entry-split : (at : ℕ) → at + 28 ≤ length store
      → drop at store ≡ part store at 20 ++ (le_bytes 4 (field_at store (at + 20) 4) ++ (le_bytes 4 (field_at store (at + 24) 4) ++ drop (at + 28) store))
  entry-split at h =
      part-split store at 20
      ∙ ap (λ (l : List ℕ). part store at 20 ++ l)
      (field-split store (at + 20) 4 (at + 24) _ bytes (omega arith) (omega arith)
      (field-split store (at + 24) 4 (at + 28) _ bytes (omega arith) (omega arith) refl))

  -- the first entry of those that the check accepted: the hole before its chunk, and the chunk's length
  module _ (n k at : ℕ) (e : chunks_code store (suc n) k at ≡ 0) where
    within : (at ≤ offset_in k) × (chunk_end store k ≤ length store)
    within = let w = (chunks-good store (suc n) k at e).within k (omega arith) (omega arith) in (w.0, w.1)

    hole-ends : at + (offset_in k - at) ≡ offset_in k
    hole-ends = omega (arith, within.0)

    start_is : start_of at (record { hole = part store at (offset_in k - at); chunk = chunk_in k }) ≡ offset_in k
    start_is = rw (length-take, length-drop) (omega (arith, within.0, within.1))

    size_is : length (chunk_at store k) ≡ size_in k
    unfolding chunk_at
    size_is = rw (length-take, length-drop) (omega (arith, within.1))

  -- n entries from k on, with their holes and chunks from `at` on
  directory-is : (n k at : ℕ) → chunks_code store n k at ≡ 0 → 8 + 28 * (k + n) ≤ length store
      → drop (8 + 28 * k) store ≡ store_directory_bytes at (placed_from n k at) ++ drop (8 + 28 * (k + n)) store
  unfolding store_directory_bytes
  directory-is zero k at e h = rw add-zero
  directory-is (suc n) k at e h =
      let p : Placed = record { hole = part store at (offset_in k - at); chunk = chunk_in k } in
      let end : end_of at p ≡ chunk_end store k = ap₂ {C = ℕ} (λ x y. x + y) (start_is n k at e) (size_is n k at e) in
      let a : 8 + 28 * k + 28 ≡ 8 + 28 * suc k = omega arith in
      let b : k + suc n ≡ suc k + n = omega arith in
      let more : drop (8 + 28 * k + 28) store ≡ store_directory_bytes (end_of at p) (placed_from n (suc k) (chunk_end store k)) ++ drop (8 + 28 * (k + suc n)) store =
      rw (a, b, end) (directory-is n (suc k) (chunk_end store k) (chunks-step store n k at e).others (omega arith)) in
      entry-split (8 + 28 * k) (omega arith)
      ∙ entry-same (part store (8 + 28 * k) 20) _ (start_of at p) _ _ _ _ (sym (start_is n k at e)) (sym (size_is n k at e)) more
      ∙ sym (directory-cons at p (placed_from n (suc k) (chunk_end store k)) (drop (8 + 28 * (k + suc n)) store))

  chunks-follow : (n k at : ℕ) → chunks_code store n k at ≡ 0 → drop at store ≡ laid_bytes (placed_from n k at) ++ drop (end_from n k at) store
  unfolding chunk_at
  chunks-follow zero k at e = refl
  chunks-follow (suc n) k at e =
      let p : Placed = record { hole = part store at (offset_in k - at); chunk = chunk_in k } in
      let ps = placed_from n (suc k) (chunk_end store k) in
      let others = chunks-follow n (suc k) (chunk_end store k) (chunks-step store n k at e).others in
      part-split store at (offset_in k - at)
      ∙ ap (λ (l : List ℕ). part store at (offset_in k - at) ++ l)
      (ap (λ (m : ℕ). drop m store) (hole-ends n k at e) ∙ part-split store (offset_in k) (size_in k) ∙ ap (λ (l : List ℕ). part store (offset_in k) (size_in k) ++ l) others)
      ∙ sym (laid_cons p ps (drop (end_from n (suc k) (chunk_end store k)) store))

  module _ (e : store_code store ≡ 0) where
    good : StoreGood store
    good = store-good store e

    abbrev count : ℕ
    count = chunk_count store

    abbrev first : ℕ
    first = 8 + 28 * count

    abbrev placed_in : List Placed
    placed_in = placed_from count 0 first

    abbrev behind : List ℕ
    behind = drop (end_from count 0 first) store

    walk : chunks_code store count 0 first ≡ 0
    unfolding store_code
    walk =
        let a = passed (ltb (length store) 8 || not (same (take 4 store) store_mark)) 5 _ (omega arith) e in
        let b = passed (ltb most_chunks count || ltb (length store) first) 6 _ (omega arith) a.1 in
        (passed-whole _ _ b.1).0

    at-directory : drop 8 store ≡ store_directory_bytes first placed_in ++ (laid_bytes placed_in ++ behind)
    at-directory =
        let z : 8 + 28 * 0 ≡ 8 = omega arith in
        let y : 8 + 28 * (0 + count) ≡ first = omega arith in
        let d = directory-is count 0 first walk (omega (arith, good.room)) in
        (rw (z, y) at d) ∙ ap (λ (l : List ℕ). store_directory_bytes first placed_in ++ l) (chunks-follow count 0 first walk)

    parts_are : store ≡ placed_bytes placed_in behind
    parts_are =
        (part-split store 0 4 ∙ rw good.mark)
        ∙ ap (λ (l : List ℕ). store_mark ++ l) (field-split store 4 4 8 _ bytes (omega (arith, good.header)) refl at-directory)
        ∙ ap (λ (n : ℕ). store_mark ++ (le_bytes 4 n ++ (store_directory_bytes (8 + 28 * n) placed_in ++ (laid_bytes placed_in ++ behind))))
        (sym (length-placed count 0 first))
        ∙ sym (store-parts placed_in behind)

    chunks-are : chunks_in placed_in ≡ stored_chunks store
    unfolding stored_chunks store_keys
    chunks-are =
        placed-chunks count 0 first
        ∙ tabulated-same chunk_in (stored_chunk store) count
        (λ k l i. record { key = sym (key_in-at store_layout store count k l) i; bytes = chunk_at store k })

pub store-written : (store : List ℕ) → AllBytes store → store_code store ≡ 0 → WrittenStore store
store-written store bytes e =
    record { placed = placed_in store bytes e; hole = behind store bytes e; is = parts_are store bytes e; chunks = chunks-are store bytes e }

pub written-stores : WrittenStores
written-stores = record { reads = store-read; accepted = store-accepted; written = store-written }
