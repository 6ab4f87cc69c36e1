-- Counting and listing a file, place by place: the number of its occurrences, each keyword's number of them, and their list. Assumes nothing.
use mathlib.Core.Path.{◌≡◌, refl, sym, ap, ◌∙◌, subst}
use mathlib.Core.Bool.{Bool, true, false}
use mathlib.Core.List.{List, [], ◌∷◌, ◌++◌}
use Prim.Native.Nat.{ℕ, zero, suc, ◌+◌, ◌-◌, ◌*◌, ◌/◌, ◌%◌, ◌^◌, ◌≤◌, ◌<◌}
use native.Mathlib.Nat.{add-zero, suc-mul, mul-one, mul-le-mul_left}
use native.Mathlib.Numerals.{add-one}
use native.Mathlib.Omega.{arith}
use lib.ListN.{length, get_or, drop, drop_of_length-le, length-append}
use lib.Seq.{drop-cons, ext_get_or}
use Rattle.spec.specs.declared.Opened.{Opened}
use Rattle.spec.specs.Bytes.{splice, each, keep}
use Rattle.spec.specs.Keywords.{folded_keywords}
use Rattle.spec.specs.Form.{form_of}
use Rattle.spec.specs.Records.{ChunkRecords, record_at, in_range}
use Rattle.spec.specs.Index.{list_in, index_code}
use Rattle.spec.specs.Join.{Occurrence, keyword_at, occurrences_at, listed, join_from, sums, list_bytes}
use Rattle.spec.proofs.Writing.{Going, going_start, going-room, going_on, going_end, going-place}
use Rattle.spec.proofs.ListBytes.{length-list, list-nil, list-append}
use Rattle.spec.proofs.Clients.{length-sums, sums_at, sums-ext, sums-assoc, length-counts, count_at, count_none, counts-append, count_most}
use Rattle.listing.specs.Streams.{small, stream_of, unread_at, occurrences, numbers_of, total, ReadableStreams}
use Rattle.listing.proofs.Totals.{total-is, keyword-counts}
use Rattle.walk.specs.Walking.{no_chunk, chunks_in, file_list, keyword_counts, size_of, width_of, Checked, File, LoadedPair, Crossed, crossings}
use Rattle.walk.proofs.Entries.{chunks-length, chunk-at, proper, records-good, sets-good, size_small, keywords-count, few}
use Rattle.walk.proofs.KeywordNumbers.{join-length, join-counts}
use Rattle.walk.proofs.Places.{AllGood, crossable, place-ready, place-join}

-- ---- what the check of the index says of a file's chunks

pub all-good : (index : List ℕ) → index_code (form_of index) index ≡ 0 → (file slots : List ℕ) → File index file slots
    → AllGood (folded_keywords (list_in index)) (chunks_in index file)
all-good index good file slots f =
    record {
      proper = proper index good;
      ranges = λ n h k u.
          let m : n < length file / 20 = rw (chunks-length index file) at h in
          subst (λ (c : ChunkRecords). in_range (length (keyword_at (folded_keywords (list_in index)) k)) c.size (record_at c k) ≡ true)
          (sym (chunk-at index file n m))
          (records-good index good _ (f.found n m) k u);
      sizes = λ n h.
          let m : n < length file / 20 = rw (chunks-length index file) at h in
          subst (λ (c : ChunkRecords). c.size ≤ 1048576) (sym (chunk-at index file n m)) (size_small index good _ (f.found n m));
      sets = λ n h k u.
          let m : n < length file / 20 = rw (chunks-length index file) at h in
          let w : ℕ = length (keyword_at (folded_keywords (list_in index)) k) in
          subst (λ (c : ChunkRecords). ((record_at c k).inner < 2 ^ (w - c.size)) × ((record_at c k).inner % 2 ≡ 0)) (sym (chunk-at index file n m))
          (sets-good index good _ (f.found n m) k u);
    }

-- ---- how many occurrences a file has

-- THE COUNT DOES NOT HANG ON THE FILE'S NUMBER
pub count-any : (index file : List ℕ) (number : ℕ) → length (file_list number index file) ≡ length (file_list 0 index file)
count-any index file number = join-length (folded_keywords (list_in index)) (chunks_in index file) number 0 0 0

-- ---- no more occurrences than keywords at each offset

each-most : {A : Type 0} (f : ℕ → List A) (most a n : ℕ) → ((p : ℕ) → length (f p) ≤ most) → length (each f a n) ≤ n * most
each-most f most a zero h = omega arith
each-most f most a (suc n) h = omega (arith, length-append (f a) (each f (suc a) n), h a, each-most f most (suc a) n h, suc-mul n most)

keep-most : {A : Type 0} (b : Bool) (x : A) → length (keep b x) ≤ 1
keep-most true x = omega arith
keep-most false x = omega arith

occurrences_at-most : (file count offset : ℕ) (t : ℕ → Bool) → length (occurrences_at file count t offset) ≤ count
unfolding occurrences_at
occurrences_at-most file count offset t =
    let f : ℕ → List Occurrence = λ k. keep (t k) (record { file = file; offset = offset; keyword = k }) in
    rw mul-one at (each-most f 1 0 count (λ k. keep-most (t k) (record { file = file; offset = offset; keyword = k })))

join-most : (keywords : List (List ℕ)) (chunks : List ChunkRecords) (base : ℕ) → length keywords ≤ 16
    → length (join_from 0 keywords base chunks) ≤ 16 * size_of chunks
unfolding join_from
join-most keywords [] base few = omega arith
join-most keywords (here ∷ rest) base few =
    let f : ℕ → List Occurrence = λ at. occurrences_at 0 (length keywords) (listed keywords here rest at) (base + at) in
    omega (
      arith,
      length-append (each f 0 here.size) (join_from 0 keywords (base + here.size) rest),
      each-most f (length keywords) 0 here.size (λ at. occurrences_at-most 0 (length keywords) (base + at) (listed keywords here rest at)),
      mul-le-mul_left {m = length keywords} {n = 16} here.size few,
      join-most keywords rest (base + here.size) few,
    )

-- THE COUNT OF A FILE IS SMALL
pub count-few : (index : List ℕ) (opened : Opened) (file slots : List ℕ) → Checked index opened → File index file slots
    → length (file_list 0 index file) < 2 ^ 36
count-few index opened file slots d f =
    let most : length (folded_keywords (list_in index)) ≤ 16 = omega (arith, few index opened d, keywords-count index opened d) in
    omega (arith, join-most (folded_keywords (list_in index)) (chunks_in index file) 0 most, f.small)

-- ---- n places of a file are counted, or listed

abbrev words_in : List ℕ → List (List ℕ)
words_in index = folded_keywords (list_in index)

abbrev pub Counting : List ℕ → List ChunkRecords → ℕ → ℕ → Type 0
Counting index chunks n sum = sum + length (join_from 0 (words_in index) 0 (drop n chunks)) ≡ length (join_from 0 (words_in index) 0 chunks)

-- the counts before a place, with those of the occurrences from the place on, are the counts at the start with those of the file
pub record CountingKeywords (index : List ℕ) (chunks : List ChunkRecords) (counts₀ counts : List ℕ) (n : ℕ) : Type 0 where
  pub long : length counts ≡ 16
  pub all : sums counts (keyword_counts (join_from 0 (words_in index) 0 (drop n chunks)))
      ≡ sums counts₀ (keyword_counts (join_from 0 (words_in index) 0 chunks))

-- `base` is where place n starts in the file, and p is where its list is to lie in the buffer, that of the file from `place` on.
pub record ListingFile (index : List ℕ) (number : ℕ) (chunks : List ChunkRecords) (out₀ out : List ℕ) (place p n base : ℕ) : Type 0 where
  pub small : base + size_of (drop n chunks) < 2 ^ 32
  pub going : Going out₀ out place p (list_bytes (join_from number (words_in index) 0 chunks)) (list_bytes (join_from number (words_in index) base (drop n chunks)))

-- the bytes from a place on are its chunk's and those behind
pub place-sizes : (index : List ℕ) (opened : Opened) (chunks : List ChunkRecords) (n : ℕ) (rows rows' : List (List ℕ)) (size size' : ℕ)
    → LoadedPair index opened chunks n rows rows' size size' → size_of (drop n chunks) ≡ size + size_of (drop (n + 1) chunks)
place-sizes index opened chunks n rows rows' size size' pair =
    rw (drop-cons chunks n no_chunk pair.inside, add-one) (ap (λ (z : ℕ). z + size_of (drop (suc n) chunks)) (sym (pair.first.sized pair.inside)))

module _ (index : List ℕ) (opened : Opened) (chunks : List ChunkRecords) (d : Checked index opened)
    (good : AllGood (folded_keywords (list_in index)) chunks) (n : ℕ) (rows rows' : List (List ℕ)) (size size' : ℕ)
    (pair : LoadedPair index opened chunks n rows rows' size size')
    (streams : List (List ℕ)) (c : Crossed size opened.keywords (crossings (folded_keywords (list_in index)) rows (drop (n + 1) chunks)) rows streams) where
  abbrev count : ℕ
  count = opened.keywords

  -- the occurrences at this place
  abbrev here : ℕ → ℕ → List Occurrence
  here file base = occurrences file count base size (unread_at index (width_of opened) streams)

  pub ready : ReadableStreams index (width_of opened) size count streams
  ready = place-ready index opened chunks d good n rows rows' size size' pair streams c

  next : (file base : ℕ)
      → join_from file (words_in index) base (drop n chunks) ≡ here file base ++ join_from file (words_in index) (base + size) (drop (n + 1) chunks)
  next file base = place-join index opened chunks d good n rows rows' size size' pair streams c file base

  pub counting-on : (sum m : ℕ) → Counting index chunks n sum → m ≡ total streams count → Counting index chunks (n + 1) (sum + m)
  counting-on sum m at e =
      omega (
        arith,
        at,
        ap length (next 0 0) ∙ length-append (here 0 0) _,
        total-is index (width_of opened) size count streams ready 0 0,
        join-length (words_in index) (drop (n + 1) chunks) 0 (0 + size) 0 0,
      )

  -- the streams are such that their offsets can be counted
  pub countable : (k : ℕ) → k < count → small (stream_of streams k)
  countable k u =
      record {
        left = rw (c.each k u) ((crossable index opened chunks d good n rows rows' size size' pair).few k u);
        set = (ready.each k u).set;
      }

  -- this place's occurrences are added
  pub keywords-on : (counts₀ counts counts' : List ℕ) → CountingKeywords index chunks counts₀ counts n → counts' ≡ sums counts (numbers_of streams count)
      → CountingKeywords index chunks counts₀ counts' (n + 1)
  keywords-on counts₀ counts counts' at e =
      let rest : List Occurrence = join_from 0 (words_in index) 0 (drop (n + 1) chunks) in
      let rest' : List Occurrence = join_from 0 (words_in index) (0 + size) (drop (n + 1) chunks) in
      let this : List ℕ = keyword_counts (here 0 0) in
      let added : counts' ≡ sums counts this = e ∙ sums-ext counts (numbers_of streams count) this (λ k u.
      sym (keyword-counts index (width_of opened) size count streams ready 0 0 k) ∙ sym (count_at (λ j. j) 16 (here 0 0) k (omega (arith, at.long)))) in
      record {
        long = ap length e ∙ length-sums counts (numbers_of streams count) ∙ at.long;
        all = ap (λ (l : List ℕ). sums l (keyword_counts rest)) added
            ∙ sums-assoc counts this (keyword_counts rest) (omega (arith, at.long, length-counts (λ j. j) 16 (here 0 0)))
            ∙ ap (λ (l : List ℕ). sums counts (sums this l)) (join-counts (λ j. j) 16 (words_in index) (drop (n + 1) chunks) 0 0 0 (0 + size))
            ∙ ap (sums counts) (sym (counts-append (λ j. j) 16 (here 0 0) rest'))
            ∙ ap (λ (l : List Occurrence). sums counts (keyword_counts l)) (sym (next 0 0))
            ∙ at.all;
      }

  module _ (number : ℕ) (out₀ out : List ℕ) (place p base : ℕ) (at : ListingFile index number chunks out₀ out place p n base) where
    abbrev sizes : size_of (drop n chunks) ≡ size + size_of (drop (n + 1) chunks)
    sizes = place-sizes index opened chunks n rows rows' size size' pair

    pub listing-fits : base + size < 2 ^ 32
    listing-fits = omega (arith, at.small, sizes)

    module _ (room : place + 9 * length (join_from number (words_in index) 0 chunks) ≤ length out₀) where
      abbrev whole : List ℕ
      whole = list_bytes (join_from number (words_in index) 0 chunks)

      abbrev rest : List ℕ
      rest = list_bytes (join_from number (words_in index) base (drop n chunks))

      abbrev rest' : List ℕ
      rest' = list_bytes (join_from number (words_in index) (base + size) (drop (n + 1) chunks))

      fits : place + length whole ≤ length out₀
      fits = omega (arith, room, length-list (join_from number (words_in index) 0 chunks))

      split : rest ≡ list_bytes (here number base) ++ rest'
      split = ap list_bytes (next number base) ∙ list-append (here number base) (join_from number (words_in index) (base + size) (drop (n + 1) chunks))

      pub listing-room : p + 9 * length (here number base) ≤ length out
      listing-room =
          omega (arith, length-list (here number base), going-room out₀ out place p whole rest at.going (list_bytes (here number base)) rest' fits split)

      -- this place's list is written
      pub listing-on : (out' : List ℕ) (p' : ℕ) → p' ≡ p + 9 * length (here number base) → out' ≡ splice out p (list_bytes (here number base))
          → ListingFile index number chunks out₀ out' place p' (n + 1) (base + size)
      listing-on out' p' q w =
          record {
            small = omega (arith, at.small, sizes);
            going = going_on out₀ out place p whole rest at.going out' (list_bytes (here number base)) rest' p' fits split
                (omega (arith, q, length-list (here number base))) w;
          }

-- ---- before the first place and behind the last

-- no occurrence adds to no count
sums_none : (counts : List ℕ) → length counts ≡ 16 → sums counts (keyword_counts []) ≡ counts
sums_none counts e =
    ext_get_or 0 (sums counts (keyword_counts [])) counts (length-sums counts (keyword_counts [])) (λ k u.
    let v : k < length counts = omega (arith, length-sums counts (keyword_counts [])) in
    sums_at counts (keyword_counts []) k v
    ∙ ap (λ (x : ℕ). get_or counts k 0 + x) (count_at (λ j. j) 16 [] k (omega (arith, e)) ∙ count_none (λ j. j) k)
    ∙ add-zero (get_or counts k 0))

module _ (index file : List ℕ) where
  pub past : (number base n : ℕ) → length (chunks_in index file) ≤ n → join_from number (words_in index) base (drop n (chunks_in index file)) ≡ []
  unfolding join_from
  past number base n h = ap (join_from number (words_in index) base) (drop_of_length-le (chunks_in index file) h)

  pub counting-end : (n sum : ℕ) → length (chunks_in index file) ≤ n → Counting index (chunks_in index file) n sum → sum ≡ length (file_list 0 index file)
  counting-end n sum h c = omega (arith, c, ap length (past 0 0 n h))

  module _ (counts₀ : List ℕ) where
    pub keywords-start : length counts₀ ≡ 16 → CountingKeywords index (chunks_in index file) counts₀ counts₀ 0
    keywords-start h = record { long = h; all = refl }

    module _ (counts : List ℕ) (n : ℕ) (at : CountingKeywords index (chunks_in index file) counts₀ counts n) where
      -- a count grows by no more than the file has occurrences
      pub keywords-few : length counts₀ ≡ 16 → (k : ℕ) → k < 16 → get_or counts k 0 ≤ get_or counts₀ k 0 + length (file_list 0 index file)
      keywords-few h k u =
          let list : List Occurrence = file_list 0 index file in
          let rest : List Occurrence = join_from 0 (words_in index) 0 (drop n (chunks_in index file)) in
          omega (
            arith,
            ap (λ (l : List ℕ). get_or l k 0) at.all,
            sums_at counts (keyword_counts rest) k (omega (arith, at.long)),
            sums_at counts₀ (keyword_counts list) k (omega (arith, h)),
            count_at (λ j. j) 16 list k u,
            count_most (λ j. j) k list,
          )

      pub keywords-end : length (chunks_in index file) ≤ n → counts ≡ sums counts₀ (keyword_counts (file_list 0 index file))
      keywords-end h =
          sym (ap (λ (l : List Occurrence). sums counts (keyword_counts l)) (past 0 0 n h) ∙ sums_none counts at.long)
          ∙ at.all

  module _ (number : ℕ) (out₀ : List ℕ) (place : ℕ) where
    -- the list is in the buffer
    abbrev Done : List ℕ → ℕ → Type 0
    Done out p = (p ≡ place + 9 * length (file_list number index file)) × (out ≡ splice out₀ place (list_bytes (file_list number index file)))

    done : (out : List ℕ) (p : ℕ) (rest : List Occurrence) → rest ≡ []
        → Going out₀ out place p (list_bytes (file_list number index file)) (list_bytes rest) → Done out p
    done out p rest e g =
        let whole : List ℕ = list_bytes (file_list number index file) in
        let z : list_bytes rest ≡ [] = ap list_bytes e ∙ list-nil in (
          omega (arith, going-place out₀ out place p whole (list_bytes rest) g z, length-list (file_list number index file)),
          going_end out₀ out place p whole (list_bytes rest) g z,
        )

    pub listing_none : file_list number index file ≡ [] → Done out₀ place
    listing_none e = done out₀ place (file_list number index file) e (going_start out₀ place (list_bytes (file_list number index file)))

    pub listing_start : (slots : List ℕ) → File index file slots → ListingFile index number (chunks_in index file) out₀ out₀ place place 0 0
    listing_start slots f = record { small = omega (arith, f.small); going = going_start out₀ place (list_bytes (file_list number index file)) }

    pub listing-end : (out : List ℕ) (p n base : ℕ) → length (chunks_in index file) ≤ n → ListingFile index number (chunks_in index file) out₀ out place p n base
        → Done out p
    listing-end out p n base h at = done out p (join_from number (words_in index) base (drop n (chunks_in index file))) (past number base n h) at.going
