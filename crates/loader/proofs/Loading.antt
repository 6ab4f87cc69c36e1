-- The loop over keywords: the rows below k are loaded, and the rows of what is left to read come behind them. Loaded rows hold the records
-- that the body says, and its sets are behind them. Assumes nothing.
use mathlib.Core.Path.{◌≡◌, refl, sym, ap, ap₂, ◌∙◌, subst}
use mathlib.Core.Bool.{true, ◌&&◌}
use mathlib.Core.List.{List, [], ◌∷◌, ◌++◌, append-nil}
use Prim.Native.Nat.{ℕ, zero, suc, ◌+◌, ◌-◌, ◌≤◌, ◌<◌}
use native.Mathlib.Nat.{zero-add}
use native.Mathlib.Numerals.{add-one}
use native.Mathlib.Omega.{arith}
use lib.Dec.{leb}
use lib.ListN.{length, take, drop, get_or, set, length-append, length-take, length-set, take-append-drop, get_or-append}
use lib.Seq.{take-suc-set, drop-set-lt, drop-drop, append_snoc}
use Rattle.spec.specs.Bytes.{part}
use Rattle.spec.specs.declared.Format.{Format}
use Rattle.spec.specs.Form.{Form, form_in}
use Rattle.spec.specs.Records.{MatchRecord, empty_record, record_taken, set_taken, read_set, read_keyword, behind_keyword, read_from, read_body}
use Rattle.spec.proofs.Tests.{and_right, le-of-and}
use Rattle.loader.specs.Loaded.{behind_record, keyword_taken, fits_from, Row, row_at, row_end, set_at, rows_from, row_of, Loadable}
use Rattle.loader.proofs.Rows.{part-drop, next-holds, row_ends, end-room, behind-row, set-fits}

-- the next keyword's record, and those behind it
read_next : (f : Form) (k count : ℕ) (bytes : List ℕ)
    → read_from f k (suc count) bytes ≡ read_keyword f k bytes ∷ read_from f (suc k) count (behind_keyword f k bytes)
unfolding read_from
read_next f k count bytes = refl

pub length-rows : (f : Form) (k count at : ℕ) (bytes : List ℕ) → length (rows_from f k count at bytes) ≡ count
unfolding rows_from
length-rows f k zero at bytes = refl
length-rows f k (suc count) at bytes = ap suc (length-rows f (suc k) count (at + keyword_taken f k bytes) (behind_keyword f k bytes))

-- ---- the next keyword of a body of `len` bytes at `at`, whose records and sets lie whole in it

module _ (f : Form) (index : List ℕ) (at len k count : ℕ) (inside : at + len ≤ length index) (fits : fits_from f k (suc count) (part index at len) ≡ true) where
  abbrev bytes : List ℕ
  bytes = part index at len

  abbrev size : ℕ
  size = record_taken f k bytes

  abbrev set-size : ℕ
  set-size = set_taken f k (behind_record f k bytes)

  abbrev taken : ℕ
  taken = keyword_taken f k bytes

  both : (leb size (length bytes) && (leb set-size (length (behind_record f k bytes)) && fits_from f (suc k) count (behind_keyword f k bytes))) ≡ true
  unfolding fits_from
  both = fits

  -- its record is whole
  pub room-record : size ≤ len
  room-record = omega (arith, le-of-and size (length bytes) _ both, length-take len (drop at index))

  -- the bytes behind its record
  after : behind_record f k bytes ≡ part index (at + size) (len - size)
  after = part-drop size len at index room-record

  -- its set is whole
  room-set : set-size ≤ len - size
  room-set =
      omega (
        arith,
        le-of-and set-size (length (behind_record f k bytes)) _ (and_right (leb size (length bytes)) _ both),
        ap length after,
        length-take (len - size) (drop (at + size) index),
      )

  pub room_next : taken ≤ len
  room_next = omega (arith, room-record, room-set)

  -- the bytes behind both
  behind : behind_keyword f k bytes ≡ part index (at + taken) (len - taken)
  unfolding behind_keyword
  behind = drop-drop set-size size bytes ∙ part-drop taken len at index room_next

  pub fits-behind : fits_from f (suc k) count (part index (at + taken) (len - taken)) ≡ true
  fits-behind =
      rw (← behind)
      (and_right (leb set-size (length (behind_record f k bytes))) _ (and_right (leb size (length bytes)) _ both))

  pub rows_next : rows_from f k (suc count) at bytes
      ≡ row_at f.width at size (read_keyword f k bytes) ∷ rows_from f (suc k) count (at + taken) (part index (at + taken) (len - taken))
  unfolding rows_from
  rows_next = ap {B = List (List ℕ)} (λ (b : List ℕ). row_at f.width at size (read_keyword f k bytes) ∷ rows_from f (suc k) count (at + taken) b) behind

  -- the record of its row ends in the body, and its set is behind it
  module _ (row : List ℕ) (e : row ≡ row_at f.width at size (read_keyword f k bytes)) where
    row_inside : row_end f.width row ≤ at + len
    row_inside = end-room f index at len k inside row e room_next

    row-set : set_at f index (at + len) row k ≡ (read_keyword f k bytes).inner
    unfolding read_keyword
    row-set =
        let b = behind-row f index at len k inside row e room_next in
        set-fits f index (at + len) row k (omega (arith, ap (set_taken f k) b, room-set, row_ends f index at len k inside row e room-record))
        ∙ ap (read_set f k) b

-- ---- loaded rows hold the body's records

-- A row of keyword k holds its record, in a body that ends at `end`, and the record's set is behind it.
pub record RowIn (f : Form) (index : List ℕ) (end : ℕ) (row : List ℕ) (k : ℕ) (r : MatchRecord) : Type 0 where
  pub holds : Row index f.width row r
  pub ends : row_end f.width row ≤ end
  pub inner : set_at f index end row k ≡ r.inner

rows_in : (f : Form) (index : List ℕ) (end count at len k : ℕ) → end ≤ length index → at + len ≡ end → fits_from f k count (part index at len) ≡ true
    → (j : ℕ) → j < count
    → RowIn f index end (row_of (rows_from f k count at (part index at len)) j) (k + j) (get_or (read_from f k count (part index at len)) j empty_record)
rows_in f index end zero at len k inside ends fits j h = let z : ⊥ = omega arith in absurd z
rows_in f index end (suc count) at len k inside ends fits j h =
    rw (rows_next f index at len k count whole fits, read_next f k count (part index at len), behind f index at len k count whole fits)
    (go j h (rows_in f index end count (at + taken') (len - taken') (suc k) inside (omega (arith, small)) (fits-behind f index at len k count whole fits)))
  where
    whole : at + len ≤ length index
    whole = omega arith

    taken' : ℕ
    taken' = keyword_taken f k (part index at len)

    small : taken' ≤ len
    small = room_next f index at len k count whole fits

    rest : List ℕ
    rest = part index (at + taken') (len - taken')

    row : List ℕ
    row = row_at f.width at (record_taken f k (part index at len)) (read_keyword f k (part index at len))

    first : RowIn f index end row (k + 0) (read_keyword f k (part index at len))
    first =
        let n : k + 0 ≡ k = omega arith in
        record {
          holds = (next-holds f index at len k whole (room-record f index at len k count whole fits)).holds;
          ends = omega (arith, row_inside f index at len k count whole fits row refl);
          inner = rw (n, ← ends) (row-set f index at len k count whole fits row refl);
        }

    go : (j : ℕ) → j < suc count
        → ((j : ℕ) → j < count
        → RowIn f index end (row_of (rows_from f (suc k) count (at + taken') rest) j) (suc k + j) (get_or (read_from f (suc k) count rest) j empty_record))
        → RowIn f index end (row_of (row ∷ rows_from f (suc k) count (at + taken') rest) j) (k + j)
        (get_or (read_keyword f k (part index at len) ∷ read_from f (suc k) count rest) j empty_record)
    go zero m after = first
    go (suc j) m after = let n : k + suc j ≡ suc k + j = omega arith in rw n (after j (omega arith))

-- The record that a body says of keyword k.
abbrev pub record_in : Form → List ℕ → ℕ → ℕ → MatchRecord
record_in f body count k = get_or (read_body f count body) k empty_record

module _ (f : Form) (index : List ℕ) (at len count : ℕ) (inside : at + len ≤ length index) (fits : fits_from f 0 count (part index at len) ≡ true)
    (k : ℕ) (h : k < count) where
  row_in : RowIn f index (at + len) (row_of (rows_from f 0 count at (part index at len)) k) k (record_in f (part index at len) count k)
  row_in =
      subst (λ (j : ℕ). RowIn f index (at + len) (row_of (rows_from f 0 count at (part index at len)) k) j (record_in f (part index at len) count k)) (zero-add k)
      (rows_in f index (at + len) count at len 0 inside refl fits k h)

  -- the record of a row ends in the body
  pub rows_end : row_end f.width (row_of (rows_from f 0 count at (part index at len)) k) ≤ at + len
  rows_end = row_in.ends

-- THE ROWS HOLD THE RECORDS that the body says, and their sets are behind them.
pub record Loaded (f : Form) (index : List ℕ) (at len count : ℕ) (rows : List (List ℕ)) : Type 0 where
  pub long : count ≤ length rows
  pub each : (k : ℕ) → k < count → Row index f.width (row_of rows k) (record_in f (part index at len) count k)
  pub ends : (k : ℕ) → k < count → row_end f.width (row_of rows k) ≤ at + len
  pub sets : (k : ℕ) → k < count → set_at f index (at + len) (row_of rows k) k ≡ (record_in f (part index at len) count k).inner

pub loaded : (format : Format) (index : List ℕ) (at len count : ℕ) (rows₀ rows : List (List ℕ)) → Loadable format index at len count rows₀
    → rows ≡ rows_from (form_in format) 0 count at (part index at len) ++ drop count rows₀ → Loaded (form_in format) index at len count rows
loaded format index at len count rows₀ rows h e =
    record { long = long; each = λ k m. (one k m).holds; ends = λ k m. (one k m).ends; sets = λ k m. (one k m).inner }
  where
    f : Form
    f = form_in format

    new : List (List ℕ)
    new = rows_from f 0 count at (part index at len)

    many : length new ≡ count
    many = length-rows f 0 count at (part index at len)

    long : count ≤ length rows
    long = omega (arith, ap length e, length-append new (drop count rows₀), many)

    one : (k : ℕ) → k < count → RowIn f index (at + len) (row_of rows k) k (record_in f (part index at len) count k)
    one k m =
        rw (e, get_or-append new (drop count rows₀) [] k (omega (arith, many))) (row_in f index at len count h.inside h.whole k m)

-- ---- the loop

-- Keyword k is next; `place` is where its record would start.
pub record Loading (format : Format) (index : List ℕ) (at len count : ℕ) (rows₀ rows : List (List ℕ)) (place k : ℕ) : Type 0 where
  pub wide : format.width ≤ 3
  pub long : count ≤ length rows
  pub inside : at + len ≤ length index
  pub within : place ≤ at + len
  pub fits : fits_from (form_in format) k (count - k) (part index place (at + len - place)) ≡ true
  pub left : take k rows ++ rows_from (form_in format) k (count - k) place (part index place (at + len - place))
      ≡ rows_from (form_in format) 0 count at (part index at len)
  pub rest : drop count rows ≡ drop count rows₀

module _ (format : Format) (index : List ℕ) (at len count : ℕ) (rows₀ rows : List (List ℕ)) (place k : ℕ)
    (l : Loading format index at len count rows₀ rows place k) where
  pub loading-end : k ≡ count → rows ≡ rows_from (form_in format) 0 count at (part index at len) ++ drop count rows₀
  unfolding rows_from
  loading-end h =
      let z : count - k ≡ 0 = omega arith in
      let e : take count rows ≡ rows_from (form_in format) 0 count at (part index at len) = rw (z, h, append-nil) at l.left in
      sym (take-append-drop count rows) ∙ ap₂ {C = List (List ℕ)} (λ xs ys. xs ++ ys) e l.rest

  module _ (more : k < count) where
    abbrev here : List ℕ
    here = part index place (at + len - place)

    inner : place + (at + len - place) ≤ length index
    inner = omega (arith, l.inside, l.within)

    step : count - k ≡ suc (count - suc k)
    step = omega arith

    whole : fits_from (form_in format) k (suc (count - suc k)) here ≡ true
    whole = rw step at l.fits

    pub keyword-room : keyword_taken (form_in format) k here ≤ at + len - place
    keyword-room = room_next (form_in format) index place (at + len - place) k (count - suc k) inner whole

    module _ (row : List ℕ) (next : ℕ) (r : row ≡ row_at format.width place (record_taken (form_in format) k here) (read_keyword (form_in format) k here))
        (n : next ≡ place + keyword_taken (form_in format) k here) where
      shorter : at + len - place - keyword_taken (form_in format) k here ≡ at + len - next
      shorter = omega (arith, n)

      fits_on : fits_from (form_in format) (suc k) (count - suc k) (part index next (at + len - next)) ≡ true
      fits_on = rw (← shorter, n) (fits-behind (form_in format) index place (at + len - place) k (count - suc k) inner whole)

      rows_on : rows_from (form_in format) k (count - k) place here
          ≡ row ∷ rows_from (form_in format) (suc k) (count - suc k) next (part index next (at + len - next))
      rows_on = rw (← shorter, n, step, r) (rows_next (form_in format) index place (at + len - place) k (count - suc k) inner whole)

      abbrev rows_left : List (List ℕ)
      rows_left = rows_from (form_in format) (suc k) (count - suc k) next (part index next (at + len - next))

      left-on : take (suc k) (set rows k row) ++ rows_left ≡ rows_from (form_in format) 0 count at (part index at len)
      left-on =
          ap {B = List (List ℕ)} (λ xs. xs ++ rows_left) (take-suc-set rows k row (omega (arith, l.long)))
          ∙ append_snoc (take k rows) row _ ∙ ap {B = List (List ℕ)} (λ xs. take k rows ++ xs) (sym rows_on) ∙ l.left

      pub loading-on : Loading format index at len count rows₀ (set rows k row) next (k + 1)
      loading-on =
          record {
            wide = l.wide;
            long = simp length-set l.long;
            inside = l.inside;
            within = omega (arith, n, keyword-room, l.within);
            fits = rw add-one fits_on;
            left = rw add-one left-on;
            rest = drop-set-lt count rows k row more ∙ l.rest;
          }
