-- The index that is written for records that fit is a list of bytes: so theorem 3's one written form is one that a file can have.
-- Assumes nothing.
use mathlib.Core.Path.{◌≡◌, refl, subst}
use mathlib.Core.Bool.{Bool, true, false, ◌&&◌, cond}
use mathlib.Core.List.{List, [], ◌∷◌, ◌++◌, map}
use Prim.Native.Nat.{ℕ, zero, suc, ◌+◌, ◌*◌, ◌/◌, ◌≤◌, ◌<◌, min}
use native.Mathlib.Nat.{mod-lt, zero-lt-suc}
use native.Mathlib.Omega.{arith}
use lib.Dec.{leb, eqb}
use lib.ListN.{length, get_or, length-map}
use Rattle.spec.specs.Bytes.{le_bytes, fields_bytes, AllBytes}
use Rattle.spec.specs.Keywords.{keywords_of, keyword_code}
use Rattle.spec.specs.Form.{Form, form1, form2, newest, format_of, form_in}
use Rattle.spec.specs.Records.{MatchRecord, reach, is_empty, is_tiny, in_range, kind_of, offsets_bytes, full_bytes, tiny_bytes, record_bytes}
use Rattle.spec.specs.Records.{set_bytes, body_from, all_in_range, head_bytes}
use Rattle.spec.specs.Index.{directory_bytes, index_bytes, entry_bytes}
use Rattle.spec.proofs.Tests.{cond-elim, and_left, and_right}
use Rattle.spec.proofs.JoinIsSearch.{get_d_map}
use Rattle.spec.proofs.KeywordLaws.{accepted, keyword-front}
use Rattle.spec.proofs.RecordLaws.{prefix-in, suffix-in, le_of, range-first, range-rest}
use Rattle.spec.proofs.Forms.{FormRead, WriteForm, form-read, form1-of, form2-of, newest-of, form-writes}
use Rattle.spec.proofs.IndexLaws.{mark-first}
use Rattle.spec.proofs.WrittenEntries.{bodies_of}
use Rattle.theory.specs.RecordSets.{Said, nothing, entry_for, written_index, Fitting, AllFitting, IndexForm, WrittenOnce}
use Rattle.theory.proofs.IndexTheorems.{records-read-back, one-index-form}

-- ---- bytes put together

-- a record, so that the list is told by the type
record Bytes (l : List ℕ) : Type 0 where
  below : AllBytes l

bytes-nil : Bytes []
bytes-nil = record { below = λ i. omega arith }

bytes-cons : {x : ℕ} {xs : List ℕ} → x < 256 → Bytes xs → Bytes (x ∷ xs)
bytes-cons {x} {xs} h b = record { below = go }
  where
    go : AllBytes (x ∷ xs)
    go zero = h
    go (suc i) = b.below i

append-of : (xs ys : List ℕ) → Bytes xs → Bytes ys → Bytes (xs ++ ys)
append-of [] ys a b = b
append-of (x ∷ xs) ys a b = bytes-cons (a.below 0) (append-of xs ys (record { below = λ i. a.below (suc i) }) b)

bytes-append : {xs ys : List ℕ} → Bytes xs → Bytes ys → Bytes (xs ++ ys)
bytes-append {xs} {ys} a b = append-of xs ys a b

bytes-le_bytes : (width n : ℕ) → Bytes (le_bytes width n)
unfolding le_bytes
bytes-le_bytes zero n = bytes-nil
bytes-le_bytes (suc width) n = bytes-cons (mod-lt n (omega arith)) (bytes-le_bytes width (n / 256))

bytes-fields : (width : ℕ) (xs : List ℕ) → Bytes (fields_bytes width xs)
unfolding fields_bytes
bytes-fields width [] = bytes-nil
bytes-fields width (x ∷ xs) = bytes-append (bytes-le_bytes width x) (bytes-fields width xs)

bytes-cond : (b : Bool) {x y : List ℕ} → (b ≡ true → Bytes x) → (b ≡ false → Bytes y) → Bytes (cond b x y)
bytes-cond b {x} {y} f g = cond-elim Bytes b x y f g

-- ---- a body

-- The mark and the tiny byte of a form are bytes.
pub record ByteForm (f : Form) : Type 0 where
  pub marked : AllBytes f.mark
  pub tiny : (n p s : ℕ) → n ≤ 32 → p ≤ f.tiny_most n → s ≤ f.tiny_most n → p + f.tiny_step * s < 256

-- so they are in every form that a format says, and a reader asks that of a form
said-bytes : (f : Form) → get_or f.mark 2 0 < 256 → ByteForm (form_in (format_of f))
said-bytes f h = record { marked = mark.below; tiny = λ n p s l a b. omega arith }
  where
    mark : Bytes (form_in (format_of f)).mark
    mark = bytes-cons (omega arith) (bytes-cons (omega arith) (bytes-cons (omega arith) (bytes-cons (omega arith) bytes-nil)))

read-bytes : (f : Form) → FormRead f → ByteForm f
read-bytes f read = subst ByteForm read.said (said-bytes f read.digit)

bytes-offsets : (f : Form) (offsets : List ℕ) → Bytes (offsets_bytes f offsets)
unfolding offsets_bytes
bytes-offsets f offsets =
    bytes-cond (leb (length offsets) 1) (λ _. bytes-nil)
    (λ _. bytes-append (bytes-cond (leb (length offsets) 254) (λ _. bytes-nil) (λ _. bytes-le_bytes f.width (length offsets)))
    (bytes-fields f.width offsets))

kind-small : (count : ℕ) → kind_of count < 256
kind-small count =
    cond-elim (λ k. k < 256) (leb count 1) _ _ (λ e. omega arith)
    (λ e. cond-elim (λ k. k < 256) (leb count 254) 2 3 (λ e. omega arith) (λ e. omega arith))

reach-small : (n size : ℕ) → n ≤ 32 → reach n size < 256
unfolding reach
reach-small n size h = omega arith

bytes-set : (k set : ℕ) → k < 256 → Bytes (set_bytes k set)
unfolding set_bytes
bytes-set k set l = bytes-cond (eqb set 0) (λ _. bytes-nil) (λ _. bytes-cons l (bytes-cons (omega arith) (bytes-le_bytes 4 set)))

module _ (f : Form) (form : ByteForm f) (size : ℕ) where
  module _ (n k : ℕ) (h : n ≤ 32) (l : k < 256) (r : MatchRecord) (e : in_range n size r ≡ true) where
    bytes-full : Bytes (full_bytes f k r)
    unfolding full_bytes head_bytes
    bytes-full =
        let p : r.prefix < 256 = omega (arith, prefix-in n size r e, reach-small n size h) in
        let s : r.suffix < 256 = omega (arith, suffix-in n size r e, reach-small n size h) in
        let c : min (length r.offsets) 255 < 256 = omega arith in
        bytes-append
        (bytes-cons l (bytes-cons (kind-small (length r.offsets))
        (bytes-cons p (bytes-cons s (bytes-cons c (bytes-le_bytes f.width (get_or r.offsets 0 0)))))))
        (bytes-offsets f r.offsets)

    bytes-tiny : is_tiny f n r ≡ true → Bytes (tiny_bytes f k r)
    bytes-tiny t =
        let b : (eqb (length r.offsets) 0 && leb r.prefix (f.tiny_most n) && leb r.suffix (f.tiny_most n)) ≡ true = and_left _ _ t in
        let p : r.prefix ≤ f.tiny_most n = le_of r.prefix (f.tiny_most n) (and_right (eqb (length r.offsets) 0) _ (and_left _ _ b)) in
        let s : r.suffix ≤ f.tiny_most n =
        le_of r.suffix (f.tiny_most n) (and_right (eqb (length r.offsets) 0 && leb r.prefix (f.tiny_most n)) _ b) in
        bytes-cons l (bytes-cons (omega arith) (bytes-cons (form.tiny n r.prefix r.suffix h p s) bytes-nil))

    bytes-record : Bytes (record_bytes f n k r)
    unfolding record_bytes
    bytes-record = bytes-cond (is_empty r) (λ _. bytes-nil) (λ _. bytes-cond (is_tiny f n r) bytes-tiny (λ _. bytes-full))

  bytes-body : (k : ℕ) (lengths : List ℕ) (records : List MatchRecord) → k + length lengths ≤ 256 → ((i : ℕ) → i < length lengths → get_or lengths i 0 ≤ 32)
      → all_in_range f size lengths records ≡ true → Bytes (body_from f k lengths records)
  unfolding body_from
  bytes-body k [] records l h e = bytes-nil
  bytes-body k (n ∷ lengths) [] l h e = bytes-nil
  bytes-body k (n ∷ lengths) (r ∷ records) l h e =
      bytes-append (bytes-record n k (h 0 (zero-lt-suc _)) (omega arith) r (range-first f size n lengths r records e))
      (bytes-append (bytes-set k r.inner (omega arith))
      (bytes-body (suc k) lengths records (omega arith) (λ i m. h (suc i) (omega arith)) (range-rest f size n lengths r records e)))

-- ---- the index

keyword-lengths : (list : List ℕ) → keyword_code list ≡ 0 → (i : ℕ) → i < length (map length (keywords_of list)) → get_or (map length (keywords_of list)) i 0 ≤ 32
keyword-lengths list e i l =
    let a = accepted list (keyword-front list e) in
    let m : i < length (keywords_of list) = omega (arith, length-map (keywords_of list) length) in
    rw (get_d_map length (keywords_of list) i [] 0 m) (a.proper i (omega (arith, a.count))).1

keyword-count : (list : List ℕ) → keyword_code list ≡ 0 → length (map length (keywords_of list)) ≤ 16
keyword-count list e = let a = accepted list (keyword-front list e) in rw (length-map (keywords_of list) length, a.count) a.most

-- what holds of every entry, along the list
module _ (f : Form) (form : ByteForm f) (list : List ℕ) (accept : keyword_code list ≡ 0) where
  bytes-directory : (at : ℕ) (said : List Said) → ((k : ℕ) → k < length said → AllBytes (get_or said k nothing).key)
      → Bytes (directory_bytes at (map (entry_for f list) said))
  unfolding directory_bytes entry_bytes
  bytes-directory at [] h = bytes-nil
  bytes-directory at (s ∷ said) h =
      let key : Bytes s.key = record { below = h 0 (zero-lt-suc _) } in
      bytes-append
      (bytes-append (bytes-append (bytes-append key (bytes-le_bytes 4 s.chunk.size)) (bytes-le_bytes 4 at))
      (bytes-le_bytes 4 (length (entry_for f list s).body)))
      (bytes-directory (at + length (entry_for f list s).body) said (λ k l. h (suc k) (omega arith)))

  bytes-bodies : (said : List Said) → ((k : ℕ) → k < length said → Fitting f list (get_or said k nothing)) → Bytes (bodies_of (map (entry_for f list) said))
  bytes-bodies [] h = bytes-nil
  bytes-bodies (s ∷ said) h =
      bytes-append
      (bytes-body f form s.chunk.size 0 (map length (keywords_of list)) s.chunk.records
      (omega (arith, keyword-count list accept)) (keyword-lengths list accept) (h 0 (zero-lt-suc _)).ranges)
      (bytes-bodies said (λ k l. h (suc k) (omega arith)))

-- For a list and fingerprints of bytes.
pub written-is-bytes : (f : Form) → ByteForm f → (list : List ℕ) (said : List Said) → AllFitting f list said → AllBytes list
    → ((k : ℕ) → k < length said → AllBytes (get_or said k nothing).key) → AllBytes (written_index f list said)
unfolding written_index index_bytes
written-is-bytes f form list said fit b keys =
    let mark : Bytes f.mark = record { below = form.marked } in
    let listed : Bytes list = record { below = b } in
    let entries = map (entry_for f list) said in
    (bytes-append
    (bytes-append (bytes-append (bytes-append mark (bytes-le_bytes 4 (length entries))) listed)
    (bytes-directory f form list fit.accepted (8 + length list + 32 * length entries) said keys))
    (bytes-bodies f form list fit.accepted said fit.each)).below

-- ---- demand 2, second half, in every form that a mark names

-- document 01's form, request #105's and the newest are among them
pub form1-named : IndexForm form1
form1-named = record { index = form1.mark; named = form1-of form1.mark refl }

pub form2-named : IndexForm form2
form2-named = record { index = form2.mark; named = form2-of form2.mark refl }

pub newest-named : IndexForm newest
newest-named = record { index = newest.mark; named = newest-of newest.mark refl }

pub named-read : (f : Form) → IndexForm f → FormRead f
named-read f i = subst FormRead i.named (form-read i.index)

pub written_once : (f : Form) → IndexForm f → (list : List ℕ) (said : List Said) → AllFitting f list said → AllBytes list
    → ((k : ℕ) → k < length said → AllBytes (get_or said k nothing).key) → WrittenOnce f list said
unfolding written_index
written_once f i list said fit b keys =
    let read : FormRead f = named-read f i in
    let writes : WriteForm f = form-writes f read in
    record {
      marked = read.named (written_index f list said) (mark-first f list (map (entry_for f list) said) writes.marked);
      says = records-read-back f writes list said fit;
      bytes = written-is-bytes f (read-bytes f read) list said fit b keys;
      only = λ index c s. one-index-form f list said index s c;
    }
