-- A written directory of an index, and its bodies, are read as they were written. Each law goes through the entries from the front,
-- with the bytes known from the directory's next entry on and from its body on, so that every step is a reading of known bytes.
-- Assumes nothing.
use mathlib.Core.Path.{◌≡◌, refl, ap₂, ◌∙◌}
use mathlib.Core.Bool.{◌||◌, not}
use mathlib.Core.List.{List, [], ◌∷◌, ◌++◌, map, append_assoc}
use Prim.Native.Nat.{ℕ, zero, suc, ◌+◌, ◌*◌, ◌^◌, ◌≤◌, ◌<◌}
use native.Mathlib.Nat.{add_assoc, not-suc-le-zero, le_of_suc-le-suc, zero-lt-suc}
use native.Mathlib.Omega.{arith}
use lib.ListN.{length, drop, get_or, length-append}
use lib.Seq.{drop-drop}
use lib.Dec.{eqb, ltb}
use Rattle.spec.specs.Bytes.{part, field_at, le_bytes, joined}
use Rattle.spec.specs.Outcome.{first_number, whole}
use Rattle.spec.specs.Directory.{Layout, keys_of, size_at, length_at, entries_code}
use Rattle.spec.specs.Index.{Entry, directory_bytes, entry_bytes}
use Rattle.spec.proofs.Fields.{length-le_bytes}
use Rattle.spec.proofs.Tests.{eqb_same, eqb-ne, leb-false}
use Rattle.spec.proofs.KnownBytes.{part-here, behind-part, field-here, behind-field}

-- ---- entries that can be written

-- The bodies, one after the other.
abbrev pub bodies_of : List Entry → List ℕ
bodies_of entries = joined (map (λ e. e.body) entries)

-- Fingerprints have 20 bytes and lengths fit into 4.
pub record Fits (e : Entry) : Type 0 where
  pub long : length e.key ≡ 20
  pub small : e.size < 256 ^ 4

abbrev pub no_entry : Entry
no_entry = record { key = []; size = 0; body = [] }

abbrev pub Every : (Entry → Type 0) → List Entry → Type 0
Every P es = (k : ℕ) → k < length es → P (get_or es k no_entry)

every-head : (P : Entry → Type 0) (e : Entry) (es : List Entry) → Every P (e ∷ es) → P e
every-head P e es h = h zero (zero-lt-suc _)

every-tail : (P : Entry → Type 0) (e : Entry) (es : List Entry) → Every P (e ∷ es) → Every P es
every-tail P e es h k l = h (suc k) (omega arith)

pub length-directory : (at : ℕ) (es : List Entry) → Every Fits es → length (directory_bytes at es) ≡ 32 * length es
unfolding directory_bytes entry_bytes
length-directory at [] fit = refl
length-directory at (e ∷ es) fit =
    let k : length e.key ≡ 20 = (every-head Fits e es fit).long in
    simp (length-append, length-le_bytes, length-directory (at + length e.body) es (every-tail Fits e es fit)) (omega arith)

-- the next entry, and what follows it
pub directory-cons : (at : ℕ) (e : Entry) (es : List Entry) (rest : List ℕ)
    → directory_bytes at (e ∷ es) ++ rest
    ≡ e.key ++ (le_bytes 4 e.size ++ (le_bytes 4 at ++ (le_bytes 4 (length e.body) ++ (directory_bytes (at + length e.body) es ++ rest))))
unfolding directory_bytes entry_bytes
directory-cons at e es rest = simp append_assoc

-- ---- what is read

-- The entry at `at` says e, and its body is at `b`.
pub record ReadsAs (index : List ℕ) (at b : ℕ) (e : Entry) : Type 0 where
  pub key : part index at 20 ≡ e.key
  pub size : field_at index (at + 20) 4 ≡ e.size
  pub offset : field_at index (at + 24) 4 ≡ b
  pub body_length : field_at index (at + 28) 4 ≡ length e.body
  pub body : part index b (length e.body) ≡ e.body

-- The bytes hold the entries from `at` on, and their bodies from b to the end.
pub record Holds (index : List ℕ) (at b : ℕ) (es : List Entry) : Type 0 where
  pub rest : List ℕ
  pub directory : drop at index ≡ directory_bytes b es ++ rest
  pub bodies : drop b index ≡ bodies_of es
  pub fit : Every Fits es
  pub within : b + length (bodies_of es) ≤ 4294967295

module _ (index : List ℕ) (at b : ℕ) (e : Entry) (es : List Entry) (h : Holds index at b (e ∷ es)) where
  d0 : drop at index ≡ e.key ++ (le_bytes 4 e.size ++ (le_bytes 4 b ++ (le_bytes 4 (length e.body) ++ (directory_bytes (b + length e.body) es ++ h.rest))))
  d0 = h.directory ∙ directory-cons b e es h.rest

  d20 : drop (at + 20) index ≡ le_bytes 4 e.size ++ (le_bytes 4 b ++ (le_bytes 4 (length e.body) ++ (directory_bytes (b + length e.body) es ++ h.rest)))
  d20 = behind-part index at e.key _ 20 (every-head Fits e es h.fit).long d0

  d24 : drop (at + 24) index ≡ le_bytes 4 b ++ (le_bytes 4 (length e.body) ++ (directory_bytes (b + length e.body) es ++ h.rest))
  d24 = rw add_assoc at (behind-field index (at + 20) 4 e.size _ d20)

  d28 : drop (at + 28) index ≡ le_bytes 4 (length e.body) ++ (directory_bytes (b + length e.body) es ++ h.rest)
  d28 = rw add_assoc at (behind-field index (at + 24) 4 b _ d24)

  d32 : drop (at + 32) index ≡ directory_bytes (b + length e.body) es ++ h.rest
  d32 = rw add_assoc at (behind-field index (at + 28) 4 (length e.body) _ d28)

  bodies-length : b + length e.body + length (bodies_of es) ≤ 4294967295
  bodies-length = omega (arith, h.within, length-append e.body (bodies_of es))

  pub first_entry : ReadsAs index at b e
  first_entry =
      record {
        key = part-here index at e.key _ 20 (every-head Fits e es h.fit).long d0;
        size = field-here index (at + 20) 4 e.size _ (every-head Fits e es h.fit).small d20;
        offset = field-here index (at + 24) 4 b _ (omega (arith, bodies-length)) d24;
        body_length = field-here index (at + 28) 4 (length e.body) _ (omega (arith, bodies-length)) d28;
        body = part-here index b e.body (bodies_of es) (length e.body) refl h.bodies;
      }

  pub next-entries : Holds index (at + 32) (b + length e.body) es
  next-entries =
      record {
        rest = h.rest;
        directory = d32;
        bodies = behind-part index b e.body (bodies_of es) (length e.body) refl h.bodies;
        fit = every-tail Fits e es h.fit;
        within = bodies-length;
      }

-- ---- entry by entry

-- where the body of entry k starts
abbrev pub start_in : ℕ → List Entry → ℕ → ℕ
start_in b [] k = b
start_in b (e ∷ es) zero = b
start_in b (e ∷ es) (suc k) = start_in (b + length e.body) es k

pub entry-reads : (index : List ℕ) (at b : ℕ) (es : List Entry) → Holds index at b es → (k : ℕ) → k < length es
    → ReadsAs index (at + 32 * k) (start_in b es k) (get_or es k no_entry)
entry-reads index at b [] h k l = absurd (not-suc-le-zero l)
entry-reads index at b (e ∷ es) h zero l = let n : at + 32 * 0 ≡ at = omega arith in rw n (first_entry index at b e es h)
entry-reads index at b (e ∷ es) h (suc k) l =
    let n : at + 32 * suc k ≡ at + 32 + 32 * k = omega arith in
    rw n (entry-reads index (at + 32) (b + length e.body) es (next-entries index at b e es h) k (le_of_suc-le-suc l))

pub keys-read : (index : List ℕ) (at b : ℕ) (es : List Entry) → Holds index at b es → keys_of 32 (length es) (drop at index) ≡ map (λ e. e.key) es
keys-read index at b [] h = refl
keys-read index at b (e ∷ es) h =
    ap₂ {C = List (List ℕ)} (λ x xs. x ∷ xs) (first_entry index at b e es h).key
    (rw drop-drop (keys-read index (at + 32) (b + length e.body) es (next-entries index at b e es h)))

-- ---- the check of the entries

-- The length is in 1 to `most`.
pub record SizeIn (most : ℕ) (e : Entry) : Type 0 where
  pub low : 1 ≤ e.size
  pub high : e.size ≤ most

-- The layout of an index whose directory starts at `start`.
abbrev pub entry_layout : ℕ → Layout
entry_layout start = record { start = start; stride = 32; size_field = 20; offset_field = 24; length_field = 28 }

-- one entry that passes
pub entry-passes : (size offset at most code rest : ℕ) → 1 ≤ size → size ≤ most → offset ≡ at → rest ≡ 0
    → first_number ((eqb size 0 || ltb most size, code) ∷ (not (eqb offset at), code) ∷ whole rest ∷ []) ≡ 0
entry-passes size offset at most code rest l h o r = rw (eqb-ne size 0 (omega arith), leb-false (suc most) size (omega arith), o, eqb_same, r)

pub written-pass : (index : List ℕ) (start most code k b : ℕ) (es : List Entry) → Holds index (start + 32 * k) b es → Every (SizeIn most) es
    → b + length (bodies_of es) ≡ length index → entries_code (entry_layout start) index most code (length es) k b ≡ 0
written-pass index start most code k b [] h s e = let z : b ≡ length index = omega arith in rw (z, eqb_same)
written-pass index start most code k b (e ∷ es) h s end =
    let r : ReadsAs index (start + 32 * k) b e = first_entry index (start + 32 * k) b e es h in
    let t : SizeIn most e = every-head (SizeIn most) e es s in
    let n : start + 32 * suc k ≡ start + 32 * k + 32 = omega arith in
    entry-passes (size_at (entry_layout start) index k) _ b most code (entries_code (entry_layout start) index most code (length es) (suc k) (b + length_at (entry_layout start) index k)) (rw r.size t.low) (rw r.size t.high) r.offset
    (rw r.body_length (written-pass index start most code (suc k) (b + length e.body) es (rw n (next-entries index (start + 32 * k) b e es h)) (every-tail (SizeIn most) e es s)
    (omega (arith, length-append e.body (bodies_of es)))))
