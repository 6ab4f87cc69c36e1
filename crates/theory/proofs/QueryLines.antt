-- Lines (request #109): each is that of a file with a choice and has the earliest, every such file has one, and they rise by file; where their
-- numbers fit 4 bytes each they read back. Assumes nothing.
use mathlib.Core.Path.{◌≡◌, refl, sym, ap, ap₂, ◌∙◌, subst}
use mathlib.Core.Logic.{◌⊎◌, inl, inr}
use mathlib.Core.Bool.{Bool, true, false, ◌||◌, or-true, false≢true}
use mathlib.Core.List.{List, [], ◌∷◌, ◌++◌, map, append_assoc}
use Prim.Native.Nat.{ℕ, zero, suc, ◌+◌, ◌*◌, ◌^◌, ◌≤◌, ◌<◌}
use native.Mathlib.Nat.{not-suc-le-zero}
use native.Mathlib.Omega.{arith}
use lib.ListN.{length, drop, get_or}
use lib.Dec.{eqb, ltb}
use borrow.Author.Tests.{eqb-true, lt-ltb}
use Rattle.spec.specs.Bytes.{le_bytes, field_at, fields_of, fields_bytes, keep, every, rising}
use Rattle.spec.specs.Records.{ChunkRecords}
use Rattle.spec.specs.Join.{Occurrence, join_file}
use Rattle.spec.specs.Search.{occurrences_in}
use Rattle.spec.specs.Query.{earliest, lasting, EarliestChoice, Line, line_of, lines_from, line_bytes, lines_bytes, read_lines}
use Rattle.spec.proofs.Tests.{bool_cases, eqb_same}
use Rattle.spec.proofs.FieldLists.{length-fields_bytes, fields_of-fields_bytes}
use Rattle.spec.proofs.KnownBytes.{field-here, behind-field, behind-part}
use Rattle.spec.proofs.Choices.{file-earliest, text-earliest}
use Rattle.theory.specs.Queries.{lines_in, has_line, HasChoice, HasEarliest, ChoiceLines}

-- ---- lists of lines

abbrev files_in : List Line → List ℕ
files_in lines = map (λ (l : Line). l.file) lines

module _ (x : Line) (ys : List Line) where
  keep_at : (P : Line → Type 0) (none : Line) (t : Bool) → (t ≡ true → P x) → ((i : ℕ) → i < length ys → P (get_or ys i none))
      → (i : ℕ) → i < length (keep t x ++ ys) → P (get_or (keep t x ++ ys) i none)
  keep_at P none true h more zero l = h refl
  keep_at P none true h more (suc i) l = more i (omega arith)
  keep_at P none false h more i l = more i l

  keep-has : (t : Bool) (file : ℕ) → has_line file ys ≡ true → has_line file (keep t x ++ ys) ≡ true
  keep-has true file e = rw (e, or-true)
  keep-has false file e = e

  keep-first : (t : Bool) (b : ℕ) → b ≤ x.file → (0 < length ys → b ≤ get_or (files_in ys) 0 0) → 0 < length (keep t x ++ ys)
      → b ≤ get_or (files_in (keep t x ++ ys)) 0 0
  keep-first true b l h n = l
  keep-first false b l h n = h n

  keep-rises : (t : Bool) → rising (files_in ys) ≡ true → (0 < length ys → x.file < get_or (files_in ys) 0 0) → rising (files_in (keep t x ++ ys)) ≡ true
  keep-rises true e h = go ys e h
    where
      go : (zs : List Line) → rising (files_in zs) ≡ true → (0 < length zs → x.file < get_or (files_in zs) 0 0) → rising (x.file ∷ files_in zs) ≡ true
      go [] e h = refl
      go (z ∷ zs) e h = rw (lt-ltb x.file z.file (h (omega arith)), e)
  keep-rises false e h = e

-- what holds of the file of each line holds of each file that has one
has_all : (P : ℕ → Type 0) (lines : List Line) → ((i : ℕ) (none : Line) → i < length lines → P (get_or lines i none).file)
    → (file : ℕ) → has_line file lines ≡ true → P file
has_all P [] h file e = absurd (false≢true e)
has_all P (l ∷ lines) h file e = go (bool_cases (eqb file l.file)) (has_all P lines (λ i none u. h (suc i) none (omega arith)) file)
  where
    go : (eqb file l.file ≡ true) ⊎ (eqb file l.file ≡ false) → (has_line file lines ≡ true → P file) → P file
    go (inl t) more = subst P (sym (eqb-true file l.file t)) (h 0 l (omega arith))
    go (inr t) more = more (sym (ap (λ (b : Bool). b || has_line file lines) t) ∙ e)

-- ---- lines by lists of occurrences

module _ (lengths query : List ℕ) {A : Type 0} (list_of : ℕ → A → List Occurrence) (empty : A) where
  -- The lines of files, numbered from `file` on.
  unfoldable pub lines_by : ℕ → List A → List Line
  lines_by file [] = []
  lines_by file (x ∷ xs) = line_of lengths query file (list_of file x) ++ lines_by (suc file) xs

  abbrev chosen_in : ℕ → A → List ℕ
  chosen_in file x = earliest lengths 0 query (list_of file x)

  abbrev line_for : ℕ → A → Line
  line_for file x = record { file = file; offsets = chosen_in file x }

  abbrev whole_in : ℕ → A → Type 0
  whole_in file x = length (chosen_in file x) ≡ length query

  all_lines : (P : Line → Type 0) (file : ℕ) (xs : List A)
      → ((m k : ℕ) → m ≡ file + k → k < length xs → whole_in m (get_or xs k empty) → P (line_for m (get_or xs k empty)))
      → (i : ℕ) (none : Line) → i < length (lines_by file xs) → P (get_or (lines_by file xs) i none)
  unfolding lines_by line_of
  all_lines P file [] h i none l = absurd (not-suc-le-zero l)
  all_lines P file (x ∷ xs) h i none l =
      keep_at (line_for file x) (lines_by (suc file) xs) P none (eqb (length (chosen_in file x)) (length query))
      (λ e. h file 0 (omega arith) (omega arith) (eqb-true (length (chosen_in file x)) (length query) e))
      (λ j u. all_lines P (suc file) xs (λ m k q v w. h m (suc k) (omega arith) (omega arith) w) j none u)
      i l

  has-lines : (file : ℕ) (xs : List A) (m k : ℕ) → m ≡ file + k → k < length xs → whole_in m (get_or xs k empty)
      → has_line m (lines_by file xs) ≡ true
  unfolding lines_by line_of
  has-lines file [] m k q l w = absurd (not-suc-le-zero l)
  has-lines file (x ∷ xs) m zero q l w =
      let e : m ≡ file = omega arith in
      let u : whole_in file x = rw e at w in
      rw (e, u, eqb_same (length query), eqb_same file)
  has-lines file (x ∷ xs) m (suc k) q l w =
      keep-has (line_for file x) (lines_by (suc file) xs) (eqb (length (chosen_in file x)) (length query)) m
      (has-lines (suc file) xs m k (omega arith) (omega arith) w)

  first-file : (file : ℕ) (xs : List A) → 0 < length (lines_by file xs) → file ≤ get_or (files_in (lines_by file xs)) 0 0
  unfolding lines_by line_of
  first-file file [] l = absurd (not-suc-le-zero l)
  first-file file (x ∷ xs) l =
      keep-first (line_for file x) (lines_by (suc file) xs) (eqb (length (chosen_in file x)) (length query)) file (omega arith)
      (λ n. omega (arith, first-file (suc file) xs n)) l

  lines-rise : (file : ℕ) (xs : List A) → rising (files_in (lines_by file xs)) ≡ true
  unfolding lines_by line_of
  lines-rise file [] = refl
  lines-rise file (x ∷ xs) =
      keep-rises (line_for file x) (lines_by (suc file) xs) (eqb (length (chosen_in file x)) (length query)) (lines-rise (suc file) xs)
      (λ n. first-file (suc file) xs n)

  -- where each file's `earliest` is its earliest choice
  module _ (xs : List A) (c : (m : ℕ) (x : A) → EarliestChoice lengths query (list_of m x)) where
    abbrev lists : ℕ → List Occurrence
    lists m = list_of m (get_or xs m empty)

    lines-earliest : (i : ℕ) (none : Line) → i < length (lines_by 0 xs) → HasEarliest lengths query (length xs) lists (get_or (lines_by 0 xs) i none)
    lines-earliest i none l =
        all_lines (HasEarliest lengths query (length xs) lists) 0 xs
        (λ m k q u w.
        let z : m ≡ k = omega arith in
        subst (λ (j : ℕ). whole_in m (get_or xs j empty) → HasEarliest lengths query (length xs) lists (line_for m (get_or xs j empty))) z
        (λ v. record { known = omega arith; choice = (c m (get_or xs m empty)).chosen v; least = (c m (get_or xs m empty)).least }) w)
        i none l

    pub choice-lines : ChoiceLines lengths query (length xs) lists (lines_by 0 xs)
    choice-lines =
        record {
          exactly = λ file. (
            λ e.
                has_all (HasChoice lengths query (length xs) lists) (lines_by 0 xs)
                (λ i none u.
                let h = lines-earliest i none u in
                record { known = h.known; offsets = (get_or (lines_by 0 xs) i none).offsets; choice = h.choice }) file e,
            λ h. has-lines 0 xs file file (omega arith) h.known ((c file (get_or xs file empty)).found h.offsets h.choice),
          );
          earliest = lines-earliest;
          ordered = lines-rise 0 xs;
        }

-- ---- the lines of a query, and of a direct search

module _ (lengths query : List ℕ) (keywords : List (List ℕ)) {A : Type 0} (empty : A) where
  lines-from : (g : A → List ChunkRecords) (file : ℕ) (xs : List A)
      → lines_from lengths query file keywords (map g xs) ≡ lines_by lengths query (λ m x. join_file m keywords (g x)) empty file xs
  unfolding lines_from lines_by
  lines-from g file [] = refl
  lines-from g file (x ∷ xs) = ap (λ (ls : List Line). line_of lengths query file (join_file file keywords (g x)) ++ ls) (lines-from g (suc file) xs)

  lines-in : (g : A → List ℕ) (file : ℕ) (xs : List A)
      → lines_in lengths query file keywords (map g xs) ≡ lines_by lengths query (λ m x. occurrences_in m keywords (g x)) empty file xs
  unfolding lines_in lines_by
  lines-in g file [] = refl
  lines-in g file (x ∷ xs) = ap (λ (ls : List Line). line_of lengths query file (occurrences_in file keywords (g x)) ++ ls) (lines-in g (suc file) xs)

  module _ (p : lasting lengths query ≡ true) (xs : List A) where
    pub lines-of-records : (g : A → List ChunkRecords)
        → ChoiceLines lengths query (length xs) (λ m. join_file m keywords (g (get_or xs m empty))) (lines_from lengths query 0 keywords (map g xs))
    lines-of-records g =
        rw (lines-from g 0 xs)
        (choice-lines lengths query (λ m x. join_file m keywords (g x)) empty xs (λ m x. file-earliest lengths query m keywords (g x) p))

    pub lines-of-texts : (g : A → List ℕ)
        → ChoiceLines lengths query (length xs) (λ m. occurrences_in m keywords (g (get_or xs m empty))) (lines_in lengths query 0 keywords (map g xs))
    lines-of-texts g =
        rw (lines-in g 0 xs)
        (choice-lines lengths query (λ m x. occurrences_in m keywords (g x)) empty xs (λ m x. text-earliest lengths query m keywords (g x) p))

-- ---- what is written reads back

-- The numbers of a line for a query of m numbers fit their fields.
pub record LineFits (m : ℕ) (l : Line) : Type 0 where
  pub file : l.file < 256 ^ 4
  pub count : length l.offsets ≡ m
  pub offsets : every (λ x. ltb x (256 ^ 4)) l.offsets ≡ true

pub lines-read : (m : ℕ) (ls : List Line) (rest : List ℕ) → ((i : ℕ) (none : Line) → i < length ls → LineFits m (get_or ls i none))
    → read_lines m (length ls) (lines_bytes ls ++ rest) ≡ ls
unfolding lines_bytes line_bytes
lines-read m [] rest h = refl
lines-read m (l ∷ ls) rest h =
    ap₂ {C = List Line} (λ x xs. x ∷ xs) (λ i. record { file = first i; offsets = others i })
    (ap (read_lines m (length ls)) next ∙ lines-read m ls rest (λ i none u. h (suc i) none (omega arith)))
  where
    bytes : List ℕ
    bytes = lines_bytes (l ∷ ls) ++ rest

    fits : LineFits m l
    fits = h 0 l (omega arith)

    at0 : bytes ≡ le_bytes 4 l.file ++ (fields_bytes 4 l.offsets ++ (lines_bytes ls ++ rest))
    at0 = simp append_assoc

    at4 : drop 4 bytes ≡ fields_bytes 4 l.offsets ++ (lines_bytes ls ++ rest)
    at4 = behind-field bytes 0 4 l.file (fields_bytes 4 l.offsets ++ (lines_bytes ls ++ rest)) at0

    first : field_at bytes 0 4 ≡ l.file
    first = field-here bytes 0 4 l.file (fields_bytes 4 l.offsets ++ (lines_bytes ls ++ rest)) fits.file at0

    others : fields_of 4 m (drop 4 bytes) ≡ l.offsets
    others =
        ap₂ (λ (n : ℕ) (b : List ℕ). fields_of 4 n b) (sym fits.count) at4
        ∙ fields_of-fields_bytes 4 l.offsets (lines_bytes ls ++ rest) fits.offsets

    next : drop (4 + 4 * m) bytes ≡ lines_bytes ls ++ rest
    next =
        behind-part bytes 4 (fields_bytes 4 l.offsets) (lines_bytes ls ++ rest) (4 * m)
        (length-fields_bytes 4 l.offsets ∙ ap (λ (n : ℕ). 4 * n) fits.count) at4
