-- A list of occurrences read as a set, and its order: by file, then by offset, then by keyword (demand 3).
use Rattle.std.specs.Prelude.{◌≡◌, ◌≢◌, Bool, true, false, ◌&&◌, ◌||◌, List, [], ◌∷◌, ℕ, ◌<◌, length, get_or, eqb, ltb}
use Rattle.spec.specs.Bytes.{occurs_at}
use Rattle.spec.specs.Join.{Occurrence, keyword_at}

-- ---- members

abbrev pub same_occurrence : Occurrence → Occurrence → Bool
same_occurrence a b = eqb a.file b.file && eqb a.offset b.offset && eqb a.keyword b.keyword

abbrev pub is_in : Occurrence → List Occurrence → Bool
is_in o [] = false
is_in o (p ∷ rest) = same_occurrence o p || is_in o rest

-- ---- order

-- By the first numbers; where they are equal, the rest decides.
abbrev pub lexical : ℕ → ℕ → Bool → Bool
lexical m n rest = ltb m n || (eqb m n && rest)

abbrev pub before : Occurrence → Occurrence → Bool
before a b = lexical a.file b.file (lexical a.offset b.offset (ltb a.keyword b.keyword))

-- Each occurrence is before the next.
abbrev pub in_order : List Occurrence → Bool
in_order [] = true
in_order (o ∷ []) = true
in_order (o ∷ p ∷ rest) = before o p && in_order (p ∷ rest)

-- ---- the list of a search of texts

-- Keyword k occurs at the offset of the text with that number, both numbers and the offset in range.
abbrev pub occurs_in : List (List ℕ) → List (List ℕ) → Occurrence → Bool
occurs_in keywords texts o =
    ltb o.file (length texts)
    && ltb o.offset (length (get_or texts o.file []))
    && ltb o.keyword (length keywords)
    && occurs_at (keyword_at keywords o.keyword) (get_or texts o.file []) o.offset

pub record SearchList (keywords texts : List (List ℕ)) (list : List Occurrence) : Type 0 where
  -- every occurrence is listed, and nothing else
  pub exactly : (o : Occurrence) → is_in o list ≡ occurs_in keywords texts o
  -- by rising file, then offset, then keyword
  pub ordered : in_order list ≡ true
  -- none is listed twice
  pub once : (i j : ℕ) (none : Occurrence) → i < j → j < length list → get_or list i none ≢ get_or list j none
