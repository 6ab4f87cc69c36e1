-- The bytes of a query's lines: their length, the offsets written one after the other, and a line from a complete choice. Assumes nothing.
use mathlib.Core.Path.{◌≡◌, refl, sym, ap, ap₂, ◌∙◌, subst}
use mathlib.Core.Logic.{◌≢◌, ◌⊎◌, inl, inr}
use mathlib.Core.Bool.{true, false}
use mathlib.Core.List.{List, [], ◌∷◌, ◌++◌, append_assoc, append-nil}
use Prim.Native.Nat.{ℕ, suc, ◌+◌, ◌*◌, ◌≤◌, ◌<◌}
use native.Mathlib.Nat.{mul-one, mul-zero, mul-add}
use native.Mathlib.Numerals.{add-one}
use native.Mathlib.Omega.{arith}
use lib.ListN.{length, take, drop, get_or, length-append, drop_of_length-le}
use lib.Seq.{drop-cons}
use lib.Dec.{eqb}
use borrow.Author.Tests.{eqb-true, eqb-false, eq-eqb, ne_eqb}
use Rattle.spec.specs.Bytes.{le_bytes, fields_bytes, splice}
use Rattle.spec.specs.Form.{Form}
use Rattle.spec.specs.Records.{ChunkRecords}
use Rattle.spec.specs.Index.{lengths_in}
use Rattle.spec.specs.Join.{Occurrence, join_file}
use Rattle.spec.specs.Query.{earliest, Line, line_of, lines_from, query_lines, line_size, line_bytes, lines_bytes}
use Rattle.spec.proofs.Tests.{bool_cases}
use Rattle.spec.proofs.Fields.{length-le_bytes}
use Rattle.spec.proofs.FieldLists.{length-fields_bytes}
use Rattle.spec.proofs.Splices.{splice-nil, splice-then}
use Rattle.listing.specs.declared.Choice.{Choice}
use Rattle.listing.specs.Choosing.{chosen_from, no_choice, Chosen}
use Rattle.listing.proofs.Choices.{chosen-earliest}
use Rattle.spec.proofs.Writing.{Going, going-room, going_on, going_end}

-- ---- bytes

pub lines-nil : lines_bytes [] ≡ []
unfolding lines_bytes
lines-nil = refl

pub lines-append : (xs ys : List Line) → lines_bytes (xs ++ ys) ≡ lines_bytes xs ++ lines_bytes ys
unfolding lines_bytes
lines-append [] ys = refl
lines-append (l ∷ xs) ys = rw (lines-append xs ys) (sym (append_assoc (line_bytes l) (lines_bytes xs) (lines_bytes ys)))

one_line : (number : ℕ) (offsets : List ℕ) → lines_bytes (record { file = number; offsets = offsets } ∷ []) ≡ le_bytes 4 number ++ fields_bytes 4 offsets
unfolding lines_bytes line_bytes
one_line number offsets = append-nil (le_bytes 4 number ++ fields_bytes 4 offsets)

-- ---- a file's line

module _ (lengths query : List ℕ) (number : ℕ) (list : List Occurrence) where
  abbrev chosen : List ℕ
  chosen = earliest lengths 0 query list

  abbrev line : List Line
  line = line_of lengths query number list

  whole-line : length chosen ≡ length query → line ≡ record { file = number; offsets = chosen } ∷ []
  unfolding line_of
  whole-line e = rw (eq-eqb (length chosen) (length query) e)

  pub no_line : length chosen ≢ length query → line ≡ []
  unfolding line_of
  no_line h = rw (ne_eqb (length chosen) (length query) h)

  pub line-size : length (lines_bytes line) ≡ line_size query * length line
  line-size = go (bool_cases (eqb (length chosen) (length query)))
    where
      go : (eqb (length chosen) (length query) ≡ true) ⊎ (eqb (length chosen) (length query) ≡ false) → length (lines_bytes line) ≡ line_size query * length line
      go (inl e) =
          let n = eqb-true (length chosen) (length query) e in
          rw (whole-line n, one_line number chosen)
          (omega (
            arith,
            n,
            length-append (le_bytes 4 number) (fields_bytes 4 chosen),
            length-le_bytes 4 number,
            length-fields_bytes 4 chosen,
            mul-one (line_size query),
          ))
      go (inr e) = rw (no_line (eqb-false (length chosen) (length query) e), lines-nil) (sym (mul-zero (line_size query)))

-- ---- all lines

lines-size : (lengths query : List ℕ) (number : ℕ) (keywords : List (List ℕ)) (files : List (List ChunkRecords))
    → length (lines_bytes (lines_from lengths query number keywords files)) ≡ line_size query * length (lines_from lengths query number keywords files)
unfolding lines_from
lines-size lengths query number keywords [] = ap length lines-nil ∙ sym (mul-zero (line_size query))
lines-size lengths query number keywords (chunks ∷ files) =
    let here : List Line = line_of lengths query number (join_file number keywords chunks) in
    let rest : List Line = lines_from lengths query (suc number) keywords files in
    ap length (lines-append here rest)
    ∙ length-append (lines_bytes here) (lines_bytes rest)
    ∙ ap₂ (λ (x y : ℕ). x + y) (line-size lengths query number (join_file number keywords chunks)) (lines-size lengths query (suc number) keywords files)
    ∙ sym (mul-add (line_size query) (length here) (length rest))
    ∙ ap (λ (x : ℕ). line_size query * x) (sym (length-append here rest))

pub query-size : (f : Form) (index recipes query : List ℕ)
    → length (lines_bytes (query_lines f index recipes query)) ≡ line_size query * length (query_lines f index recipes query)
unfolding query_lines
query-size f index recipes query = lines-size (lengths_in index) query 0 _ _

-- ---- writing offsets: k of them are written

abbrev pub Offsets : List ℕ → ℕ → List ℕ → List ℕ → ℕ → ℕ → Type 0
Offsets out₀ at offsets out p k = Going out₀ out at p (fields_bytes 4 offsets) (fields_bytes 4 (drop k offsets))

module _ (out₀ : List ℕ) (at : ℕ) (offsets : List ℕ) (room : at + 4 * length offsets ≤ length out₀) where
  -- the bytes of all offsets, and of those from k on
  abbrev whole : List ℕ
  whole = fields_bytes 4 offsets

  abbrev coming : ℕ → List ℕ
  coming k = fields_bytes 4 (drop k offsets)

  fits : at + length whole ≤ length out₀
  fits = omega (arith, room, length-fields_bytes 4 offsets)

  module _ (out : List ℕ) (p k : ℕ) (h : k < length offsets) (g : Offsets out₀ at offsets out p k) where
    abbrev here : List ℕ
    here = le_bytes 4 (get_or offsets k 0)

    next : coming k ≡ here ++ coming (k + 1)
    unfolding fields_bytes
    next = rw (drop-cons offsets k 0 h, add-one)

    pub offsets-room : p + 4 ≤ length out
    offsets-room = omega (arith, length-le_bytes 4 (get_or offsets k 0), going-room out₀ out at p whole (coming k) g here (coming (k + 1)) fits next)

    pub offsets-on : (out' : List ℕ) → out' ≡ splice out p here → Offsets out₀ at offsets out' (p + 4) (k + 1)
    offsets-on out' w =
        going_on out₀ out at p whole (coming k) g out' here (coming (k + 1)) (p + 4) fits next
        (ap (λ (m : ℕ). p + m) (sym (length-le_bytes 4 (get_or offsets k 0)))) w

  pub offsets-end : (out : List ℕ) (p k : ℕ) → length offsets ≤ k → Offsets out₀ at offsets out p k → out ≡ splice out₀ at whole
  unfolding fields_bytes
  offsets-end out p k h g = going_end out₀ out at p whole (coming k) g (ap (fields_bytes 4) (drop_of_length-le offsets h))

-- ---- a file's line, by the choice that was made in the file

-- the choice, with lengths that read alike
pub chosen-in : (lengths lengths' query : List ℕ) (list : List Occurrence) (choice : Choice) → choice ≡ chosen_from lengths' query list no_choice
    → ((k : ℕ) → get_or lengths' k 0 ≡ get_or lengths k 0) → length query ≤ 8 → Chosen choice (earliest lengths 0 query list)
chosen-in lengths lengths' query list choice e same few =
    subst (λ (x : Choice). Chosen x (earliest lengths 0 query list)) (sym e) (chosen-earliest lengths' lengths query same few list)

module _ (lengths query : List ℕ) (number : ℕ) (list : List Occurrence) (place : ℕ) where
  -- what is written: the place behind the line, and the buffer
  abbrev pub Lined : List ℕ → List ℕ → ℕ → Type 0
  Lined out out' r =
      (r ≡ place + line_size query * length (line_of lengths query number list))
      × (out' ≡ splice out place (lines_bytes (line_of lengths query number list)))

  pub lined-none : line_of lengths query number list ≡ [] → (out : List ℕ) → Lined out out place
  lined-none e out = (
    omega (arith, ap (λ (l : List Line). line_size query * length l) e ∙ mul-zero (line_size query)),
    sym (ap (λ (l : List Line). splice out place (lines_bytes l)) e ∙ ap (splice out place) lines-nil ∙ splice-nil out place),
  )

  module _ (choice : Choice) (c : Chosen choice (earliest lengths 0 query list)) where
    pub lined-not : choice.step ≢ length query → (out : List ℕ) → Lined out out place
    lined-not h = lined-none (no_line lengths query number list (λ e. h (c.many ∙ e)))

    module _ (e : choice.step ≡ length query) where
      -- the offsets that are written, and the bytes of the line
      abbrev offsets : List ℕ
      offsets = take (length query) choice.offsets

      complete : line_of lengths query number list ≡ record { file = number; offsets = offsets } ∷ []
      complete =
          whole-line lengths query number list (sym c.many ∙ e)
          ∙ ap (λ (o : List ℕ). record { file = number; offsets = o } ∷ []) (sym (ap (λ (n : ℕ). take n choice.offsets) (sym e) ∙ c.same))

      size : line_size query * length (line_of lengths query number list) ≡ line_size query
      size = ap (λ (l : List Line). line_size query * length l) complete ∙ mul-one (line_size query)

      pub line-room : (m : ℕ) → place + line_size query * length (line_of lengths query number list) ≤ m → place + 4 + 4 * length query ≤ m
      line-room m h = omega (arith, size)

      pub lined-whole : (out out₁ out₂ : List ℕ) → place ≤ length out → out₁ ≡ splice out place (le_bytes 4 number)
          → out₂ ≡ splice out₁ (place + 4) (fields_bytes 4 offsets) → Lined out out₂ (place + 4 + 4 * length query)
      lined-whole out out₁ out₂ h w₁ w₂ = (
        omega (arith, size),
        splice-then out place (le_bytes 4 number) (fields_bytes 4 offsets) h w₁ (ap (λ (m : ℕ). place + m) (sym (length-le_bytes 4 number))) w₂
            ∙ ap (splice out place) (sym (ap lines_bytes complete ∙ one_line number offsets)),
      )
