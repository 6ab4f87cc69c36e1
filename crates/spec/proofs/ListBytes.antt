-- Laws of the list's bytes (document 01: 9 bytes a find). Assumes nothing.
use mathlib.Core.Path.{◌≡◌, refl, sym, ap, ap₂, ◌∙◌}
use mathlib.Core.List.{List, [], ◌∷◌, ◌++◌, append_assoc}
use Prim.Native.Nat.{ℕ, suc, ◌*◌, ◌^◌, ◌<◌}
use native.Mathlib.Omega.{arith}
use lib.ListN.{length, drop, get_or, length-append}
use Rattle.spec.specs.Bytes.{field_at, le_bytes}
use Rattle.spec.specs.Join.{Occurrence, occurrence_bytes, list_bytes, read_list}
use Rattle.spec.proofs.Fields.{length-le_bytes}
use Rattle.spec.proofs.KnownBytes.{field-here, behind-field}

pub length-occurrence : (o : Occurrence) → length (occurrence_bytes o) ≡ 9
unfolding occurrence_bytes
length-occurrence o = simp (length-append, length-le_bytes)

pub length-list : (os : List Occurrence) → length (list_bytes os) ≡ 9 * length os
unfolding list_bytes
length-list [] = refl
length-list (o ∷ os) = omega (arith, length-append (occurrence_bytes o) (list_bytes os), length-occurrence o, length-list os)

pub list-cons : (o : Occurrence) (os : List Occurrence) → list_bytes (o ∷ os) ≡ occurrence_bytes o ++ list_bytes os
unfolding list_bytes
list-cons o os = refl

pub list-nil : list_bytes [] ≡ []
unfolding list_bytes
list-nil = refl

pub list-append : (xs ys : List Occurrence) → list_bytes (xs ++ ys) ≡ list_bytes xs ++ list_bytes ys
unfolding list_bytes
list-append [] ys = refl
list-append (o ∷ xs) ys = rw (list-append xs ys) (sym (append_assoc (occurrence_bytes o) (list_bytes xs) (list_bytes ys)))

-- ---- what is written reads back

-- The numbers of an occurrence fit their fields.
pub record Fits (o : Occurrence) : Type 0 where
  pub file : o.file < 256 ^ 4
  pub offset : o.offset < 256 ^ 4
  pub keyword : o.keyword < 256 ^ 1

pub list-reads : (os : List Occurrence) (rest : List ℕ) → ((k : ℕ) → k < length os → (none : Occurrence) → Fits (get_or os k none))
    → read_list (length os) (list_bytes os ++ rest) ≡ os
unfolding list_bytes occurrence_bytes
list-reads [] rest h = refl
list-reads (o ∷ os) rest h =
    ap₂ {C = List Occurrence} (λ x xs. x ∷ xs) (λ i. record { file = file i; offset = offset i; keyword = keyword i })
    (ap (read_list (length os)) (behind-field bytes 8 1 o.keyword (list_bytes os ++ rest) at8) ∙ list-reads os rest (λ k l none. h (suc k) (omega arith) none))
  where
    bytes : List ℕ
    bytes = list_bytes (o ∷ os) ++ rest

    fits : Fits o
    fits = h 0 (omega arith) o

    at0 : bytes ≡ le_bytes 4 o.file ++ (le_bytes 4 o.offset ++ (le_bytes 1 o.keyword ++ (list_bytes os ++ rest)))
    at0 = simp append_assoc

    at4 : drop 4 bytes ≡ le_bytes 4 o.offset ++ (le_bytes 1 o.keyword ++ (list_bytes os ++ rest))
    at4 = behind-field bytes 0 4 o.file (le_bytes 4 o.offset ++ (le_bytes 1 o.keyword ++ (list_bytes os ++ rest))) at0

    at8 : drop 8 bytes ≡ le_bytes 1 o.keyword ++ (list_bytes os ++ rest)
    at8 = behind-field bytes 4 4 o.offset (le_bytes 1 o.keyword ++ (list_bytes os ++ rest)) at4

    file : field_at bytes 0 4 ≡ o.file
    file = field-here bytes 0 4 o.file (le_bytes 4 o.offset ++ (le_bytes 1 o.keyword ++ (list_bytes os ++ rest))) fits.file at0

    offset : field_at bytes 4 4 ≡ o.offset
    offset = field-here bytes 4 4 o.offset (le_bytes 1 o.keyword ++ (list_bytes os ++ rest)) fits.offset at4

    keyword : field_at bytes 8 1 ≡ o.keyword
    keyword = field-here bytes 8 1 o.keyword (list_bytes os ++ rest) fits.keyword at8
