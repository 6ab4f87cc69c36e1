-- Each text as the runs of bytes that are written one after the other. Assumes nothing.
use mathlib.Core.Path.{◌≡◌, refl, ap}
use mathlib.Core.List.{List, [], ◌∷◌, ◌++◌, append_assoc}
use Prim.Native.Nat.{ℕ, zero, suc, ◌+◌, ◌*◌, ◌-◌, ◌≤◌, ◌<◌}
use native.Mathlib.Omega.{arith}
use lib.ListN.{length, drop}
use lib.Seq.{drop-drop}
use Rattle.spec.specs.Join.{read_list}
use Rattle.spec.specs.Bytes.{field_at}
use Rattle.spec.specs.Program.{decimal, finds_word, refused_word, too_long_words, occurrence_text, occurrences_text, list_text, refused_text, too_long_text}
use Rattle.output.specs.Lines.{row_text, rows_text}

pub refused-runs : (code : ℕ) → refused_text code ≡ (refused_word ++ (0x20 ∷ [])) ++ (decimal code ++ (0x0A ∷ []))
unfolding refused_text
refused-runs code = refl

pub too-long-runs : (name : List ℕ) → too_long_text name ≡ (too_long_words ++ (0x20 ∷ [])) ++ (name ++ (0x0A ∷ []))
unfolding too_long_text
too-long-runs name = refl

-- ---- an occurrence

pub row-runs : (list : List ℕ) (from file offset keyword : ℕ)
    → file ≡ field_at list from 4 → offset ≡ field_at list (from + 4) 4 → keyword ≡ field_at list (from + 8) 1
    → row_text list from ≡ (decimal file ++ (0x20 ∷ [])) ++ ((decimal offset ++ (0x20 ∷ [])) ++ (decimal keyword ++ (0x0A ∷ [])))
unfolding row_text
row-runs list from file offset keyword a b c = rw (a, b, c) refl

-- ---- all occurrences

rows_none : (list : List ℕ) (from : ℕ) → rows_text list 0 from ≡ []
unfolding rows_text occurrences_text
rows_none list from = refl

rows-cons : (list : List ℕ) (n from : ℕ) → rows_text list (suc n) from ≡ row_text list from ++ rows_text list n (from + 9)
unfolding rows_text occurrences_text occurrence_text row_text
rows-cons list n from = rw (drop-drop 4 from list, drop-drop 8 from list, drop-drop 9 from list) refl

-- as many as are left after i of them
pub rows_more : (list : List ℕ) (count i : ℕ) → i < count
    → rows_text list (count - i) (9 * i) ≡ row_text list (9 * i) ++ rows_text list (count - (i + 1)) (9 * (i + 1))
rows_more list count i l =
    let e : count - i ≡ suc (count - (i + 1)) = omega arith in
    let d : 9 * (i + 1) ≡ 9 * i + 9 = omega arith in
    rw (e, d) (rows-cons list (count - (i + 1)) (9 * i))

pub rows_end : (list : List ℕ) (count i : ℕ) → count ≤ i → rows_text list (count - i) (9 * i) ≡ []
rows_end list count i l = let z : count - i ≡ 0 = omega arith in rw z (rows_none list (9 * i))

-- ---- the list

length-read : (n : ℕ) (bytes : List ℕ) → length (read_list n bytes) ≡ n
length-read zero bytes = refl
length-read (suc n) bytes = ap suc (length-read n (drop 9 bytes))

pub list-runs : (list : List ℕ) (count : ℕ)
    → list_text (read_list count list) ≡ (finds_word ++ (0x20 ∷ [])) ++ ((decimal count ++ (0x0A ∷ [])) ++ rows_text list count 0)
unfolding list_text rows_text
list-runs list count =
    rw (length-read count list)
    (append_assoc (finds_word ++ (0x20 ∷ [])) (decimal count ++ (0x0A ∷ [])) (occurrences_text (read_list count list)))
