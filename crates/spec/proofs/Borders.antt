-- Where the definitions change their answer, by computation: one law on each side of a border. The must-fail edits of this crate move these
-- borders. Assumes nothing.
use mathlib.Core.Path.{◌≡◌, refl}
use mathlib.Core.Bool.{true}
use mathlib.Core.List.{List, [], ◌∷◌}
use Prim.Native.Nat.{ℕ}
use lib.ListN.{length, replicate}
use Rattle.spec.specs.Bytes.{le_bytes, fields_bytes, in_set}
use Rattle.spec.specs.Keywords.{is_upper, fold_byte, folded, keywords_of}
use Rattle.spec.specs.Form.{form1}
use Rattle.spec.specs.Records.{reach, prefix_of, suffix_of, offsets_of, record_of, records_of, kind_of, offsets_bytes, full_bytes, record_bytes, head_bytes, inner_of}
use Rattle.spec.specs.Table.{in_cell}
use Rattle.spec.specs.Join.{occurrences_at, crosses, starts, goes_on, listed, join_from, join_files, inner_least}

-- 40 and 5B stay, 41 and 5A are folded
pub fold-borders : folded 1 (0x40 ∷ 0x41 ∷ 0x5A ∷ 0x5B ∷ []) ≡ 0x40 ∷ 0x61 ∷ 0x7A ∷ 0x5B ∷ []
unfolding folded fold_byte is_upper
fold-borders = refl

-- BF, D7, DF, F7 and FF stay, C0, D6, D8 and DE are folded; none is with flag 0
pub accent-borders : (folded 1 (0xBF ∷ 0xC0 ∷ 0xD6 ∷ 0xD7 ∷ 0xD8 ∷ 0xDE ∷ 0xDF ∷ 0xF7 ∷ 0xFF ∷ [])
    ≡ 0xBF ∷ 0xE0 ∷ 0xF6 ∷ 0xD7 ∷ 0xF8 ∷ 0xFE ∷ 0xDF ∷ 0xF7 ∷ 0xFF ∷ [])
    × (folded 0 (0x41 ∷ 0xC0 ∷ 0xDE ∷ []) ≡ 0x41 ∷ 0xC0 ∷ 0xDE ∷ [])
unfolding folded fold_byte is_upper
accent-borders = (refl, refl)

-- kinds 1, 2 and 3
pub kind-borders : (kind_of 1 ≡ 1) × (kind_of 2 ≡ 2) × (kind_of 254 ≡ 2) × (kind_of 255 ≡ 3)
kind-borders = (refl, refl, refl, refl)

-- the exact count is written from 255 on
pub count-borders : (length (offsets_bytes form1 (replicate 254 0)) ≡ 508) × (length (offsets_bytes form1 (replicate 255 0)) ≡ 512)
unfolding offsets_bytes le_bytes fields_bytes
count-borders = (refl, refl)

-- a prefix or suffix of length 1 is tiny, one of length 2 is not
pub tiny-borders : (record_bytes form1 3 0 (record { prefix = 1; suffix = 1; offsets = []; inner = 0 }) ≡ 0 ∷ 0 ∷ 3 ∷ [])
    × (record_bytes form1 3 0 (record { prefix = 2; suffix = 0; offsets = []; inner = 0 }) ≡ 0 ∷ 1 ∷ 2 ∷ 0 ∷ 0 ∷ 0 ∷ 0 ∷ [])
unfolding record_bytes full_bytes head_bytes offsets_bytes le_bytes
tiny-borders = (refl, refl)

-- AA in AA: the prefix is short of the whole keyword
pub prefix-border : (prefix_of (replicate 2 0x41) (replicate 2 0x41) ≡ 1) × (suffix_of (replicate 2 0x41) (replicate 2 0x41) ≡ 1)
unfolding prefix_of suffix_of reach
prefix-border = (refl, refl)

-- AAAA on A and on AA: starts 1 and 2, start 1; none for AAA
pub inner-borders : (inner_of (replicate 4 0x41) (replicate 1 0x41) ≡ 6) × (inner_of (replicate 4 0x41) (replicate 2 0x41) ≡ 2)
    × (inner_of (replicate 4 0x41) (replicate 3 0x41) ≡ 0)
unfolding inner_of
inner-borders = (refl, refl, refl)

-- AAAA: each of the three starts of a cell is crossed
pub every-start : (crosses (replicate 4 0x41) 3 3 3 ≡ true) × (crosses (replicate 4 0x41) 3 3 2 ≡ true) × (crosses (replicate 4 0x41) 3 3 1 ≡ true)
unfolding crosses in_cell
every-start = (refl, refl, refl)

-- AA over A and A: two tiny records join, in one file and not from one file to the next
abbrev pub letter_a : List ℕ
letter_a = 0x41 ∷ []

abbrev pub two_as : List (List ℕ)
two_as = replicate 2 0x41 ∷ []

pub file-border : (join_files 0 two_as ((records_of form1 two_as letter_a ∷ records_of form1 two_as letter_a ∷ []) ∷ []) ≡ record { file = 0; offset = 0; keyword = 0 } ∷ [])
    × (join_files 0 two_as ((records_of form1 two_as letter_a ∷ []) ∷ (records_of form1 two_as letter_a ∷ []) ∷ []) ≡ [])
unfolding join_files join_from occurrences_at listed crosses in_cell starts goes_on in_set records_of record_of prefix_of suffix_of offsets_of reach
file-border = (refl, refl)

-- keyword ABA: an inner chunk must have 2 bytes
pub inner_least-border : inner_least form1 (1 ∷ 0 ∷ 3 ∷ 0x41 ∷ 0x42 ∷ 0x41 ∷ []) ≡ 2
unfolding inner_least keywords_of
inner_least-border = refl
