-- Written recipes are read back, the check accepts them up to 65,535 files, and what it accepts is written so. Each law goes file by file: a file's
-- count says where the next one starts, and its fingerprints lie 20 bytes apart. Assumes nothing.
use mathlib.Core.Path.{◌≡◌, refl, sym, ap, ap₂, ◌∙◌}
use mathlib.Core.Logic.{◌↔◌}
use mathlib.Core.Bool.{true, ◌&&◌, not}
use mathlib.Core.List.{List, [], ◌∷◌, ◌++◌, map, append_assoc}
use Prim.Native.Nat.{ℕ, zero, suc, ◌+◌, ◌*◌, ◌-◌, ◌≤◌}
use native.Mathlib.Omega.{arith}
use borrow.Author.Tests.{eqb-true, le-ltb, ltb-false, not-false}
use lib.Dec.{leb, ltb}
use lib.ListN.{length, take, drop, length-append, length-drop}
use lib.Seq.{take_at, drop_at, take-add}
use Rattle.spec.specs.Bytes.{largest32, part, le_bytes, field_at, every, joined, AllBytes}
use Rattle.spec.specs.Directory.{keys_of}
use Rattle.spec.specs.Recipes.{file_bytes, recipes_bytes, file_count, most_files, files_whole, read_files, files_of, recipes_code}
use Rattle.spec.proofs.Tests.{leb-true, le-of-and, and_left, and_right}
use Rattle.spec.proofs.Same.{same-eq}
use Rattle.spec.proofs.Codes.{passed}
use Rattle.spec.proofs.Fields.{length-le_bytes}
use Rattle.spec.proofs.FieldLists.{bytes_drop}
use Rattle.spec.proofs.EntryLaws.{length-keys}
use Rattle.spec.proofs.KnownBytes.{field-here, behind-part, behind-field}
use Rattle.spec.proofs.OneForm.{part-split, field-split}
use Rattle.theory.proofs.ListRead.{length-files}
use Rattle.theory.specs.WrittenInputs.{is_fingerprint, file_fits, WrittenRecipes}

-- ---- a file's fingerprints

key-length : (key : List ℕ) (file : List (List ℕ)) → every is_fingerprint (key ∷ file) ≡ true → length key ≡ 20
key-length key file e = eqb-true (length key) 20 (and_left (is_fingerprint key) (every is_fingerprint file) e)

length-keys-joined : (file : List (List ℕ)) → every is_fingerprint file ≡ true → length (joined file) ≡ 20 * length file
length-keys-joined [] e = refl
length-keys-joined (key ∷ file) e =
    omega (arith, length-append key (joined file), key-length key file e, length-keys-joined file (and_right (is_fingerprint key) (every is_fingerprint file) e))

keys-read : (file : List (List ℕ)) (rest : List ℕ) → every is_fingerprint file ≡ true → keys_of 20 (length file) (joined file ++ rest) ≡ file
keys-read [] rest e = refl
keys-read (key ∷ file) rest e =
    let l : length key ≡ 20 = key-length key file e in
    rw (
      append_assoc key (joined file) rest,
      take_at key (joined file ++ rest) 20 l,
      drop_at key (joined file ++ rest) 20 l,
      keys-read file rest (and_right (is_fingerprint key) (every is_fingerprint file) e),
    )

-- read and written again
keys-joined : (n : ℕ) (bytes : List ℕ) → 20 * n ≤ length bytes → joined (keys_of 20 n bytes) ≡ take (20 * n) bytes
keys-joined zero bytes h = refl
keys-joined (suc n) bytes h =
    let e : 20 * suc n ≡ 20 + 20 * n = omega arith in
    rw (keys-joined n (drop 20 bytes) (omega (arith, length-drop 20 bytes)), e) (sym (take-add 20 (20 * n) bytes))

-- ---- file by file

abbrev files_bytes : List (List (List ℕ)) → List ℕ
files_bytes files = joined (map file_bytes files)

-- what is read of the first file
record First (file : List (List ℕ)) (files : List (List (List ℕ))) : Type 0 where
  count : field_at (files_bytes (file ∷ files)) 0 4 ≡ length file
  keys : drop 4 (files_bytes (file ∷ files)) ≡ joined file ++ files_bytes files
  next : drop (4 + 20 * length file) (files_bytes (file ∷ files)) ≡ files_bytes files
  size : length (files_bytes (file ∷ files)) ≡ 4 + 20 * length file + length (files_bytes files)
  whole : every is_fingerprint file ≡ true

first-file : (file : List (List ℕ)) (files : List (List (List ℕ))) → file_fits file ≡ true → First file files
unfolding file_bytes
first-file file files f =
    let bytes : List ℕ = files_bytes (file ∷ files) in
    let at0 : bytes ≡ le_bytes 4 (length file) ++ (joined file ++ files_bytes files) = append_assoc (le_bytes 4 (length file)) (joined file) (files_bytes files) in
    let small : length file ≤ largest32 = le-of-and (length file) largest32 (every is_fingerprint file) f in
    let k : every is_fingerprint file ≡ true = and_right (leb (length file) largest32) (every is_fingerprint file) f in
    let keys : drop 4 bytes ≡ joined file ++ files_bytes files = behind-field bytes 0 4 (length file) (joined file ++ files_bytes files) at0 in
    record {
      count = field-here bytes 0 4 (length file) (joined file ++ files_bytes files) (omega arith) at0;
      keys = keys;
      next = behind-part bytes 4 (joined file) (files_bytes files) (20 * length file) (length-keys-joined file k) keys;
      size = simp (length-append, length-le_bytes, length-keys-joined file k);
      whole = k;
    }

read-files : (files : List (List (List ℕ))) → every file_fits files ≡ true → read_files (length files) (files_bytes files) ≡ files
read-files [] e = refl
read-files (file ∷ files) e =
    let r : First file files = first-file file files (and_left (file_fits file) (every file_fits files) e) in
    rw (r.count, r.keys, keys-read file (files_bytes files) r.whole, r.next, read-files files (and_right (file_fits file) (every file_fits files) e))

files-whole : (files : List (List (List ℕ))) → every file_fits files ≡ true → files_whole (length files) (files_bytes files) ≡ true
files-whole [] e = refl
files-whole (file ∷ files) e =
    let r : First file files = first-file file files (and_left (file_fits file) (every file_fits files) e) in
    let n : ℕ = length (files_bytes (file ∷ files)) in
    rw (
      r.count,
      leb-true 4 n (omega (arith, r.size)),
      leb-true (20 * length file) (n - 4) (omega (arith, r.size)),
      r.next,
      files-whole files (and_right (file_fits file) (every file_fits files) e),
    )

-- read and written again
files-are : (n : ℕ) (bytes : List ℕ) → AllBytes bytes → files_whole n bytes ≡ true → bytes ≡ files_bytes (read_files n bytes)
unfolding file_bytes
files-are zero bytes b e = same-eq bytes [] e
files-are (suc n) bytes b e =
    let c : ℕ = field_at bytes 0 4 in
    let more : List ℕ = drop (4 + 20 * c) bytes in
    let ab : (leb 4 (length bytes) && leb (20 * c) (length bytes - 4)) ≡ true = and_left _ (files_whole n more) e in
    let here : 4 ≤ length bytes = le-of-and 4 (length bytes) (leb (20 * c) (length bytes - 4)) ab in
    let room : 20 * c ≤ length bytes - 4 = le-of-and (20 * c) (length bytes - 4) true (rw (and_right (leb 4 (length bytes)) _ ab)) in
    let rest : more ≡ files_bytes (read_files n more) =
    files-are n more (bytes_drop (4 + 20 * c) bytes b) (and_right (leb 4 (length bytes) && leb (20 * c) (length bytes - 4)) (files_whole n more) e) in
    let keys : joined (keys_of 20 c (drop 4 bytes)) ≡ part bytes 4 (20 * c) = keys-joined c (drop 4 bytes) (omega (arith, length-drop 4 bytes)) in
    field-split bytes 0 4 4 _ b (omega arith) refl (part-split bytes 4 (20 * c) ∙ ap₂ {C = List ℕ} (λ x y. x ++ y) (sym keys) rest)
    ∙ ap (λ (m : ℕ). le_bytes 4 m ++ (joined (keys_of 20 c (drop 4 bytes)) ++ files_bytes (read_files n more))) (sym (length-keys 20 c (drop 4 bytes)))
    ∙ sym (append_assoc (le_bytes 4 (length (keys_of 20 c (drop 4 bytes)))) (joined (keys_of 20 c (drop 4 bytes))) (files_bytes (read_files n more)))

-- ---- the whole

module _ (files : List (List (List ℕ))) (small : length files ≤ largest32) where
  count-reads : file_count (recipes_bytes files) ≡ length files
  unfolding recipes_bytes
  count-reads = field-here (recipes_bytes files) 0 4 (length files) (files_bytes files) (omega arith) refl

  behind-count : drop 4 (recipes_bytes files) ≡ files_bytes files
  unfolding recipes_bytes
  behind-count = behind-field (recipes_bytes files) 0 4 (length files) (files_bytes files) refl

  length-recipes : 4 ≤ length (recipes_bytes files)
  unfolding recipes_bytes
  length-recipes = omega (arith, length-append (le_bytes 4 (length files)) (files_bytes files), length-le_bytes 4 (length files))

  module _ (fits : every file_fits files ≡ true) where
    pub recipes-read : files_of (recipes_bytes files) ≡ files
    unfolding files_of
    recipes-read = rw (count-reads, behind-count) (read-files files fits)

    pub recipes-accepted : (recipes_code (recipes_bytes files) ≡ 0) ↔ (length files ≤ most_files)
    unfolding recipes_code
    recipes-accepted = (few, passes)
      where
        few : recipes_code (recipes_bytes files) ≡ 0 → length files ≤ most_files
        few e =
            let a = passed (ltb (length (recipes_bytes files)) 4) 14 _ (omega arith) e in
            let b = passed (ltb most_files (file_count (recipes_bytes files))) 14 _ (omega arith) a.1 in
            omega (arith, ltb-false most_files (file_count (recipes_bytes files)) b.0, count-reads)

        passes : length files ≤ most_files → recipes_code (recipes_bytes files) ≡ 0
        passes h =
            rw (
              le-ltb (length (recipes_bytes files)) 4 length-recipes,
              count-reads,
              le-ltb most_files (length files) h,
              behind-count,
              files-whole files fits,
            )

pub recipes-written : (recipes : List ℕ) → AllBytes recipes → recipes_code recipes ≡ 0 → recipes ≡ recipes_bytes (files_of recipes)
unfolding recipes_code recipes_bytes files_of
recipes-written recipes b e =
    let x = passed (ltb (length recipes) 4) 14 _ (omega arith) e in
    let y = passed (ltb most_files (file_count recipes)) 14 _ (omega arith) x.1 in
    let z = passed (not (files_whole (file_count recipes) (drop 4 recipes))) 14 _ (omega arith) y.1 in
    let here : 4 ≤ length recipes = ltb-false (length recipes) 4 x.0 in
    let files : List (List (List ℕ)) = read_files (file_count recipes) (drop 4 recipes) in
    field-split recipes 0 4 4 _ b (omega arith) refl
    (files-are (file_count recipes) (drop 4 recipes) (bytes_drop 4 recipes b) (not-false (files_whole (file_count recipes) (drop 4 recipes)) z.0))
    ∙ ap (λ (m : ℕ). le_bytes 4 m ++ files_bytes files) (sym (length-files (file_count recipes) (drop 4 recipes)))

pub written-recipes : WrittenRecipes
written-recipes = record { reads = recipes-read; accepted = recipes-accepted; written = recipes-written }
