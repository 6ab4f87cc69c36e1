-- The list that a join writes reads back: every number of the direct search fits its field, since there are at most 65,535 files (14), no file has
-- more than 4,294,967,295 bytes (16), and there are at most 16 keywords. Assumes nothing.
use mathlib.Core.Path.{◌≡◌, refl, sym, ap, ◌∙◌}
use mathlib.Core.Bool.{Bool, true, ◌&&◌, or-true}
use mathlib.Core.List.{List, [], ◌∷◌, ◌++◌, map}
use Prim.Native.Nat.{ℕ, zero, suc, ◌+◌, ◌*◌, ◌≤◌, ◌<◌}
use native.Mathlib.Nat.{not-suc-le-zero}
use native.Mathlib.Omega.{arith}
use lib.ListN.{length, get_or, drop, length-append, length-map}
use lib.Dec.{ltb}
use borrow.Author.Tests.{ltb-true, ltb-false}
use Rattle.spec.specs.Bytes.{largest32, field_at, occurs_at, sum, joined}
use Rattle.spec.specs.Keywords.{flag_of, folded, folded_keywords, keyword_code}
use Rattle.spec.specs.Directory.{size_at}
use Rattle.spec.specs.Store.{store_layout, store_keys}
use Rattle.spec.specs.Form.{Form}
use Rattle.spec.specs.Recipes.{most_files, file_count, read_files, files_code, files_of, recipes_code}
use Rattle.spec.specs.Join.{Occurrence, keyword_at, list_bytes, read_list}
use Rattle.spec.specs.Search.{chunk_named, restored, direct_search}
use Rattle.spec.proofs.Tests.{and_left, and_right}
use Rattle.spec.proofs.Codes.{passed}
use Rattle.spec.proofs.FileLaws.{FileAccepted, files-accepted}
use Rattle.spec.proofs.Folding.{folded-length}
use Rattle.spec.proofs.JoinIsSearch.{get_d_map}
use Rattle.spec.proofs.KeywordLaws.{Accepted, accepted, keyword-front, folded-count}
use Rattle.spec.proofs.ScanLaws.{ScanReads}
use Rattle.spec.proofs.ListBytes.{Fits, list-reads}
use Rattle.theory.specs.SearchList.{is_in}
use Rattle.theory.specs.Demand3.{restored_files}
use Rattle.theory.proofs.SearchList.{same_self, direct-search-list}
use Rattle.theory.proofs.ScanThenJoin.{file-lengths}

-- ---- members

pub member-at : (os : List Occurrence) (k : ℕ) → k < length os → (none : Occurrence) → is_in (get_or os k none) os ≡ true
member-at [] k l none = absurd (not-suc-le-zero l)
member-at (o ∷ os) zero l none = rw (same_self o)
member-at (o ∷ os) (suc k) l none = rw (member-at os k (omega arith) none, or-true)

-- a list of occurrences that fit their fields reads back
pub read-written : (os : List Occurrence) (rest : List ℕ) → ((o : Occurrence) → is_in o os ≡ true → Fits o) → read_list (length os) (list_bytes os ++ rest) ≡ os
read-written os rest h = list-reads os rest (λ k l none. h (get_or os k none) (member-at os k l none))

-- ---- the bounds

length-joined : (cs : List (List ℕ)) → length (joined cs) ≡ sum (map length cs)
length-joined [] = refl
length-joined (c ∷ cs) = length-append c (joined cs) ∙ rw (length-joined cs)

pub length-files : (n : ℕ) (bytes : List ℕ) → length (read_files n bytes) ≡ n
length-files zero bytes = refl
length-files (suc n) bytes = ap suc (length-files n (drop (4 + 20 * field_at bytes 0 4) bytes))

pub few-files : (recipes : List ℕ) → recipes_code recipes ≡ 0 → length (files_of recipes) ≤ most_files
unfolding recipes_code files_of
few-files recipes e =
    let a = passed (ltb (length recipes) 4) 14 _ (omega arith) e in
    let b = passed (ltb most_files (file_count recipes)) 14 _ (omega arith) a.1 in
    omega (arith, ltb-false most_files (file_count recipes) b.0, length-files (file_count recipes) (drop 4 recipes))

module _ (f : Form) (list store index recipes : List ℕ) (accept : keyword_code list ≡ 0) (reads : ScanReads f list store index) (least : ℕ)
    (known : recipes_code recipes ≡ 0) (good : files_code (store_keys store) (size_at store_layout store) least (files_of recipes) ≡ 0) where
  pub short-text : (n : ℕ) → n < length (files_of recipes) → length (get_or (restored_files list store recipes) n []) ≤ largest32
  unfolding restored
  short-text n l =
      let g : FileAccepted (store_keys store) (size_at store_layout store) least (get_or (files_of recipes) n []) =
      files-accepted (store_keys store) (size_at store_layout store) least (files_of recipes) n good l in
      rw (
        get_d_map (λ file. folded (flag_of list) (restored store file)) (files_of recipes) n [] [] l,
        folded-length,
        length-joined (map (chunk_named store) (get_or (files_of recipes) n [])),
        file-lengths f list store index accept reads (get_or (files_of recipes) n []) g.known,
      )
      g.short

  pub occurrence-fits : (o : Occurrence) → is_in o (direct_search list store recipes) ≡ true → Fits o
  occurrence-fits o e =
      let a : Bool = ltb o.file (length (restored_files list store recipes)) in
      let b : Bool = ltb o.offset (length (get_or (restored_files list store recipes) o.file [])) in
      let c : Bool = ltb o.keyword (length (folded_keywords list)) in
      let d : Bool = occurs_at (keyword_at (folded_keywords list) o.keyword) (get_or (restored_files list store recipes) o.file []) o.offset in
      let abcd : (a && b && c && d) ≡ true = sym ((direct-search-list list store recipes).exactly o) ∙ e in
      let abc : (a && b && c) ≡ true = and_left (a && b && c) d abcd in
      let ab : (a && b) ≡ true = and_left (a && b) c abc in
      let p : o.file < length (restored_files list store recipes) = ltb-true o.file (length (restored_files list store recipes)) (and_left a b ab) in
      let q : o.offset < length (get_or (restored_files list store recipes) o.file []) =
      ltb-true o.offset (length (get_or (restored_files list store recipes) o.file [])) (and_right a b ab) in
      let r : o.keyword < length (folded_keywords list) = ltb-true o.keyword (length (folded_keywords list)) (and_right (a && b) c abc) in
      let n : o.file < length (files_of recipes) = omega (arith, p, length-map (files_of recipes) (λ file. folded (flag_of list) (restored store file))) in
      let k : Accepted list = accepted list (keyword-front list accept) in
      record {
        file = omega (arith, n, few-files recipes known);
        offset = omega (arith, q, short-text o.file n);
        keyword = omega (arith, r, folded-count list, k.count, k.most);
      }

  pub list_read : (rest : List ℕ) → read_list (length (direct_search list store recipes)) (list_bytes (direct_search list store recipes) ++ rest)
      ≡ direct_search list store recipes
  list_read rest = read-written (direct_search list store recipes) rest occurrence-fits
