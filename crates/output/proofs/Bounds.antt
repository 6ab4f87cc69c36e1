-- How long the program's text can be. Assumes nothing.
use mathlib.Core.Path.{◌≡◌, refl, sym, ap, ◌∙◌}
use mathlib.Core.Logic.{◌⊎◌, inl, inr}
use mathlib.Core.Bool.{Bool, true, false, ◌||◌, or-true, false≢true}
use mathlib.Core.List.{List, [], ◌∷◌, ◌++◌}
use Prim.Native.Nat.{ℕ, ◌+◌, ◌*◌, ◌≤◌}
use native.Mathlib.Omega.{arith}
use lib.ListN.{length, length-append}
use lib.Dec.{eqb, leb, ltb}
use borrow.Author.Tests.{eqb-true, leb-true}
use Rattle.spec.specs.Bytes.{every, member}
use Rattle.spec.specs.Form.{newest}
use Rattle.spec.specs.Join.{Occurrence, one_client}
use Rattle.spec.specs.Search.{direct_search, search_code}
use Rattle.spec.proofs.Tests.{bool_cases, and_left, and_right, cond-elim}
use Rattle.theory.specs.SearchList.{is_in}
use Rattle.theory.proofs.SearchList.{same_self}
use Rattle.theory.proofs.Numbers.{of_search, numbers}
use Rattle.spec.proofs.ListBytes.{Fits}
use Rattle.spec.specs.Program.{decimal, occurrence_text, occurrences_text, list_text, refused_text, too_long_text, store_name, words_name, recipes_name}
use Rattle.spec.specs.Program.{program_room, search_text, program_text, longest_text}
use Rattle.output.proofs.Decimals.{decimal-length}
use Rattle.output.proofs.Answers.{fits, few}

-- ---- a list of occurrences

-- a word of a line and the byte that ends it
ended : (word : List ℕ) (end : ℕ) → length (word ++ (end ∷ [])) ≡ length word + 1
ended word end = length-append word (end ∷ [])

occurrence-length : (o : Occurrence) → Fits o → length (occurrence_text o) ≤ 26
unfolding occurrence_text
occurrence-length o f =
    let file = decimal o.file ++ (0x20 ∷ []) in
    let offset = decimal o.offset ++ (0x20 ∷ []) in
    let keyword = decimal o.keyword ++ (0x0A ∷ []) in
    let a : length (decimal o.file) ≤ 10 = decimal-length 9 o.file (omega (arith, f.file)) in
    let b : length (decimal o.offset) ≤ 10 = decimal-length 9 o.offset (omega (arith, f.offset)) in
    let c : length (decimal o.keyword) ≤ 3 = decimal-length 2 o.keyword (omega (arith, f.keyword)) in
    let n : length (file ++ (offset ++ keyword)) ≡ length file + (length offset + length keyword) =
    length-append file (offset ++ keyword) ∙ ap (λ (k : ℕ). length file + k) (length-append offset keyword) in
    omega (arith, a, b, c, n, ended (decimal o.file) 0x20, ended (decimal o.offset) 0x20, ended (decimal o.keyword) 0x0A)

occurrences-length : (os : List Occurrence) → ((o : Occurrence) → is_in o os ≡ true → Fits o) → length (occurrences_text os) ≤ 26 * length os
unfolding occurrences_text
occurrences-length [] h = omega arith
occurrences-length (o ∷ os) h =
    let a : length (occurrence_text o) ≤ 26 = occurrence-length o (h o (rw (same_self o))) in
    let b : length (occurrences_text os) ≤ 26 * length os = occurrences-length os (λ p e. h p (rw (e, or-true))) in
    rw length-append (omega (arith, a, b))

-- ---- a refusal

-- every number of a list is at most 99
most : (x : ℕ) (numbers : List ℕ) → every (λ y. leb y 99) numbers ≡ true → member x numbers ≡ true → x ≤ 99
most x [] e m = absurd (false≢true m)
most x (y ∷ ys) e m = go (bool_cases (eqb x y)) (λ q. most x ys (and_right (leb y 99) (every (λ z. leb z 99) ys) e) q)
  where
    go : (eqb x y ≡ true) ⊎ (eqb x y ≡ false) → (member x ys ≡ true → x ≤ 99) → x ≤ 99
    go (inl t) ih = omega (arith, eqb-true x y t, leb-true y 99 (and_left (leb y 99) (every (λ z. leb z 99) ys) e))
    go (inr f) ih = ih (sym (ap (λ (b : Bool). b || member x ys) f) ∙ m)

-- a search answers no number of more than two digits
search-le : (words store recipes : List ℕ) (index_room room : ℕ) → search_code newest words store recipes one_client index_room room ≤ 99
search-le words store recipes index_room room =
    most (search_code newest words store recipes one_client index_room room) of_search refl (numbers.searches words store recipes one_client index_room room)

-- ---- the whole text

list_length : (os : List Occurrence) → ((o : Occurrence) → is_in o os ≡ true → Fits o) → 9 * length os ≤ program_room → length (list_text os) ≤ longest_text
unfolding list_text
list_length os h m =
    let a : length (decimal (length os)) ≤ 4 = decimal-length 3 (length os) (omega (arith, m)) in
    let n = length-append (decimal (length os) ++ (0x0A ∷ [])) (occurrences_text os) in
    omega (arith, a, m, n, ended (decimal (length os)) 0x0A, occurrences-length os h)

refused-length : (code : ℕ) → code ≤ 99 → length (refused_text code) ≤ longest_text
unfolding refused_text
refused-length code l =
    let a : length (decimal code) ≤ 2 = decimal-length 1 code (omega (arith, l)) in
    omega (arith, a, ended (decimal code) 0x0A)

module _ (store words recipes : List ℕ) where
  pub search-length : length (search_text store words recipes) ≤ longest_text
  unfolding search_text
  search-length =
      let code = search_code newest words store recipes one_client program_room program_room in
      cond-elim (λ (t : List ℕ). length t ≤ longest_text) (eqb code 0) (list_text (direct_search words store recipes)) (refused_text code)
      (λ e. let z : code ≡ 0 = eqb-true code 0 e in list_length (direct_search words store recipes) (fits store words recipes z) (few store words recipes z))
      (λ e. refused-length code (search-le words store recipes program_room program_room))

  pub text-length : length (program_text store words recipes) ≤ longest_text
  unfolding program_text too_long_text
  text-length =
      cond-elim (λ (t : List ℕ). length t ≤ longest_text) (ltb program_room (length store)) (too_long_text store_name) _ (λ e. omega arith)
      (λ e. cond-elim (λ (t : List ℕ). length t ≤ longest_text) (ltb program_room (length words)) (too_long_text words_name) _ (λ d. omega arith)
      (λ d. cond-elim (λ (t : List ℕ). length t ≤ longest_text) (ltb program_room (length recipes)) (too_long_text recipes_name) _ (λ c. omega arith)
      (λ c. search-length)))
