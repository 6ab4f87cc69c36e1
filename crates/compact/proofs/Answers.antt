-- The answers of a compaction, each by the tests that led there: the numbers before 9, the marked chunks, the new store's length. Assumes nothing.
use mathlib.Core.Path.{◌≡◌, refl, sym, ap, ap₂, ◌∙◌}
use mathlib.Core.Logic.{◌≢◌, ⊎_elim}
use mathlib.Core.Bool.{Bool, true, false, ◌||◌, not, cond, or-false}
use mathlib.Core.List.{List, [], ◌∷◌, map}
use Prim.Native.Nat.{ℕ, zero, suc, ◌+◌, ◌*◌, ◌≤◌, ◌<◌}
use native.Mathlib.Nat.{sub-zero}
use native.Mathlib.Omega.{arith}
use borrow.Author.Tests.{ne_eqb, lt-ltb, le-ltb}
use lib.ListN.{length, get_or, replicate}
use Rattle.spec.specs.Bytes.{contains, each, splice}
use Rattle.spec.specs.Outcome.{first_number, answer, unless_refused, not_found, Outcome, Done, Refused}
use Rattle.spec.specs.Store.{Chunk, gapless, store_directory_bytes, store_bytes, chunk_count, store_keys, stored_chunk, stored_chunks, store_code}
use Rattle.spec.specs.Recipes.{recipes_code}
use Rattle.spec.specs.Compact.{named_in, named_among, compacted, compactable_code, compact_code, compact_size, compact_outcome, compact_buffer}
use Rattle.spec.proofs.Tests.{bool_cases}
use Rattle.spec.proofs.Codes.{refused-whole, next-whole}
use Rattle.spec.proofs.StoreLaws.{store-good, length-store_keys}
use Rattle.compact.specs.Marking.{all_found, found_code, MarkedAll, marked_at, marked_from, chunk_bytes}
use Rattle.compact.specs.Writing.{Examined}
use Rattle.compact.proofs.Writing.{directory-long, length-store}

-- ---- the marked chunks are the named ones

module _ (store : List ℕ) (marks : List Bool) (names : List (List ℕ)) where
  abbrev is_named : ℕ → Bool
  is_named k = contains (get_or (store_keys store) k []) names

  marked-named : (n k : ℕ) → ((j : ℕ) → k ≤ j → j < k + n → get_or marks j false ≡ is_named j)
      → each (λ j. marked_at store (get_or marks j false) j) k n ≡ named_among names (each (λ j. stored_chunk store j ∷ []) k n)
  marked-named zero k h = refl
  marked-named (suc n) k h =
      let rest = marked-named n (suc k) (λ j l m. h j (omega arith) (omega arith)) in
      ⊎_elim
      (λ t. rw (h k (omega arith) (omega arith), t) (ap (λ (cs : List Chunk). stored_chunk store k ∷ cs) rest))
      (λ f. rw (h k (omega arith) (omega arith), f) rest)
      (bool_cases (is_named k))

-- ---- the numbers before 9

module _ (store recipes : List ℕ) where
  pub store-refused : (code : ℕ) → code ≡ store_code store → code ≢ 0 → code ≡ compactable_code store recipes
  unfolding compactable_code
  store-refused code e d = e ∙ refused-whole (store_code store) _ (λ z. d (e ∙ z))

  module _ (z : store_code store ≡ 0) where
    pub recipes-refused : (code : ℕ) → code ≡ recipes_code recipes → code ≢ 0 → code ≡ compactable_code store recipes
    unfolding compactable_code
    recipes-refused code e d = e ∙ refused-whole (recipes_code recipes) _ (λ y. d (e ∙ y)) ∙ sym (next-whole (store_code store) _ z)

    module _ (y : recipes_code recipes ≡ 0) where
      missing-told : (code : ℕ) → code ≡ found_code (store_keys store) (named_in recipes) → code ≡ compactable_code store recipes
      unfolding compactable_code
      missing-told code e =
          e
          ∙ sym (next-whole (store_code store) _ z ∙ next-whole (recipes_code recipes) _ y ∙ last (all_found (store_keys store) (named_in recipes)))
        where
          last : (b : Bool) → first_number ((not b, not_found) ∷ []) ≡ cond b 0 not_found
          last true = refl
          last false = refl

      module _ (marks₀ marks : List Bool) (none : (e : ℕ) → get_or marks₀ e false ≡ false) (long : length marks ≡ 65000)
          (code : ℕ) (m : MarkedAll store recipes marks₀ marks code) where
        mark-is : code ≡ 0 → (k : ℕ) → k < chunk_count store → get_or marks k false ≡ contains (get_or (store_keys store) k []) (named_in recipes)
        mark-is f k l =
            m.marked f k (omega (arith, length-store_keys store))
            ∙ ap (λ (b : Bool). contains (get_or (store_keys store) k []) (named_in recipes) || b) (none k)
            ∙ or-false (contains (get_or (store_keys store) k []) (named_in recipes))

        pub examined-marked : Examined store recipes marks code
        unfolding stored_chunks
        examined-marked = record {
          told = missing-told code m.told;
          marked = λ f. record { checked = z; counts = refl; long = omega (arith, long, (store-good store z).few) };
          chunks = λ f.
              ap (λ (n : ℕ). each (λ j. marked_at store (get_or marks j false) j) 0 n) (sub-zero (chunk_count store))
              ∙ marked-named store marks (named_in recipes) (chunk_count store) 0 (λ j l h. mark-is f j (omega arith));
        }

pub examined-refused : (store recipes : List ℕ) (marks : List Bool) (code : ℕ) → code ≡ compactable_code store recipes → code ≢ 0
    → Examined store recipes marks code
examined-refused store recipes marks code e d = record { told = e; marked = λ z. absurd (d z); chunks = λ z. absurd (d z) }

-- where the number is 0
pub examined-zero : (store recipes : List ℕ) (marks : List Bool) (code : ℕ) → code ≡ 0 → Examined store recipes marks code → Examined store recipes marks 0
examined-zero store recipes marks code z e = record { told = sym z ∙ e.told; marked = λ y. e.marked z; chunks = λ y. e.chunks z }

-- no entry is marked
pub all-unmarked : (n i : ℕ) → get_or (replicate {A = Bool} n false) i false ≡ false
all-unmarked zero i = refl
all-unmarked (suc n) zero = refl
all-unmarked (suc n) (suc i) = all-unmarked n i

-- ---- the operation

-- the marked chunks' own count and bytes make the new store's length
pub size_is : (store recipes : List ℕ) (marks : List Bool) (n size : ℕ) → Examined store recipes marks 0 → n ≡ length (marked_from store marks 0)
    → size ≡ length (chunk_bytes (marked_from store marks 0)) → 8 + 28 * n + size ≡ length (compacted store recipes)
unfolding compacted
size_is store recipes marks n size e p q =
    let k = e.marked refl in
    let cs = marked_from store marks 0 in
    let d : 28 * length cs ≡ length (store_directory_bytes (8 + 28 * length cs) (map gapless cs)) =
    sym (directory-long store marks k.checked (chunk_count store) 0 (8 + 28 * length cs) (omega arith)) in
    ap₂ {C = ℕ} (λ x y. 8 + 28 * x + y) p q ∙ length-store cs d ∙ ap (λ (l : List Chunk). length (store_bytes l)) (e.chunks refl)

module _ (store recipes : List ℕ) where
  pub size-refused : (code : ℕ) → code ≡ compactable_code store recipes → code ≢ 0 → Refused code ≡ compact_size store recipes
  unfolding compact_size answer
  size-refused code e d = rw (← e, ne_eqb code 0 d)

  pub size-done : 0 ≡ compactable_code store recipes → (n : ℕ) → n ≡ length (compacted store recipes) → Done n ≡ compact_size store recipes
  unfolding compact_size answer
  size-done e n p = rw (← e, ← p)

module _ (store recipes out : List ℕ) where
  -- the answer and the buffer after it
  abbrev Told : Outcome → List ℕ → Type 0
  Told outcome out' = (outcome ≡ compact_outcome store recipes (length out)) × (out' ≡ compact_buffer store recipes out)

  refused : (code : ℕ) → code ≡ compact_code store recipes (length out) → code ≢ 0 → Told (Refused code) out
  unfolding compact_outcome compact_buffer answer unless_refused
  refused code e d = (rw (← e, ne_eqb code 0 d), rw (← e, ne_eqb code 0 d))

  pub compact-refused : (code : ℕ) → code ≡ compactable_code store recipes → code ≢ 0 → Told (Refused code) out
  unfolding compact_code
  compact-refused code e d = refused code (e ∙ refused-whole (compactable_code store recipes) _ (λ z. d (e ∙ z))) d

  module _ (z : 0 ≡ compactable_code store recipes) (n : ℕ) (p : n ≡ length (compacted store recipes)) where
    pub compact-long : length out < n → Told (Refused 9) out
    unfolding compact_code
    compact-long h =
        refused 9 (sym (next-whole (compactable_code store recipes) _ (sym z) ∙ rw (lt-ltb (length out) (length (compacted store recipes)) (omega arith))))
        (λ y. omega arith)

    pub compact-done : n ≤ length out → (out' : List ℕ) → out' ≡ splice out 0 (compacted store recipes) → Told (Done n) out'
    unfolding compact_outcome compact_buffer compact_code answer unless_refused
    compact-done h out' w =
        let e : compact_code store recipes (length out) ≡ 0 =
        next-whole (compactable_code store recipes) _ (sym z) ∙ rw (le-ltb (length out) (length (compacted store recipes)) (omega arith)) in
        (rw (e, ← p), w ∙ rw e)
