-- The turns of the marking: a place of a file, a file of the recipes. Assumes nothing.
use mathlib.Core.Path.{◌≡◌, refl, sym, ap, ◌∙◌}
use mathlib.Core.Logic.{◌≢◌, ◌⊎◌, inl, inr, ⊎_elim}
use mathlib.Core.Bool.{Bool, true, false, ◌&&◌, cond, and_assoc}
use mathlib.Core.List.{List, [], ◌∷◌, ◌++◌}
use Prim.Native.Nat.{ℕ, ◌+◌, ◌*◌, ◌/◌, ◌≤◌, ◌<◌}
use native.Mathlib.Nat.{zero-add}
use native.Mathlib.Numerals.{add-one}
use native.Mathlib.Omega.{arith}
use borrow.Author.Tests.{lt-ltb, le-ltb, eqb-true, eqb-false}
use lib.Dec.{eqb}
use lib.ListN.{length, get_or, set, drop, length-set, length-drop, drop_of_length-le}
use lib.Seq.{drop-cons, length-take-le, get_or-set_same, get_or-set_other}
use Rattle.spec.specs.Bytes.{part, field_at, same, contains, twice, position_of, every, joined}
use Rattle.spec.specs.Outcome.{not_found}
use Rattle.spec.specs.Store.{store_keys, chunk_count}
use Rattle.spec.specs.Recipes.{named, file_count, files_of, recipes_code}
use Rattle.spec.specs.Compact.{named_in}
use Rattle.spec.proofs.Tests.{bool_cases}
use Rattle.spec.proofs.Same.{same_of, same_not}
use Rattle.spec.proofs.EntryLaws.{contains-position, length-keys, key-at, position-of, position_at}
use Rattle.spec.proofs.StoreLaws.{length-store_keys}
use Rattle.recipes.proofs.Files.{Walk, walk_end, accepted}
use Rattle.recipes.proofs.Slices.{file-first, file-next}
use Rattle.compact.specs.Marking.{all_found, mark_left, MarkedFile, MarkedAll}

-- ---- one mark

-- the first fingerprint's entry is marked, and then the fingerprints behind it
mark-step : (keys : List (List ℕ)) (marks : List Bool) (key : List ℕ) (rest : List (List ℕ)) (p e : ℕ) → twice keys ≡ false → p ≡ position_of key keys
    → p < length keys → length keys ≤ length marks → e < length keys → mark_left keys (set marks p true) rest e ≡ mark_left keys marks (key ∷ rest) e
mark-step keys marks key rest p e t q h l m = go (bool_cases (eqb p e))
  where
    is : get_or keys p [] ≡ key
    is = ap (λ (k : ℕ). get_or keys k []) q ∙ position-of key keys (omega arith)

    go : (eqb p e ≡ true) ⊎ (eqb p e ≡ false) → mark_left keys (set marks p true) rest e ≡ mark_left keys marks (key ∷ rest) e
    go (inl y) =
        let pe = eqb-true p e y in
        let one : get_or (set marks p true) e false ≡ true = rw (← pe) (get_or-set_same marks p true false (omega arith)) in
        let here : same (get_or keys e []) key ≡ true = same_of (get_or keys e []) key (ap (λ (k : ℕ). get_or keys k []) (sym pe) ∙ is) in
        rw (one, here) (⊎_elim (λ u. rw u) (λ u. rw u) (bool_cases (contains (get_or keys e []) rest)))
    go (inr y) =
        let pe = eqb-false p e y in
        let stays : get_or (set marks p true) e false ≡ get_or marks e false = get_or-set_other marks p e true false (λ z. pe (sym z)) in
        let other : same (get_or keys e []) key ≡ false =
        same_not (get_or keys e []) key (λ z. pe (q ∙ ap (λ (x : List ℕ). position_of x keys) (sym z) ∙ position_at keys e t m)) in
        rw (stays, other)

-- ---- whether one is missing

-- the number, by whether all are found
abbrev number_if : Bool → ℕ
number_if found = cond found 0 not_found

found_of : (found : Bool) → 0 ≡ cond found 0 not_found → found ≡ true
found_of true e = refl
found_of false e = let z : ⊥ = omega arith in absurd z

missing_of : (found : Bool) (code : ℕ) → code ≡ cond found 0 not_found → code ≢ 0 → found ≡ false
missing_of true code e d = absurd (d e)
missing_of false code e d = refl

-- ---- the places of a file

-- before place j
pub record Before (keys file : List (List ℕ)) (marks₀ : List Bool) (j : ℕ) (marks : List Bool) : Type 0 where
  pub long : length marks ≡ length marks₀
  pub same : (rest : List (List ℕ)) (e : ℕ) → e < length keys → mark_left keys marks (drop j file ++ rest) e ≡ mark_left keys marks₀ (file ++ rest) e
  pub found : all_found keys (drop j file) ≡ all_found keys file
  pub place : j ≤ length file

pub before-first : (keys file : List (List ℕ)) (marks : List Bool) → Before keys file marks 0 marks
before-first keys file marks = record { long = refl; same = λ rest e h. refl; found = refl; place = omega arith }

module _ (keys file : List (List ℕ)) (marks₀ : List Bool) (j : ℕ) (marks : List Bool) (b : Before keys file marks₀ j marks) where
  before-end : length file ≤ j → MarkedFile keys file marks₀ marks 0
  before-end h =
      let none = drop_of_length-le file h in
      record {
        told = ap number_if (ap (all_found keys) (sym none) ∙ b.found);
        marked = λ _ rest e l. ap (λ (f : List (List ℕ)). mark_left keys marks (f ++ rest) e) (sym none) ∙ b.same rest e l;
      }

  module _ (l : j < length file) (k : ℕ) (e : k ≡ position_of (get_or file j []) keys) where
    next : drop j file ≡ get_or file j [] ∷ drop (j + 1) file
    next = rw (add-one j) (drop-cons file j [] l)

    absent : length keys ≤ k → contains (get_or file j []) keys ≡ false
    absent h = contains-position (get_or file j []) keys ∙ le-ltb (position_of (get_or file j []) keys) (length keys) (omega arith)

    lacking : length keys ≤ k → all_found keys (get_or file j [] ∷ drop (j + 1) file) ≡ false
    lacking h = rw (absent h)

    present : k < length keys → contains (get_or file j []) keys ≡ true
    present h = contains-position (get_or file j []) keys ∙ lt-ltb (position_of (get_or file j []) keys) (length keys) (omega arith)

    before-missing : length keys ≤ k → MarkedFile keys file marks₀ marks not_found
    before-missing h = record {
      told = ap number_if (sym (lacking h) ∙ ap (all_found keys) (sym next) ∙ b.found);
      marked = λ f. absurd (omega arith);
    }

    before_on : twice keys ≡ false → k < length keys → length keys ≤ length marks → Before keys file marks₀ (j + 1) (set marks k true)
    before_on t h m = record {
      long = length-set marks k true ∙ b.long;
      same = λ rest i n.
          mark-step keys marks (get_or file j []) (drop (j + 1) file ++ rest) k i t e h m n
          ∙ ap (λ (f : List (List ℕ)). mark_left keys marks (f ++ rest) i) (sym next) ∙ b.same rest i n;
      found = sym (ap (all_found keys) next ∙ rw (present h)) ∙ b.found;
      place = omega arith;
    }

-- ---- the same, in the terms of the code

module _ (file store : List ℕ) (count : ℕ) (marks₀ : List Bool) (j : ℕ) (marks : List Bool) (c : count ≡ chunk_count store)
    (b : Before (store_keys store) (named file) marks₀ j marks) where
  places : length (named file) ≡ length file / 20
  places = length-keys 20 (length file / 20) file

  pub file-end : length file / 20 ≤ j → MarkedFile (store_keys store) (named file) marks₀ marks 0
  file-end h = before-end (store_keys store) (named file) marks₀ j marks b (omega (arith, places))

  module _ (h : j < length file / 20) (key : List ℕ) (f : key ≡ part file (0 + 20 * j) 20) (k : ℕ) (e : k ≡ position_of key (store_keys store)) where
    entry : k ≡ position_of (get_or (named file) j []) (store_keys store)
    entry = rw (key-at 20 (length file / 20) j file h) (e ∙ ap (λ (x : List ℕ). position_of x (store_keys store)) (rw zero-add at f))

    pub place-missing : count ≤ k → MarkedFile (store_keys store) (named file) marks₀ marks not_found
    place-missing l =
        before-missing (store_keys store) (named file) marks₀ j marks b (omega (arith, places)) k entry (omega (arith, length-store_keys store))

    pub place-on : twice (store_keys store) ≡ false → k < count → chunk_count store ≤ length marks₀
        → Before (store_keys store) (named file) marks₀ (j + 1) (set marks k true)
    place-on t l m =
        before_on (store_keys store) (named file) marks₀ j marks b (omega (arith, places)) k entry t (omega (arith, length-store_keys store))
        (omega (arith, length-store_keys store, b.long))

-- the slice of a fingerprint has its length
pub key-size : (file : List ℕ) (at : ℕ) (key : List ℕ) → key ≡ part file at 20 → at + 20 ≤ length file → length key ≡ 20
key-size file at key e h = ap length e ∙ length-take-le 20 (drop at file) (omega (arith, length-drop at file))

-- ---- the files

every_append : {A : Type 0} (test : A → Bool) (l m : List A) → every test (l ++ m) ≡ (every test l && every test m)
every_append test [] m = refl
every_append test (x ∷ l) m = ap (λ (b : Bool). test x && b) (every_append test l m) ∙ sym (and_assoc (test x) (every test l) (every test m))

-- before file k, which is at `at`
pub record Along (store recipes : List ℕ) (marks₀ : List Bool) (k at : ℕ) (marks : List Bool) : Type 0 where
  pub walk : Walk recipes k at
  pub long : length marks ≡ length marks₀
  pub same : (e : ℕ) → e < length (store_keys store)
      → mark_left (store_keys store) marks (joined (drop k (files_of recipes))) e ≡ mark_left (store_keys store) marks₀ (joined (files_of recipes)) e
  pub found : all_found (store_keys store) (joined (drop k (files_of recipes))) ≡ all_found (store_keys store) (joined (files_of recipes))

pub along-first : (store recipes : List ℕ) (marks : List Bool) → recipes_code recipes ≡ 0 → Along store recipes marks 0 4 marks
along-first store recipes marks z = record { walk = (accepted recipes z).start; long = refl; same = λ e h. refl; found = refl }

module _ (store recipes : List ℕ) (marks₀ : List Bool) (k at : ℕ) (marks : List Bool) (a : Along store recipes marks₀ k at marks) where
  abbrev keys : List (List ℕ)
  keys = store_keys store

  abbrev behind : List (List ℕ)
  behind = joined (drop (k + 1) (files_of recipes))

  pub along-end : file_count recipes ≤ k → MarkedAll store recipes marks₀ marks 0
  unfolding named_in
  along-end h =
      let none = walk_end recipes k at a.walk h in
      record {
        told = ap number_if (ap (λ (l : List (List (List ℕ))). all_found keys (joined l)) (sym none) ∙ a.found);
        marked = λ _ e l. ap (λ (f : List (List (List ℕ))). mark_left keys marks (joined f) e) (sym none) ∙ a.same e l;
      }

  -- file k is marked
  module _ (h : k < file_count recipes) (file : List ℕ) (f : file ≡ part recipes (at + 4) (20 * field_at recipes at 4)) (marks' : List Bool) where
    next-file : joined (drop k (files_of recipes)) ≡ named file ++ behind
    next-file = ap joined (file-first recipes k at a.walk h file f)

    both : all_found keys (joined (files_of recipes)) ≡ (all_found keys (named file) && all_found keys behind)
    both = sym a.found ∙ ap (all_found keys) next-file ∙ every_append (λ key. contains key keys) (named file) behind

    pub along-missing : (code : ℕ) → MarkedFile (store_keys store) (named file) marks marks' code → code ≢ 0 → MarkedAll store recipes marks₀ marks' code
    unfolding named_in
    along-missing code p d =
        let q = missing_of (all_found keys (named file)) code p.told d in
        record {
          told = p.told ∙ ap number_if (q ∙ sym (both ∙ ap (λ (b : Bool). b && all_found keys behind) q));
          marked = λ e. absurd (d e);
        }

    pub along-on : MarkedFile (store_keys store) (named file) marks marks' 0 → length marks' ≡ length marks
        → Along store recipes marks₀ (k + 1) (at + 4 + length file) marks'
    along-on p m = record {
      walk = file-next recipes k at a.walk h file f;
      long = m ∙ a.long;
      same = λ e l. p.marked refl behind e l ∙ ap (λ (x : List (List ℕ)). mark_left keys marks x e) (sym next-file) ∙ a.same e l;
      found = sym (both ∙ ap (λ (b : Bool). b && all_found keys behind) (found_of (all_found keys (named file)) p.told));
    }
