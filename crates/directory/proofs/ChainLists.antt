-- The chains as lists: an array that holds the chains of all keys begins with `chains_of`, element by element, and the other way round.
-- Assumes nothing.
use mathlib.Core.Path.{◌≡◌, refl, sym, ap, ap₂, ◌∙◌, subst}
use mathlib.Core.Logic.{◌⊎◌, inl, inr}
use mathlib.Core.Bool.{Bool}
use mathlib.Core.List.{List, [], ◌∷◌, ◌++◌}
use Prim.Native.Nat.{ℕ, zero, suc, ◌+◌, ◌-◌, ◌≤◌, ◌<◌}
use native.Mathlib.Nat.{zero-add, not-suc-le-zero, le_of_suc-le-suc}
use native.Mathlib.Omega.{arith}
use lib.ListN.{length, get_or, take, drop, length-append, take-append-drop, get_or-append}
use lib.Seq.{ext_get_or, get_or-take, get_or-append-add, length-take-le}
use Rattle.spec.specs.Bytes.{twice, splice, written}
use Rattle.spec.proofs.Splices.{splice-read, length-splice}
use Rattle.spec.proofs.Tests.{le-or-lt}
use Rattle.spec.proofs.Tabulated.{length-tabulated, tabulated-at}
use Rattle.directory.specs.Chains.{hash_of, tail_with, heads_of, links_of, chains_of, Chained}

-- ---- the elements of the two lists

pub length-heads : (keys : List (List ℕ)) → length (heads_of keys) ≡ 65536
unfolding heads_of
length-heads keys = length-tabulated (λ h. tail_with h keys) 0 65536

pub head_at : (keys : List (List ℕ)) (h : ℕ) → h < 65536 → get_or (heads_of keys) h 0 ≡ tail_with h keys
unfolding heads_of
head_at keys h m = tabulated-at (λ g. tail_with g keys) 0 65536 h 0 m ∙ ap (λ (g : ℕ). tail_with g keys) (zero-add h)

pub length-links : (keys : List (List ℕ)) → length (links_of keys) ≡ length keys
unfolding links_of
length-links [] = refl
length-links (key ∷ keys) = ap suc (length-links keys)

pub link_at : (keys : List (List ℕ)) (e : ℕ) → e < length keys → get_or (links_of keys) e 0 ≡ tail_with (hash_of (get_or keys e [])) (drop (suc e) keys)
unfolding links_of
link_at [] e h = absurd (not-suc-le-zero h)
link_at (key ∷ keys) zero h = refl
link_at (key ∷ keys) (suc e) h = link_at keys e (le_of_suc-le-suc h)

-- ---- the elements of the whole

pub length-chains : (keys : List (List ℕ)) → length (chains_of keys) ≡ 65536 + length keys
unfolding chains_of
length-chains keys = length-append (heads_of keys) (links_of keys) ∙ ap₂ {C = ℕ} (λ m n. m + n) (length-heads keys) (length-links keys)

chains-head : (keys : List (List ℕ)) (h : ℕ) → h < 65536 → get_or (chains_of keys) h 0 ≡ tail_with h keys
unfolding chains_of
chains-head keys h m = get_or-append (heads_of keys) (links_of keys) 0 h (omega (arith, length-heads keys)) ∙ head_at keys h m

chains-link : (keys : List (List ℕ)) (e : ℕ) → e < length keys → get_or (chains_of keys) (65536 + e) 0 ≡ tail_with (hash_of (get_or keys e [])) (drop (suc e) keys)
unfolding chains_of
chains-link keys e m =
    ap (λ (n : ℕ). get_or (heads_of keys ++ links_of keys) (n + e) 0) (sym (length-heads keys))
    ∙ get_or-append-add (heads_of keys) (links_of keys) e 0
    ∙ link_at keys e m

-- ---- what is written at a buffer's start

read-written : (buffer bytes : List ℕ) → take (length bytes) (written buffer bytes) ≡ bytes
read-written buffer bytes = splice-read buffer 0 bytes (omega arith)

-- a list that begins with the bytes, and goes on as the buffer does behind them
is-written : (buffer bytes l : List ℕ) (n : ℕ) → length bytes ≡ n → take n l ≡ bytes → drop n l ≡ drop n buffer → l ≡ written buffer bytes
unfolding splice
is-written buffer bytes l n e p q = sym (take-append-drop n l) ∙ rw (p, q, zero-add, e)

-- ---- the array

-- what `build` answers and leaves in the array, which was chains₀
abbrev pub Built : List (List ℕ) → List ℕ → List ℕ → Bool → Type 0
Built keys chains₀ chains duplicate = (duplicate ≡ twice keys) × (chains ≡ written chains₀ (chains_of keys))

module _ (keys : List (List ℕ)) (chains chains₀ : List ℕ) where
  module _ (x : Chained keys 0 chains) where
    same_at : (i : ℕ) → i < 65536 + length keys → (65536 ≤ i) ⊎ (i < 65536) → get_or chains i 0 ≡ get_or (chains_of keys) i 0
    same_at i l (inl h) =
        let m : i - 65536 < length keys = omega arith in
        let s : 65536 + (i - 65536) ≡ i = omega arith in
        subst (λ (j : ℕ). get_or chains j 0 ≡ get_or (chains_of keys) j 0) s (x.links.link (i - 65536) (omega arith) m ∙ sym (chains-link keys (i - 65536) m))
    same_at i l (inr h) = x.head i h ∙ sym (chains-head keys i h)

    front : take (65536 + length keys) chains ≡ chains_of keys
    front =
        let n = length-take-le (65536 + length keys) chains x.links.long in
        ext_get_or 0 (take (65536 + length keys) chains) (chains_of keys) (n ∙ sym (length-chains keys))
        (λ i l. let m : i < 65536 + length keys = omega (arith, n) in get_or-take (65536 + length keys) chains i 0 m ∙ same_at i m (le-or-lt 65536 i))

    -- behind the links, `chains` is as it was
    pub chains-are : drop (65536 + length keys) chains ≡ drop (65536 + length keys) chains₀ → chains ≡ written chains₀ (chains_of keys)
    chains-are rest = is-written chains₀ (chains_of keys) chains (65536 + length keys) (length-chains keys) front rest

  -- an array with `chains_of` at its start holds the chains of all keys
  module _ (q : chains ≡ written chains₀ (chains_of keys)) (l : 65536 + length keys ≤ length chains₀) where
    begins : take (65536 + length keys) chains ≡ chains_of keys
    begins =
        ap (take (65536 + length keys)) q
        ∙ ap (λ (n : ℕ). take n (written chains₀ (chains_of keys))) (sym (length-chains keys))
        ∙ read-written chains₀ (chains_of keys)

    element : (i : ℕ) → i < 65536 + length keys → get_or chains i 0 ≡ get_or (chains_of keys) i 0
    element i m = sym (get_or-take (65536 + length keys) chains i 0 m) ∙ ap (λ (x : List ℕ). get_or x i 0) begins

    pub chained : Chained keys 0 chains
    chained = record {
      head = λ h m. element h (omega arith) ∙ chains-head keys h m;
      links = record {
        long = omega (arith, ap length q, length-splice chains₀ 0 (chains_of keys) (omega (arith, length-chains keys)));
        link = λ e k m. element (65536 + e) (omega arith) ∙ chains-link keys e m;
      };
    }
