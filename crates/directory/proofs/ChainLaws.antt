-- Laws of hash chains. Assumes nothing.
-- A key's position is not changed by skipping the entries of other hashes (`skip`); a lookup is that law at each step of a chain.
use mathlib.Core.Path.{◌≡◌, refl, sym, ap, ◌∙◌, subst}
use mathlib.Core.Logic.{◌⊎◌, inl, inr, ⊎_elim}
use mathlib.Core.Bool.{Bool, true, false, ◌||◌}
use mathlib.Core.List.{List, [], ◌∷◌}
use Prim.Native.Nat.{ℕ, suc, ◌+◌, ◌*◌, ◌-◌, ◌%◌, ◌≤◌, ◌<◌}
use native.Mathlib.Nat.{sub_self, add-zero, zero-add, suc-add, add_assoc, mul-le-mul_left, mul-suc, eq-or-lt_of_le}
use native.Mathlib.Omega.{arith}
use borrow.Author.Tests.{eqb-true, eqb-false, lt-ltb, le-ltb}
use lib.Dec.{eqb, ltb}
use lib.ListN.{length, get_or, set, drop, length-set, length-take, length-drop, drop_of_length-le, replicate, length-replicate, get_or-replicate}
use lib.Seq.{get_or-set_same, get_or-set_other, drop-set-lt, drop-cons, get_or-drop, drop-drop}
use Rattle.spec.specs.Bytes.{part, fields_of, field_at, same, contains, twice, position_of}
use Rattle.spec.proofs.Tests.{bool_cases, le-or-lt}
use Rattle.spec.proofs.EntryLaws.{length-keys, key-at, contains-position}
use Rattle.spec.proofs.Same.{same_not}
use Rattle.directory.specs.Chains.{hash_of, keys_from, tail_with, place_from, Starts, Linked, Chained, Lies, Empty}

-- ---- the hash

-- five fields, each times its weight
pub hashed : (key : List ℕ) (a b c d e : ℕ) → a ≡ field_at key 0 4 → b ≡ field_at key 4 4 → c ≡ field_at key 8 4 → d ≡ field_at key 12 4 → e ≡ field_at key 16 4
    → (a * 506832829 + b * 374761393 + c * 466882007 + d * 298632863 + e * 413158511) % 65521 ≡ hash_of key
unfolding hash_of fields_of
hashed key a b c d e p q r s t =
    let e8 : drop 4 (drop 4 key) ≡ drop 8 key = drop-drop 4 4 key in
    let e12 : drop 4 (drop 8 key) ≡ drop 12 key = drop-drop 4 8 key in
    let e16 : drop 4 (drop 12 key) ≡ drop 16 key = drop-drop 4 12 key in
    rw (e8, e12, e16, p, q, r, s, t) (ap (λ (n : ℕ). n % 65521) (omega arith))

pub hash-lt : (key : List ℕ) → hash_of key < 65521
unfolding hash_of
hash-lt key = omega arith

-- ---- skipping

pub tail-le : (h : ℕ) (keys : List (List ℕ)) → tail_with h keys ≤ length keys
tail-le h [] = omega arith
tail-le h (x ∷ keys) =
    ⊎_elim (λ t. rw t (omega arith)) (λ f. rw f (let l = tail-le h keys in omega arith)) (bool_cases (eqb (hash_of x) h))

-- the place of n keys among more
behind : (x : List ℕ) (keys : List (List ℕ)) (n m : ℕ) → n ≡ m → m ≤ length keys → length (x ∷ keys) - n ≡ suc (length keys - m)
behind x keys n m e h = omega arith

-- what is found has the hash
pub tail-hash : (h : ℕ) (keys : List (List ℕ)) → 0 < tail_with h keys → hash_of (get_or keys (length keys - tail_with h keys) []) ≡ h
tail-hash h [] p = let z : ⊥ = omega arith in absurd z
tail-hash h (x ∷ keys) p =
    ⊎_elim
    (λ t.
    let z : length (x ∷ keys) - tail_with h (x ∷ keys) ≡ 0 = rw t (sub_self (suc (length keys))) in
    ap (λ (n : ℕ). hash_of (get_or (x ∷ keys) n [])) z ∙ eqb-true (hash_of x) h t)
    (λ f.
    let q : 0 < tail_with h keys = rw f at p in
    ap (λ (n : ℕ). hash_of (get_or (x ∷ keys) n [])) (behind x keys (tail_with h (x ∷ keys)) (tail_with h keys) (rw f) (tail-le h keys)) ∙ tail-hash h keys q)
    (bool_cases (eqb (hash_of x) h))

-- the entries before the first of the key's hash are not the key's
pub skip : (key : List ℕ) (keys : List (List ℕ)) → place_from key keys (length keys - tail_with (hash_of key) keys) ≡ position_of key keys
skip key [] = refl
skip key (x ∷ keys) =
    ⊎_elim
    (λ t.
    let z : length (x ∷ keys) - tail_with (hash_of key) (x ∷ keys) ≡ 0 = rw t (sub_self (suc (length keys))) in
    ap (place_from key (x ∷ keys)) z ∙ zero-add (position_of key (x ∷ keys)))
    (λ f.
    let d : same key x ≡ false = same_not key x (λ q. eqb-false (hash_of x) (hash_of key) f (ap hash_of (sym q))) in
    ap (place_from key (x ∷ keys)) (behind x keys (tail_with (hash_of key) (x ∷ keys)) (tail_with (hash_of key) keys) (rw f) (tail-le (hash_of key) keys))
    ∙ rw (d, suc-add) (ap suc (skip key keys)))
    (bool_cases (eqb (hash_of x) (hash_of key)))

-- the chain's head for the entries from k on
module _ (key : List ℕ) (keys : List (List ℕ)) (k : ℕ) (l : k ≤ length keys) (n : ℕ) (q : n ≡ tail_with (hash_of key) (drop k keys)) where
  jump-le : n ≤ length keys - k
  jump-le = omega (arith, tail-le (hash_of key) (drop k keys), length-drop k keys)

  behind-k : length keys - n ≡ k + (length (drop k keys) - n)
  behind-k = omega (arith, jump-le, length-drop k keys)

  pub jump : place_from key keys (length keys - n) ≡ place_from key keys k
  jump =
      ap (place_from key keys) behind-k
      ∙ rw (← drop-drop (length (drop k keys) - n) k keys, add_assoc, q) (ap (λ (m : ℕ). k + m) (skip key (drop k keys)))

  pub jump-starts : Starts key keys n
  jump-starts = record {
    within = omega (arith, jump-le);
    hash = λ p.
        ap (λ (m : ℕ). hash_of (get_or keys m [])) behind-k
        ∙ ap hash_of (sym (get_or-drop k keys (length (drop k keys) - n) []))
        ∙ rw q (tail-hash (hash_of key) (drop k keys) (rw (← q) p));
  }

-- ---- a step of a chain

pub place-hit : (key : List ℕ) (keys : List (List ℕ)) (e : ℕ) → e < length keys → same key (get_or keys e []) ≡ true → place_from key keys e ≡ e
place-hit key keys e h t = rw (drop-cons keys e [] h, t) (add-zero e)

pub place-miss : (key : List ℕ) (keys : List (List ℕ)) (e : ℕ) → e < length keys → same key (get_or keys e []) ≡ false
    → place_from key keys (suc e) ≡ place_from key keys e
place-miss key keys e h f = rw (drop-cons keys e [] h, f) (omega arith)

pub place_none : (key : List ℕ) (keys : List (List ℕ)) (c : ℕ) → length keys ≡ c → place_from key keys c ≡ c
place_none key keys c q = rw (drop_of_length-le keys {i = c} (omega arith)) (add-zero c)

-- from the last n keys of c to the last m: the next place on the chain
pub record Stepped (key : List ℕ) (keys : List (List ℕ)) (c n m : ℕ) : Type 0 where
  pub less : m < n
  pub starts : Starts key keys m
  pub place : place_from key keys (c - m) ≡ place_from key keys (c - n)

module _ (key : List ℕ) (keys : List (List ℕ)) (from n : ℕ) (chains : List ℕ) where
  abbrev Steps : ℕ → Type 0
  Steps c = from ≤ c → n ≤ from → 0 < n → Linked keys (c - from) chains → Starts key keys n → same key (get_or keys (c - n) []) ≡ false
      → Stepped key keys c n (get_or chains (65536 + (c - n)) 0)

  steps : Steps (length keys)
  steps h l p links s f =
      let e = length keys - n in
      let q : get_or chains (65536 + e) 0 ≡ tail_with (hash_of key) (drop (suc e) keys) =
      links.link e (omega arith) (omega arith) ∙ ap (λ (g : ℕ). tail_with g (drop (suc e) keys)) (s.hash p) in
      record {
        less = omega (arith, jump-le key keys (suc e) (omega arith) (get_or chains (65536 + e) 0) q);
        starts = jump-starts key keys (suc e) (omega arith) (get_or chains (65536 + e) 0) q;
        place = jump key keys (suc e) (omega arith) (get_or chains (65536 + e) 0) q ∙ place-miss key keys e (omega arith) f;
      }

  pub step : (c : ℕ) → length keys ≡ c → Steps c
  step c e = subst Steps e steps

-- ---- the keys of a directory

module _ (bytes : List ℕ) (start stride count : ℕ) (lies : Lies bytes start stride count) where
  pub length_from : length (keys_from bytes start stride count) ≡ count
  length_from = length-keys stride count (drop start bytes)

  pub key-room : (e : ℕ) → e < count → start + stride * e + 20 ≤ length bytes
  key-room e h =
      let m : stride * suc e ≤ stride * count = mul-le-mul_left stride h in
      omega (arith, mul-suc stride e, lies.inside, lies.keyed)

  pub key_in : (e : ℕ) → e < count → part bytes (start + stride * e) 20 ≡ get_or (keys_from bytes start stride count) e []
  key_in e h = sym (key-at stride count e (drop start bytes) h ∙ rw drop-drop)

  pub key-length : (e : ℕ) → e < count → length (part bytes (start + stride * e) 20) ≡ 20
  key-length e h = let r = key-room e h in simp (length-take, length-drop) (omega arith)

-- ---- a lookup among the entries from k on

pub linked-from : (keys : List (List ℕ)) (k j : ℕ) (chains : List ℕ) → k ≤ j → Linked keys k chains → Linked keys j chains
linked-from keys k j chains h links = record { long = links.long; link = λ e l m. links.link e (omega arith) m }

-- n is the head for the key: where to follow a chain from, and what that finds
pub record Headed (key : List ℕ) (keys : List (List ℕ)) (chains : List ℕ) (c k n : ℕ) : Type 0 where
  pub links : Linked keys (c - n) chains
  pub starts : Starts key keys n
  pub place : place_from key keys (c - n) ≡ place_from key keys k

module _ (key : List ℕ) (keys : List (List ℕ)) (chains : List ℕ) (k n : ℕ) where
  abbrev Heads : ℕ → Type 0
  Heads c = k ≤ c → Chained keys k chains → n ≡ get_or chains (hash_of key) 0 → Headed key keys chains c k n

  heads-at : Heads (length keys)
  heads-at l x e =
      let q : n ≡ tail_with (hash_of key) (drop k keys) = e ∙ x.head (hash_of key) (omega (arith, hash-lt key)) in
      record {
        links = linked-from keys k (length keys - n) chains (omega (arith, jump-le key keys k l n q)) x.links;
        starts = jump-starts key keys k l n q;
        place = jump key keys k l n q;
      }

  pub headed : (c : ℕ) → length keys ≡ c → Heads c
  headed c e = subst Heads e heads-at

-- ---- one more entry

-- entry e's place among the others, as `follow` finds it, tells whether its key is one of theirs
pub contained : (key : List ℕ) (keys : List (List ℕ)) (k c : ℕ) → length keys ≡ c → k ≤ c → ltb (place_from key keys k) c ≡ contains key (drop k keys)
contained key keys k c q l = go (le-or-lt (length (drop k keys)) (position_of key (drop k keys)))
  where
    go : (length (drop k keys) ≤ position_of key (drop k keys)) ⊎ (position_of key (drop k keys) < length (drop k keys))
        → ltb (place_from key keys k) c ≡ contains key (drop k keys)
    go (inl h) =
        le-ltb (place_from key keys k) c (omega (arith, length-drop k keys))
        ∙ sym (contains-position key (drop k keys) ∙ le-ltb (position_of key (drop k keys)) (length (drop k keys)) h)
    go (inr h) =
        lt-ltb (place_from key keys k) c (omega (arith, length-drop k keys))
        ∙ sym (contains-position key (drop k keys) ∙ lt-ltb (position_of key (drop k keys)) (length (drop k keys)) h)

-- entry e of c, with the hash h, is put in front of those after it
module _ (keys : List (List ℕ)) (chains : List ℕ) (e h c : ℕ) (q : length keys ≡ c) (l : e < c) (p : h ≡ hash_of (get_or keys e []))
    (x : Chained keys (suc e) chains) where
  -- with its link
  abbrev linked : List ℕ
  linked = set chains (65536 + e) (get_or chains h 0)

  small : h < 65521
  small = rw p (hash-lt (get_or keys e []))

  length-linked : length linked ≡ length chains
  length-linked = length-set chains (65536 + e) (get_or chains h 0)

  new-link : (j : ℕ) → j < length keys → (e ≡ j) ⊎ (e < j) → get_or linked (65536 + j) 0 ≡ tail_with (hash_of (get_or keys j [])) (drop (suc j) keys)
  new-link j m (inl s) =
      rw (← s) (get_or-set_same chains (65536 + e) (get_or chains h 0) 0 (omega (arith, x.links.long)) ∙ x.head h (omega (arith, small))
      ∙ ap (λ (g : ℕ). tail_with g (drop (suc e) keys)) p)
  new-link j m (inr s) = get_or-set_other chains (65536 + e) (65536 + j) (get_or chains h 0) 0 (λ r. omega arith) ∙ x.links.link j s m

  pub inserted : Chained keys e (set linked h (c - e))
  inserted = record {
    head = λ g m. rw (drop-cons keys e [] (omega arith)) (⊎_elim
        (λ t. let s : g ≡ h = sym (eqb-true (hash_of (get_or keys e [])) g t) ∙ sym p in
        rw (t, s) (get_or-set_same linked h (c - e) 0 (omega (arith, length-linked, x.links.long, small)) ∙ omega (arith, length-drop (suc e) keys)))
        (λ f. rw f (get_or-set_other linked h g (c - e) 0 (λ s. eqb-false (hash_of (get_or keys e [])) g f (sym p ∙ sym s))
        ∙ get_or-set_other chains (65536 + e) g (get_or chains h 0) 0 (λ s. omega arith) ∙ x.head g m))
        (bool_cases (eqb (hash_of (get_or keys e [])) g)));
    links = record {
      long = omega (arith, length-set linked h (c - e), length-linked, x.links.long);
      link = λ j k m. get_or-set_other linked h (65536 + j) (c - e) 0 (λ s. omega (arith, small)) ∙ new-link j m (eq-or-lt_of_le k);
    };
  }

  -- behind the links nothing changed
  pub inserted-rest : drop (65536 + length keys) (set linked h (c - e)) ≡ drop (65536 + length keys) chains
  inserted-rest =
      drop-set-lt (65536 + length keys) linked h (c - e) (omega (arith, small))
      ∙ drop-set-lt (65536 + length keys) chains (65536 + e) (get_or chains h 0) (omega (arith, q))

-- ---- all entries

pub empty : (keys : List (List ℕ)) (chains : List ℕ) (c : ℕ) → length keys ≡ c → c ≤ 65000 → Empty chains → Chained keys c chains
empty keys chains c q l x = record {
  head = λ h m. rw (drop_of_length-le keys {i = c} (omega arith)) (x.none h m);
  links = record { long = omega (arith, x.long); link = λ e k m. absurd (omega arith) };
}

pub twice-none : (keys : List (List ℕ)) (c : ℕ) → length keys ≡ c → false ≡ twice (drop c keys)
twice-none keys c q = rw (drop_of_length-le keys {i = c} (omega arith))

pub twice-step : (keys : List (List ℕ)) (e : ℕ) (found duplicate : Bool) → e < length keys → found ≡ contains (get_or keys e []) (drop (suc e) keys)
    → duplicate ≡ twice (drop (suc e) keys) → (found || duplicate) ≡ twice (drop e keys)
twice-step keys e found duplicate h p q = rw (p, q, drop-cons keys e [] h)

-- the array of zeros
pub zeros : Empty (replicate 130536 0)
zeros = record {
  long = omega (arith, length-replicate {A = ℕ} 130536 0);
  none = λ h m. get_or-replicate {A = ℕ} 130536 h 0 0 (omega arith);
}
