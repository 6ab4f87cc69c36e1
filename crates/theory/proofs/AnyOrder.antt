-- Sums over lists of fingerprints that have the same elements in any two orders: where none is twice, one list taken out of the other, fingerprint by
-- fingerprint, leaves nothing negative, so each sum is at most the other. Assumes nothing.
use mathlib.Core.Path.{◌≡◌, refl, sym, ap, ap₂, ◌∙◌}
use mathlib.Core.Logic.{⊎_elim}
use mathlib.Core.Bool.{true, false, cond, or-true, true≢false, false≢true}
use mathlib.Core.List.{List, [], ◌∷◌, map}
use Prim.Native.Nat.{ℕ, ◌+◌, ◌≤◌}
use native.Mathlib.Omega.{arith}
use lib.ListN.{length}
use Rattle.spec.specs.Bytes.{same, contains, twice, sum}
use Rattle.spec.proofs.Tests.{bool_cases}
use Rattle.spec.proofs.Codes.{or_left, or_right}
use Rattle.spec.proofs.Same.{same-eq, same_refl, same_not}

-- The sum of g over the fingerprints.
abbrev pub weigh : (List ℕ → ℕ) → List (List ℕ) → ℕ
weigh g keys = sum (map g keys)

-- The list without the first element that is the same as `key`.
without : List ℕ → List (List ℕ) → List (List ℕ)
without key [] = []
without key (x ∷ keys) = cond (same key x) keys (x ∷ without key keys)

weigh-without : (g : List ℕ → ℕ) (key : List ℕ) (keys : List (List ℕ)) → contains key keys ≡ true → weigh g keys ≡ g key + weigh g (without key keys)
unfolding without
weigh-without g key [] e = absurd (false≢true e)
weigh-without g key (x ∷ keys) e =
    ⊎_elim (λ t. rw t (ap (λ (y : List ℕ). g y + weigh g keys) (sym (same-eq key x t))))
    (λ f. rw f (let h = weigh-without g key keys (rw f at e) in omega arith))
    (bool_cases (same key x))

without-keeps : (key other : List ℕ) (keys : List (List ℕ)) → (other ≡ key → ⊥) → contains other keys ≡ true → contains other (without key keys) ≡ true
unfolding without
without-keeps key other [] d e = e
without-keeps key other (x ∷ keys) d e =
    ⊎_elim (λ t. rw t (rw (same_not other x (λ p. d (p ∙ sym (same-eq key x t)))) at e))
    (λ f. rw f (⊎_elim (λ u. rw u) (λ u. rw u (without-keeps key other keys d (rw u at e))) (bool_cases (same other x))))
    (bool_cases (same key x))

-- the first of fingerprints of which none is twice is not among the others
first-differs : (key other : List ℕ) (keys : List (List ℕ)) → twice (key ∷ keys) ≡ false → contains other keys ≡ true → other ≡ key → ⊥
first-differs key other keys t c p = true≢false (sym c ∙ ap (λ (y : List ℕ). contains y keys) p ∙ or_left (contains key keys) (twice keys) t)

-- fingerprints of which none is twice weigh no more than fingerprints among which all of them are
pub weigh-le : (g : List ℕ → ℕ) (xs ys : List (List ℕ)) → twice xs ≡ false → ((key : List ℕ) → contains key xs ≡ true → contains key ys ≡ true)
    → weigh g xs ≤ weigh g ys
weigh-le g [] ys t h = omega arith
weigh-le g (x ∷ xs) ys t h =
    let e = weigh-without g x ys (h x (rw same_refl)) in
    let rest : (key : List ℕ) → contains key xs ≡ true → contains key (without x ys) ≡ true =
    λ key c. without-keeps x key ys (first-differs x key xs t c) (h key (rw c (or-true (same key x)))) in
    let l = weigh-le g xs (without x ys) (or_right (contains x xs) (twice xs) t) rest in
    omega arith

pub weigh-same : (g h : List ℕ → ℕ) (keys : List (List ℕ)) → ((key : List ℕ) → contains key keys ≡ true → g key ≡ h key) → weigh g keys ≡ weigh h keys
weigh-same g h [] e = refl
weigh-same g h (x ∷ keys) e = ap₂ (λ (m n : ℕ). m + n) (e x (rw same_refl)) (weigh-same g h keys (λ key c. e key (rw c (or-true (same key x)))))

pub weigh-one : (keys : List (List ℕ)) → weigh (λ key. 1) keys ≡ length keys
weigh-one [] = refl
weigh-one (x ∷ keys) = let h = weigh-one keys in omega arith
