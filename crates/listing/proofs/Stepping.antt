-- The streams while they are opened and after, and after the first occurrence is taken off them. Assumes nothing.
use mathlib.Core.Path.{◌≡◌, refl, sym, ap, ◌∙◌, subst}
use mathlib.Core.Logic.{◌≢◌, ◌⊎◌, inl, inr}
use mathlib.Core.Bool.{Bool, true, false, cond}
use mathlib.Core.List.{List, [], ◌∷◌}
use Prim.Native.Nat.{ℕ, ◌≤◌, ◌<◌}
use native.Mathlib.Omega.{arith}
use lib.ListN.{length, get_or, set, length-set}
use lib.Seq.{get_or-set_same, get_or-set_other}
use lib.Dec.{ltb}
use Rattle.std.proofs.lemmas.Bool.{cases_eq}
use Rattle.spec.proofs.Tests.{le-or-lt}
use Rattle.listing.specs.Streams.{headed, stream, stream_of, stream_at, unread_at, given}
use Rattle.listing.specs.Streams.{Open, ReadableStream, Pulled, Held, Least, NextTaken}
use Rattle.listing.proofs.Order.{merge_step, merge-done}
use Rattle.listing.proofs.Pulling.{headed-out, open-head, behind}

headed-first : (size x : ℕ) (xs : List ℕ) → 0 < length (headed size x xs) → x ≡ get_or (headed size x xs) 0 0
headed-first size x xs h = go (ltb x size) h
  where
    go : (b : Bool) → 0 < length (cond b (x ∷ xs) []) → x ≡ get_or (cond b (x ∷ xs) []) 0 0
    go true l = refl
    go false l = let z : ⊥ = omega arith in absurd z

-- ---- one stream of them is set

module _ (streams : List (List ℕ)) (k : ℕ) (s : List ℕ) where
  pub set_here : k < length streams → stream_of (set streams k s) k ≡ s
  set_here h = get_or-set_same streams k s [] h

  pub set_there : (j : ℕ) → j ≢ k → stream_of (set streams k s) j ≡ stream_of streams j
  set_there j ne = get_or-set_other streams k j s [] ne

  -- what holds of the new one and held of the others holds of all
  pub set_all : (P : ℕ → List ℕ → Type 0) → k < length streams → P k s → (j : ℕ) → (j ≢ k → P j (stream_of streams j)) → P j (stream_of (set streams k s) j)
  set_all P h p j rest = go (cases_eq j k)
    where
      go : (j ≡ k) ⊎ (j ≢ k) → P j (stream_of (set streams k s) j)
      go (inl e) = subst (λ (i : ℕ). P i (stream_of (set streams k s) i)) (sym e) (subst (P k) (sym (set_here h)) p)
      go (inr ne) = subst (P j) (sym (set_there j ne)) (rest ne)

-- ---- opening

-- The first k streams are open.
pub record Opening (index : List ℕ) (width size : ℕ) (streams opened : List (List ℕ)) (k : ℕ) : Type 0 where
  pub long : length opened ≡ 16
  pub done : (j : ℕ) → j < k → Pulled index width size (stream_of streams j) (stream_of opened j)

-- ---- the next occurrence

module _ (index : List ℕ) (width size count : ℕ) (streams : List (List ℕ)) (held : Held index width size count streams)
    (some : 0 < length (given index width size count streams)) (k : ℕ) (least : Least streams count k) where
  abbrev head : ℕ → ℕ
  head j = get_or (stream_of streams j) 0 0

  first_number : (j : ℕ) → 0 < length (stream_at index width size streams j) → head j ≡ get_or (stream_at index width size streams j) 0 0
  unfolding stream
  first_number j h = headed-first size (head j) (unread_at index width streams j) h

  -- where every stream has ended, nothing is given
  pub least-in : head k < size
  unfolding stream
  least-in = go (le-or-lt size (head k))
    where
      gone : size ≤ head k → (j : ℕ) → j < count → stream_at index width size streams j ≡ []
      gone h j u = headed-out size (head j) (unread_at index width streams j) (omega (arith, least.low j u))

      go : (size ≤ head k) ⊎ (head k < size) → head k < size
      go (inl h) = let z : ⊥ = omega (arith, some, ap length (merge-done 0 count 0 size (stream_at index width size streams) (gone h))) in absurd z
      go (inr h) = h

  pub least-readable : ReadableStream index width size (stream_of streams k)
  least-readable = behind index width size (stream_of streams k) (held.each k least.within) least-in

  module _ (s : List ℕ) (p : Pulled index width size (stream_of streams k) s) where
    abbrev after : List (List ℕ)
    after = set streams k s

    on : stream_at index width size after k ≡ unread_at index width streams k
    on = ap (stream index width size) (set_here streams k s (omega (arith, held.long, least.within))) ∙ p.same

    -- WHAT `next` TAKES
    pub next-taken : NextTaken index width size count streams after k (head k)
    next-taken =
        record {
          held = record {
            long = rw length-set held.long;
            each = λ j u. set_all streams k s (λ i x. Open index width size x) (omega (arith, held.long, least.within)) p.opened j (λ ne. held.each j u);
          };
          named = least.within;
          bound = least-in;
          found = λ file base.
              merge_step file count base size (stream_at index width size streams) (stream_at index width size after)
              k (head k) least.within least-in
              (λ j u. (held.each j u).up)
              (open-head index width size (stream_of streams k) (held.each k least.within) least-in ∙ ap {B = List ℕ} (λ r. head k ∷ r) (sym on))
              (λ j u ne. ap (stream index width size) (set_there streams k s j ne))
              (λ j u l. omega (arith, least.low j u, first_number j l))
              (λ j u l. omega (arith, least.first j u, first_number j l));
        }
