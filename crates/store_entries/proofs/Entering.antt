-- The entries of a store, a turn for each: the number from entry k on is the number of all. Assumes nothing.
use mathlib.Core.Path.{◌≡◌, sym, ap, ◌∙◌}
use mathlib.Core.List.{List}
use Prim.Native.Nat.{ℕ, suc, ◌+◌, ◌-◌, ◌≤◌, ◌<◌}
use native.Mathlib.Numerals.{add-one}
use native.Mathlib.Omega.{arith}
use Rattle.spec.specs.Directory.{size_at, offset_at}
use Rattle.spec.specs.Store.{store_layout, chunk_end, chunks_code}
use Rattle.spec.proofs.StoreLaws.{chunks-none, chunks_long, chunks-early, chunks-beyond, chunks-more}

module _ (store : List ℕ) (count k at whole : ℕ) (inv : chunks_code store (count - k) k at ≡ whole) where
  module _ (more : k < count) (offset size : ℕ) (o : offset ≡ offset_at store_layout store k) (s : size ≡ size_at store_layout store k) where
    here : chunks_code store (suc (count - (k + 1))) k at ≡ whole
    here = let e : suc (count - (k + 1)) ≡ count - k = omega arith in ap (λ (n : ℕ). chunks_code store n k at) e ∙ inv

    pub turn-none : size ≡ 0 → 7 ≡ whole
    turn-none e = sym (chunks-none store (count - (k + 1)) k at (sym s ∙ e)) ∙ here

    pub turn-long : 1048576 < size → 7 ≡ whole
    turn-long h = sym (chunks_long store (count - (k + 1)) k at (omega arith)) ∙ here

    module _ (low : 1 ≤ size) (high : size ≤ 1048576) where
      pub turn-early : offset < at → 7 ≡ whole
      turn-early h = sym (chunks-early store (count - (k + 1)) k at (omega arith) (omega arith) (omega arith)) ∙ here

      pub turn-beyond : at ≤ offset → 4294967295 < offset + size → 20 ≡ whole
      turn-beyond f h = sym (chunks-beyond store (count - (k + 1)) k at (omega arith) (omega arith) (omega arith) (omega arith)) ∙ here

      pub turn_more : at ≤ offset → offset + size ≤ 4294967295 → chunks_code store (count - (k + 1)) (k + 1) (offset + size) ≡ whole
      turn_more f h =
          let q : offset + size ≡ chunk_end store k = omega arith in
          rw (q, add-one)
          (sym (rw add-one at (chunks-more store (count - (k + 1)) k at (omega arith) (omega arith) (omega arith) (omega arith))) ∙ rw add-one at here)
