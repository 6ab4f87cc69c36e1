-- a turn's store is the first of the bytes that are left
use mathlib.Core.Path.{◌≡◌, sym, ap, ◌∙◌}
use mathlib.Core.List.{List}
use Prim.Native.Nat.{ℕ, suc, ◌+◌, ◌/◌, ◌%◌, ◌-◌, ◌<◌}
use native.Mathlib.Omega.{arith}
use lib.ListN.{length, set, length-set}
use Rattle.spec.specs.Bytes.{le_bytes, splice}
use Rattle.spec.proofs.Splices.{splice-nil, splice-cons}
use Rattle.field.proofs.write.Goals as goal

turn : (l : List ℕ) (i m n : ℕ) → i < length l → splice (set l i (n % 256)) (i + 1) (le_bytes m (n / 256)) ≡ splice l i (le_bytes (suc m) n)
unfolding le_bytes
turn l i m n h = splice-cons l i (n % 256) (le_bytes m (n / 256)) h

pub loop-k-preserved : goal.loop-k-preserved
loop-k-preserved c =
    let a = c.args in
    let s = c.loop-k in
    let i = a.at + s.k in
    let e : a.at + (s.k + 1) ≡ i + 1 = omega arith in
    let m : a.width - s.k ≡ suc (a.width - (s.k + 1)) = omega arith in
    record {
      same = length-set s.out i (s.rest % 256) ∙ s.invariant.same;
      rest = ap (λ (x : ℕ). splice (set s.out i (s.rest % 256)) x (le_bytes (a.width - (s.k + 1)) (s.rest / 256))) e
          ∙ turn s.out i (a.width - (s.k + 1)) s.rest (omega arith)
          ∙ ap (λ (x : ℕ). splice s.out i (le_bytes x s.rest)) (sym m)
          ∙ s.invariant.rest;
    }

pub returns : goal.returns
unfolding le_bytes
returns c =
    let a = c.args in
    let s = c.loop-k in
    let i = a.at + s.k in
    let z : a.width - s.k ≡ 0 = omega arith in
    sym (splice-nil s.out i) ∙ ap (λ (x : ℕ). splice s.out i (le_bytes x s.rest)) (sym z) ∙ s.invariant.rest
