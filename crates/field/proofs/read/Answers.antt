-- a turn takes the byte before those that were read
use mathlib.Core.Path.{◌≡◌, ap, ◌∙◌}
use mathlib.Core.List.{List}
use Prim.Native.Nat.{ℕ, suc, ◌+◌, ◌*◌, ◌-◌, ◌^◌, ◌≤◌, ◌<◌}
use native.Mathlib.Nat.{sub_self, pow-le-pow_right, min-le_left}
use native.Mathlib.Omega.{arith}
use lib.ListN.{length, get_or, take, drop, length-take, length-drop, drop_of_length-le}
use lib.Seq.{drop-cons, get_or-take, get_or-drop}
use Rattle.spec.specs.Bytes.{le_value}
use Rattle.spec.proofs.Fields.{le_value-lt}
use Rattle.field.proofs.read.Goals as goal

-- the bytes of the field from k on are one byte and those from k + 1 on
turn : (s : List ℕ) (at w j : ℕ) → j < w → at + w ≤ length s
    → le_value (drop (suc j) (take w (drop at s))) * 256 + get_or s (at + j) 0 ≡ le_value (drop j (take w (drop at s)))
unfolding le_value
turn s at w j h l =
    let n : j < length (take w (drop at s)) = simp (length-take, length-drop) (omega arith) in
    rw (drop-cons (take w (drop at s)) j 0 n, get_or-take w (drop at s) j 0 h, get_or-drop at s j 0) (omega arith)

-- what has been read so far, with one byte more, is below the next power of 256, and fits
next : (w k v b : ℕ) → 0 < k → k ≤ w → b < 256 → v < 256 ^ (w - k) → v * 256 + b < 256 ^ (w - (k - 1))
next w k v b h l p q =
    let e : w - (k - 1) ≡ w - k + 1 = omega arith in
    rw e (le_value-lt b v (w - k) p q)

small : (w k x : ℕ) → w ≤ 8 → x < 256 ^ (w - k) → x < 2 ^ 64
small w k x h l = omega (arith, pow-le-pow_right {n = 256} (omega arith) {i = w - k} {j = 8} (omega arith))

none : (w : ℕ) (l : List ℕ) → 0 ≡ le_value (drop w (take w l))
unfolding le_value
none w l = rw (drop_of_length-le (take w l) {i = w} (simp length-take (min-le_left w (length l))))

-- in a turn, after the byte was read
fits : (c : goal.After-shared_slice_known-1)
    → c.loop-k.v * 256 + get_or c.args.bytes.now (c.args.at + (c.loop-k.k - 1)) 0 < 256 ^ (c.args.width - (c.loop-k.k - 1))
fits c =
    let s = c.loop-k in
    let b : get_or c.args.bytes.now (c.args.at + (s.k - 1)) 0 < 256 = omega (arith, c.type_inv.bytes (c.args.at + (s.k - 1))) in
    next c.args.width s.k s.v (get_or c.args.bytes.now (c.args.at + (s.k - 1)) 0) (omega arith) (omega arith) b s.invariant.small

pub loop-k-init : goal.loop-k-init
loop-k-init c = record { value = none c.args.width (drop c.args.at c.args.bytes.now); small = rw (sub_self c.args.width) (omega arith) }

pub overflow_mul-v : goal.overflow_mul-v
overflow_mul-v c =
    let s = c.loop-k in
    let w = c.args.width in
    omega (arith, small w (s.k - 1) (s.v * 256 + 0) c.requires.0 (next w s.k s.v 0 (omega arith) (omega arith) (omega arith) s.invariant.small))

pub overflow_add-v-in-loop-k : goal.overflow_add-v-in-loop-k
overflow_add-v-in-loop-k c = record { fits = small c.args.width (c.loop-k.k - 1) _ c.requires.0 (fits c) }

pub loop-k-preserved : goal.loop-k-preserved
loop-k-preserved c =
    let a = c.args in
    let s = c.loop-k in
    let e : s.k ≡ suc (s.k - 1) = omega arith in
    let f = take a.width (drop a.at a.bytes.now) in
    record {
      value = ap (λ (x : ℕ). x * 256 + get_or a.bytes.now (a.at + (s.k - 1)) 0) (s.invariant.value ∙ ap (λ (k : ℕ). le_value (drop k f)) e)
          ∙ turn a.bytes.now a.at a.width (s.k - 1) (omega arith) c.requires.1;
      small = fits c;
    }
