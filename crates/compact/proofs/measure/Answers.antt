use Rattle.std.proofs.Common.{◌≡◌, Bool, true, false, cond, ℕ, ◌*◌, ◌<◌, ◌≤◌, length, get_or, refl, ap, ◌∙◌, arith}
use mathlib.Core.Path.{ap₂}
use mir.Val.{bool_byte}
use native.Mathlib.Nat.{zero-add, mul-le-mul_right}
use Rattle.spec.specs.Store.{chunk_count, chunk_at}
use Rattle.spec.proofs.StoreLaws.{store-good, chunk-length, store-size-most}
use Rattle.compact.specs.Marking.{chunk_bytes}
use Rattle.compact.proofs.Marked.{marked-end, count-step, size_step}
use Rattle.compact.proofs.measure.Goals.{After-from-mark}
use Rattle.compact.proofs.measure.Goals as goal

byte_of : (b : Bool) → bool_byte b ≡ cond b 1 0
byte_of true = refl
byte_of false = refl

one-most : (b : Bool) → cond b 1 0 ≤ 1
one-most true = omega arith
one-most false = omega arith

-- in a turn: the mark, the chunk's length, and their product
module _ (c : After-from-mark) where
  within : c.loop-k.k < chunk_count c.args.store.now
  within = omega (arith, c.requires.counts)

  few : c.loop-k.k < 65000
  few = omega (arith, within, (store-good c.args.store.now c.requires.checked).few)

  mark-is : c.from-mark.result ≡ cond (get_or c.args.marks.now c.loop-k.k false) 1 0
  mark-is = c.from-mark.ensures ∙ byte_of (get_or c.args.marks.now c.loop-k.k false)

  bit : c.from-mark.result ≤ 1
  bit = omega (arith, mark-is, one-most (get_or c.args.marks.now c.loop-k.k false))

  product-is : c.from-mark.result * length c.chunk_at-chunk.result.now
      ≡ cond (get_or c.args.marks.now c.loop-k.k false) 1 0 * length (chunk_at c.args.store.now c.loop-k.k)
  product-is = ap₂ {C = ℕ} (λ m n. m * n) mark-is (ap length c.chunk_at-chunk.ensures.0)

  product : c.from-mark.result * length c.chunk_at-chunk.result.now ≤ 1048576
  product =
      let store = c.args.store.now in
      let good = store-good store c.requires.checked in
      let p : c.from-mark.result * length c.chunk_at-chunk.result.now ≤ 1 * length c.chunk_at-chunk.result.now =
      mul-le-mul_right (length c.chunk_at-chunk.result.now) bit in
      let long : length c.chunk_at-chunk.result.now ≡ length (chunk_at store c.loop-k.k) = ap length c.chunk_at-chunk.ensures.0 in
      omega (arith, p, long, chunk-length store good c.loop-k.k within, store-size-most store good c.loop-k.k within)

pub loop-k-init : goal.loop-k-init
loop-k-init c = record { counted = zero-add _; sized = zero-add _; few = omega arith; short = omega arith }

pub chunk_at-chunk-requires : goal.chunk_at-chunk-requires
chunk_at-chunk-requires c = record { checked = c.requires.checked; within = omega (arith, c.requires.counts) }

pub overflow_add-n : goal.overflow_add-n
overflow_add-n c = let at = (goal.at.overflow_add-n c).After-from-mark in omega (arith, bit at, few at)

pub overflow_mul-size : goal.overflow_mul-size
overflow_mul-size c = omega (arith, product (goal.at.overflow_mul-size c).After-from-mark)

pub overflow_add-size : goal.overflow_add-size
overflow_add-size c = let at = (goal.at.overflow_add-size c).After-from-mark in omega (arith, product at, few at)

pub loop-k-preserved : goal.loop-k-preserved
loop-k-preserved c =
    let at = (goal.at.loop-k-preserved c).After-from-mark in
    let store = c.args.store.now in
    let marks = c.args.marks.now in
    let k = c.loop-k.k in
    record {
      counted = omega (arith, c.loop-k.invariant.counted, count-step store marks k (within at), mark-is at);
      sized = omega (arith, c.loop-k.invariant.sized, size_step store marks k (within at), product-is at);
      few = omega (arith, c.loop-k.invariant.few, bit at);
      short = omega (arith, c.loop-k.invariant.short, product at);
    }

pub returns : goal.returns
returns c =
    let l = c.loop-k in
    let none = marked-end c.args.store.now c.args.marks.now l.k (omega (arith, c.requires.counts)) in
    let few : l.k ≤ 65000 = omega (arith, c.requires.counts, (store-good c.args.store.now c.requires.checked).few) in (
      omega (arith, l.invariant.counted, ap length none),
      omega (arith, l.invariant.sized, ap (λ cs. length (chunk_bytes cs)) none),
      omega (arith, l.invariant.few, few),
      omega (arith, l.invariant.short, few),
    )
