use Rattle.std.proofs.Common.{ℕ, List, ◌<◌, ◌+◌, arith}
use Rattle.spec.specs.Bytes.{field_at, AllBytes}
use Rattle.spec.specs.declared.Format.{Format}
use Rattle.bodies.specs.Check.{Head}
use Rattle.spec.proofs.FieldLists.{field_lt}
use Rattle.bodies.proofs.KindChecks.{three-short, three-count, three-few, three-refused, three-good, times-small, field-small}
use Rattle.bodies.proofs.many.Goals as goal
use Rattle.bodies.proofs.many.Goals.{then-bytes-at-via-then-bytes-at, then-bytes-at-via-else-bytes-at+then-bytes}

-- the exact count fits
exact-small : (format : Format) (n size : ℕ) (bytes : List ℕ) → Head format 3 n size bytes → AllBytes bytes
    → field_at bytes (5 + format.width) format.width < 16777216
exact-small format n size bytes h b = field-small format.width _ h.lengths.fields.wide (field_lt bytes (5 + format.width) format.width b)

pub returns-then-bytes-at : goal.returns-then-bytes-at
returns-then-bytes-at c =
    let a = c.args in
    elim c.then-bytes-at.branch [
      | then-bytes-at-via-then-bytes-at w ↦ three-short a.format a.n a.size a.bytes.now c.requires (omega arith)
      | then-bytes-at-via-else-bytes-at+then-bytes w ↦ three-count a.format a.n a.size a.bytes.now c.requires (omega arith)
    ]

pub returns-then-count-lt255 : goal.returns-then-count-lt255
returns-then-count-lt255 c = three-few c.args.format c.args.n c.args.size c.args.bytes.now c.requires (omega arith)

pub offsets_good-requires : goal.offsets_good-requires
offsets_good-requires c =
    let few = exact-small c.args.format c.args.n c.args.size c.args.bytes.now c.requires (λ i. omega (arith, c.type_inv.bytes i)) in
    (c.requires.long, omega arith, c.requires.lengths.fields.wide, omega arith, omega arith, c.requires.lengths.positive)

pub returns-then-not-offsets_good : goal.returns-then-not-offsets_good
returns-then-not-offsets_good c = three-refused c.args.format c.args.n c.args.size c.args.bytes.now c.requires (omega arith) cc

pub overflow_mul-result : goal.overflow_mul-result
overflow_mul-result c =
    let few = exact-small c.args.format c.args.n c.args.size c.args.bytes.now c.requires (λ i. omega (arith, c.type_inv.bytes i)) in
    let wide = c.requires.lengths.fields.wide in
    record { fits = omega (arith, times-small c.args.format.width c.read-count.result wide) }

pub overflow_add-result : goal.overflow_add-result
overflow_add-result c =
    let few = exact-small c.args.format c.args.n c.args.size c.args.bytes.now c.requires (λ i. omega (arith, c.type_inv.bytes i)) in
    let wide = c.requires.lengths.fields.wide in
    record { fits = omega (arith, times-small c.args.format.width c.read-count.result wide) }

pub returns : goal.returns
returns c =
    let a = c.args in
    let good = three-good a.format a.n a.size a.bytes.now c.requires (λ i. omega (arith, c.type_inv.bytes i)) (omega arith) (omega arith) (cc) in
    cc
