use Rattle.std.proofs.Common.{◌≡◌, true, false, ℕ, ◌≤◌, length, sym, ap, ◌∙◌, arith}
use Rattle.spec.specs.Form.{newest}
use Rattle.records.specs.Summaries.{empty_in, tiny_in, record_part}
use Rattle.records.proofs.Starts.{tiny-prefix-most, tiny-suffix-most, part-tiny, part-least, length-tiny}
use Rattle.records.proofs.Starts.{length-head, length-many, put-nothing, put-as-tiny, put-as-few, put-as-many}
use Rattle.records.proofs.SetLaws.{start-length}
use Rattle.records.proofs.put_record.Goals as goal
use Rattle.records.proofs.put_record.Goals.{Else-is_empty, Then-is_tiny, Else-is_tiny}

pub returns-then-is_empty : goal.returns-then-is_empty
returns-then-is_empty c = λ n. let a = c.args in put-nothing a.out.now a.k a.s n (sym c.is_empty.ensures ∙ c.if-is_empty.true)

-- the record has room where what stands before its list has
fits : (c : Else-is_empty) → length (record_part newest 0 c.args.k c.args.s) ≤ length c.args.out.now
fits c = omega (arith, c.requires.room, start-length 0 c.args.k c.args.s)

-- not empty
some : (c : Else-is_empty) → empty_in c.args.s ≡ false
some c = sym c.is_empty.ensures ∙ c.if-is_empty.false

tiny : (c : Then-is_tiny) (n : ℕ) → tiny_in newest n c.args.s ≡ true
tiny c n = sym (c.is_tiny.ensures n) ∙ c.if-is_tiny.true

full : (c : Else-is_tiny) (n : ℕ) → tiny_in newest n c.args.s ≡ false
full c n = sym (c.is_tiny.ensures n) ∙ c.if-is_tiny.false

pub put_tiny-requires : goal.put_tiny-requires
put_tiny-requires c =
    let e = (goal.at.put_tiny-requires c).Else-is_empty in
    let t = tiny (goal.at.put_tiny-requires c).Then-is_tiny in
    let s = c.args.s in (
      omega (arith, fits e, ap length (part-tiny 0 c.args.k s (some e) (t 0)), length-tiny 0 c.args.k s),
      c.requires.number,
      tiny-prefix-most s 0 (t 0),
      tiny-suffix-most s 0 (t 0),
    )

pub returns-then-is_tiny : goal.returns-then-is_tiny
returns-then-is_tiny c = λ n.
    let a = c.args in
    let g = goal.at.returns-then-is_tiny c in
    put-as-tiny a.out.now a.k a.s n c.put_tiny.result c.put_tiny.new.out (some g.Else-is_empty) (tiny g.Then-is_tiny n) c.put_tiny.ensures

pub put_head-head-requires : goal.put_head-head-requires
put_head-head-requires c =
    let g = goal.at.put_head-head-requires c in
    let least = part-least 0 c.args.k c.args.s (some g.Else-is_empty) (full g.Else-is_tiny 0) in
    (omega (arith, fits g.Else-is_empty, least), c.requires.number, c.requires.prefixed, c.requires.suffixed)

pub returns-then-count-le-LISTED_MOST : goal.returns-then-count-le-LISTED_MOST
returns-then-count-le-LISTED_MOST c = λ n.
    let a = c.args in
    let g = goal.at.returns-then-count-le-LISTED_MOST c in
    let h = c.put_head-head in
    put-as-few a.out.now a.k a.s n h.result h.new.out (some g.Else-is_empty) (full g.Else-is_tiny n) c.if-count-le-LISTED_MOST.true h.ensures

pub write-requires : goal.write-requires
write-requires c =
    let a = c.args in
    let g = goal.at.write-requires c in
    let many = length-many 0 a.k a.s (some g.Else-is_empty) (full g.Else-is_tiny 0) (omega arith) in
    omega (arith, fits g.Else-is_empty, many, c.put_head-head.ensures.ends, length-head 0 a.k a.s)

pub overflow_add-result : goal.overflow_add-result
overflow_add-result c = omega (arith, c.put_head-head.ensures.ends, length-head 0 c.args.k c.args.s)

pub returns : goal.returns
returns c = λ n.
    let a = c.args in
    let g = goal.at.returns c in
    let h = c.put_head-head in
    put-as-many a.out.now a.k a.s n h.result h.new.out c.write.new.out (some g.Else-is_empty) (full g.Else-is_tiny n) (omega arith) h.ensures c.write.ensures
