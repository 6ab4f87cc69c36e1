use Rattle.std.proofs.Common.{sym, ap, ◌∙◌, length, arith}
use Rattle.records.proofs.Starts.{part-empty, part-tiny, part-few, length-tiny, length-head, length-many}
use Rattle.records.proofs.record_size.Goals as goal

pub returns-then-is_empty : goal.returns-then-is_empty
returns-then-is_empty c = λ n k. sym (ap length (part-empty n k c.args.s (sym c.is_empty.ensures ∙ c.if-is_empty.true)))

pub returns-then-is_tiny : goal.returns-then-is_tiny
returns-then-is_tiny c = λ n k.
    let s = c.args.s in
    sym (ap length (part-tiny n k s (sym c.is_empty.ensures ∙ c.if-is_empty.false) (sym (c.is_tiny.ensures n) ∙ c.if-is_tiny.true)) ∙ length-tiny n k s)

pub returns-then-s-le-LISTED_MOST : goal.returns-then-s-le-LISTED_MOST
returns-then-s-le-LISTED_MOST c = λ n k.
    let s = c.args.s in
    sym (ap length (part-few n k s (sym c.is_empty.ensures ∙ c.if-is_empty.false) (sym (c.is_tiny.ensures n) ∙ c.if-is_tiny.false) (omega arith))
    ∙ length-head n k s)

pub returns-else-s-le-LISTED_MOST : goal.returns-else-s-le-LISTED_MOST
returns-else-s-le-LISTED_MOST c = λ n k.
    sym (length-many n k c.args.s (sym c.is_empty.ensures ∙ c.if-is_empty.false) (sym (c.is_tiny.ensures n) ∙ c.if-is_tiny.false) (omega arith))
