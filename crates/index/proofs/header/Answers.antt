-- Each test of the first 8 bytes decides the stage (StageLaws).
use Rattle.std.proofs.Common.{◌≡◌, take, sym, ◌∙◌, arith}
use Rattle.spec.specs.Bytes.{same}
use Rattle.spec.specs.Form.{form_of}
use Rattle.index.proofs.StageLaws.{digit-fits, mark-compared, header-short, header-mark, header-many, header-good}
use Rattle.index.proofs.header.Goals.{After-equal}
use Rattle.index.proofs.header.Goals as goal

-- the comparison of the mark
compared : (c : After-equal) → c.equal.result ≡ same (take 4 c.args.index.now) (form_of c.args.index.now).mark
compared c = mark-compared c.args.index.now c.args.format c.requires c.equal.result c.equal.ensures

pub returns-then-index-lt8 : goal.returns-then-index-lt8
returns-then-index-lt8 c = header-short c.args.index.now c.if-index-lt8.true

pub overflow_add-digit : goal.overflow_add-digit
overflow_add-digit c = omega (arith, digit-fits c.args.index.now c.args.format c.requires)

pub returns-then-not-equal : goal.returns-then-not-equal
returns-then-not-equal c =
    header-mark c.args.index.now (sym (compared (goal.at.returns-then-not-equal c).After-equal) ∙ c.if-not-equal.true)

pub returns-then-read-le65000 : goal.returns-then-read-le65000
returns-then-read-le65000 c =
    header-good c.args.index.now c.if-index-lt8.false (sym (compared (goal.at.returns-then-read-le65000 c).After-equal) ∙ c.if-not-equal.false)
    (omega arith)

pub returns-else-read-le65000 : goal.returns-else-read-le65000
returns-else-read-le65000 c = header-many c.args.index.now (omega arith)
