-- The directory cut short, or what the crate below says of the entries, whichever number is asked of it.
use Rattle.std.proofs.Common.{◌≡◌, Bool, cond, sym, ap, ◌∙◌}
use Rattle.spec.specs.Form.{form_of}
use Rattle.spec.specs.Index.{directory_code}
use Rattle.index.proofs.StageLaws.{longest-is, directory-cut, directory-walk}
use Rattle.index.proofs.entries.Goals.{After-entries}
use Rattle.index.proofs.entries.Goals as goal

walked : (c : After-entries) → cond c.entries.result 0 11 ≡ directory_code (form_of c.args.index.now) c.args.index.now
walked c =
    let a = c.args in
    directory-walk a.index.now a.start a.count c.requires.0 (cond c.entries.result 0 11) c.if-index-start.false
    a.format.longest (longest-is a.index.now a.format c.requires.1) (c.entries.ensures 11)

pub returns-then-index-start : goal.returns-then-index-start
returns-then-index-start c = directory-cut c.args.index.now c.args.start c.args.count c.requires.0 c.if-index-start.true

pub returns-then-entries : goal.returns-then-entries
returns-then-entries c = sym (ap (λ (b : Bool). cond b 0 11) c.if-entries.true) ∙ walked (goal.at.returns-then-entries c).After-entries

pub returns-else-entries : goal.returns-else-entries
returns-else-entries c = sym (ap (λ (b : Bool). cond b 0 11) c.if-entries.false) ∙ walked (goal.at.returns-else-entries c).After-entries
