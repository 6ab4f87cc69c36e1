use Rattle.std.proofs.Common.{◌∙◌, Bool}
use mathlib.Core.Path.{ap₂}
use Rattle.spec.specs.Bytes.{same}
use Rattle.keywords.proofs.Comparing.{part-folded}
use Rattle.keywords.proofs.alike_at.Goals as goal

pub returns : goal.returns
returns c =
    let a = c.args in
    let p = c.requires.0 in
    let list = a.list.now in
    c.alike.ensures
    ∙ ap₂ {C = Bool} same (part-folded list a.flag a.i _ _ p.flags (p.placed a.i c.requires.1))
    (part-folded list a.flag a.j _ _ p.flags (p.placed a.j c.requires.2))
