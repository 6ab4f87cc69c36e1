use Rattle.std.proofs.Common.{◌*◌, List, ℕ, ap, ◌∙◌}
use Rattle.spec.specs.Bytes.{position_of}
use Rattle.files.specs.Measures.{keys_at}
use Rattle.files.proofs.Places.{slice-part}
use Rattle.files.proofs.entry_of.Goals as goal

pub returns : goal.returns
returns c =
    let keys = keys_at c.args.index.now c.args.opened.directory c.args.opened.entries in
    c.find.ensures ∙ ap (λ (x : List ℕ). position_of x keys) (slice-part c.args.file.now (20 * c.args.j))
