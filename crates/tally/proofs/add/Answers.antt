use Rattle.std.proofs.Common.{◌∙◌, arith}
use Rattle.spec.specs.Join.{counts_of}
use Rattle.spec.proofs.Clients.{key-length}
use Rattle.tally.proofs.Adding.{add-wrong-key, add-too-large, add_done}
use Rattle.tally.proofs.add.Goals as goal

pub returns-then-not-is_key : goal.returns-then-not-is_key
returns-then-not-is_key c = add-wrong-key c.args.key.now c.args.counts c.args.keywords (counts_of c.args.tally) cc

pub client_sums-more-requires : goal.client_sums-more-requires
client_sums-more-requires c = (c.requires.0, omega (arith, key-length c.args.keywords c.args.key.now cc), c.requires.1)

pub returns-then-not-fit_all : goal.returns-then-not-fit_all
returns-then-not-fit_all c =
    add-too-large c.args.key.now c.args.counts c.args.keywords (counts_of c.args.tally) (counts_of c.client_sums-more.result) (cc) c.client_sums-more.ensures cc

pub returns : goal.returns
returns c =
    let a = c.args in
    let more = c.client_sums-more in
    let done = add_done a.key.now a.counts a.keywords (counts_of a.tally) (counts_of more.result) (cc) more.ensures cc in
    (done.0, c.added.ensures ∙ done.1)
