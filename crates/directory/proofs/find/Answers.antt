-- The chain of the key's hash begins where its head says (`headed`).
use Rattle.std.proofs.Common.{ℕ, ap, ◌∙◌, arith}
use native.Mathlib.Nat.{zero-add}
use lib.ListN.{get_or}
use Rattle.spec.specs.Bytes.{position_of}
use Rattle.directory.specs.Chains.{keys_from}
use Rattle.directory.proofs.ChainLaws.{Headed, headed, length_from}
use Rattle.directory.proofs.find.Goals.{After-hash-h}
use Rattle.directory.proofs.find.Goals as goal

-- where the key's chain begins
at_head : (c : After-hash-h)
    → Headed c.args.probe.now (keys_from c.args.bytes.now c.args.start c.args.stride c.args.count) c.args.chains.now c.args.count 0
    (get_or c.args.chains.now c.hash-h.result 0)
at_head c =
    let a = c.args in
    headed a.probe.now _ a.chains.now 0 _ a.count (length_from a.bytes.now a.start a.stride a.count c.requires.lies) (omega arith)
    c.requires.chained (ap (λ (h : ℕ). get_or a.chains.now h 0) c.hash-h.ensures.value)

pub follow-requires-clause-linked : goal.follow-requires-clause-linked
follow-requires-clause-linked c = (at_head (goal.at.follow-requires-clause-linked c).After-hash-h).links

pub follow-requires-clause-starts : goal.follow-requires-clause-starts
follow-requires-clause-starts c = (at_head (goal.at.follow-requires-clause-starts c).After-hash-h).starts

pub returns : goal.returns
returns c =
    c.follow.ensures ∙ (at_head (goal.at.returns c).After-hash-h).place
    ∙ zero-add (position_of c.args.probe.now (keys_from c.args.bytes.now c.args.start c.args.stride c.args.count))
