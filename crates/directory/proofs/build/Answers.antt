-- At the end, that says every element of the array (ChainLists).
use Rattle.std.proofs.Common.{◌≡◌, ℕ, subst, drop, refl, ap, ◌∙◌, arith}
use Rattle.spec.specs.Bytes.{twice}
use Rattle.directory.specs.Chains.{keys_from, Chained}
use Rattle.directory.proofs.ChainLaws.{empty, twice-none, length_from}
use Rattle.directory.proofs.ChainLists.{chains-are}
use Rattle.directory.proofs.build.Goals as goal

pub loop-e-init : goal.loop-e-init
loop-e-init c =
    let a = c.args in
    let keys = keys_from a.bytes.now a.start a.stride a.count in
    let q = length_from a.bytes.now a.start a.stride a.count c.requires.lies in
    record { found = twice-none keys a.count q; chained = empty keys a.chains.now a.count q c.requires.lies.few c.requires.empty; rest = refl }

pub returns : goal.returns
returns c =
    let keys = keys_from c.args.bytes.now c.args.start c.args.stride c.args.count in
    let z : c.loop-e.e ≡ 0 = omega arith in
    let chained = subst (λ (e : ℕ). Chained keys e c.loop-e.chains) z c.loop-e.invariant.chained in
    (c.loop-e.invariant.found ∙ ap (λ (e : ℕ). twice (drop e keys)) z, chains-are keys c.loop-e.chains c.args.chains.now chained c.loop-e.invariant.rest)
