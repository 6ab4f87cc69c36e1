-- The directory of a store, as the crate below takes it.
use Rattle.std.proofs.Common.{ℕ, List, sym, subst}
use Rattle.directory.specs.Chains.{Chained}
use Rattle.store.proofs.Answers.{keys_from_lem, found_at, lies}
use Rattle.store.proofs.position.Goals as goal

pub find-requires-clause-lies : goal.find-requires-clause-lies
find-requires-clause-lies c = lies c.args.store.now c.args.count c.requires.0.checked c.requires.0.counts

pub find-requires-clause-chained : goal.find-requires-clause-chained
find-requires-clause-chained c =
    let findable = c.requires.0 in
    subst (λ (keys : List (List ℕ)). Chained keys 0 c.args.chains.now) (sym (keys_from_lem c.args.store.now c.args.count findable.counts)) findable.chained

pub returns : goal.returns
returns c = found_at c.args.store.now c.args.fp.now c.args.count c.requires.0.counts _ c.find.ensures
