-- The entry's key is looked for among the later ones, then the entry is put in front of its chain (`inserted`).
use Rattle.std.proofs.Common.{◌≡◌, ℕ, suc, List, [], length, get_or, drop, ap, ◌∙◌, arith}
use lib.Dec.{ltb}
use Rattle.spec.specs.Bytes.{contains}
use Rattle.directory.specs.Chains.{hash_of, keys_from}
use Rattle.directory.proofs.ChainLaws.{Headed, headed, contained, inserted, inserted-rest, length_from, key-room, key_in, key-length}
use Rattle.directory.proofs.insert.Goals.{After-key-probe, After-hash-h}
use Rattle.directory.proofs.insert.Goals as goal

-- the key that was read is the entry's
read-key : (c : After-key-probe) → c.key-probe.result.now ≡ get_or (keys_from c.args.bytes.now c.args.dir.start c.args.dir.stride c.args.dir.count) c.args.e []
read-key c = c.key-probe.ensures ∙ key_in c.args.bytes.now c.args.dir.start c.args.dir.stride c.args.dir.count c.requires.lies c.args.e c.requires.e_lt_count

-- it has 20 bytes
key-long : (c : After-key-probe) → length c.key-probe.result.now ≡ 20
key-long c =
    let dir = c.args.dir in
    ap length c.key-probe.ensures ∙ key-length c.args.bytes.now dir.start dir.stride dir.count c.requires.lies c.args.e c.requires.e_lt_count

-- where its chain begins
at_head : (c : After-hash-h)
    → Headed c.key-probe.result.now (keys_from c.args.bytes.now c.args.dir.start c.args.dir.stride c.args.dir.count)
    c.args.chains.now c.args.dir.count (suc c.args.e) (get_or c.args.chains.now c.hash-h.result 0)
at_head c =
    let a = c.args in
    headed c.key-probe.result.now _ a.chains.now (suc a.e) _ a.dir.count
    (length_from a.bytes.now a.dir.start a.dir.stride a.dir.count c.requires.lies) c.requires.e_lt_count c.requires.chained
    (ap (λ (h : ℕ). get_or a.chains.now h 0) c.hash-h.ensures.value)

pub key-probe-requires : goal.key-probe-requires
key-probe-requires c = key-room c.args.bytes.now c.args.dir.start c.args.dir.stride c.args.dir.count c.requires.lies c.args.e c.requires.e_lt_count

pub hash-h-requires : goal.hash-h-requires
hash-h-requires c = key-long (goal.at.hash-h-requires c).After-key-probe

pub follow-duplicate-requires-clause-linked : goal.follow-duplicate-requires-clause-linked
follow-duplicate-requires-clause-linked c = (at_head (goal.at.follow-duplicate-requires-clause-linked c).After-hash-h).links

pub follow-duplicate-requires-clause-starts : goal.follow-duplicate-requires-clause-starts
follow-duplicate-requires-clause-starts c = (at_head (goal.at.follow-duplicate-requires-clause-starts c).After-hash-h).starts

pub follow-duplicate-requires-clause-probe_len : goal.follow-duplicate-requires-clause-probe_len
follow-duplicate-requires-clause-probe_len c = key-long (goal.at.follow-duplicate-requires-clause-probe_len c).After-key-probe

pub bounds-chains-e : goal.bounds-chains-e
bounds-chains-e c =
    omega (arith, c.requires.chained.links.long, length_from c.args.bytes.now c.args.dir.start c.args.dir.stride c.args.dir.count c.requires.lies)

pub returns : goal.returns
returns c =
    let a = c.args in
    let keys = keys_from a.bytes.now a.dir.start a.dir.stride a.dir.count in
    let q = length_from a.bytes.now a.dir.start a.dir.stride a.dir.count c.requires.lies in
    let entry = read-key (goal.at.returns c).After-key-probe in
    let p = c.hash-h.ensures.value ∙ ap hash_of entry in
    record {
      found = ap (λ (r : ℕ). ltb r a.dir.count) (c.follow-duplicate.ensures ∙ (at_head (goal.at.returns c).After-hash-h).place)
          ∙ contained c.key-probe.result.now keys (suc a.e) a.dir.count q c.requires.e_lt_count
          ∙ ap (λ (k : List ℕ). contains k (drop (suc a.e) keys)) entry;
      chained = inserted keys a.chains.now a.e c.hash-h.result a.dir.count q c.requires.e_lt_count p c.requires.chained;
      rest = inserted-rest keys a.chains.now a.e c.hash-h.result a.dir.count q c.requires.e_lt_count p c.requires.chained;
    }
