-- A step of the chain does not change the key's place (`step`).
use Rattle.std.proofs.Common.{◌≡◌, ◌+◌, ◌-◌, false, [], length, get_or, sym, ap, ◌∙◌, arith}
use Rattle.spec.specs.Bytes.{same}
use Rattle.directory.specs.Chains.{keys_from, place_from}
use Rattle.directory.proofs.ChainLaws.{Stepped, step, place-hit, place_none, length_from, key-room, key_in, key-length}
use Rattle.directory.proofs.follow.Goals.{After-same_key}
use Rattle.directory.proofs.follow.Goals as goal

-- what the comparison of the keys says
compared : (c : After-same_key)
    → same c.args.probe.now (get_or (keys_from c.args.bytes.now c.args.dir.start c.args.dir.stride c.args.dir.count) (c.args.dir.count - c.loop-n.n) [])
    ≡ c.same_key.result
compared c =
    let dir = c.args.dir in
    let long = length_from c.args.bytes.now dir.start dir.stride dir.count c.requires.lies in
    let at_key = key_in c.args.bytes.now dir.start dir.stride dir.count c.requires.lies (dir.count - c.loop-n.n) (omega arith) in
    ap (same c.args.probe.now) (sym (c.key.ensures ∙ at_key))
    ∙ sym c.same_key.ensures

-- the chain's next place
stepped : (c : After-same_key) → c.same_key.result ≡ false
    → Stepped c.args.probe.now (keys_from c.args.bytes.now c.args.dir.start c.args.dir.stride c.args.dir.count) c.args.dir.count c.loop-n.n
    (get_or c.args.chains.now (65536 + (c.args.dir.count - c.loop-n.n)) 0)
stepped c f =
    let a = c.args in
    let long = length_from a.bytes.now a.dir.start a.dir.stride a.dir.count c.requires.lies in
    step a.probe.now _ a.from c.loop-n.n a.chains.now a.dir.count long (omega (arith, c.requires.starts.within)) c.loop-n.invariant.within (omega arith)
    c.requires.linked c.loop-n.invariant.starts (compared c ∙ f)

pub overflow_sub-e : goal.overflow_sub-e
overflow_sub-e c = omega (arith, length_from c.args.bytes.now c.args.dir.start c.args.dir.stride c.args.dir.count c.requires.lies)

pub key-requires : goal.key-requires
key-requires c =
    let dir = c.args.dir in
    let long = length_from c.args.bytes.now dir.start dir.stride dir.count c.requires.lies in
    key-room c.args.bytes.now dir.start dir.stride dir.count c.requires.lies (dir.count - c.loop-n.n) (omega arith)

pub same_key-requires : goal.same_key-requires
same_key-requires c =
    let dir = c.args.dir in
    let long = length_from c.args.bytes.now dir.start dir.stride dir.count c.requires.lies in (
      c.requires.probe_len,
      ap length c.key.ensures
          ∙ key-length c.args.bytes.now dir.start dir.stride dir.count c.requires.lies (dir.count - c.loop-n.n) (omega arith),
    )

pub returns-then-same_key : goal.returns-then-same_key
returns-then-same_key c =
    let dir = c.args.dir in
    let long = length_from c.args.bytes.now dir.start dir.stride dir.count c.requires.lies in
    let at = (goal.at.returns-then-same_key c).After-same_key in
    sym (place-hit c.args.probe.now _ (dir.count - c.loop-n.n) (omega arith) (compared at ∙ c.if-same_key.true)) ∙ c.loop-n.invariant.place

pub bounds-chains-e : goal.bounds-chains-e
bounds-chains-e c = omega (arith, length_from c.args.bytes.now c.args.dir.start c.args.dir.stride c.args.dir.count c.requires.lies)

pub loop-n-smaller : goal.loop-n-smaller
loop-n-smaller c = (stepped (goal.at.loop-n-smaller c).After-same_key c.if-same_key.false).less

pub loop-n-preserved : goal.loop-n-preserved
loop-n-preserved c =
    let s = stepped (goal.at.loop-n-preserved c).After-same_key c.if-same_key.false in
    record { within = omega (arith, s.less); starts = s.starts; place = s.place ∙ c.loop-n.invariant.place }

pub returns : goal.returns
returns c =
    let dir = c.args.dir in
    let keys = keys_from c.args.bytes.now dir.start dir.stride dir.count in
    let z : dir.count ≡ dir.count - c.loop-n.n = omega arith in
    sym (place_none c.args.probe.now keys dir.count (length_from c.args.bytes.now dir.start dir.stride dir.count c.requires.lies))
    ∙ ap (place_from c.args.probe.now keys) z ∙ c.loop-n.invariant.place
