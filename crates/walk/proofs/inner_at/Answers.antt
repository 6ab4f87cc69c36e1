use Rattle.std.proofs.Common.{◌≡◌, ◌+◌, ◌≤◌, ℕ, length, ap₂, ◌∙◌, arith}
use Rattle.spec.specs.Form.{Form}
use Rattle.loader.specs.Loaded.{row_of, set_at}
use Rattle.walk.specs.Walking.{body_end}
use Rattle.walk.proofs.Entries.{entry-room, body-inside, in-directory, offset-is, length-is, said, few}
use Rattle.walk.proofs.inner_at.Goals.{After-read-long}
use Rattle.walk.proofs.inner_at.Goals as goal

-- where its body ends
end : (c : After-read-long) → c.read-from.result + c.read-long.result ≡ body_end c.args.source.now.index.now c.args.e
end c =
    ap₂ (λ (x y : ℕ). x + y)
    (c.read-from.ensures ∙ offset-is _ c.args.source.now.opened c.requires.checked.0 c.args.e c.requires.checked.1)
    (c.read-long.ensures ∙ length-is _ c.args.source.now.opened c.requires.checked.0 c.args.e c.requires.checked.1)

inside : (c : After-read-long) → body_end c.args.source.now.index.now c.args.e ≤ length c.args.source.now.index.now
inside c =
    body-inside _ c.requires.checked.0.good c.args.e (in-directory _ c.args.source.now.opened c.requires.checked.0 c.args.e c.requires.checked.1)

pub overflow_mul-entry : goal.overflow_mul-entry
overflow_mul-entry c = omega (arith, entry-room _ c.args.source.now.opened c.requires.checked.0 c.args.e c.requires.checked.1)

pub overflow_add-entry : goal.overflow_add-entry
overflow_add-entry c = omega (arith, entry-room _ c.args.source.now.opened c.requires.checked.0 c.args.e c.requires.checked.1)

pub overflow_add-entry-2 : goal.overflow_add-entry-2
overflow_add-entry-2 c = omega (arith, entry-room _ c.args.source.now.opened c.requires.checked.0 c.args.e c.requires.checked.1)

pub read-from-requires : goal.read-from-requires
read-from-requires c = omega (arith, entry-room _ c.args.source.now.opened c.requires.checked.0 c.args.e c.requires.checked.1)

pub overflow_add-entry-3 : goal.overflow_add-entry-3
overflow_add-entry-3 c = omega (arith, entry-room _ c.args.source.now.opened c.requires.checked.0 c.args.e c.requires.checked.1)

pub read-long-requires : goal.read-long-requires
read-long-requires c = omega (arith, entry-room _ c.args.source.now.opened c.requires.checked.0 c.args.e c.requires.checked.1)

pub offset_bounds-rows-k : goal.offset_bounds-rows-k
offset_bounds-rows-k c = omega (arith, few _ c.args.source.now.opened c.requires.checked.0)

pub bounds-rows-k : goal.bounds-rows-k
bounds-rows-k c = omega (arith, few _ c.args.source.now.opened c.requires.checked.0)

pub overflow_add-from : goal.overflow_add-from
overflow_add-from c = let r = (goal.at.overflow_add-from c).After-read-long in omega (arith, end r, inside r)

pub set_at-requires : goal.set_at-requires
set_at-requires c =
    let r = (goal.at.set_at-requires c).After-read-long in
    (omega (arith, end r, c.requires.sets_behind.ended c.args.k c.requires.checked.2), omega (arith, end r, inside r))

pub returns : goal.returns
returns c =
    c.set_at.ensures
    ∙ ap₂ (λ (f : Form) (e : ℕ). set_at f c.args.source.now.index.now e (row_of c.args.rows.now c.args.k) c.args.k)
    (said _ c.args.source.now.opened c.requires.checked.0) (end (goal.at.returns c).After-read-long)
    ∙ c.requires.sets_behind.inner c.args.k c.requires.checked.2
