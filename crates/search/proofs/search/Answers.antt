-- By the contracts of the scan and the join alone (Together).
use Rattle.std.proofs.Common.{sym, ap, ◌∙◌}
use Rattle.spec.specs.Refusal.{number_of}
use Rattle.spec.specs.Scanned.{scanned_of}
use Rattle.spec.specs.Searched.{searched_of}
use Rattle.spec.specs.Join.{counts_of, lent}
use Rattle.search.proofs.Together.{not-scanned, front_length, front-room, scanned-joined}
use Rattle.search.proofs.search.Goals as goal

pub slice_bounds-joined-end : goal.slice_bounds-joined-end
slice_bounds-joined-end c =
    let a = c.args in
    let d = c.in-Ok.done in
    front-room a.list.now a.store.now a.recipes.now (lent a.key.now a.before) a.index.now a.out.now d.size d.moves
    (sym c.scan.ensures.0 ∙ ap scanned_of c.in-Ok.is) c.scan.new.out c.scan.ensures.1

pub returns-in-Err : goal.returns-in-Err
returns-in-Err c =
    let a = c.args in
    not-scanned a.list.now a.store.now a.recipes.now (lent a.key.now a.before) a.index.now a.out.now c.scan.new.out (number_of c.in-Err.refusal)
    c.scan.ensures.1 (sym c.scan.ensures.0 ∙ ap scanned_of c.in-Err.is)

pub returns-in-Ok : goal.returns-in-Ok
returns-in-Ok c =
    let a = c.args in
    let d = c.in-Ok.done in
    scanned-joined a.list.now a.store.now a.recipes.now (lent a.key.now a.before) a.index.now a.out.now d.size d.moves
    (sym c.scan.ensures.0 ∙ ap scanned_of c.in-Ok.is) c.scan.new.out c.scan.ensures.1 c.joined.new.out (searched_of c.joined.result.searched)
    (counts_of c.joined.result.tally) c.joined.ensures

pub slice_bounds-joined-end-in-Ok : goal.slice_bounds-joined-end-in-Ok
slice_bounds-joined-end-in-Ok c =
    let a = c.args in
    let d = c.in-Ok.done in
    front_length a.list.now a.store.now a.recipes.now (lent a.key.now a.before) a.index.now a.out.now d.size d.moves
    (sym c.scan.ensures.0 ∙ ap scanned_of c.in-Ok.is) c.scan.new.out c.scan.ensures.1
