-- Nothing is written, or the chunk (Writing).
use Rattle.compact.proofs.Writing.{none-put, one-room, one-put}
use Rattle.compact.proofs.put_marked.Goals as goal

pub put_chunk-requires : goal.put_chunk-requires
put_chunk-requires c = one-room c.args.store.now c.args.out.now c.args.place.entry c.args.place.at c.args.k c.args.marked c.if-marked.true c.requires

pub returns-then-marked : goal.returns-then-marked
returns-then-marked c =
    one-put c.args.store.now c.args.out.now c.args.place.entry c.args.place.at c.args.k c.args.marked c.if-marked.true
    c.put_chunk.new.out c.put_chunk.result.entry c.put_chunk.result.at c.put_chunk.ensures

pub returns-else-marked : goal.returns-else-marked
returns-else-marked c = none-put c.args.store.now c.args.out.now c.args.place.entry c.args.place.at c.args.k c.args.marked c.if-marked.false
