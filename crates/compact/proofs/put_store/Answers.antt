-- Mark, count, and what put_chunks writes, each where the one before ends (Writing).
use Rattle.std.proofs.Common.{arith}
use Rattle.compact.specs.Marking.{marked_from}
use Rattle.compact.proofs.Writing.{store-put}
use Rattle.compact.proofs.put_store.Goals as goal

pub returns : goal.returns
returns c =
    store-put c.args.out.now c.copy.new.out c.write.new.out c.put_chunks.new.out (marked_from c.args.store.now c.args.marks.now 0) c.args.n
    c.requires.number (omega (arith, c.requires.room)) c.copy.ensures c.write.ensures c.put_chunks.ensures
