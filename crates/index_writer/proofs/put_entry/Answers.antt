use Rattle.index_writer.proofs.Turns.{entry-put}
use Rattle.index_writer.proofs.put_entry.Goals as goal

pub returns : goal.returns
returns c =
    let a = c.args in
    entry-put a.out.now c.copy.new.out c.write.new.out c.write-2.new.out c.write-3.new.out a.key.now a.at a.size a.offset a.len
    c.requires.room c.requires.long c.copy.ensures c.write.ensures c.write-2.ensures c.write-3.ensures
