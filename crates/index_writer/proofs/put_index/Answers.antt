use Rattle.index_writer.proofs.Parts.{index-put}
use Rattle.index_writer.proofs.put_index.Goals as goal

pub returns : goal.returns
returns c =
    let a = c.args in
    let machine = a.machine.now in
    let e = c.put_entries in (
      index-put machine.list.now a.store.now a.out.now c.copy.new.out c.write.new.out c.copy-2.new.out e.new.out a.count c.requires.measures.walks.counted
          c.copy.ensures c.write.ensures c.copy-2.ensures e.ensures.0,
      e.ensures.1,
      e.ensures.2,
    )
