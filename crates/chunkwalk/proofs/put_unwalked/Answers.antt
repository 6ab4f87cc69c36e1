use Rattle.logs.proofs.Tallying.{zeros}
use Rattle.records.proofs.Beginning.{started-size}
use Rattle.records.proofs.Whole.{body-without}
use Rattle.chunkwalk.specs.Marks.{nothing}
use Rattle.chunkwalk.proofs.put_unwalked.Goals as goal

pub returns : goal.returns
returns c =
    let a = c.args in
    let m = a.m.now in
    let r = c.put_starts in (
      body-without m.list.now m.words a.chunk.now m.tails.now a.node nothing c.requires.0 (λ k. zeros 16 k) a.out.now r.new.out
          c.requires.1 r.ensures.0,
      started-size m.list.now a.chunk.now r.result r.ensures.1,
    )
