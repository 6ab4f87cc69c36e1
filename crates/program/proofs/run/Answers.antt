-- What was read is the front of each file's buffer.
use Rattle.std.proofs.Common.{arith, sym, length, take, ℕ, List, ◌≤◌}
use lib.Seq.{length-take-le}
use Rattle.io.specs.Counts.{IsPrefixLen}
use Rattle.spec.specs.Program.{program_text}
use Rattle.output.proofs.Bounds.{text-length}
use Rattle.output.proofs.Programs.{printed-within}
use Rattle.program.proofs.run.Goals as goal

counts : (n : ℕ) (l : List ℕ) → n ≤ length l → IsPrefixLen n l
counts n l w = (w, sym (length-take-le n l w))

pub returns : goal.returns
returns g c =
    let store = take c.load-s.result c.load-s.new.buffer in
    let words = take c.load-w.result c.load-w.new.buffer in
    let recipes = take c.load-r.result c.load-r.new.buffer in
    let w : c.put.result ≤ length c.args.out.now =
    printed-within c.args.out.now c.put.new.out (program_text store words recipes) c.put.result c.put.ensures (text-length store words recipes) in (
      counts c.put.result c.put.new.out (omega (arith, w, c.put.auto.out)),
      record { store = store; words = words; recipes = recipes; count = c.put.ensures.0; bytes = c.put.ensures.1 },
    )
