use Rattle.loader.proofs.Loading.{Loading}
use Rattle.loader.proofs.load.Given as goal

abbrev pub invariant-loop-k : goal.invariant-loop-k
invariant-loop-k l = Loading l.format l.index l.at l.len l.count l.fn.rows l.rows l.place l.k
