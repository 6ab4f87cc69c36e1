-- `write` meets its contract: the bytes that are left, written from at + k on, give the whole field written.
use Rattle.std.proofs.Common.{◌≡◌, ◌+◌, ◌-◌, length}
use Rattle.spec.specs.Bytes.{le_bytes, splice}
use Rattle.field.proofs.write.Given as goal

abbrev pub invariant-loop-k : goal.invariant-loop-k
invariant-loop-k l =
    record { same : length l.out ≡ length l.fn.out; rest : splice l.out (l.at + l.k) (le_bytes (l.width - l.k) l.rest) ≡ splice l.fn.out l.at (le_bytes l.width l.v) }
