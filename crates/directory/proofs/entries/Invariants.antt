-- What is left of the check, from entry k on, gives the number of the whole, whichever it is.
use Rattle.std.proofs.Common.{◌≡◌, ◌+◌, ◌*◌, ◌-◌, ◌≤◌, ℕ, length}
use Rattle.spec.specs.Directory.{entries_code}
use Rattle.directory.specs.Chains.{layout_of}
use Rattle.directory.proofs.entries.Given as goal

abbrev pub invariant-loop-k : goal.invariant-loop-k
invariant-loop-k l =
    let layout = layout_of l.start l.stride l.sizes l.offsets l.lengths in
    record {
      inside : l.at ≤ length l.bytes;
      left : (code : ℕ) → entries_code layout l.bytes l.most code (l.count - l.k) l.k l.at
          ≡ entries_code layout l.bytes l.most code l.count 0 (l.start + l.stride * l.count);
    }
