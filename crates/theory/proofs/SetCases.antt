-- Request #108's cases, by computation. Assumes nothing.
use mathlib.Core.Path.{refl}
use Rattle.theory.specs.SetCases.{SetCases}
use Rattle.theory.proofs.Cases.{definitions}

pub set_cases : SetCases
unfolding definitions
set_cases =
    record {
      listed = (refl, refl);
      older = refl;
      small = (refl, refl, refl, refl);
      body = refl;
      six_as = refl;
      two_files = refl;
      starts = refl;
      shortest = refl;
      widest = (refl, refl);
      out_of_range = (refl, refl, refl, refl, refl, refl);
      second = refl;
      before = refl;
      behind_next = refl;
      cut = refl;
      plain = refl;
      good = (refl, refl);
    }
