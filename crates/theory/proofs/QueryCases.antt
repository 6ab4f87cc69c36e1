-- Request #109's cases, by computation. Assumes nothing.
use mathlib.Core.Path.{refl}
use Prim.Native.Nat.{ℕ}
use Rattle.spec.specs.Query.{earliest, line_of, lines_from, query_lines, line_bytes, lines_bytes, is_query, queryable_code, query_code, query_outcome, query_buffer}
use Rattle.theory.specs.QueryCases.{QueryCases}
use Rattle.theory.proofs.Cases.{definitions}

-- the definitions that the cases compute with, beside those of a join
unfoldable query_definitions : ℕ
unfolding definitions earliest line_of lines_from query_lines line_bytes lines_bytes is_query queryable_code query_code query_outcome query_buffer
query_definitions = 0

pub query-cases : QueryCases
unfolding query_definitions
query-cases =
    record {
      twice = (refl, refl);
      room = refl;
      kept = refl;
      none = refl;
      files = (refl, refl);
      adjacent = (refl, refl);
      order = (refl, refl, refl);
      eight_as = (refl, refl, refl, refl);
      lengths = refl;
      longest = refl;
      above = refl;
      after_seventeen = refl;
      before_eighteen = refl;
    }
