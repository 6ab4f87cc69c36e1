-- A good body's records and sets lie whole in it, so it can be loaded: a good body is the writing of records in range, and what is written takes as
-- many bytes as its head says. By induction on the keywords. Assumes nothing.
use mathlib.Core.Path.{◌≡◌, refl, sym, subst}
use mathlib.Core.Bool.{true}
use mathlib.Core.List.{List, [], ◌∷◌, ◌++◌}
use Prim.Native.Nat.{ℕ, suc, ◌≤◌}
use native.Mathlib.Omega.{arith}
use lib.ListN.{length, length-append}
use lib.Seq.{drop_at}
use Rattle.spec.specs.Form.{Form}
use Rattle.spec.specs.Records.{MatchRecord, record_bytes, set_bytes, body_from, read_body, all_in_range, good_body, record_taken, set_taken}
use Rattle.spec.proofs.Tests.{leb-true}
use Rattle.spec.proofs.RecordLaws.{FormGood, all_proper, proper-first, proper-rest, range_none, range-first, set_first, range-rest, body-begins}
use Rattle.spec.proofs.RecordLaws.{record-taken, set-taken, keyword-behind, good-is-written}
use Rattle.loader.specs.Loaded.{behind_record, fits_from}

front_fits : (a b : List ℕ) → length a ≤ length (a ++ b)
front_fits a b = omega (arith, length-append a b)

module _ (f : Form) (good : FormGood f) (size : ℕ) (fit : size ≤ f.longest_chunk) where
  pub written-fits : (k : ℕ) (lengths : List ℕ) (records : List MatchRecord) → all_proper lengths ≡ true → all_in_range f size lengths records ≡ true
      → fits_from f k (length lengths) (body_from f k lengths records) ≡ true
  unfolding fits_from body_from
  written-fits k [] records p e = refl
  written-fits k (n ∷ lengths) [] p e = absurd (range_none f size n lengths e)
  written-fits k (n ∷ lengths) (r ∷ records) p e =
      let rest : List ℕ = body_from f (suc k) lengths records in
      let set : List ℕ = set_bytes k r.inner in
      let bytes : List ℕ = record_bytes f n k r ++ (set ++ rest) in
      let h = proper-first n lengths p in
      let within = range-first f size n lengths r records e in
      let set_within = set_first f size n lengths r records e in
      let other = body-begins f k (suc k) lengths records (omega arith) in
      let t : record_taken f k bytes ≡ length (record_bytes f n k r) = record-taken f good n size k h.0 h.1 fit r within set_within rest other in
      let b : behind_record f k bytes ≡ set ++ rest = drop_at (record_bytes f n k r) (set ++ rest) (record_taken f k bytes) (sym t) in
      let u : set_taken f k (set ++ rest) ≡ length set = set-taken f n size k r.inner h.1 set_within rest other in
      rw (
        leb-true (record_taken f k bytes) (length bytes) (omega (arith, t, front_fits (record_bytes f n k r) (set ++ rest))),
        b,
        leb-true (set_taken f k (set ++ rest)) (length (set ++ rest)) (omega (arith, u, front_fits set rest)),
        keyword-behind f good n size k h.0 h.1 fit r within set_within rest other,
      )
      (written-fits (suc k) lengths records (proper-rest n lengths p) (range-rest f size n lengths r records e))

-- what `load` asks of a body, from what the index check says of it
pub good-body-fits : (f : Form) → FormGood f → (lengths : List ℕ) (size : ℕ) (body : List ℕ) → all_proper lengths ≡ true
    → size ≤ f.longest_chunk → good_body f lengths size body ≡ true → fits_from f 0 (length lengths) body ≡ true
good-body-fits f good lengths size body p h e =
    let w = good-is-written f lengths size body e in
    subst (λ (b : List ℕ). fits_from f 0 (length lengths) b ≡ true) (sym w.0)
    (written-fits f good size h 0 lengths (read_body f (length lengths) body) p w.1)
