-- What the second half of a search promises: a join, with its answer as a search's.
use Rattle.std.specs.Prelude.{◌≡◌, List, ℕ, length}
use Rattle.spec.specs.Outcome.{Outcome, Done, Refused}
use Rattle.spec.specs.Searched.{Searched, JoinRefused, Found}
use Rattle.spec.specs.Form.{form_of}
use Rattle.spec.specs.Join.{Clients, join_outcome, join_buffer, join_tally}

-- A join's answer as a search's, over an index of n bytes.
abbrev pub after_join : ℕ → Outcome → Searched
after_join n (Done count) = Found n count
after_join n (Refused code) = JoinRefused n code

pub record Joins (index recipes : List ℕ) (clients : Clients) (out out' : List ℕ) (r : Searched) (tally : List ℕ) : Type 0 where
  pub answered : r ≡ after_join (length index) (join_outcome (form_of index) index recipes clients (length out))
  pub listed : out' ≡ join_buffer (form_of index) index recipes clients out
  pub tallied : tally ≡ join_tally (form_of index) index recipes clients (length out)
