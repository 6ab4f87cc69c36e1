-- A query's choice in the making (request #109), carried along a file's occurrences.
use Rattle.std.specs.Prelude.{◌≡◌, ◌&&◌, cond, List, [], ◌∷◌, ℕ, ◌+◌, length, get_or, set, take, replicate, eqb, leb, ltb}
use Rattle.spec.specs.Join.{Occurrence}
use Rattle.listing.specs.declared.Choice.{Choice}

-- The choice after one occurrence more: it is taken where a keyword of the query is still to be found, it is one of the next such keyword, and it
-- starts at or after the end of the one before.
unfoldable pub advanced : List ℕ → List ℕ → Choice → Occurrence → Choice
advanced lengths query c o =
    cond (ltb c.step (length query) && (eqb o.keyword (get_or query c.step 0) && leb c.from o.offset))
    (record { step = c.step + 1; from = o.offset + get_or lengths o.keyword 0; offsets = set c.offsets c.step o.offset })
    c

-- The choice after a list of occurrences.
unfoldable pub chosen_from : List ℕ → List ℕ → List Occurrence → Choice → Choice
chosen_from lengths query [] c = c
chosen_from lengths query (o ∷ list) c = chosen_from lengths query list (advanced lengths query c o)

-- Nothing is chosen yet.
unfoldable pub no_choice : Choice
no_choice = record { step = 0; from = 0; offsets = replicate 8 0 }

-- The choice is of these offsets.
pub record Chosen (c : Choice) (chosen : List ℕ) : Type 0 where
  pub many : c.step ≡ length chosen
  pub same : take c.step c.offsets ≡ chosen
  pub long : length c.offsets ≡ 8
