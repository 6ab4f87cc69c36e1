-- What a tally is added to from: counts by keyword number, and a key that gives each keyword its client (request #110).
use Rattle.std.specs.Prelude.{cond, not, List, [], ◌∷◌, ℕ, eqb, get_or}
use Rattle.spec.specs.Bytes.{each, sum}
use Rattle.spec.specs.Outcome.{first_number, unless_refused, key_wrong, count_too_large}
use Rattle.spec.specs.Join.{sums, is_key, fit64}

-- The sum of the counts of a client's keywords, of the keywords below n.
unfoldable pub client_sum : List ℕ → List ℕ → ℕ → ℕ → ℕ
client_sum key counts n client = sum (each (λ k. cond (eqb (get_or key k 0) client) (get_or counts k 0) 0 ∷ []) 0 n)

-- The same for each of the four clients.
unfoldable pub client_sums : List ℕ → List ℕ → ℕ → List ℕ
client_sums key counts n = each (λ client. client_sum key counts n client ∷ []) 0 4

-- 22, then 23.
unfoldable pub add_code : List ℕ → List ℕ → ℕ → List ℕ → ℕ
add_code key counts n tally =
    first_number ((not (is_key n key), key_wrong) ∷ (not (fit64 (sums tally (client_sums key counts n))), count_too_large) ∷ [])

-- The tally with them; as it was on a refusal.
unfoldable pub added_to : List ℕ → List ℕ → ℕ → List ℕ → List ℕ
added_to key counts n tally = unless_refused (add_code key counts n tally) (sums tally (client_sums key counts n)) tally
