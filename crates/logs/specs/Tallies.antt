-- What the functions that go through a log count and keep.
use Rattle.std.specs.Prelude.{◌≡◌, cond, true, List, [], ◌∷◌, ℕ, ◌+◌, ◌-◌, ◌≤◌, ◌<◌, length, get_or, eqb}
use Rattle.spec.specs.Bytes.{each, in_set}
use Rattle.logs.specs.Log.{logged_offsets}
use Rattle.logs.specs.declared.Tally.{Tally}

-- What counting the keywords of one entry asks: an element for each of 16 keywords, none longer than `end` bytes, and room in the counts.
pub record CanCount (counts firsts len : List ℕ) (members end : ℕ) : Type 0 where
  pub counted : length counts ≡ 16
  pub kept : length firsts ≡ 16
  pub sizes : length len ≡ 16
  pub few : members < 65536
  pub back : (k : ℕ) → in_set members k ≡ true → get_or len k 0 ≤ end
  pub room : (k : ℕ) → get_or counts k 0 < 18446744073709551615

-- One more of each member, and its offset kept: `after` behind `before`, number by number.
abbrev pub OneMore : ℕ → List ℕ → List ℕ → Type 0
OneMore members before after = (k : ℕ) → get_or after k 0 ≡ cond (in_set members k) (get_or before k 0 + 1) (get_or before k 0)

abbrev pub Kept : ℕ → ℕ → List ℕ → List ℕ → List ℕ → Type 0
Kept members end len before after = (k : ℕ) → get_or after k 0 ≡ cond (in_set members k) (end - get_or len k 0) (get_or before k 0)

-- The tally of a log: how many offsets it says of each of 16 keywords, and the first (0 where there is none).
unfoldable pub tally_of : List ℕ → List ℕ → List ℕ → Tally
tally_of ends len log = record {
  counts = each (λ k. length (logged_offsets ends k (get_or len k 0) log) ∷ []) 0 16;
  firsts = each (λ k. get_or (logged_offsets ends k (get_or len k 0) log) 0 0 ∷ []) 0 16;
}

-- The tally of two logs, one after the other: counts added up, the first offset of the first log that has one.
unfoldable pub tally_both : Tally → Tally → Tally
tally_both before more = record {
  counts = each (λ k. (get_or before.counts k 0 + get_or more.counts k 0) ∷ []) 0 16;
  firsts = each (λ k. cond (eqb (get_or before.counts k 0) 0) (get_or more.firsts k 0) (get_or before.firsts k 0) ∷ []) 0 16;
}

-- What joining asks: an element for each of 16 keywords, and room for the sums.
pub record CanJoin (before more : Tally) : Type 0 where
  pub counted : length before.counts ≡ 16
  pub kept : length before.firsts ≡ 16
  pub counted-more : length more.counts ≡ 16
  pub kept_more : length more.firsts ≡ 16
  pub room : (k : ℕ) → get_or before.counts k 0 + get_or more.counts k 0 < 18446744073709551616
