-- What one walk over a file's places finds out for the three tests of the file, and what it leaves.
use Rattle.std.specs.Prelude.{◌≡◌, Bool, false, ◌&&◌, not, cond, List, [], ◌∷◌, ℕ, suc, ◌-◌, ◌<◌, min, ltb, length, take, get_or}
use Rattle.spec.specs.declared.Opened.{Opened}
use Rattle.spec.specs.Bytes.{contains, position_of, every, sum, written}
use Rattle.spec.specs.Directory.{size_at}
use Rattle.spec.specs.Recipes.{inner_long, sizes_in}
use Rattle.directory.specs.Chains.{keys_from, layout_of}

-- The fingerprints, and the chunks' lengths by entry, of an index whose directory has `count` entries from `start` on.
abbrev pub keys_at : List ℕ → ℕ → ℕ → List (List ℕ)
keys_at index start count = keys_from index start 32 count

abbrev pub sizes_at : List ℕ → ℕ → ℕ → ℕ
sizes_at index start k = size_at (layout_of start 32 20 24 28) index k

-- What an inner chunk must have, by an opened index: nothing where its format has sets, else the longest keyword's length minus 1.
unfoldable pub least_in : Opened → ℕ
least_in opened = cond opened.format.sets 0 (opened.longest - 1)

-- Place j of n is neither first nor last, and its chunk is shorter than is due.
abbrev pub inner_short : ℕ → ℕ → ℕ → ℕ → Bool
inner_short j n size inner_least = ltb 0 j && ltb (suc j) n && ltb size inner_least

-- The entries of a file's places, up to the first fingerprint that is missing.
unfoldable pub entries_in : List (List ℕ) → List (List ℕ) → List ℕ
entries_in keys [] = []
entries_in keys (place ∷ places) = cond (contains place keys) (position_of place keys ∷ entries_in keys places) []

-- The slots have the entries of a file's first places, as many as there are slots.
pub record Slotted (keys file : List (List ℕ)) (slots : List ℕ) : Type 0 where
  pub each : (j : ℕ) → j < length file → j < length slots → get_or slots j 0 ≡ position_of (get_or file j []) keys

-- The length is known up to 4294967296. Of a file with a fingerprint that is missing, only that is told, and the slots have the entries before it.
-- slots₀: the slots before the walk.
pub record Measured (keys : List (List ℕ)) (size_of : ℕ → ℕ) (inner_least : ℕ) (file : List (List ℕ)) (slots₀ slots : List ℕ) (missing : Bool) (total : ℕ) (short : Bool)
    : Type 0 where
  pub lacks : missing ≡ not (every (λ key. contains key keys) file)
  pub long : missing ≡ false → total ≡ min (sum (sizes_in keys size_of file)) 4294967296
  pub tight : missing ≡ false → short ≡ not (inner_long inner_least (sizes_in keys size_of file))
  pub kept : slots ≡ written slots₀ (take (length slots₀) (entries_in keys file))
