-- The published method's record of one chunk and one keyword (demand 2), with request #108's set where the form has sets, said by parts of lists
-- alone, without a test or a search.
use Rattle.std.specs.Prelude.{◌≡◌, true, List, ℕ, ◌+◌, ◌-◌, ◌≤◌, ◌<◌, length, take, drop}
use Rattle.spec.specs.Bytes.{member, rising, in_set}
use Rattle.spec.specs.Form.{Form}
use Rattle.spec.specs.Records.{MatchRecord}

module _ (keyword chunk : List ℕ) where
  -- The chunk's last i bytes are the keyword's first i.
  abbrev pub Ends : ℕ → Type 0
  Ends i = drop (length chunk - i) chunk ≡ take i keyword

  -- The chunk's first j bytes are the keyword's last j.
  abbrev pub Starts : ℕ → Type 0
  Starts j = take j chunk ≡ drop (length keyword - j) keyword

  -- The keyword's bytes from an offset of the chunk on.
  abbrev pub Occurs : ℕ → Type 0
  Occurs at = take (length keyword) (drop at chunk) ≡ keyword

  -- The chunk lies inside the keyword: it is the keyword's L bytes from p, with bytes of the keyword before and behind it.
  pub record Inside (p : ℕ) : Type 0 where
    pub before : 1 ≤ p
    pub behind : p + length chunk < length keyword
    pub same : take (length chunk) (drop p keyword) ≡ chunk

  pub record Published (f : Form) (r : MatchRecord) : Type 0 where
    -- the longest beginning of the keyword, short of the whole, at the chunk's end
    pub prefix_short : r.prefix < length keyword
    pub prefix_in : r.prefix ≤ length chunk
    pub prefix_ends : Ends r.prefix
    pub prefix_longest : (i : ℕ) → i < length keyword → i ≤ length chunk → Ends i → i ≤ r.prefix
    -- the longest ending of the keyword, short of the whole, at the chunk's start
    pub suffix_short : r.suffix < length keyword
    pub suffix_in : r.suffix ≤ length chunk
    pub suffix_starts : Starts r.suffix
    pub suffix_longest : (j : ℕ) → j < length keyword → j ≤ length chunk → Starts j → j ≤ r.suffix
    -- every whole occurrence, rising
    pub offsets_rise : rising r.offsets ≡ true
    pub offsets_all : (at : ℕ) → Occurs at → member at r.offsets ≡ true
    pub offsets_only : (at : ℕ) → member at r.offsets ≡ true → Occurs at
    -- every start at which the chunk lies inside the keyword, in a form with sets; none in one without
    pub inner_all : (p : ℕ) → f.sets ≡ true → Inside p → in_set r.inner p ≡ true
    pub inner_only : (p : ℕ) → in_set r.inner p ≡ true → (f.sets ≡ true) × Inside p
