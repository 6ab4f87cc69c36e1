-- Theorem 1: the join of the chunks' records is the direct search of the restored files, with folding, where refusal 17 finds nothing; in a
-- form with sets it never does. At each offset of a chunk a keyword lies inside the chunk or crosses its end, and then goes on in the next
-- chunks: `goes_on_lem` says that from their sets and suffixes, or (17) from the next chunk's suffix alone. `listed-true` is one equation of two
-- tests there, and the induction over the chunks only cuts the range of offsets at the chunk's end. Assumes nothing.
use mathlib.Core.Path.{◌≡◌, refl, sym, ap, ap₂, ◌∙◌}
use mathlib.Core.Logic.{◌⊎◌, inl, inr, ⊎_elim}
use mathlib.Core.Bool.{Bool, true, false, ◌&&◌, ◌||◌, or-false, cond}
use mathlib.Core.List.{List, [], ◌∷◌, ◌++◌, append-nil, map}
use Prim.Native.Nat.{ℕ, zero, suc, ◌+◌, ◌-◌, ◌≤◌, ◌<◌}
use native.Mathlib.Nat.{zero-add, le_of_suc-le-suc, not-suc-le-zero}
use native.Mathlib.Omega.{arith}
use lib.ListN.{length, drop, get_or, length-drop, length-append}
use lib.Seq.{drop-drop, drop-append_seam}
use lib.Dec.{leb}
use Rattle.spec.specs.Bytes.{begins, occurs_at, each, every, joined, in_set}
use Rattle.spec.specs.Keywords.{folded, folded_all, flag_of, keywords_of, folded_keywords, longest}
use Rattle.spec.specs.Form.{Form}
use Rattle.spec.specs.Records.{record_of, records_of, record_at, empty_record, prefix_of, suffix_of, MatchRecord, lies_at, inner_of}
use Rattle.spec.specs.Recipes.{all_but_last, inner_long}
use Rattle.spec.specs.Join.{Occurrence, keyword_at, occurrences_at, listed, join_from, join_file, join_files, inner_least, ends, goes_on}
use Rattle.spec.specs.Scan.{scan_records}
use Rattle.spec.specs.Search.{occurrences_in, occurrences_in_all}
use Rattle.spec.proofs.Tests.{le-or-lt, leb-true, bool_cases, and_left, and_right, le-of-and}
use Rattle.spec.proofs.Begins.{begins-append, begins-front, begins-short}
use Rattle.spec.proofs.Sets.{has-set, has_above, none-empty}
use Rattle.spec.proofs.Each.{each-match, each_append}
use Rattle.spec.proofs.OccurrencesAt.{occurrences_at-same}
use Rattle.spec.proofs.Folding.{folded-length, folded-append, lengths-folded}
use Rattle.spec.proofs.Point.{starts-guard, prefix-le, suffix-tells, point}
use Rattle.spec.proofs.Crossing.{crosses-sentence}

-- ---- keywords

-- no keyword is empty
abbrev pub none_empty : List (List ℕ) → Bool
none_empty keywords = every (λ k. leb 1 (length k)) keywords

pub get_d_map : {A B : Type 0} (f : A → B) (l : List A) (k : ℕ) (d : A) (e : B) → k < length l → get_or (map f l) k e ≡ f (get_or l k d)
get_d_map f [] k d e h = absurd (not-suc-le-zero h)
get_d_map f (x ∷ l) zero d e h = refl
get_d_map f (x ∷ l) (suc k) d e h = get_d_map f l k d e (le_of_suc-le-suc h)

pub nonempty-at : (keywords : List (List ℕ)) (k : ℕ) → none_empty keywords ≡ true → k < length keywords → 1 ≤ length (keyword_at keywords k)
nonempty-at [] k e h = absurd (not-suc-le-zero h)
nonempty-at (w ∷ ws) zero e h = le-of-and 1 (length w) (none_empty ws) e
nonempty-at (w ∷ ws) (suc k) e h = nonempty-at ws k (and_right (leb 1 (length w)) (none_empty ws) e) (le_of_suc-le-suc h)

pub longest-at : (keywords : List (List ℕ)) (k : ℕ) → k < length keywords → length (keyword_at keywords k) ≤ longest keywords
longest-at [] k h = absurd (not-suc-le-zero h)
longest-at (w ∷ ws) zero h = omega arith
longest-at (w ∷ ws) (suc k) h = omega (arith, longest-at ws k (le_of_suc-le-suc h))

-- ---- the rest of a keyword behind a chunk's end

-- at a chunk with more bytes behind it: it ends in the chunk, or the chunk lies inside it
inner-tells : (w c rest : List ℕ) (p : ℕ) (behind : Bool) → 1 ≤ p → p < length w → (p + length c < length w → begins (drop (p + length c) w) rest ≡ behind)
    → begins (drop p w) (c ++ rest) ≡ (ends w (suffix_of w c) p || (in_set (inner_of w c) p && behind))
unfolding ends inner_of
inner-tells w c rest p behind h1 hw h = go (le-or-lt (length w - p) (length c))
  where
    t : ℕ → Bool
    t q = leb 1 q && lies_at w c q

    go : (length w - p ≤ length c) ⊎ (length c < length w - p) → begins (drop p w) (c ++ rest) ≡ (ends w (suffix_of w c) p || (in_set (inner_of w c) p && behind))
    go (inl l) =
        rw (begins-front (drop p w) c rest (rw length-drop l), suffix-tells w c p h1 hw, has_above t (length w - length c) p (omega arith), or-false)
    go (inr l) =
        rw (
          begins-append,
          drop-drop,
          h (omega arith),
          ← suffix-tells w c p h1 hw,
          begins-short (drop p w) c (rw length-drop l),
          has-set t (length w - length c) p (omega arith),
          leb-true 1 p h1,
        )

all-next : (m s : ℕ) (rest : List ℕ) → all_but_last m (s ∷ rest) ≡ true → all_but_last m rest ≡ true
all-next m s [] e = refl
all-next m s (t ∷ rest) e = and_right (leb m s) (all_but_last m (t ∷ rest)) e

inner-next : (m : ℕ) (rest : List ℕ) → all_but_last m rest ≡ true → inner_long m rest ≡ true
inner-next m [] e = refl
inner-next m (s ∷ rest) e = all-next m s rest e

-- what the theorem asks of a file's chunks: in a form without sets no inner one is shorter than m, and no keyword longer than m + 1
abbrev pub Enough : Form → List (List ℕ) → ℕ → Type 0
Enough f keywords m = (f.sets ≡ true) ⊎ ((f.sets ≡ false) × (longest keywords - 1 ≤ m))

-- ---- one place, for keywords that are not empty

module _ (f : Form) (keywords : List (List ℕ)) (m : ℕ) (ok : none_empty keywords ≡ true) where
  record-at : (c : List ℕ) (k : ℕ) → k < length keywords → record_at (records_of f keywords c) k ≡ record_of f (keyword_at keywords k) c
  unfolding records_of
  record-at c k h = get_d_map (λ keyword. record_of f keyword c) keywords k [] empty_record h

  prefix-of : (c : List ℕ) (k : ℕ) → k < length keywords → (record_at (records_of f keywords c) k).prefix ≡ prefix_of (keyword_at keywords k) c
  unfolding record_of
  prefix-of c k hk = ap (λ (r : MatchRecord). r.prefix) (record-at c k hk)

  suffix-of : (c : List ℕ) (k : ℕ) → k < length keywords → (record_at (records_of f keywords c) k).suffix ≡ suffix_of (keyword_at keywords k) c
  unfolding record_of
  suffix-of c k hk = ap (λ (r : MatchRecord). r.suffix) (record-at c k hk)

  inner-of : (c : List ℕ) (k : ℕ) → k < length keywords → (record_at (records_of f keywords c) k).inner ≡ cond f.sets (inner_of (keyword_at keywords k) c) 0
  unfolding record_of
  inner-of c k hk = ap (λ (r : MatchRecord). r.inner) (record-at c k hk)

  set-inner : f.sets ≡ true → (c : List ℕ) (k : ℕ) → k < length keywords → (record_at (records_of f keywords c) k).inner ≡ inner_of (keyword_at keywords k) c
  set-inner q c k hk = inner-of c k hk ∙ ap (λ (b : Bool). cond b (inner_of (keyword_at keywords k) c) 0) q

  no_inner : f.sets ≡ false → (c : List ℕ) (k : ℕ) → k < length keywords → (record_at (records_of f keywords c) k).inner ≡ 0
  no_inner q c k hk = inner-of c k hk ∙ ap (λ (b : Bool). cond b (inner_of (keyword_at keywords k) c) 0) q

  size_of : (c : List ℕ) → (records_of f keywords c).size ≡ length c
  unfolding records_of
  size_of c = refl

  -- with sets: the rest of a keyword from p on, told from the records of the chunks that follow
  set-goes-on : f.sets ≡ true → (k p : ℕ) (cs : List (List ℕ)) → k < length keywords → 1 ≤ p → p < length (keyword_at keywords k)
      → begins (drop p (keyword_at keywords k)) (joined cs) ≡ goes_on (keyword_at keywords k) k p (map (records_of f keywords) cs)
  unfolding goes_on
  set-goes-on q k p [] hk h1 hw = begins-short (drop p (keyword_at keywords k)) [] (rw length-drop (omega arith))
  set-goes-on q k p (c ∷ cs) hk h1 hw =
      rw (suffix-of c k hk, set-inner q c k hk, size_of c) (inner-tells (keyword_at keywords k) c (joined cs) p _ h1 hw (λ l. set-goes-on q k (p + length c) cs hk (omega arith) l))

  -- without sets: it ends in the next chunk, which is long enough
  plain-goes-on : f.sets ≡ false → longest keywords - 1 ≤ m → (k p : ℕ) (cs : List (List ℕ)) → all_but_last m (map length cs) ≡ true
      → k < length keywords → 1 ≤ p → p < length (keyword_at keywords k)
      → begins (drop p (keyword_at keywords k)) (joined cs) ≡ goes_on (keyword_at keywords k) k p (map (records_of f keywords) cs)
  unfolding goes_on ends
  plain-goes-on q covers k p [] e hk h1 hw = begins-short (drop p (keyword_at keywords k)) [] (rw length-drop (omega arith))
  plain-goes-on q covers k p (c ∷ cs) e hk h1 hw =
      rw (suffix-of c k hk, no_inner q c k hk, none-empty, or-false)
      (first cs e ∙ suffix-tells (keyword_at keywords k) c p h1 hw)
    where
      first : (cs : List (List ℕ)) → all_but_last m (length c ∷ map length cs) ≡ true → begins (drop p (keyword_at keywords k)) (c ++ joined cs) ≡ begins (drop p (keyword_at keywords k)) c
      first [] e = rw append-nil
      first (d ∷ cs) e =
          let l : m ≤ length c = le-of-and m (length c) (all_but_last m (map length (d ∷ cs))) e in
          begins-front (drop p (keyword_at keywords k)) c (d ++ joined cs) (rw length-drop (omega (arith, longest-at keywords k hk)))

  module _ (enough : Enough f keywords m) where
    goes_on_lem : (k p : ℕ) (cs : List (List ℕ)) → all_but_last m (map length cs) ≡ true → k < length keywords → 1 ≤ p → p < length (keyword_at keywords k)
        → begins (drop p (keyword_at keywords k)) (joined cs) ≡ goes_on (keyword_at keywords k) k p (map (records_of f keywords) cs)
    goes_on_lem k p cs e hk h1 hw =
        ⊎_elim (λ (q : f.sets ≡ true). set-goes-on q k p cs hk h1 hw)
        (λ (q : (f.sets ≡ false) × (longest keywords - 1 ≤ m)). plain-goes-on q.0 q.1 k p cs e hk h1 hw) enough

    -- what the records list at an offset of a chunk is what occurs there
    listed-true : (c : List ℕ) (cs : List (List ℕ)) (at k : ℕ) → all_but_last m (map length cs) ≡ true → k < length keywords → at < length c
        → occurs_at (keyword_at keywords k) (c ++ joined cs) at ≡ listed keywords (records_of f keywords c) (map (records_of f keywords) cs) at k
    unfolding listed record_of records_of
    listed-true c cs at k e hk hc =
        point (keyword_at keywords k) c (joined cs) at (nonempty-at keywords k ok hk) hc
        ∙ rw (
          record-at c k hk,
          crosses-sentence (keyword_at keywords k) k (prefix_of (keyword_at keywords k) c) (map (records_of f keywords) cs) (length c - at) (omega (arith, prefix-le (keyword_at keywords k) c)),
          starts-guard (keyword_at keywords k) (prefix_of (keyword_at keywords k) c) (length c - at) (begins (drop (length c - at) (keyword_at keywords k)) (joined cs)) _
              (λ l. goes_on_lem k (length c - at) cs e hk (omega arith) (omega (arith, prefix-le (keyword_at keywords k) c))),
        )

    -- ---- one file

    module _ (file : ℕ) (text : List ℕ) where
      from-true : (base : ℕ) (cs : List (List ℕ)) → inner_long m (map length cs) ≡ true → drop base text ≡ joined cs
          → each (λ at. occurrences_at file (length keywords) (λ k. occurs_at (keyword_at keywords k) text at) at) base (length (joined cs))
          ≡ join_from file keywords base (map (records_of f keywords) cs)
      unfolding join_from records_of
      from-true base [] e d = refl
      from-true base (c ∷ cs) e d =
          let next : drop (base + length c) text ≡ joined cs = sym (drop-drop (length c) base text) ∙ rw (d, drop-append_seam) in
          rw (length-append, each_append)
          (ap₂ {C = List Occurrence} (λ x y. x ++ y)
          (each-match _ _ base 0 (length c) (λ p hp. rw zero-add
          (occurrences_at-same file (length keywords) (base + p) _ _ (λ k hk. rw (← drop-drop p base text, d) (listed-true c cs p k e hk hp)))))
          (from-true (base + length c) cs (inner-next m (map length cs) e) next))

    -- the join of the records of a file's chunks lists what a direct search of the file finds
    pub join-is-search-file : (file : ℕ) (chunks : List (List ℕ)) → inner_long m (map length chunks) ≡ true
        → join_file file keywords (map (records_of f keywords) chunks) ≡ occurrences_in file keywords (joined chunks)
    unfolding occurrences_in
    join-is-search-file file chunks e = sym (from-true file (joined chunks) 0 chunks e refl)

-- ---- folding

module _ (flag : ℕ) where
  pub folded-joined : (cs : List (List ℕ)) → folded flag (joined cs) ≡ joined (map (folded flag) cs)
  unfolding folded
  folded-joined [] = refl
  folded-joined (c ∷ cs) = rw (folded-append flag, folded-joined cs)

  pub longest-folded : (keywords : List (List ℕ)) → longest (folded_all flag keywords) ≡ longest keywords
  longest-folded [] = refl
  longest-folded (w ∷ ws) = rw (folded-length, longest-folded ws)

  pub none_empty-folded : (keywords : List (List ℕ)) → none_empty (folded_all flag keywords) ≡ none_empty keywords
  none_empty-folded [] = refl
  none_empty-folded (w ∷ ws) = rw (folded-length, none_empty-folded ws)

  records-folded : (f : Form) (keywords cs : List (List ℕ)) → map (λ c. records_of f keywords (folded flag c)) cs ≡ map (records_of f keywords) (map (folded flag) cs)
  records-folded f keywords [] = refl
  records-folded f keywords (c ∷ cs) = rw (records-folded f keywords cs)

  enough-folded : (f : Form) (keywords : List (List ℕ)) (m : ℕ) → Enough f keywords m → Enough f (folded_all flag keywords) m
  enough-folded f keywords m (inl q) = inl q
  enough-folded f keywords m (inr (q, covers)) = inr (q, rw longest-folded covers)

  module _ (f : Form) (keywords : List (List ℕ)) (m : ℕ) (ok : none_empty keywords ≡ true) (enough : Enough f keywords m) where
    pub one-file : (file : ℕ) (cs : List (List ℕ)) → inner_long m (map length cs) ≡ true
        → join_file file (folded_all flag keywords) (map (λ c. records_of f (folded_all flag keywords) (folded flag c)) cs)
        ≡ occurrences_in file (folded_all flag keywords) (folded flag (joined cs))
    one-file file cs e =
        rw (records-folded f (folded_all flag keywords) cs, folded-joined cs)
        (join-is-search-file f (folded_all flag keywords) m (rw none_empty-folded ok) (enough-folded f keywords m enough) file (map (folded flag) cs) (rw (lengths-folded flag) e))

    -- files are lists of chunks; m is what an inner chunk must have
    pub join-is-search : (file : ℕ) (files : List (List (List ℕ))) → every (λ cs. inner_long m (map length cs)) files ≡ true
        → join_files file (folded_all flag keywords) (map (map (λ c. records_of f (folded_all flag keywords) (folded flag c))) files)
        ≡ occurrences_in_all file (folded_all flag keywords) (map (λ cs. folded flag (joined cs)) files)
    unfolding join_files occurrences_in_all
    join-is-search file [] e = refl
    join-is-search file (cs ∷ rest) e =
        ap₂ {C = List Occurrence} (λ x y. x ++ y)
        (one-file file cs (and_left (inner_long m (map length cs)) (every (λ cs. inner_long m (map length cs)) rest) e))
        (join-is-search (suc file) rest (and_right (inner_long m (map length cs)) (every (λ cs. inner_long m (map length cs)) rest) e))

-- ---- a keyword list

module _ (f : Form) where
  -- what refusal 17 asks of an inner chunk is enough
  pub inner_least-covers : (list : List ℕ) → Enough f (keywords_of list) (inner_least f list)
  unfolding inner_least
  inner_least-covers list = go (bool_cases f.sets)
    where
      go : (f.sets ≡ true) ⊎ (f.sets ≡ false) → Enough f (keywords_of list) (inner_least f list)
      go (inl q) = inl q
      go (inr q) = inr (q, rw q (omega arith))

  -- where records have sets it asks nothing
  pub sets-inner-long : f.sets ≡ true → (list : List ℕ) (sizes : List ℕ) → inner_long (inner_least f list) sizes ≡ true
  unfolding inner_least
  sets-inner-long q list sizes = rw q (long-none sizes)
    where
      all_none : (l : List ℕ) → all_but_last 0 l ≡ true
      all_none [] = refl
      all_none (s ∷ []) = refl
      all_none (s ∷ t ∷ l) = rw (leb-true 0 s (omega arith)) (all_none (t ∷ l))

      long-none : (l : List ℕ) → inner_long 0 l ≡ true
      long-none [] = refl
      long-none (s ∷ l) = all_none l

  pub scan-join-is-search : (list : List ℕ) (files : List (List (List ℕ))) → none_empty (keywords_of list) ≡ true
      → every (λ cs. inner_long (inner_least f list) (map length cs)) files ≡ true
      → join_files 0 (folded_keywords list) (map (map (scan_records f list)) files)
      ≡ occurrences_in_all 0 (folded_keywords list) (map (λ cs. folded (flag_of list) (joined cs)) files)
  unfolding folded_keywords scan_records
  scan-join-is-search list files ok e = join-is-search (flag_of list) f (keywords_of list) (inner_least f list) ok (inner_least-covers list) 0 files e

  -- request #108: with sets nothing is asked of the chunks
  pub sets-join-is-search : f.sets ≡ true → (list : List ℕ) (files : List (List (List ℕ))) → none_empty (keywords_of list) ≡ true
      → join_files 0 (folded_keywords list) (map (map (scan_records f list)) files)
      ≡ occurrences_in_all 0 (folded_keywords list) (map (λ cs. folded (flag_of list) (joined cs)) files)
  sets-join-is-search q list files ok = scan-join-is-search list files ok (all-files files)
    where
      all-files : (l : List (List (List ℕ))) → every (λ cs. inner_long (inner_least f list) (map length cs)) l ≡ true
      all-files [] = refl
      all-files (cs ∷ l) = rw (sets-inner-long q list (map length cs)) (all-files l)
