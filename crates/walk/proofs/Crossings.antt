-- The starts of a keyword are carried over the places of a file, one place a turn: what the tables and the rows say of a turn is spans' `Spanning`.
-- Assumes nothing.
use mathlib.Core.Path.{◌≡◌, sym, ap, ◌∙◌, subst}
use mathlib.Core.Bool.{◌&&◌}
use mathlib.Core.List.{List, [], ◌∷◌}
use Prim.Native.Nat.{ℕ, zero, suc, ◌+◌, ◌-◌, ◌^◌, ◌≤◌, ◌<◌}
use native.Mathlib.Numerals.{add-one}
use native.Mathlib.Omega.{arith}
use lib.Bits.{bit_or}
use lib.ListN.{length, drop, get_or, drop_of_length-le}
use lib.Seq.{drop-cons}
use Rattle.spec.specs.declared.Opened.{Opened}
use Rattle.spec.specs.Bytes.{set_of, in_set}
use Rattle.spec.specs.Keywords.{folded_keywords}
use Rattle.spec.specs.Records.{ChunkRecords, record_at}
use Rattle.spec.specs.Index.{list_in}
use Rattle.spec.specs.Join.{keyword_at, ends}
use Rattle.tables.specs.Tabled.{tables_of, cell_at}
use Rattle.loader.specs.Loaded.{row_of}
use Rattle.spans.specs.Spans.{some_cell, crossing_set}
use Rattle.spans.proofs.Borders.{table-starts, table-ends}
use Rattle.spans.proofs.Spanning.{Spanning, spanning-start, spanning-on, spanning-end, spanning-dead}
use Rattle.walk.specs.Walking.{no_chunk, chunk_in, size_of, Checked, LoadedAt, Startable}
use Rattle.walk.proofs.Entries.{keywords-count, few}
use Rattle.walk.proofs.Places.{AllGood, suffix-one}

-- n places on, from place `from`: the starts that have ended and those that are live, and how many bytes the places between have
pub record CrossingAt (index : List ℕ) (chunks : List ChunkRecords) (k i from : ℕ) (live found gone n : ℕ) : Type 0 where
  pub small : gone + size_of (drop n chunks) < 2 ^ 32
  pub spanning : Spanning (keyword_at (folded_keywords (list_in index)) k) k i (drop from chunks) (drop n chunks) gone live found

-- no start in no prefix
pub crossing-none : (w : List ℕ) (k i : ℕ) (rest : List ChunkRecords) → i ≡ 0 → 0 ≡ crossing_set w k i rest
unfolding crossing_set
crossing-none w k i rest e = sym (ap (λ (j : ℕ). crossing_set w k j rest) e)

-- the places from one on have no more bytes than all
sizes-from : (chunks : List ChunkRecords) (n : ℕ) → size_of (drop n chunks) ≤ size_of chunks
sizes-from [] zero = omega arith
sizes-from [] (suc n) = omega arith
sizes-from (c ∷ chunks) zero = omega arith
sizes-from (c ∷ chunks) (suc n) = omega (arith, sizes-from chunks n)

module _ (index : List ℕ) (opened : Opened) (d : Checked index opened) (tables : List (List (List ℕ)))
    (tabled : tables ≡ tables_of (folded_keywords (list_in index))) (chunks : List ChunkRecords) (good : AllGood (folded_keywords (list_in index)) chunks)
    (k i from : ℕ) (s : Startable index k i) where
  abbrev keywords : List (List ℕ)
  keywords = folded_keywords (list_in index)

  abbrev w : List ℕ
  w = keyword_at keywords k

  below-16 : k < 16
  below-16 = omega (arith, s.known, few index opened d, keywords-count index opened d)

  pub prefix-below : i < 32
  prefix-below = omega (arith, s.short, (good.proper k s.known).1)

  pub crossing-from : (live : ℕ) → live ≡ set_of (λ s. some_cell tables k i s 32) 32 → size_of chunks < 2 ^ 32 → CrossingAt index chunks k i from live 0 0 from
  crossing-from live e small =
      record {
        small = omega (arith, sizes-from chunks from);
        spanning = spanning-start w k i (drop from chunks) live s.short
            (λ p l. ap (λ (x : ℕ). in_set x p) e ∙ table-starts keywords tables tabled k below-16 (good.proper k s.known).1 i p s.short l);
      }

  pub crossing-to : (live found gone n : ℕ) → length chunks ≤ n → CrossingAt index chunks k i from live found gone n → found ≡ crossing_set w k i (drop from chunks)
  crossing-to live found gone n h c =
      spanning-end w k i (drop from chunks) gone live found
      (subst (λ (l : List ChunkRecords). Spanning w k i (drop from chunks) l gone live found) (drop_of_length-le chunks h) c.spanning)

  pub crossing-dead : (live found gone n : ℕ) → live ≡ 0 → CrossingAt index chunks k i from live found gone n → found ≡ crossing_set w k i (drop from chunks)
  crossing-dead live found gone n e c =
      spanning-dead w k i (drop from chunks) (drop n chunks) gone found
      (subst (λ (x : ℕ). Spanning w k i (drop from chunks) (drop n chunks) gone x found) e c.spanning)

  module _ (live found gone n : ℕ) (c : CrossingAt index chunks k i from live found gone n) (h : n < length chunks)
      (rows : List (List ℕ)) (size : ℕ) (l : LoadedAt index opened chunks n rows size) where
    abbrev here : ChunkRecords
    here = chunk_in chunks n

    behind : drop n chunks ≡ here ∷ drop (n + 1) chunks
    behind = drop-cons chunks n no_chunk h ∙ ap {B = List ChunkRecords} (λ (m : ℕ). here ∷ drop m chunks) (sym (add-one n))

    sizes : gone + size + size_of (drop (n + 1) chunks) < 2 ^ 32
    sizes = omega (arith, c.small, ap size_of behind, l.sized h)

    pub suffix-below : get_or (row_of rows k) 1 0 < 32
    suffix-below =
        let u : k < opened.keywords = omega (arith, s.known, keywords-count index opened d) in
        omega (arith, (l.each k u h).suffix, suffix-one keywords chunks good n h k s.known, (good.proper k s.known).1)

    pub crossing-over : (mask inner live' ended found' : ℕ) → mask ≡ set_of (λ p. in_set (cell_at tables k p (get_or (row_of rows k) 1 0)) 0) 32
        → inner ≡ (record_at here k).inner → ended ≡ set_of (λ s. in_set live s && in_set mask (i - s + gone)) i → found' ≡ bit_or found ended
        → live' ≡ set_of (λ s. in_set live s && in_set inner (i - s + gone)) i
        → CrossingAt index chunks k i from live' found' (gone + size) (n + 1)
    crossing-over mask inner live' ended found' m e o f v =
        record {
          small = sizes;
          spanning =
              rw (f, o, v, e, l.sized h)
              (spanning-on w k i (drop from chunks) here (drop (n + 1) chunks) gone live found mask
              (subst (λ (x : List ChunkRecords). Spanning w k i (drop from chunks) x gone live found) behind c.spanning)
              (good.sets n h k s.known).0 masked);
        }
      where
        u : k < opened.keywords
        u = omega (arith, s.known, keywords-count index opened d)

        masked : (p : ℕ) → 1 ≤ p → p < length w → in_set mask p ≡ ends w (record_at here k).suffix p
        masked p a b =
            ap (λ (x : ℕ). in_set x p) (m ∙ ap (λ (j : ℕ). set_of (λ p. in_set (cell_at tables k p j) 0) 32) (l.each k u h).suffix)
            ∙ table-ends keywords tables tabled k below-16 (good.proper k s.known).1 p (record_at here k).suffix a b
            (suffix-one keywords chunks good n h k s.known)
