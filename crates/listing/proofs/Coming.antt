-- While a place's occurrences are taken one by one: the open streams give those that are still to come. Assumes nothing.
use mathlib.Core.Path.{◌≡◌, sym, ap, ◌∙◌}
use mathlib.Core.List.{List, [], ◌∷◌}
use Prim.Native.Nat.{ℕ, ◌+◌, ◌≤◌, ◌<◌}
use native.Mathlib.Omega.{arith}
use lib.ListN.{length}
use Rattle.std.proofs.lemmas.List.{nil_from_length}
use Rattle.spec.specs.Join.{Occurrence}
use Rattle.spec.proofs.Each.{each-match}
use Rattle.spec.proofs.OccurrencesAt.{occurrences_at-same}
use Rattle.listing.specs.declared.Place.{Place}
use Rattle.listing.specs.Streams.{occurrences, stream_at, total, place_list, given, ReadableStreams, Held, OpenedStreams, NextTaken}
use Rattle.listing.proofs.Totals.{total-is, given-length}

occurrences-same : (file count base size : ℕ) (s t : ℕ → List ℕ) → ((k : ℕ) → k < count → s k ≡ t k)
    → occurrences file count base size s ≡ occurrences file count base size t
unfolding occurrences
occurrences-same file count base size s t h = each-match _ _ 0 0 size (λ p l. occurrences_at-same file count (base + (0 + p)) _ _ (λ k hk. rw (h k hk)))

-- What open streams give at a place.
abbrev pub still : Place → List ℕ → List (List ℕ) → List Occurrence
still place index opened = occurrences place.file place.count place.base place.size (stream_at index place.width place.size opened)

-- So many are taken of the place's occurrences, and the open streams give those that are still to come.
pub record Coming (index : List ℕ) (place : Place) (opened : List (List ℕ)) (taken : ℕ) : Type 0 where
  pub held : Held index place.width place.size place.count opened
  pub many : taken + length (still place index opened) ≡ place.many

module _ (index : List ℕ) (place : Place) (streams : List (List ℕ))
    (ready : ReadableStreams index place.width place.size place.count streams) (all : place.many ≡ total streams place.count) where
  many_is : place.many ≡ length (place_list place index streams)
  many_is = all ∙ total-is index place.width place.size place.count streams ready place.file place.base

  pub coming-never : place.many ≡ 0 → place_list place index streams ≡ []
  coming-never e = nil_from_length (place_list place index streams) (sym many_is ∙ e)

  module _ (opened : List (List ℕ)) (o : OpenedStreams index place.width place.size place.count streams opened) where
    pub coming-all : place_list place index streams ≡ still place index opened
    coming-all = sym (occurrences-same place.file place.count place.base place.size _ _ o.same)

    pub coming-start : Coming index place opened 0
    coming-start = record { held = o.held; many = omega (arith, many_is, ap length coming-all) }

module _ (index : List ℕ) (place : Place) (opened : List (List ℕ)) (taken : ℕ) (c : Coming index place opened taken) where
  -- there is one to take
  pub coming-more : taken < place.many → 0 < length (given index place.width place.size place.count opened)
  coming-more h = omega (arith, c.many, given-length index place.width place.size place.count opened c.held place.file place.base)

  pub coming-none : place.many ≤ taken → still place index opened ≡ []
  coming-none h = nil_from_length (still place index opened) (omega (arith, c.many))

  module _ (opened' : List (List ℕ)) (keyword offset : ℕ) (t : NextTaken index place.width place.size place.count opened opened' keyword offset) where
    pub coming-first : still place index opened ≡ record { file = place.file; offset = place.base + offset; keyword = keyword } ∷ still place index opened'
    coming-first = t.found place.file place.base

    pub coming-on : Coming index place opened' (taken + 1)
    coming-on = record { held = t.held; many = omega (arith, c.many, ap length coming-first) }
