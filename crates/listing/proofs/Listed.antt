-- While the list of a place is written: what is written and what is still to come are the whole. Assumes nothing.
use mathlib.Core.Path.{◌≡◌, ap, ◌∙◌, subst}
use mathlib.Core.List.{List, [], ◌∷◌, ◌++◌}
use Prim.Native.Nat.{ℕ, ◌+◌, ◌*◌, ◌≤◌}
use native.Mathlib.Omega.{arith}
use lib.ListN.{length}
use Rattle.spec.specs.Bytes.{splice}
use Rattle.spec.specs.Join.{Occurrence, occurrence_bytes, list_bytes}
use Rattle.spec.proofs.Writing.{Going, going_start, going-room, going_on, going_end, going-place}
use Rattle.spec.proofs.ListBytes.{length-occurrence, length-list, list-cons, list-nil}
use Rattle.listing.specs.declared.Place.{Place}
use Rattle.listing.specs.Streams.{total, place_list, ReadableStreams, OpenedStreams, NextTaken}
use Rattle.listing.proofs.Coming.{still, Coming, coming-never, coming-all, coming-start, coming-none, coming-first, coming-on}

module _ (out₀ out : List ℕ) (place p : ℕ) (whole rest : List Occurrence) (g : Going out₀ out place p (list_bytes whole) (list_bytes rest)) where
  list-room : (o : Occurrence) (rest' : List Occurrence) → place + 9 * length whole ≤ length out₀ → rest ≡ o ∷ rest' → p + 9 ≤ length out
  list-room o rest' room e =
      let fits : place + length (list_bytes whole) ≤ length out₀ = omega (arith, length-list whole) in
      let first : list_bytes rest ≡ occurrence_bytes o ++ list_bytes rest' = ap list_bytes e ∙ list-cons o rest' in
      omega (
        arith,
        length-occurrence o,
        going-room out₀ out place p (list_bytes whole) (list_bytes rest) g (occurrence_bytes o) (list_bytes rest') fits first,
      )

  list_on : (out' : List ℕ) (o : Occurrence) (rest' : List Occurrence) → place + 9 * length whole ≤ length out₀ → rest ≡ o ∷ rest'
      → out' ≡ splice out p (occurrence_bytes o)
      → Going out₀ out' place (p + 9) (list_bytes whole) (list_bytes rest')
  list_on out' o rest' room e w =
      let fits : place + length (list_bytes whole) ≤ length out₀ = omega (arith, length-list whole) in
      let first : list_bytes rest ≡ occurrence_bytes o ++ list_bytes rest' = ap list_bytes e ∙ list-cons o rest' in
      going_on out₀ out place p (list_bytes whole) (list_bytes rest) g out' (occurrence_bytes o) (list_bytes rest') (p + 9)
      fits first (omega (arith, length-occurrence o)) w

  none : rest ≡ [] → list_bytes rest ≡ []
  none e = ap list_bytes e ∙ list-nil

  list-bytes : rest ≡ [] → out ≡ splice out₀ place (list_bytes whole)
  list-bytes e = going_end out₀ out place p (list_bytes whole) (list_bytes rest) g (none e)

  list-ends : rest ≡ [] → p ≡ place + 9 * length whole
  list-ends e = omega (arith, going-place out₀ out place p (list_bytes whole) (list_bytes rest) g (none e), length-list whole)

-- ---- the occurrences of a place

-- So many occurrences of the whole list are written, up to p, and the open streams give those that are still to come.
pub record ListingPlace (index : List ℕ) (place : Place) (out₀ out : List ℕ) (whole : List Occurrence) (opened : List (List ℕ)) (p written : ℕ)
    : Type 0 where
  pub coming : Coming index place opened written
  pub going : Going out₀ out place.at p (list_bytes whole) (list_bytes (still place index opened))

module _ (index : List ℕ) (place : Place) (streams : List (List ℕ)) (out₀ : List ℕ)
    (ready : ReadableStreams index place.width place.size place.count streams) (all : place.many ≡ total streams place.count) where
  abbrev whole : List Occurrence
  whole = place_list place index streams

  -- nothing is listed where there is no occurrence
  pub listing_none : place.many ≡ 0 → (place.at ≡ place.at + 9 * length whole) × (out₀ ≡ splice out₀ place.at (list_bytes whole))
  listing_none e =
      let z : whole ≡ [] = coming-never index place streams ready all e in
      let g = going_start out₀ place.at (list_bytes whole) in
      (list-ends out₀ out₀ place.at place.at whole whole g z, list-bytes out₀ out₀ place.at place.at whole whole g z)

  pub listing_start : (opened : List (List ℕ)) → OpenedStreams index place.width place.size place.count streams opened
      → ListingPlace index place out₀ out₀ whole opened place.at 0
  listing_start opened o =
      record {
        coming = coming-start index place streams ready all opened o;
        going = subst (λ (os : List Occurrence). Going out₀ out₀ place.at place.at (list_bytes whole) (list_bytes os))
            (coming-all index place streams ready all opened o) (going_start out₀ place.at (list_bytes whole));
      }

module _ (index : List ℕ) (place : Place) (out₀ out : List ℕ) (whole : List Occurrence) (opened : List (List ℕ)) (p written : ℕ)
    (l : ListingPlace index place out₀ out whole opened p written) where
  module _ (room : place.at + 9 * length whole ≤ length out₀) (opened' : List (List ℕ)) (keyword offset : ℕ)
      (t : NextTaken index place.width place.size place.count opened opened' keyword offset) where
    abbrev first : Occurrence
    first = record { file = place.file; offset = place.base + offset; keyword = keyword }

    taken : still place index opened ≡ first ∷ still place index opened'
    taken = coming-first index place opened written l.coming opened' keyword offset t

    pub listing-room : p + 9 ≤ length out
    listing-room = list-room out₀ out place.at p whole (still place index opened) l.going first (still place index opened') room taken

    pub listing-on : (out' : List ℕ) → out' ≡ splice out p (occurrence_bytes first) → ListingPlace index place out₀ out' whole opened' (p + 9) (written + 1)
    listing-on out' w =
        record {
          coming = coming-on index place opened written l.coming opened' keyword offset t;
          going = list_on out₀ out place.at p whole (still place index opened) l.going out' first (still place index opened') room taken w;
        }

  pub listing-end : place.many ≤ written → (p ≡ place.at + 9 * length whole) × (out ≡ splice out₀ place.at (list_bytes whole))
  listing-end h =
      let z : still place index opened ≡ [] = coming-none index place opened written l.coming h in
      let rest : List Occurrence = still place index opened in
      (list-ends out₀ out place.at p whole rest l.going z, list-bytes out₀ out place.at p whole rest l.going z)
