-- While a choice is carried along a place's occurrences: carried along those still to come it is the place's choice. Assumes nothing.
use mathlib.Core.Path.{◌≡◌, refl, sym, ap, ◌∙◌}
use mathlib.Core.List.{List, []}
use Prim.Native.Nat.{ℕ, ◌+◌, ◌≤◌}
use lib.ListN.{length}
use Rattle.spec.specs.Join.{Occurrence}
use Rattle.listing.specs.declared.Place.{Place}
use Rattle.listing.specs.declared.Choice.{Choice}
use Rattle.listing.specs.Streams.{total, place_list, ReadableStreams, OpenedStreams, NextTaken}
use Rattle.listing.specs.Choosing.{advanced, chosen_from}
use Rattle.listing.proofs.Coming.{still, Coming, coming-never, coming-all, coming-start, coming-none, coming-first, coming-on}
use Rattle.listing.proofs.Choices.{chosen_none, chosen-cons, chosen-done}

-- So many of the place's occurrences are taken, and with those that are still to come the choice becomes `r`.
pub record ChoosingPlace (index : List ℕ) (place : Place) (lengths query : List ℕ) (r : Choice) (opened : List (List ℕ)) (chosen : Choice) (taken : ℕ)
    : Type 0 where
  pub coming : Coming index place opened taken
  pub carried : chosen_from lengths query (still place index opened) chosen ≡ r

module _ (index : List ℕ) (place : Place) (lengths query : List ℕ) where
  module _ (streams : List (List ℕ)) (choice : Choice)
      (ready : ReadableStreams index place.width place.size place.count streams) (all : place.many ≡ total streams place.count) where
    abbrev whole : Choice
    whole = chosen_from lengths query (place_list place index streams) choice

    -- nothing is chosen where there is no occurrence
    pub choosing-never : place.many ≡ 0 → choice ≡ whole
    choosing-never e =
        let z : place_list place index streams ≡ [] = coming-never index place streams ready all e in
        sym (ap (λ (os : List Occurrence). chosen_from lengths query os choice) z ∙ chosen_none lengths query choice)

    pub choosing-start : (opened : List (List ℕ)) → OpenedStreams index place.width place.size place.count streams opened
        → ChoosingPlace index place lengths query whole opened choice 0
    choosing-start opened o =
        record {
          coming = coming-start index place streams ready all opened o;
          carried = ap (λ (os : List Occurrence). chosen_from lengths query os choice) (sym (coming-all index place streams ready all opened o));
        }

  module _ (r : Choice) (opened : List (List ℕ)) (chosen : Choice) (taken : ℕ) (c : ChoosingPlace index place lengths query r opened chosen taken) where
    pub choosing-complete : length query ≤ chosen.step → chosen ≡ r
    choosing-complete h = sym (chosen-done lengths query (still place index opened) chosen h) ∙ c.carried

    pub choosing-end : place.many ≤ taken → chosen ≡ r
    choosing-end h =
        let z : still place index opened ≡ [] = coming-none index place opened taken c.coming h in
        sym (ap (λ (os : List Occurrence). chosen_from lengths query os chosen) z ∙ chosen_none lengths query chosen) ∙ c.carried

    module _ (opened' : List (List ℕ)) (keyword offset : ℕ)
        (t : NextTaken index place.width place.size place.count opened opened' keyword offset) where
      abbrev first : ℕ → Occurrence
      first file = record { file = file; offset = place.base + offset; keyword = keyword }

      -- the file does not bear on the choice
      any-file : advanced lengths query chosen (first place.file) ≡ advanced lengths query chosen (first 0)
      unfolding advanced
      any-file = refl

      pub choosing-on : (chosen' : Choice) → chosen' ≡ advanced lengths query chosen (first 0)
          → ChoosingPlace index place lengths query r opened' chosen' (taken + 1)
      choosing-on chosen' e =
          let rest = still place index opened' in
          record {
            coming = coming-on index place opened taken c.coming opened' keyword offset t;
            carried = ap (chosen_from lengths query rest) (e ∙ sym any-file) ∙ sym (chosen-cons lengths query (first place.file) rest chosen)
                ∙ ap (λ (os : List Occurrence). chosen_from lengths query os chosen)
                (sym (coming-first index place opened taken c.coming opened' keyword offset t))
                ∙ c.carried;
          }
