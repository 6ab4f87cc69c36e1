-- The choice of a file for a query (request #109), carried along place by place. Assumes nothing.
use mathlib.Core.Path.{◌≡◌, sym, ap, ◌∙◌}
use mathlib.Core.List.{List}
use Prim.Native.Nat.{ℕ, ◌+◌, ◌^◌, ◌≤◌, ◌<◌}
use native.Mathlib.Omega.{arith}
use lib.ListN.{length, drop}
use Rattle.spec.specs.declared.Opened.{Opened}
use Rattle.spec.specs.Keywords.{folded_keywords}
use Rattle.spec.specs.Records.{ChunkRecords}
use Rattle.spec.specs.Index.{list_in}
use Rattle.spec.specs.Join.{Occurrence, join_from}
use Rattle.listing.specs.declared.Choice.{Choice}
use Rattle.listing.specs.Choosing.{chosen_from, no_choice}
use Rattle.listing.specs.Streams.{occurrences, unread_at}
use Rattle.listing.proofs.Choices.{chosen_none, chosen-append, chosen-done}
use Rattle.walk.specs.Walking.{chunks_in, file_list, size_of, width_of, Checked, File, LoadedPair, Crossed, crossings}
use Rattle.walk.proofs.Places.{AllGood, place-join}
use Rattle.walk.proofs.Counts.{place-sizes, past}

-- The occurrences from place n of a file on, which starts at `base` in the file.
abbrev coming_at : List ℕ → ℕ → List ChunkRecords → ℕ → ℕ → List Occurrence
coming_at index number chunks n base = join_from number (folded_keywords (list_in index)) base (drop n chunks)

-- The choice is the one at the start of place n, and carried along what comes it is the file's.
pub record ChoosingFile (index : List ℕ) (number : ℕ) (chunks : List ChunkRecords) (lengths query : List ℕ) (n base : ℕ) (choice : Choice) : Type 0 where
  pub small : base + size_of (drop n chunks) < 2 ^ 32
  pub rest : chosen_from lengths query (coming_at index number chunks n base) choice ≡ chosen_from lengths query (coming_at index number chunks 0 0) no_choice

module _ (index : List ℕ) (opened : Opened) (chunks : List ChunkRecords) (d : Checked index opened)
    (good : AllGood (folded_keywords (list_in index)) chunks) (n : ℕ) (rows rows' : List (List ℕ)) (size size' : ℕ)
    (pair : LoadedPair index opened chunks n rows rows' size size')
    (number : ℕ) (lengths query : List ℕ) (base : ℕ) (choice : Choice) (at : ChoosingFile index number chunks lengths query n base choice) where
  pub choosing-fits : base + size < 2 ^ 32
  choosing-fits = omega (arith, at.small, place-sizes index opened chunks n rows rows' size size' pair)

  -- the choice is carried along this place
  pub choosing-on : (streams : List (List ℕ))
      (c : Crossed size opened.keywords (crossings (folded_keywords (list_in index)) rows (drop (n + 1) chunks)) rows streams) (choice' : Choice)
      → choice' ≡ chosen_from lengths query (occurrences number opened.keywords base size (unread_at index (width_of opened) streams)) choice
      → ChoosingFile index number chunks lengths query (n + 1) (base + size) choice'
  choosing-on streams c choice' e =
      let here : List Occurrence = occurrences number opened.keywords base size (unread_at index (width_of opened) streams) in
      let behind : List Occurrence = coming_at index number chunks (n + 1) (base + size) in
      record {
        small = omega (arith, at.small, place-sizes index opened chunks n rows rows' size size' pair);
        rest = ap (chosen_from lengths query behind) e
            ∙ sym (chosen-append lengths query here behind choice)
            ∙ ap (λ (l : List Occurrence). chosen_from lengths query l choice)
            (sym (place-join index opened chunks d good n rows rows' size size' pair streams c number base))
            ∙ at.rest;
      }

-- ---- before the first place, behind the last, and where the choice is complete

module _ (index file : List ℕ) (number : ℕ) (lengths query : List ℕ) where
  pub choosing-start : (slots : List ℕ) → File index file slots → (choice : Choice) → choice ≡ no_choice
      → ChoosingFile index number (chunks_in index file) lengths query 0 0 choice
  choosing-start slots f choice e =
      record { small = omega (arith, f.small); rest = ap (chosen_from lengths query (file_list number index file)) e }

  pub choosing-done : (n base : ℕ) (choice : Choice) → length query ≤ choice.step → ChoosingFile index number (chunks_in index file) lengths query n base choice
      → choice ≡ chosen_from lengths query (file_list number index file) no_choice
  choosing-done n base choice h at = sym (chosen-done lengths query (coming_at index number (chunks_in index file) n base) choice h) ∙ at.rest

  pub choosing-end : (n base : ℕ) (choice : Choice) → length (chunks_in index file) ≤ n
      → ChoosingFile index number (chunks_in index file) lengths query n base choice → choice ≡ chosen_from lengths query (file_list number index file) no_choice
  choosing-end n base choice h at =
      sym (chosen_none lengths query choice)
      ∙ ap (λ (l : List Occurrence). chosen_from lengths query l choice) (sym (past index file number base n h))
      ∙ at.rest
