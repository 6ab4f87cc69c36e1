-- The index check puts its stages together: the first that refuses gives the answer. Assumes nothing.
use mathlib.Core.Path.{◌≡◌, refl, sym, ap, ◌∙◌}
use mathlib.Core.Logic.{◌≢◌}
use mathlib.Core.Bool.{Bool, true, false, not, cond}
use mathlib.Core.List.{List, map}
use Prim.Native.Nat.{ℕ, ◌+◌, ◌-◌, ◌≤◌}
use native.Mathlib.Omega.{arith}
use lib.Dec.{ltb}
use lib.ListN.{length, take, drop, replicate, length-map}
use Rattle.spec.specs.Bytes.{twice, written}
use Rattle.spec.specs.Keywords.{keywords_of, keyword_front_code}
use Rattle.spec.specs.Store.{chunk_count}
use Rattle.spec.specs.Form.{form_of}
use Rattle.spec.specs.Index.{list_in, index_keys, lengths_in, all_good, index_code, header_code, directory_code, laid_code}
use Rattle.spec.proofs.Codes.{passed-whole, refused-whole, next-whole, last-whole, buffer-done, buffer-refused}
use Rattle.spec.proofs.IndexChecks.{index-good, length-index_keys}
use Rattle.spec.proofs.KeywordLaws.{accepted}
use Rattle.spec.proofs.Splices.{splice-read}
use Rattle.keywords.specs.declared.Keywords.{Keywords}
use Rattle.keywords.specs.Parsed.{parsed_of, Parsed}
use Rattle.keywords.proofs.Reading.{parsed}
use Rattle.bodies.proofs.Turns.{behind}
use Rattle.directory.specs.Chains.{chains_of, Chained}
use Rattle.directory.proofs.ChainLists.{Built, chained}
use Rattle.index.specs.Stages.{examined_chains, Headed, Lens}
use Rattle.index.proofs.StageLaws.{header-passed}

-- ---- the stages

module _ (index : List ℕ) where
  -- 12 and 13
  abbrev last : ℕ
  last = cond (twice (index_keys index)) 12 (cond (not (all_good (form_of index) index)) 13 0)

  abbrev front : ℕ
  front = keyword_front_code (list_in index)

  -- the check is the tests before 12, then the last two
  check-parts : index_code (form_of index) index ≡ cond (ltb 0 (laid_code (form_of index) index)) (laid_code (form_of index) index) last
  unfolding index_code
  check-parts = refl

  -- the tests before 12, by the stage that refuses
  pub header-stops : header_code (form_of index) index ≢ 0 → header_code (form_of index) index ≡ laid_code (form_of index) index
  unfolding laid_code
  header-stops d = refused-whole (header_code (form_of index) index) _ d

  module _ (p1 : header_code (form_of index) index ≡ 0) where
    pub list-stops : keyword_front_code (list_in index) ≢ 0 → keyword_front_code (list_in index) ≡ laid_code (form_of index) index
    unfolding laid_code
    list-stops d = refused-whole front _ d ∙ sym (next-whole (header_code (form_of index) index) _ p1)

    module _ (p2 : keyword_front_code (list_in index) ≡ 0) where
      pub directory-stops : directory_code (form_of index) index ≡ laid_code (form_of index) index
      unfolding laid_code
      directory-stops = sym (next-whole (header_code (form_of index) index) _ p1 ∙ next-whole front _ p2 ∙ last-whole (directory_code (form_of index) index))

  -- refused before 12: the array is as it was
  pub refused-early : (chains : List ℕ) (code : ℕ) → code ≡ laid_code (form_of index) index → code ≢ 0
      → (code ≡ index_code (form_of index) index) × (chains ≡ examined_chains index chains)
  unfolding examined_chains
  refused-early chains code e d =
      let n : laid_code (form_of index) index ≢ 0 = λ z. d (e ∙ z) in (
        e ∙ refused-whole (laid_code (form_of index) index) last n ∙ sym check-parts,
        buffer-refused (laid_code (form_of index) index) (written chains (chains_of (index_keys index))) chains n,
      )

  -- the directory is whole, and the crate below built the chains
  module _ (p : laid_code (form_of index) index ≡ 0) (chains₀ chains : List ℕ) (t : Bool) (b : Built (index_keys index) chains₀ chains t) where
    last-two : index_code (form_of index) index ≡ last
    last-two = check-parts ∙ next-whole (laid_code (form_of index) index) last p

    abbrev Told : ℕ → Type 0
    Told code = (code ≡ index_code (form_of index) index) × (chains ≡ examined_chains index chains₀)

    told : (code : ℕ) → code ≡ last → Told code
    unfolding examined_chains
    told code e =
        (e ∙ sym last-two, b.1 ∙ buffer-done (laid_code (form_of index) index) (written chains₀ (chains_of (index_keys index))) chains₀ p)

    pub duplicate-told : t ≡ true → Told 12
    duplicate-told e = told 12 (rw (sym b.0 ∙ e))

    pub body-told : t ≡ false → all_good (form_of index) index ≡ false → Told 13
    body-told e g = told 13 (rw (sym b.0 ∙ e, g))

    pub all_told : t ≡ false → all_good (form_of index) index ≡ true → Told 0
    all_told e g = told 0 (rw (sym b.0 ∙ e, g))

-- where the check passes, the array holds the chains of the index's fingerprints
pub index-chains : (index chains₀ chains : List ℕ) → index_code (form_of index) index ≡ 0
    → chains ≡ examined_chains index chains₀ → 65536 + 65000 ≤ length chains₀ → Chained (index_keys index) 0 chains
unfolding examined_chains
index-chains index chains₀ chains z q l =
    let laid = (passed-whole (laid_code (form_of index) index) (last index) (sym (check-parts index) ∙ z)).0 in
    chained (index_keys index) chains chains₀
    (q ∙ sym (buffer-done (laid_code (form_of index) index) (written chains₀ (chains_of (index_keys index))) chains₀ laid))
    (omega (arith, length-index_keys index, (index-good (form_of index) index z).few))

-- ---- what the keyword list's struct says of the index

-- the list is what is behind the first 8 bytes
pub list-is : (index : List ℕ) → take (length index - 8) (drop 8 index) ≡ list_in index
list-is index = behind index 8

module _ (index : List ℕ) (words : Keywords) (good : keyword_front_code (list_in index) ≡ 0) (p : words ≡ parsed_of (take (length index - 8) (drop 8 index))) where
  is-parsed : words ≡ parsed_of (list_in index)
  is-parsed = p ∙ ap parsed_of (list-is index)

  pub listed : Parsed (list_in index) words
  listed = parsed (list_in index) words (record { accepted = good; parsed = is-parsed })

  pub headed : (count : ℕ) → header_code (form_of index) index ≡ 0 → count ≡ chunk_count index → Headed index (8 + words.size) count
  headed count h c = record {
    header = (header-passed index h).0;
    counts = c;
    few = rw c (header-passed index h).1;
    starts = ap (λ (s : ℕ). 8 + s) listed.ends;
    short = omega (arith, listed.short);
  }

  -- as many lengths as keywords are all of them
  lengths : take words.count words.len ≡ map length (keywords_of (list_in index))
  unfolding parsed_of
  lengths =
      let v : List ℕ = map length (keywords_of (list_in index)) in
      let n : words.count ≡ length v = omega (arith, listed.counts, (accepted (list_in index) good).count, length-map (keywords_of (list_in index)) length) in
      rw (n, is-parsed) (splice-read (replicate 16 0) 0 v (omega arith))

  pub lens : Lens index words.count words.len
  unfolding lengths_in
  lens = record {
    are = lengths;
    room = omega (arith, listed.lens, listed.few);
    each = λ k h. ((listed.placed k h).nonempty, (listed.placed k h).most);
  }
