-- The answers of `count` and of the join, one for each way out. Assumes nothing.
use mathlib.Core.Path.{◌≡◌, sym, ap, ◌∙◌}
use mathlib.Core.Logic.{◌≢◌}
use mathlib.Core.List.{List}
use Prim.Native.Nat.{ℕ, ◌*◌, ◌/◌, ◌≤◌, ◌<◌}
use native.Mathlib.Omega.{arith}
use lib.ListN.{length}
use borrow.Author.Tests.{lt-ltb, le-ltb}
use Rattle.std.specs.Prelude.{Ok, Err}
use Rattle.spec.specs.declared.Refusal.{Refusal}
use Rattle.spec.specs.declared.Refusal.TheVariants.{ListTooLong}
use Rattle.spec.specs.Outcome.{Outcome, Done}
use Rattle.spec.specs.Refusal.{number_of, outcome_of}
use Rattle.spec.proofs.Refusals.{number-some, refusal-answers}
use Rattle.spec.specs.Bytes.{splice}
use Rattle.spec.specs.Form.{form_of}
use Rattle.spec.specs.Keywords.{keywords_of}
use Rattle.spec.specs.Index.{list_in}
use Rattle.spec.specs.Join.{Occurrence, Clients, tally_with, clients_code, join_list, list_bytes, joinable_code, join_code, join_outcome, join_buffer, join_tally, count_outcome}
use Rattle.spec.proofs.Codes.{refused-whole, next-whole, last-whole, refused, next-test, answer-done, buffer-done, buffer-refused}

module _ (index recipes : List ℕ) (code : ℕ) (e : code ≡ joinable_code (form_of index) index recipes) where
  -- the number of occurrences
  abbrev many : ℕ
  many = length (join_list (form_of index) index recipes)

  pub count-refused : (r : Refusal) → number_of r ≡ code → outcome_of (Err r) ≡ count_outcome (form_of index) index recipes
  unfolding count_outcome
  count-refused r h = refusal-answers r (joinable_code (form_of index) index recipes) many (h ∙ e)

  pub count-done : (n : ℕ) → code ≡ 0 → n ≡ many → outcome_of (Ok n) ≡ count_outcome (form_of index) index recipes
  unfolding count_outcome
  count-done n z m = ap Done m ∙ answer-done (joinable_code (form_of index) index recipes) many (sym e ∙ z)

  module _ (clients : Clients) (out : List ℕ) where
    -- the list, and the tests of key and tally against it
    abbrev list : List Occurrence
    list = join_list (form_of index) index recipes

    abbrev keyed : ℕ
    keyed = clients_code (length (keywords_of (list_in index))) clients list

    abbrev whole : ℕ
    whole = join_code (form_of index) index recipes clients (length out)

    -- what a join promises: its answer, every byte of its buffer, and the tally
    abbrev Joined : List ℕ → Outcome → List ℕ → Type 0
    Joined after r tally =
        (r ≡ join_outcome (form_of index) index recipes clients (length out))
        × (after ≡ join_buffer (form_of index) index recipes clients out)
        × (tally ≡ join_tally (form_of index) index recipes clients (length out))

    -- the whole refusal, by the way taken
    code-first : code ≢ 0 → code ≡ whole
    unfolding join_code
    code-first h = e ∙ refused-whole (joinable_code (form_of index) index recipes) _ (λ z. h (e ∙ z))

    code-long : code ≡ 0 → length out < 9 * many → 18 ≡ whole
    unfolding join_code
    code-long z l = refused _ 18 _ (lt-ltb (length out) (9 * many) l) ∙ sym (next-whole (joinable_code (form_of index) index recipes) _ (sym e ∙ z))

    code-keyed : code ≡ 0 → 9 * many ≤ length out → whole ≡ keyed
    unfolding join_code
    code-keyed z l =
        next-whole (joinable_code (form_of index) index recipes) _ (sym e ∙ z)
        ∙ next-test _ 18 _ (le-ltb (length out) (9 * many) l)
        ∙ last-whole keyed

    refusal : (r : Refusal) → number_of r ≡ whole → Joined out (outcome_of (Err r)) clients.tally
    unfolding join_outcome join_buffer join_tally
    refusal r p = (
      refusal-answers r whole many p,
      buffer-refused whole (splice out 0 (list_bytes list)) out (λ z. number-some r (p ∙ z)),
      buffer-refused whole (tally_with clients list) clients.tally (λ z. number-some r (p ∙ z)),
    )

    pub join-refused : (r : Refusal) → number_of r ≡ code → Joined out (outcome_of (Err r)) clients.tally
    join-refused r h = refusal r (h ∙ code-first (λ z. number-some r (h ∙ z)))

    -- the code divides, so that no product is taken
    pub join-long : (n : ℕ) → code ≡ 0 → n ≡ many → length out / 9 < n → Joined out (outcome_of (Err ListTooLong)) clients.tally
    join-long n z m h = refusal ListTooLong (code-long z (omega arith))

    pub join-room : (n : ℕ) → n ≡ many → n ≤ length out / 9 → 9 * many ≤ length out
    join-room n m h = omega arith

    -- the list has room
    module _ (n : ℕ) (z : code ≡ 0) (m : n ≡ many) (h : n ≤ length out / 9) where
      pub join-keyed : (r : Refusal) → number_of r ≡ keyed → Joined out (outcome_of (Err r)) clients.tally
      join-keyed r q = refusal r (q ∙ sym (code-keyed z (join-room n m h)))

      pub join-done : (after tally : List ℕ) → keyed ≡ 0 → after ≡ splice out 0 (list_bytes list) → tally ≡ tally_with clients list
          → Joined after (outcome_of (Ok n)) tally
      unfolding join_outcome join_buffer join_tally
      join-done after tally k w t =
          let c : whole ≡ 0 = code-keyed z (join-room n m h) ∙ k in (
            ap Done m ∙ answer-done whole many c,
            w ∙ buffer-done whole (splice out 0 (list_bytes list)) out c,
            t ∙ buffer-done whole (tally_with clients list) clients.tally c,
          )
