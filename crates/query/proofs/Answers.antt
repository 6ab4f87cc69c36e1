-- The answers of `count` and `query`, one for each way out. Assumes nothing.
use mathlib.Core.Path.{◌≡◌, sym, ap, ◌∙◌}
use mathlib.Core.Logic.{◌⊎◌, inl, inr}
use mathlib.Core.List.{List}
use Prim.Native.Nat.{ℕ, ◌*◌, ◌/◌, ◌≤◌, ◌<◌}
use native.Mathlib.Nat.{mul_comm, div-lt_iff_lt-mul}
use native.Mathlib.Omega.{arith}
use lib.ListN.{length}
use borrow.Author.Tests.{lt-ltb, le-ltb}
use Rattle.std.specs.Prelude.{Ok, Err}
use Rattle.spec.specs.declared.Refusal.{Refusal}
use Rattle.spec.specs.declared.Refusal.TheVariants.{ListTooLong}
use Rattle.spec.specs.Outcome.{Outcome, Done}
use Rattle.spec.specs.Refusal.{number_of, outcome_of}
use Rattle.spec.proofs.Refusals.{number-some, refusal-answers}
use Rattle.spec.specs.Bytes.{splice}
use Rattle.spec.specs.Form.{form_of}
use Rattle.spec.specs.Query.{query_lines, line_size, lines_bytes, queryable_code, query_code, query_outcome, query_buffer, query_count}
use Rattle.spec.proofs.Tests.{le-or-lt}
use Rattle.spec.proofs.Codes.{refused-whole, next-whole, refused, next-test, answer-done, buffer-done, buffer-refused}

-- what is divided, said as a product
more-lines : (room size n : ℕ) → 0 < size → room / size < n → room < size * n
more-lines room size n p h = let m : room < n * size = (div-lt_iff_lt-mul p).0 h in omega (arith, m, mul_comm size n)

fit-lines : (room size n : ℕ) → 0 < size → n ≤ room / size → size * n ≤ room
fit-lines room size n p h = go (le-or-lt (size * n) room)
  where
    go : (size * n ≤ room) ⊎ (room < size * n) → size * n ≤ room
    go (inl l) = l
    go (inr l) =
        let m : room < n * size = omega (arith, l, mul_comm size n) in
        let u : room / size < n = (div-lt_iff_lt-mul p).1 m in
        let z : ⊥ = omega arith in absurd z

module _ (index recipes query : List ℕ) where
  -- the number of lines, and the refusals before 18
  abbrev many : ℕ
  many = length (query_lines (form_of index) index recipes query)

  abbrev front : ℕ
  front = queryable_code (form_of index) index recipes query

  -- ---- the count

  module _ (n : ℕ) (e : n ≡ front) where
    pub count-refused : (r : Refusal) → number_of r ≡ n → outcome_of (Err r) ≡ query_count (form_of index) index recipes query
    unfolding query_count
    count-refused r h = refusal-answers r front many (h ∙ e)

    pub count-done : n ≡ 0 → (total : ℕ) → total ≡ many → outcome_of (Ok total) ≡ query_count (form_of index) index recipes query
    unfolding query_count
    count-done z total m = ap Done m ∙ answer-done front many (sym e ∙ z)

  -- ---- the lines

  module _ (out : List ℕ) where
    abbrev code : ℕ
    code = query_code (form_of index) index recipes query (length out)

    abbrev bytes : List ℕ
    bytes = lines_bytes (query_lines (form_of index) index recipes query)

    -- what a query promises: its answer, and every byte of its buffer
    abbrev Found : List ℕ → Outcome → Type 0
    Found after r = (r ≡ query_outcome (form_of index) index recipes query (length out)) × (after ≡ query_buffer (form_of index) index recipes query out)

    refusal : (r : Refusal) → number_of r ≡ code → Found out (outcome_of (Err r))
    unfolding query_outcome query_buffer
    refusal r p = (refusal-answers r code many p, buffer-refused code (splice out 0 bytes) out (λ z. number-some r (p ∙ z)))

    module _ (n : ℕ) (e : n ≡ front) where
      pub lines-refused : (r : Refusal) → number_of r ≡ n → Found out (outcome_of (Err r))
      unfolding query_code
      lines-refused r h = refusal r (h ∙ e ∙ refused-whole front _ (λ z. number-some r (h ∙ e ∙ z)))

      module _ (z : n ≡ 0) (total : ℕ) (m : total ≡ many) where
        -- the code divides, so that no product is taken
        pub lines_long : length out / line_size query < total → Found out (outcome_of (Err ListTooLong))
        unfolding query_code
        lines_long h =
            let l : length out < line_size query * many = rw m at (more-lines (length out) (line_size query) total (omega arith) h) in
            refusal ListTooLong (refused _ 18 0 (lt-ltb (length out) (line_size query * many) l) ∙ sym (next-whole front _ (sym e ∙ z)))

        pub lines-room : total ≤ length out / line_size query → line_size query * many ≤ length out
        lines-room h = rw m at (fit-lines (length out) (line_size query) total (omega arith) h)

        pub lines-done : (after : List ℕ) → total ≤ length out / line_size query → after ≡ splice out 0 bytes → Found after (outcome_of (Ok total))
        unfolding query_outcome query_buffer query_code
        lines-done after h w =
            let c : code ≡ 0 = next-whole front _ (sym e ∙ z) ∙ next-test _ 18 0 (le-ltb (length out) (line_size query * many) (lines-room h)) in
            (ap Done m ∙ answer-done code many c, w ∙ buffer-done code (splice out 0 bytes) out c)
