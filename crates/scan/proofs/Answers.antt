-- The scan's answers, one for each way out. Assumes nothing.
use mathlib.Core.Path.{◌≡◌, sym, ap, ap₂, ◌∙◌}
use mathlib.Core.Logic.{◌≢◌}
use mathlib.Core.Bool.{true, false, ◌||◌, or-true}
use mathlib.Core.List.{List}
use Prim.Native.Nat.{ℕ, ◌≤◌, ◌<◌}
use native.Mathlib.Omega.{arith}
use lib.ListN.{length}
use lib.Dec.{ltb}
use borrow.Author.Tests.{lt-ltb, le-ltb}
use Rattle.spec.specs.Outcome.{Outcome, Done, Refused}
use Rattle.spec.specs.Scanned.{Scanned}
use Rattle.spec.specs.Scanned as scanned
use Rattle.spec.specs.Bytes.{largest32, splice}
use Rattle.spec.specs.Form.{newest}
use Rattle.spec.specs.Scan.{scan_index, scannable_code, scan_code, scan_outcome, with_moves, scan_answer, scan_buffer, size_outcome}
use Rattle.spec.proofs.Codes.{refused-whole, next-whole, refused, next-test, answer-done, answer-refused, buffer-done, buffer-refused}
use Rattle.spec.specs.Trie.{scan_moves}
use Rattle.scan.specs.Answers.{Scans}

module _ (list store : List ℕ) where
  -- the index's length
  abbrev pub long : ℕ
  long = length (scan_index newest list store)

  module _ (code : ℕ) (e : code ≡ scannable_code list store) where
    pub size-refused : code ≢ 0 → Refused code ≡ size_outcome newest list store
    unfolding size_outcome
    size-refused h = ap Refused e ∙ answer-refused (scannable_code list store) long (λ z. h (e ∙ z))

    pub size-done : (len : ℕ) → code ≡ 0 → len ≡ long → Done len ≡ size_outcome newest list store
    unfolding size_outcome
    size-done len z n = ap Done n ∙ answer-done (scannable_code list store) long (sym e ∙ z)

    module _ (before : List ℕ) where
      -- the whole refusal, by the way taken
      code-first : code ≢ 0 → code ≡ scan_code newest list store (length before)
      unfolding scan_code
      code-first h = e ∙ refused-whole (scannable_code list store) _ (λ z. h (e ∙ z))

      code-nine : code ≡ 0 → (ltb (length before) long || ltb largest32 long) ≡ true → 9 ≡ scan_code newest list store (length before)
      unfolding scan_code
      code-nine z t = refused _ 9 0 t ∙ sym (next-whole (scannable_code list store) _ (sym e ∙ z))

      code-none : code ≡ 0 → (ltb (length before) long || ltb largest32 long) ≡ false → scan_code newest list store (length before) ≡ 0
      unfolding scan_code
      code-none z t = next-whole (scannable_code list store) _ (sym e ∙ z) ∙ next-test _ 9 0 t

      refusal : (n : ℕ) → n ≡ scan_code newest list store (length before) → n ≢ 0 → Scans list store before before (scanned.Refused n)
      unfolding scan_answer scan_outcome scan_buffer
      refusal n p h = record {
        answered = ap scanned.Refused p
            ∙ ap (λ (o : Outcome). with_moves o (scan_moves list store))
            (answer-refused (scan_code newest list store (length before)) long (λ z. h (p ∙ z)));
        bytes = buffer-refused (scan_code newest list store (length before)) (splice before 0 (scan_index newest list store)) before (λ z. h (p ∙ z));
      }

      pub scan-refused : code ≢ 0 → Scans list store before before (scanned.Refused code)
      scan-refused h = refusal code (code-first h) h

      pub scan-short : (len : ℕ) → code ≡ 0 → len ≡ long → length before < len → Scans list store before before (scanned.Refused 9)
      scan-short len z n h = refusal 9 (code-nine z (rw (lt-ltb (length before) long (omega arith)))) (omega arith)

      pub scan-large : (len : ℕ) → code ≡ 0 → len ≡ long → 4294967295 < len → Scans list store before before (scanned.Refused 9)
      scan-large len z n h = refusal 9 (code-nine z (rw (lt-ltb largest32 long (omega arith), or-true))) (omega arith)

      pub scan-done : (len moves : ℕ) (after : List ℕ) → code ≡ 0 → len ≡ long → moves ≡ scan_moves list store
          → len ≤ length before → len ≤ 4294967295
          → after ≡ splice before 0 (scan_index newest list store)
          → Scans list store before after (scanned.Done len moves)
      unfolding scan_answer scan_outcome scan_buffer
      scan-done len moves after z n m h l w =
          let room = le-ltb (length before) long (omega arith) in
          let small = le-ltb largest32 long (omega arith) in
          let c : scan_code newest list store (length before) ≡ 0 = code-none z (rw (room, small)) in
          record {
            answered = ap₂ {C = Scanned} (λ x y. scanned.Done x y) n m
                ∙ ap (λ (o : Outcome). with_moves o (scan_moves list store)) (answer-done (scan_code newest list store (length before)) long c);
            bytes = w ∙ buffer-done (scan_code newest list store (length before)) (splice before 0 (scan_index newest list store)) before c;
          }
