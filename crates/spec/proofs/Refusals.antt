-- Laws of refusals: no refusal has the number 0, so a result's number says whether it is a refusal, and an answer of what it says. Assumes nothing.
use mathlib.Core.Path.{◌≡◌, refl, sym, ap, ◌∙◌}
use mathlib.Core.Logic.{◌≢◌}
use Prim.Native.Nat.{ℕ, ◌<◌}
use native.Mathlib.Omega.{arith}
use Rattle.std.specs.Prelude.{Result, Ok, Err}
use Rattle.spec.specs.declared.Refusal.{Refusal}
use Rattle.spec.specs.declared.Refusal.TheVariants as of
use Rattle.spec.specs.Outcome.{Outcome, answer}
use Rattle.spec.specs.Outcome as outcome
use Rattle.spec.specs.Refusal.{number_of, number, outcome_of}
use Rattle.spec.proofs.Codes.{answer-done, answer-refused}

pub number-positive : (r : Refusal) → 0 < number_of r
number-positive of.KeywordsCut = omega arith
number-positive of.KeywordsHeader = omega arith
number-positive of.KeywordLength = omega arith
number-positive of.KeywordsAlike = omega arith
number-positive of.StoreMarkWrong = omega arith
number-positive of.StoreDirectoryCut = omega arith
number-positive of.StoreEntryWrong = omega arith
number-positive of.StoreDuplicate = omega arith
number-positive of.OutputTooLong = omega arith
number-positive of.IndexMarkWrong = omega arith
number-positive of.IndexEntryWrong = omega arith
number-positive of.IndexDuplicate = omega arith
number-positive of.BodyNotGood = omega arith
number-positive of.RecipesWrong = omega arith
number-positive of.NotFound = omega arith
number-positive of.FileTooLong = omega arith
number-positive of.InnerChunkShort = omega arith
number-positive of.ListTooLong = omega arith
number-positive of.FingerprintLength = omega arith
number-positive of.StoreEntryBeyond = omega arith
number-positive of.QueryWrong = omega arith
number-positive of.KeyWrong = omega arith
number-positive of.CountTooLarge = omega arith
number-positive of.FileNumberWrong = omega arith

pub number-some : (r : Refusal) → number_of r ≢ 0
number-some r e = omega (arith, number-positive r)

-- a check whose number is 0 found nothing
pub accepted : {A : Type 0} (x : Result A Refusal) (r : Refusal) → x ≡ Err r → number x ≢ 0
accepted x r e z = number-some r (sym (ap number e) ∙ z)

-- ---- the results of operations

pub done-answers : (value code : ℕ) → code ≡ 0 → outcome_of (Ok value) ≡ answer code value
done-answers value code e = answer-done code value e

pub refusal-answers : (r : Refusal) (code value : ℕ) → number_of r ≡ code → outcome_of (Err r) ≡ answer code value
refusal-answers r code value e =
    ap outcome.Refused e ∙ answer-refused code value (λ z. number-some r (e ∙ z))
