-- Laws of chains of tests: what a code of 0 says of each test, and a chain's value where a test is decided. They speak of `cond b code rest`,
-- which is what `first_number` of a chain computes to: at a chain write `passed _ 3 _ (omega arith) e`. Assumes nothing.
use mathlib.Core.Path.{◌≡◌, refl}
use mathlib.Core.Logic.{◌≢◌}
use mathlib.Core.Bool.{Bool, true, false, cond, ◌||◌, true≢false}
use mathlib.Core.List.{List, [], ◌∷◌}
use Prim.Native.Nat.{ℕ, zero, suc, ◌<◌}
use native.Mathlib.Omega.{arith}
use lib.Dec.{ltb}
use borrow.Author.Tests.{ne_eqb, lt-ltb}
use Rattle.spec.specs.Outcome.{Done, Refused, first_number, whole, first_code, answer, unless_refused}

-- ---- a chain of 0: the first test is false, and so on

pub passed : (b : Bool) (code rest : ℕ) → 0 < code → cond b code rest ≡ 0 → (b ≡ false) × (rest ≡ 0)
passed true code rest h e = let z : ⊥ = omega arith in absurd z
passed false code rest h e = (refl, e)

pub passed-whole : (code rest : ℕ) → cond (ltb 0 code) code rest ≡ 0 → (code ≡ 0) × (rest ≡ 0)
passed-whole zero rest e = (refl, e)
passed-whole (suc n) rest e = let z : suc n ≡ 0 = rw (lt-ltb 0 (suc n) (omega arith)) at e in let y : ⊥ = omega arith in absurd y

-- no test is true: 0
pub all-passed : (b : Bool) (code rest : ℕ) → b ≡ false → rest ≡ 0 → cond b code rest ≡ 0
all-passed b code rest f e = rw f e

pub all-passed-whole : (code rest : ℕ) → code ≡ 0 → rest ≡ 0 → cond (ltb 0 code) code rest ≡ 0
all-passed-whole code rest f e = rw f e

-- ---- a chain whose first test is decided

pub refused : (b : Bool) (code rest : ℕ) → b ≡ true → code ≡ cond b code rest
refused b code rest e = rw e

pub next-test : (b : Bool) (code rest : ℕ) → b ≡ false → cond b code rest ≡ rest
next-test b code rest e = rw e

pub refused-whole : (code rest : ℕ) → code ≢ 0 → code ≡ cond (ltb 0 code) code rest
refused-whole code rest h = rw (lt-ltb 0 code (omega arith))

pub next-whole : (code rest : ℕ) → code ≡ 0 → cond (ltb 0 code) code rest ≡ rest
next-whole code rest e = rw e

-- a check that is the last test
pub last-whole : (code : ℕ) → first_number (whole code ∷ []) ≡ code
last-whole zero = refl
last-whole (suc n) = rw (lt-ltb 0 (suc n) (omega arith))

-- ---- checks one after the other

pub passed-code : (code : ℕ) (codes : List ℕ) → first_code (code ∷ codes) ≡ 0 → (code ≡ 0) × (first_code codes ≡ 0)
passed-code code codes e = passed-whole code (first_code codes) e

pub refused-code : (code : ℕ) (codes : List ℕ) → code ≢ 0 → code ≡ first_code (code ∷ codes)
refused-code code codes h = refused-whole code (first_code codes) h

pub next-code : (code : ℕ) (codes : List ℕ) → code ≡ 0 → first_code (code ∷ codes) ≡ first_code codes
next-code code codes e = next-whole code (first_code codes) e

-- ---- a condition of two or three parts

pub or_left : (a b : Bool) → (a || b) ≡ false → a ≡ false
or_left true b e = e
or_left false b e = refl

pub or_right : (a b : Bool) → (a || b) ≡ false → b ≡ false
or_right true b e = absurd (true≢false e)
or_right false b e = e

-- ---- the answer and the buffer

pub answer-done : (code value : ℕ) → code ≡ 0 → Done value ≡ answer code value
unfolding answer
answer-done code value e = rw e

pub answer-refused : (code value : ℕ) → code ≢ 0 → Refused code ≡ answer code value
unfolding answer
answer-refused code value h = rw (ne_eqb code 0 h)

pub buffer-done : (code : ℕ) (worked buffer : List ℕ) → code ≡ 0 → worked ≡ unless_refused code worked buffer
unfolding unless_refused
buffer-done code worked buffer e = rw e

pub buffer-refused : (code : ℕ) (worked buffer : List ℕ) → code ≢ 0 → buffer ≡ unless_refused code worked buffer
unfolding unless_refused
buffer-refused code worked buffer h = rw (ne_eqb code 0 h)
