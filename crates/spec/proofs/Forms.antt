-- What holds of every form that an index can have. Assumes nothing.
use mathlib.Core.Path.{◌≡◌, refl, ap, sym}
use mathlib.Core.Bool.{Bool, true, false, cond}
use mathlib.Core.List.{List}
use Prim.Native.Nat.{ℕ, ◌^◌, ◌≤◌, ◌<◌}
use native.Mathlib.Omega.{arith}
use lib.ListN.{length, take, get_or}
use Rattle.spec.specs.Bytes.{same}
use Rattle.spec.specs.Form.{Form, form1, form2, newest, form_of, format_of, form_in}
use Rattle.spec.proofs.Same.{same_of}
use Rattle.spec.proofs.RecordLaws.{FormGood, form1-good, form2-good, form3-good}

-- ---- an index that has a form's mark is of that form

pub form1-of : (index : List ℕ) → take 4 index ≡ form1.mark → form_of index ≡ form1
unfolding form_of
form1-of index e = rw (same_of (take 4 index) form1.mark e)

pub form2-of : (index : List ℕ) → take 4 index ≡ form2.mark → form_of index ≡ form2
unfolding form_of
form2-of index e = rw e

-- the newest one's mark is not an older one's
pub newest-of : (index : List ℕ) → take 4 index ≡ newest.mark → form_of index ≡ newest
unfolding form_of
newest-of index e = rw e

-- ---- every form

-- What a reader asks of a form: the laws of records hold, fields and lengths are small, the tiny rule is document 01's, the code's format says it,
-- the mark's third byte is one, and an index that has the mark is of the form.
pub record FormRead (f : Form) : Type 0 where
  pub good : FormGood f
  pub least : 1 ≤ f.width
  pub wide : f.width ≤ 3
  pub longest : f.longest_chunk ≤ 1048576
  pub said : form_in (format_of f) ≡ f
  pub digit : get_or f.mark 2 0 < 256
  pub named : (index : List ℕ) → take 4 index ≡ f.mark → form_of index ≡ f

-- fields of one to three bytes with their laws are all that a form brings with it
read_of : (f : Form) → FormGood f → 1 ≤ f.width → f.width ≤ 3 → f.longest_chunk ≤ 1048576 → form_in (format_of f) ≡ f → get_or f.mark 2 0 < 256
    → ((index : List ℕ) → take 4 index ≡ f.mark → form_of index ≡ f) → FormRead f
read_of f good least wide longest said digit named =
    record { good = good; least = least; wide = wide; longest = longest; said = said; digit = digit; named = named }

form1-read : FormRead form1
form1-read = read_of form1 form1-good (omega arith) (omega arith) (omega arith) refl (omega arith) form1-of

form2-read : FormRead form2
form2-read = read_of form2 form2-good (omega arith) (omega arith) (omega arith) refl (omega arith) form2-of

pub newest-read : FormRead newest
newest-read = read_of newest form3-good (omega arith) (omega arith) (omega arith) refl (omega arith) newest-of

pub form-read : (index : List ℕ) → FormRead (form_of index)
unfolding form_of
form-read index = go (same (take 4 index) form1.mark) (same (take 4 index) form2.mark)
  where
    go : (b c : Bool) → FormRead (cond b form1 (cond c form2 newest))
    go true c = form1-read
    go false true = form2-read
    go false false = newest-read

-- by the comparison with the older marks
pub form-old : (index : List ℕ) → same (take 4 index) form1.mark ≡ true → form1 ≡ form_of index
unfolding form_of
form-old index e = rw e

pub form-wide : (index : List ℕ) → same (take 4 index) form1.mark ≡ false → same (take 4 index) form2.mark ≡ true → form2 ≡ form_of index
unfolding form_of
form-wide index e e' = rw (e, e')

pub form-new : (index : List ℕ) → same (take 4 index) form1.mark ≡ false → same (take 4 index) form2.mark ≡ false → newest ≡ form_of index
unfolding form_of
form-new index e e' = rw (e, e')

-- ---- forms that can be written

pub record WriteForm (f : Form) : Type 0 where
  pub good : FormGood f
  pub marked : length f.mark ≡ 4
  pub small : f.longest_chunk < 256 ^ 4

pub form-writes : (f : Form) → FormRead f → WriteForm f
form-writes f read =
    record { good = read.good; marked = ap (λ (g : Form). length g.mark) (sym read.said); small = omega (arith, read.longest) }
