-- Laws of runs of fields: written and read again, and read and written again. The second wants every byte below 256. Assumes nothing.
use mathlib.Core.Path.{◌≡◌, refl, sym, ap, ◌∙◌}
use mathlib.Core.Bool.{true}
use mathlib.Core.List.{List, [], ◌∷◌, ◌++◌, append_assoc}
use Prim.Native.Nat.{ℕ, zero, suc, ◌+◌, ◌*◌, ◌/◌, ◌%◌, ◌^◌, ◌≤◌, ◌<◌}
use native.Mathlib.Nat.{add-mul-div_left, add-mul-mod_self_left, mod-eq_of_lt, div-eq_of_lt, zero-add, mul-suc, pow-suc, mul-zero, min-le_left}
use native.Mathlib.Nat.{pow-le-pow_right}
use native.Mathlib.Omega.{arith}
use lib.Dec.{ltb, ltb→lt}
use lib.ListN.{length, take, drop, length-append, length-take, length-drop}
use lib.Seq.{take_at, drop_at, take-add, get_or-drop, length-take-le}
use Rattle.spec.specs.Bytes.{le_value, le_bytes, field_at, fields_of, fields_bytes, every, AllBytes}
use Rattle.spec.proofs.Fields.{length-le_bytes, le_value-le_bytes}
use Rattle.spec.proofs.Tests.{T_of, and_left, and_right}

pub bytes_drop : (n : ℕ) (bytes : List ℕ) → AllBytes bytes → AllBytes (drop n bytes)
bytes_drop n bytes b i = rw get_or-drop (b (n + i))

pub bytes_take : (n : ℕ) (l : List ℕ) → AllBytes l → AllBytes (take n l)
bytes_take zero l b i = omega arith
bytes_take (suc n) [] b i = omega arith
bytes_take (suc n) (x ∷ l) b zero = b 0
bytes_take (suc n) (x ∷ l) b (suc i) = bytes_take n l (λ j. b (suc j)) i

-- ---- one field

pub le_value-bound : (bs : List ℕ) → AllBytes bs → le_value bs < 256 ^ length bs
unfolding le_value
le_value-bound [] b = omega arith
le_value-bound (x ∷ bs) b =
    let h : x < 256 = b 0 in
    let t : le_value bs < 256 ^ length bs = le_value-bound bs (λ i. b (suc i)) in
    rw pow-suc (omega arith)

-- read and written again
pub le_bytes-le_value : (bs : List ℕ) → AllBytes bs → le_bytes (length bs) (le_value bs) ≡ bs
unfolding le_value le_bytes
le_bytes-le_value [] b = refl
le_bytes-le_value (x ∷ bs) b =
    let h : x < 256 = b 0 in
    let q : (x + 256 * le_value bs) / 256 ≡ le_value bs = add-mul-div_left x (le_value bs) {y = 256} (omega arith) ∙ rw (div-eq_of_lt h) (zero-add _) in
    let r : (x + 256 * le_value bs) % 256 ≡ x = add-mul-mod_self_left x 256 (le_value bs) ∙ mod-eq_of_lt h in
    rw (r, q, le_bytes-le_value bs (λ i. b (suc i)))

-- the first w bytes
pub le_bytes-take : (w : ℕ) (bytes : List ℕ) → AllBytes bytes → w ≤ length bytes → le_bytes w (le_value (take w bytes)) ≡ take w bytes
le_bytes-take w bytes b h = ap (λ (n : ℕ). le_bytes n (le_value (take w bytes))) (sym (length-take-le w bytes h)) ∙ le_bytes-le_value (take w bytes) (bytes_take w bytes b)

-- a field is below the power of its width, also where bytes are missing
pub field_lt : (bytes : List ℕ) (at w : ℕ) → AllBytes bytes → field_at bytes at w < 256 ^ w
field_lt bytes at w b =
    let l : length (take w (drop at bytes)) ≤ w = rw length-take (min-le_left w (length (drop at bytes))) in
    omega (arith, le_value-bound (take w (drop at bytes)) (bytes_take w (drop at bytes) (bytes_drop at bytes b)), pow-le-pow_right {n = 256} (omega arith) {i = length (take w (drop at bytes))} {j = w} l)

-- ---- runs

pub length-fields_bytes : (w : ℕ) (xs : List ℕ) → length (fields_bytes w xs) ≡ w * length xs
unfolding fields_bytes
length-fields_bytes w [] = sym (mul-zero w)
length-fields_bytes w (x ∷ xs) = rw (length-append, length-le_bytes, length-fields_bytes w xs, mul-suc) (omega arith)

pub length-fields_of : (w n : ℕ) (bytes : List ℕ) → length (fields_of w n bytes) ≡ n
unfolding fields_of
length-fields_of w zero bytes = refl
length-fields_of w (suc n) bytes = ap suc (length-fields_of w n (drop w bytes))

-- written and read again
pub fields_of-fields_bytes : (w : ℕ) (xs rest : List ℕ) → every (λ x. ltb x (256 ^ w)) xs ≡ true
    → fields_of w (length xs) (fields_bytes w xs ++ rest) ≡ xs
unfolding fields_of fields_bytes
fields_of-fields_bytes w [] rest e = refl
fields_of-fields_bytes w (x ∷ xs) rest e =
    let h : x < 256 ^ w = ltb→lt x (256 ^ w) (T_of (ltb x (256 ^ w)) (and_left (ltb x (256 ^ w)) (every (λ x. ltb x (256 ^ w)) xs) e)) in
    let s : length (le_bytes w x) ≡ w = length-le_bytes w x in
    rw (
      append_assoc (le_bytes w x) (fields_bytes w xs) rest,
      take_at (le_bytes w x) (fields_bytes w xs ++ rest) w s,
      drop_at (le_bytes w x) (fields_bytes w xs ++ rest) w s,
      le_value-le_bytes w x h,
      fields_of-fields_bytes w xs rest (and_right (ltb x (256 ^ w)) (every (λ x. ltb x (256 ^ w)) xs) e),
    )

-- read and written again
pub fields_bytes-fields_of : (w n : ℕ) (bytes : List ℕ) → AllBytes bytes → w * n ≤ length bytes → fields_bytes w (fields_of w n bytes) ≡ take (w * n) bytes
unfolding fields_of fields_bytes
fields_bytes-fields_of w zero bytes b h = rw mul-zero
fields_bytes-fields_of w (suc n) bytes b h =
    let e : w * suc n ≡ w + w * n = mul-suc w n ∙ omega arith in
    let l : w + w * n ≤ length bytes = rw (← e) h in
    let m : w * n ≤ length (drop w bytes) = rw length-drop (omega arith) in
    rw (le_bytes-take w bytes b (omega arith), fields_bytes-fields_of w n (drop w bytes) (bytes_drop w bytes b) m, e) (sym (take-add w (w * n) bytes))
