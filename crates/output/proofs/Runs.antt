-- Runs of bytes written one after the other. Assumes nothing.
use mathlib.Core.Path.{◌≡◌, refl, sym, ap, ◌∙◌}
use mathlib.Core.List.{List, [], ◌∷◌, ◌++◌}
use Prim.Native.Nat.{ℕ, ◌+◌}
use native.Mathlib.Omega.{arith}
use lib.ListN.{length, set, length-append}
use Rattle.spec.specs.Bytes.{splice}
use Rattle.spec.proofs.Splices.{length-splice, splice-snoc, splice-then}
use Rattle.output.specs.Lines.{Room, Puts}

-- a word and a byte behind it
pub put-end : (out out₁ : List ℕ) (at : ℕ) (word : List ℕ) (end place : ℕ) → Room out at (word ++ (end ∷ []))
    → out₁ ≡ splice out at word → place ≡ at + length word → Puts out (set out₁ place end) at (word ++ (end ∷ [])) (place + 1)
put-end out out₁ at word end place room w p =
    let n : length (word ++ (end ∷ [])) ≡ length word + 1 = length-append word (end ∷ []) in
    (omega (arith, n), rw (w, p) (splice-snoc out at word end (omega (arith, room, n))))

-- the same bytes
pub room-same : (out : List ℕ) (at : ℕ) (v w : List ℕ) → v ≡ w → Room out at w → Room out at v
room-same out at v w e room = rw e room

pub puts-same : (out out₁ : List ℕ) (at : ℕ) (v w : List ℕ) (r : ℕ) → v ≡ w → Puts out out₁ at v r → Puts out out₁ at w r
puts-same out out₁ at v w r e put = (put.0 ∙ ap (λ (t : List ℕ). at + length t) e, put.1 ∙ ap (splice out at) e)

-- a text of two runs
pub room-first : (out : List ℕ) (at : ℕ) (text v w : List ℕ) → text ≡ v ++ w → Room out at text → Room out at v
room-first out at text v w e room = omega (arith, room, ap length e ∙ length-append v w)

module _ (out out₁ : List ℕ) (at place : ℕ) (text v w : List ℕ) (e : text ≡ v ++ w) (room : Room out at text) (first : Puts out out₁ at v place) where
  pub room_next : Room out₁ place w
  room_next =
      let n : length out₁ ≡ length out = ap length first.1 ∙ length-splice out at v (room-first out at text v w e room) in
      omega (arith, room, ap length e ∙ length-append v w, first.0)

  pub puts-next : (out₂ : List ℕ) (r : ℕ) → Puts out₁ out₂ place w r → Puts out out₂ at text r
  puts-next out₂ r next =
      let n : length text ≡ length v + length w = ap length e ∙ length-append v w in
      let b : out₂ ≡ splice out at (v ++ w) = splice-then out at v w (omega (arith, room, n)) first.1 first.0 next.1 in
      (omega (arith, n, first.0, next.0), b ∙ ap (splice out at) (sym e))

-- a text of three runs
module _ (out : List ℕ) (at : ℕ) (text u v w : List ℕ) (e : text ≡ u ++ (v ++ w)) (room : Room out at text) where
  pub room-1 : Room out at u
  room-1 = room-first out at text u (v ++ w) e room

  module _ (out₁ : List ℕ) (a : ℕ) (first : Puts out out₁ at u a) where
    room-rest : Room out₁ a (v ++ w)
    room-rest = room_next out out₁ at a text u (v ++ w) e room first

    pub room-2 : Room out₁ a v
    room-2 = room-first out₁ a (v ++ w) v w refl room-rest

    module _ (out₂ : List ℕ) (b : ℕ) (second : Puts out₁ out₂ a v b) where
      pub room-3 : Room out₂ b w
      room-3 = room_next out₁ out₂ a b (v ++ w) v w refl room-rest second

      pub puts-3 : (out₃ : List ℕ) (r : ℕ) → Puts out₂ out₃ b w r → Puts out out₃ at text r
      puts-3 out₃ r third =
          puts-next out out₁ at a text u (v ++ w) e room first out₃ r
          (puts-next out₁ out₂ a b (v ++ w) v w refl room-rest second out₃ r third)
