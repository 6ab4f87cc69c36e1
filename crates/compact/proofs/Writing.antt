-- The turns of the writing. With the rest of the directory and the rest of the chunks written, each from where it is now, the buffer is as promised
-- (spec's splice-regions). Assumes nothing.
use mathlib.Core.Path.{◌≡◌, refl, sym, ap, ap₂, ◌∙◌}
use mathlib.Core.Logic.{⊎_elim}
use mathlib.Core.Bool.{Bool, true, false}
use mathlib.Core.List.{List, [], ◌∷◌, ◌++◌, map, append-nil, append_assoc}
use Prim.Native.Nat.{ℕ, zero, suc, ◌+◌, ◌*◌, ◌-◌, ◌≤◌, ◌<◌}
use native.Mathlib.Nat.{add-zero}
use native.Mathlib.Omega.{arith}
use lib.ListN.{length, get_or, length-append, length-map}
use Rattle.spec.specs.Bytes.{le_bytes, splice, joined}
use Rattle.spec.specs.Store.{Chunk, gapless, store_mark, store_directory_bytes, placed_bytes, store_bytes, chunk_count, chunk_at, store_keys, stored_chunk, store_code}
use Rattle.spec.proofs.Fields.{length-le_bytes}
use Rattle.spec.proofs.Tests.{bool_cases}
use Rattle.spec.proofs.Splices.{splice-nil, splice-then, splice-splice, splice-regions, length-splice}
use Rattle.spec.proofs.StoreLaws.{store-good, store-key-length}
use Rattle.compact.specs.Marking.{marked_at, marked_from, chunk_bytes}
use Rattle.compact.specs.Writing.{CanPutChunk, CanPutMarked}
use Rattle.compact.proofs.Marked.{marked_step, marked-end, bytes-append, directory-append}

-- three runs, each where the one before ends, behind the chunk's own
pub chunk-put : (l l₁ l₂ l₃ l₄ key chunk : List ℕ) (entry at size : ℕ) → entry + 28 ≤ at → at + length chunk ≤ length l → length key ≡ 20
    → l₁ ≡ splice l at chunk → l₂ ≡ splice l₁ entry key → l₃ ≡ splice l₂ (entry + 20) (le_bytes 4 at) → l₄ ≡ splice l₃ (entry + 24) (le_bytes 4 size)
    → l₄ ≡ splice (splice l at chunk) entry (key ++ le_bytes 4 at ++ le_bytes 4 size)
chunk-put l l₁ l₂ l₃ l₄ key chunk entry at size b h n o p q r =
    let long : length (splice l at chunk) ≡ length l = length-splice l at chunk h in
    let x : length (key ++ le_bytes 4 at) ≡ 24 = simp (length-append, length-le_bytes, n) in
    let m : entry ≤ length (splice l at chunk) = omega arith in
    let one : l₂ ≡ splice (splice l at chunk) entry key = p ∙ ap (λ (y : List ℕ). splice y entry key) o in
    let two = splice-then (splice l at chunk) entry key (le_bytes 4 at) m one (ap (λ (k : ℕ). entry + k) (sym n)) q in
    splice-then (splice l at chunk) entry (key ++ le_bytes 4 at) (le_bytes 4 size) m two (ap (λ (k : ℕ). entry + k) (sym x)) r

-- ---- where the chunk is marked, or not

-- what is written of entry k, and where the next entry and chunk go
abbrev Put : List ℕ → List ℕ → List ℕ → ℕ → ℕ → List Chunk → ℕ → ℕ → Type 0
Put store out out' entry at cs entry' at' =
    (out' ≡ splice (splice out at (chunk_bytes cs)) entry (store_directory_bytes at (map gapless cs)))
    × (entry' ≡ entry + 28 * length cs)
    × (at' ≡ at + length (chunk_bytes cs))

module _ (store out : List ℕ) (entry at k : ℕ) (marked : Bool) where
  pub none-put : marked ≡ false → Put store out out entry at (marked_at store marked k) entry at
  unfolding store_directory_bytes
  none-put h = rw h (sym (splice-nil (splice out at []) entry ∙ splice-nil out at), omega arith, omega arith)

  -- the chunk of a marked entry has its place
  pub one-room : marked ≡ true → CanPutMarked out entry at store k marked → CanPutChunk out entry at store k
  one-room e h =
      let cs : marked_at store marked k ≡ stored_chunk store k ∷ [] = rw e in
      let n : length (marked_at store marked k) ≡ 1 = ap length cs in
      let b : length (chunk_bytes (marked_at store marked k)) ≡ length (chunk_at store k) =
      ap (λ (x : List Chunk). length (chunk_bytes x)) cs ∙ ap length (append-nil (chunk_at store k)) in
      record { checked = h.checked; within = h.within; before = omega (arith, h.before, n); room = omega (arith, h.room, b) }

  pub one-put : marked ≡ true → (out' : List ℕ) (entry' at' : ℕ)
      → (out' ≡ splice (splice out at (chunk_at store k)) entry (get_or (store_keys store) k [] ++ le_bytes 4 at ++ le_bytes 4 (length (chunk_at store k))))
      × (entry' ≡ entry + 28) × (at' ≡ at + length (chunk_at store k))
      → Put store out out' entry at (marked_at store marked k) entry' at'
  unfolding store_directory_bytes
  one-put e out' entry' at' p =
      let key = get_or (store_keys store) k [] in
      rw e (
        p.0
            ∙ ap₂ (λ (b d : List ℕ). splice (splice out at b) entry d) (sym (append-nil (chunk_at store k)))
            (ap (λ (n : ℕ). key ++ le_bytes 4 n ++ le_bytes 4 (length (chunk_at store k))) (sym (add-zero at))
            ∙ sym (append-nil (key ++ le_bytes 4 (at + 0) ++ le_bytes 4 (length (chunk_at store k))))),
        p.1,
        p.2 ∙ ap (λ (b : List ℕ). at + length b) (sym (append-nil (chunk_at store k))),
      )

-- ---- a turn

module _ (store : List ℕ) (marks : List Bool) where
  -- what is left of the directory and of the chunks
  abbrev pub directory_left : ℕ → ℕ → List ℕ
  directory_left at k = store_directory_bytes at (map gapless (marked_from store marks k))

  abbrev pub bytes_left : ℕ → List ℕ
  bytes_left k = chunk_bytes (marked_from store marks k)

-- the entries of one mark have 28 bytes each
length-directory : (store : List ℕ) → store_code store ≡ 0 → (k at : ℕ) (marked : Bool) → k < chunk_count store
    → length (store_directory_bytes at (map gapless (marked_at store marked k))) ≡ 28 * length (marked_at store marked k)
unfolding store_directory_bytes
length-directory store e k at marked l =
    let key : length (get_or (store_keys store) k []) ≡ 20 = store-key-length store (store-good store e) k l in
    ⊎_elim (λ t. rw t (simp (length-append, length-le_bytes, key))) (λ f. rw f) (bool_cases marked)

module _ (store : List ℕ) (marks : List Bool) (e : store_code store ≡ 0) where
  abbrev dr : ℕ → ℕ → List ℕ
  dr at k = directory_left store marks at k

  abbrev br : ℕ → List ℕ
  br k = bytes_left store marks k

  -- the next entry's part of the directory, and what follows it
  directory-step : (k at : ℕ) → k < chunk_count store
      → dr at k ≡ store_directory_bytes at (map gapless (marked_at store (get_or marks k false) k))
      ++ dr (at + length (chunk_bytes (marked_at store (get_or marks k false) k))) (k + 1)
  directory-step k at l =
      ap (λ (cs : List Chunk). store_directory_bytes at (map gapless cs)) (marked_step store marks k l)
      ∙ directory-append at (marked_at store (get_or marks k false) k) (marked_from store marks (k + 1))

  pub directory-long : (n k at : ℕ) → n + k ≡ chunk_count store → length (dr at k) ≡ 28 * length (marked_from store marks k)
  unfolding store_directory_bytes
  directory-long zero k at h = let none = marked-end store marks k (omega arith) in rw none
  directory-long (suc n) k at h =
      let l : k < chunk_count store = omega arith in
      let here = marked_at store (get_or marks k false) k in
      omega (
        arith,
        ap length (directory-step k at l),
        length-append (store_directory_bytes at (map gapless here)) (dr (at + length (chunk_bytes here)) (k + 1)),
        length-directory store e k at (get_or marks k false) l,
        directory-long n (k + 1) (at + length (chunk_bytes here)) (omega arith),
        ap length (marked_step store marks k l),
        length-append here (marked_from store marks (k + 1)),
      )

  pub regions-start : (out : List ℕ) (n : ℕ) → n ≡ length (marked_from store marks 0) → 8 ≤ length out
      → splice (splice out 8 (dr (8 + 28 * n) 0)) (8 + 28 * n) (br 0) ≡ splice out 8 (dr (8 + 28 * n) 0 ++ br 0)
  regions-start out n c h =
      let l : 28 * n ≡ length (dr (8 + 28 * n) 0) = omega (arith, c, directory-long (chunk_count store) 0 (8 + 28 * n) (omega arith)) in
      ap (λ (m : ℕ). splice (splice out 8 (dr (8 + 28 * n) 0)) (8 + m) (br 0)) l ∙ splice-splice out 8 (dr (8 + 28 * n) 0) (br 0) h

  pub regions-end : (out whole : List ℕ) (entry at k : ℕ) → chunk_count store ≤ k → splice (splice out entry (dr at k)) at (br k) ≡ whole → out ≡ whole
  unfolding store_directory_bytes
  regions-end out whole entry at k h p =
      let x : splice (splice out entry []) at [] ≡ whole = rw (marked-end store marks k h) at p in
      sym (splice-nil (splice out entry []) at ∙ splice-nil out entry) ∙ x

  module _ (k at entry : ℕ) (l : k < chunk_count store) where
    abbrev here : List Chunk
    here = marked_at store (get_or marks k false) k

    pub regions-turn : (out out' whole : List ℕ) → entry + 28 * length (marked_from store marks k) ≤ at → at + length (chunk_bytes here) ≤ length out
        → out' ≡ splice (splice out at (chunk_bytes here)) entry (store_directory_bytes at (map gapless here))
        → splice (splice out entry (dr at k)) at (br k) ≡ whole
        → splice (splice out' (entry + 28 * length here) (dr (at + length (chunk_bytes here)) (k + 1))) (at + length (chunk_bytes here)) (br (k + 1)) ≡ whole
    regions-turn out out' whole b r p w =
        let own = store_directory_bytes at (map gapless here) in
        let n : length own ≡ 28 * length here = length-directory store e k at (get_or marks k false) l in
        let ds : dr at k ≡ own ++ dr (at + length (chunk_bytes here)) (k + 1) = directory-step k at l in
        let bs : br k ≡ chunk_bytes here ++ br (k + 1) = ap chunk_bytes (marked_step store marks k l) ∙ bytes-append here (marked_from store marks (k + 1)) in
        let room : entry + length (own ++ dr (at + length (chunk_bytes here)) (k + 1)) ≤ at =
        omega (arith, b, ap length ds, directory-long (chunk_count store - k) k at (omega arith)) in
        ap₂ (λ (x : List ℕ) (m : ℕ). splice (splice x (entry + m) (dr (at + length (chunk_bytes here)) (k + 1))) (at + length (chunk_bytes here)) (br (k + 1)))
        p (sym n)
        ∙ splice-regions out entry at own (dr (at + length (chunk_bytes here)) (k + 1)) (chunk_bytes here) (br (k + 1)) room r
        ∙ ap₂ (λ (x y : List ℕ). splice (splice out entry x) at y) (sym ds) (sym bs) ∙ w

-- ---- the whole store

laid-gapless : (cs : List Chunk) → joined (map (λ p. p.hole ++ p.chunk.bytes) (map gapless cs)) ≡ chunk_bytes cs
laid-gapless [] = refl
laid-gapless (c ∷ cs) = ap (λ (l : List ℕ). c.bytes ++ l) (laid-gapless cs)

store-parts : (cs : List Chunk) → store_bytes cs
    ≡ store_mark ++ le_bytes 4 (length cs) ++ (store_directory_bytes (8 + 28 * length cs) (map gapless cs) ++ chunk_bytes cs)
unfolding store_bytes placed_bytes
store-parts cs =
    rw (laid-gapless cs, length-map cs gapless)
    (append-nil _ ∙ append_assoc (store_mark ++ le_bytes 4 (length cs)) (store_directory_bytes (8 + 28 * length cs) (map gapless cs)) (chunk_bytes cs))

pub length-store : (cs : List Chunk) → 28 * length cs ≡ length (store_directory_bytes (8 + 28 * length cs) (map gapless cs))
    → 8 + 28 * length cs + length (chunk_bytes cs) ≡ length (store_bytes cs)
length-store cs h =
    sym (ap length (store-parts cs)
    ∙ simp (length-append, length-le_bytes, ← h) (omega arith))

pub store-put : (out out₁ out₂ out₃ : List ℕ) (cs : List Chunk) (n : ℕ) → n ≡ length cs → 8 ≤ length out
    → out₁ ≡ splice out 0 store_mark → out₂ ≡ splice out₁ 4 (le_bytes 4 n)
    → out₃ ≡ splice out₂ 8 (store_directory_bytes (8 + 28 * n) (map gapless cs) ++ chunk_bytes cs) → out₃ ≡ splice out 0 (store_bytes cs)
store-put out out₁ out₂ out₃ cs n e h p q r =
    let two = splice-then out 0 store_mark (le_bytes 4 n) (omega arith) p refl q in
    let x : 8 ≡ 0 + length (store_mark ++ le_bytes 4 n) = simp (length-append, length-le_bytes) in
    splice-then out 0 (store_mark ++ le_bytes 4 n) _ (omega arith) two x r
    ∙ ap (λ (m : ℕ). splice out 0 (store_mark ++ le_bytes 4 m ++ (store_directory_bytes (8 + 28 * m) (map gapless cs) ++ chunk_bytes cs))) e
    ∙ ap (splice out 0) (sym (store-parts cs))
