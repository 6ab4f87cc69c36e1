-- The index that a scan writes, in parts: its entries from a chunk on, their directory and their bodies, and their lengths. Assumes nothing.
use mathlib.Core.Path.{◌≡◌, refl, sym, ap, ◌∙◌}
use mathlib.Core.List.{List, [], ◌∷◌, ◌++◌, map, append_assoc}
use Prim.Native.Nat.{ℕ, zero, suc, ◌+◌, ◌*◌, ◌-◌, ◌≤◌, ◌<◌}
use native.Mathlib.Nat.{sub-zero}
use native.Mathlib.Numerals.{add-one}
use native.Mathlib.Omega.{arith}
use lib.ListN.{length, get_or, length-append}
use Rattle.spec.specs.Bytes.{le_bytes, splice, joined}
use Rattle.spec.specs.Directory.{size_at}
use Rattle.spec.specs.Store.{store_layout, store_keys, chunk_count, chunk_at, store_code}
use Rattle.spec.specs.Keywords.{keyword_front_code}
use Rattle.spec.specs.Form.{Form, newest}
use Rattle.spec.specs.Index.{Entry, directory_bytes, index_bytes, entry_bytes}
use Rattle.spec.specs.Scan.{scan_body, scan_entry, scan_index}
use Rattle.spec.proofs.Each.{each_step}
use Rattle.spec.proofs.Splices.{splice-then}
use Rattle.spec.proofs.Fields.{length-le_bytes}
use Rattle.spec.proofs.Tabulated.{length-tabulated, tabulated-at}
use Rattle.spec.proofs.WrittenEntries.{Fits, Every, no_entry, length-directory}
use Rattle.spec.proofs.StoreLaws.{store-good, store-key-length, store-size-most, chunk-length}
use Rattle.records.proofs.BodyLaws.{body-few}
use Rattle.index_writer.specs.Layout.{entries_from, bodies_from, tail_bytes}

module _ (f : Form) (list store : List ℕ) where
  abbrev pub body : ℕ → List ℕ
  body k = scan_body f list (chunk_at store k)

  entries-step : (k : ℕ) → k < chunk_count store → entries_from f list store k ≡ scan_entry f list store k ∷ entries_from f list store (k + 1)
  entries-step k h = rw add-one (each_step (λ j. scan_entry f list store j ∷ []) k (chunk_count store) h)

  entries-end : (k : ℕ) → chunk_count store ≤ k → entries_from f list store k ≡ []
  entries-end k h = let z : chunk_count store - k ≡ 0 = omega arith in rw z

  pub bodies-step : (k : ℕ) → k < chunk_count store → bodies_from f list store k ≡ body k ++ bodies_from f list store (k + 1)
  unfolding scan_entry
  bodies-step k h = ap (λ (es : List Entry). joined (map (λ e. e.body) es)) (entries-step k h)

  pub bodies-length : (k : ℕ) → k < chunk_count store → length (bodies_from f list store k) ≡ length (body k) + length (bodies_from f list store (k + 1))
  bodies-length k h = ap length (bodies-step k h) ∙ length-append (body k) (bodies_from f list store (k + 1))

  pub bodies-end : (k : ℕ) → chunk_count store ≤ k → bodies_from f list store k ≡ []
  bodies-end k h = ap (λ (es : List Entry). joined (map (λ e. e.body) es)) (entries-end k h)

  -- the entry of chunk k, and what follows it
  abbrev pub entry : ℕ → ℕ → List ℕ
  entry at k = entry_bytes (get_or (store_keys store) k []) (size_at store_layout store k) at (length (body k))

  abbrev pub directory_from : ℕ → ℕ → List ℕ
  directory_from at k = directory_bytes at (entries_from f list store k)

  pub directory-step : (at k : ℕ) → k < chunk_count store → directory_from at k ≡ entry at k ++ directory_from (at + length (body k)) (k + 1)
  unfolding directory_bytes scan_entry entry_bytes
  directory-step at k h = ap (directory_bytes at) (entries-step k h)

  pub directory-end : (at k : ℕ) → chunk_count store ≤ k → directory_from at k ≡ []
  unfolding directory_bytes
  directory-end at k h = ap (directory_bytes at) (entries-end k h)

  module _ (good : store_code store ≡ 0) where
    entry-fits : (k : ℕ) → k < chunk_count store → Fits (scan_entry f list store k)
    unfolding scan_entry
    entry-fits k l =
        record { long = store-key-length store (store-good store good) k l; small = omega (arith, store-size-most store (store-good store good) k l) }

    every-fits : (k : ℕ) → Every Fits (entries_from f list store k)
    every-fits k i l =
        let m : i < chunk_count store - k = omega (arith, length-tabulated (scan_entry f list store) k (chunk_count store - k)) in
        rw (tabulated-at (scan_entry f list store) k (chunk_count store - k) i no_entry m) (entry-fits (k + i) (omega arith))

    pub directory-length : (at k : ℕ) → length (directory_from at k) ≡ 32 * (chunk_count store - k)
    directory-length at k =
        length-directory at (entries_from f list store k) (every-fits k)
        ∙ ap (λ (n : ℕ). 32 * n) (length-tabulated (scan_entry f list store) k (chunk_count store - k))

    pub entry_length : (at k : ℕ) → k < chunk_count store → length (entry at k) ≡ 32
    unfolding entry_bytes
    entry_length at k l =
        let n : length (get_or (store_keys store) k []) ≡ 20 = store-key-length store (store-good store good) k l in
        rw (length-append, length-append, length-append, length-le_bytes, length-le_bytes, length-le_bytes, n)

  -- ---- the whole

  pub index-parts : scan_index f list store ≡ f.mark ++ le_bytes 4 (chunk_count store) ++ list ++ tail_bytes f list store
  unfolding scan_index index_bytes tail_bytes
  index-parts = rw (sub-zero, length-tabulated (scan_entry f list store) 0 (chunk_count store)) (simp append_assoc)

module _ (list store : List ℕ) (good : store_code store ≡ 0) where
  pub tail-length : length (tail_bytes newest list store) ≡ 32 * chunk_count store + length (bodies_from newest list store 0)
  unfolding tail_bytes
  tail-length =
      let at = 8 + length list + 32 * chunk_count store in
      omega (arith, length-append (directory_from newest list store at 0) (bodies_from newest list store 0), directory-length newest list store good at 0)

  pub index-length : length (scan_index newest list store) ≡ 8 + length list + 32 * chunk_count store + length (bodies_from newest list store 0)
  index-length =
      ap length (index-parts newest list store)
      ∙ rw (length-append, length-append, length-append, length-le_bytes, tail-length) (omega arith)

  -- each body is short
  module _ (accept : keyword_front_code list ≡ 0) where
    pub body-short : (k : ℕ) → k < chunk_count store → length (chunk_at store k) ≤ 1048576
    body-short k l = omega (arith, chunk-length store (store-good store good) k l, store-size-most store (store-good store good) k l)

    bodies-short : (n k : ℕ) → n + k ≡ chunk_count store → length (bodies_from newest list store k) ≤ 50331920 * n
    bodies-short zero k e = omega (arith, ap length (bodies-end newest list store k (omega arith)))
    bodies-short (suc n) k e =
        let one = body-few list (chunk_at store k) accept (body-short k (omega arith)) in
        omega (arith, bodies-length newest list store k (omega arith), one, bodies-short n (k + 1) (omega arith))

    pub bodies-most : length (bodies_from newest list store 0) ≤ 50331920 * chunk_count store
    bodies-most = bodies-short (chunk_count store) 0 (omega arith)

-- ---- the index from its four writes

-- mark, chunk count, keyword list, and the rest, each where the one before ends
pub index-put : (list store : List ℕ) (l l₁ l₂ l₃ l₄ : List ℕ) (count : ℕ) → count ≡ chunk_count store
    → l₁ ≡ splice l 0 newest.mark → l₂ ≡ splice l₁ 4 (le_bytes 4 count) → l₃ ≡ splice l₂ 8 list
    → l₄ ≡ splice l₃ (8 + length list) (tail_bytes newest list store) → l₄ ≡ splice l 0 (scan_index newest list store)
index-put list store l l₁ l₂ l₃ l₄ count c p q r s =
    let two = splice-then l 0 newest.mark (le_bytes 4 count) (omega arith) p refl q in
    let m : 8 ≡ 0 + length (newest.mark ++ le_bytes 4 count) = omega (arith, length-append newest.mark (le_bytes 4 count), length-le_bytes 4 count) in
    let three = splice-then l 0 (newest.mark ++ le_bytes 4 count) list (omega arith) two m r in
    let n : 8 + length list ≡ 0 + length (newest.mark ++ le_bytes 4 count ++ list) = omega (arith, m, length-append (newest.mark ++ le_bytes 4 count) list) in
    splice-then l 0 (newest.mark ++ le_bytes 4 count ++ list) (tail_bytes newest list store) (omega arith) three n s
    ∙ rw c (ap (splice l 0) (sym (index-parts newest list store)))
