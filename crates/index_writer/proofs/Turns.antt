-- One chunk of the scan: its body, then its entry; and where the two regions begin and end. Assumes nothing.
use mathlib.Core.Path.{◌≡◌, sym, ap, ◌∙◌}
use mathlib.Core.List.{List, [], ◌++◌}
use Prim.Native.Nat.{ℕ, ◌+◌, ◌*◌, ◌-◌, ◌≤◌, ◌<◌}
use native.Mathlib.Omega.{arith}
use lib.ListN.{length, get_or, length-append}
use borrow.Rule.Slice.PartMut.{mid_of, put_mid}
use Rattle.spec.specs.Bytes.{le_bytes, splice, written}
use Rattle.spec.specs.Store.{store_keys, chunk_count, chunk_at, store_code}
use Rattle.spec.specs.Form.{newest}
use Rattle.spec.specs.Index.{entry_bytes}
use Rattle.spec.specs.Scan.{scan_body}
use Rattle.spec.proofs.Fields.{length-le_bytes}
use Rattle.spec.proofs.Splices.{splice-nil, splice-then, splice-splice}
use Rattle.spec.proofs.StoreLaws.{store-good, chunk-length}
use Rattle.index_writer.specs.Layout.{bodies_from, tail_bytes}
use Rattle.index_writer.proofs.Regions.{two-regions}
use Rattle.index_writer.proofs.Parts.{body, bodies-step, bodies-end, entry, directory_from, directory-step, directory-end, directory-length, entry_length}

-- four runs, each where the one before ends
pub entry-put : (l l₁ l₂ l₃ l₄ key : List ℕ) (at size offset len : ℕ) → at + 32 ≤ length l → length key ≡ 20
    → l₁ ≡ splice l at key → l₂ ≡ splice l₁ (at + 20) (le_bytes 4 size) → l₃ ≡ splice l₂ (at + 24) (le_bytes 4 offset) → l₄ ≡ splice l₃ (at + 28) (le_bytes 4 len)
    → l₄ ≡ splice l at (entry_bytes key size offset len)
unfolding entry_bytes
entry-put l l₁ l₂ l₃ l₄ key at size offset len h n p q r s =
    let x : length (key ++ le_bytes 4 size) ≡ 24 = simp (length-append, length-le_bytes, n) in
    let y : length (key ++ le_bytes 4 size ++ le_bytes 4 offset) ≡ 28 = simp (length-append, length-le_bytes, n) in
    let m : at ≤ length l = omega arith in
    let two = splice-then l at key (le_bytes 4 size) m p (ap (λ (k : ℕ). at + k) (sym n)) q in
    let three = splice-then l at (key ++ le_bytes 4 size) (le_bytes 4 offset) m two (ap (λ (k : ℕ). at + k) (sym x)) r in
    splice-then l at (key ++ le_bytes 4 size ++ le_bytes 4 offset) (le_bytes 4 len) m three (ap (λ (k : ℕ). at + k) (sym y)) s

module _ (list store : List ℕ) where
  -- where the entry of chunk k lies
  abbrev pub entry_at : ℕ → ℕ
  entry_at k = 8 + length list + 32 * k

  -- what is left of the directory and of the bodies
  abbrev pub directory_left : ℕ → ℕ → List ℕ
  directory_left at k = directory_from newest list store at k

  abbrev pub bodies_left : ℕ → List ℕ
  bodies_left k = bodies_from newest list store k

module _ (list store : List ℕ) (good : store_code store ≡ 0) where
  abbrev place : ℕ → ℕ
  place k = entry_at list store k

  abbrev dr : ℕ → ℕ → List ℕ
  dr at k = directory_left list store at k

  abbrev br : ℕ → List ℕ
  br k = bodies_left list store k

  pub regions-start : (out : List ℕ) (count : ℕ) → count ≡ chunk_count store → 8 + length list ≤ length out
      → splice (splice out (place 0) (dr (place count) 0)) (place count) (br 0) ≡ splice out (8 + length list) (tail_bytes newest list store)
  unfolding tail_bytes
  regions-start out count c h =
      let z : place 0 ≡ 8 + length list = omega arith in
      let n : place count ≡ 8 + length list + length (dr (place count) 0) = omega (arith, directory-length newest list store good (place count) 0) in
      let e = splice-splice out (8 + length list) (dr (place count) 0) (br 0) h in
      ap (λ (d : ℕ). splice (splice out d (dr (place count) 0)) (place count) (br 0)) z
      ∙ ap (λ (d : ℕ). splice (splice out (8 + length list) (dr (place count) 0)) d (br 0)) n
      ∙ e
      ∙ ap (λ (m : ℕ). splice out (8 + length list) (dr (place m) 0 ++ br 0)) c

  pub regions-end : (out whole : List ℕ) (at k : ℕ) → chunk_count store ≤ k → splice (splice out (place k) (dr at k)) at (br k) ≡ whole → out ≡ whole
  regions-end out whole at k h e =
      let x : splice (splice out (place k) []) at [] ≡ whole = (rw (directory-end newest list store at k h, bodies-end newest list store k h) at e) in
      sym (splice-nil (splice out (place k) []) at ∙ splice-nil out (place k)) ∙ x

  -- the body and the entry as the code names them
  module _ (k at : ℕ) (l : k < chunk_count store) (key chunk : List ℕ) (len : ℕ) (is_chunk : chunk ≡ chunk_at store k)
      (is_key : key ≡ get_or (store_keys store) k []) where
    body_is : scan_body newest list chunk ≡ body newest list store k
    body_is = ap (scan_body newest list) is_chunk

    entry-is : len ≡ length (body newest list store k) → entry_bytes key (length chunk) at len ≡ entry newest list store at k
    entry-is n = rw (is_key, is_chunk, n, chunk-length store (store-good store good) k l)

    pub regions-turn : (out last out₂ whole : List ℕ) → place (chunk_count store) ≤ at → at + length (body newest list store k) ≤ length out
        → last ≡ written (mid_of at (length out - at) out) (scan_body newest list chunk) → len ≡ length (scan_body newest list chunk)
        → out₂ ≡ splice (put_mid at (length out - at) out last) (place k) (entry_bytes key (length chunk) at len)
        → splice (splice out (place k) (dr at k)) at (br k) ≡ whole
        → splice (splice out₂ (place (k + 1)) (dr (at + len) (k + 1))) (at + len) (br (k + 1)) ≡ whole
    regions-turn out last out₂ whole h room w m p e =
        let b = body newest list store k in
        let n : len ≡ length b = m ∙ ap length body_is in
        let ds = directory-step newest list store at k l in
        let d : place (k + 1) ≡ place k + length (entry newest list store at k) = omega (arith, entry_length newest list store good at k l) in
        let fits : place k + length (entry newest list store at k ++ dr (at + length b) (k + 1)) ≤ at =
        omega (arith, ap length ds, directory-length newest list store good at k) in
        let t = two-regions out last out₂ whole (place k) at (entry newest list store at k) (dr (at + length b) (k + 1)) b (br (k + 1)) fits room
        (w ∙ ap (splice (mid_of at (length out - at) out) 0) body_is)
        (p ∙ ap (splice (put_mid at (length out - at) out last) (place k)) (entry-is n))
        (rw (ds, bodies-step newest list store k l) at e) in
        rw (d, n) t
