-- Demand 2, first half, of what a scan wrote: what is read from its buffer is, for each chunk and keyword, the published record. Assumes nothing.
use mathlib.Core.Path.{◌≡◌, sym, ap, ◌∙◌}
use mathlib.Core.List.{List, []}
use Prim.Native.Nat.{ℕ, ◌≤◌, ◌<◌}
use native.Mathlib.Omega.{arith}
use lib.ListN.{length}
use Rattle.spec.specs.Keywords.{count_of, flag_of, folded, folded_keywords, keyword_code}
use Rattle.spec.specs.Store.{chunk_count, chunk_at}
use Rattle.spec.specs.Form.{newest, form_of}
use Rattle.spec.specs.Records.{ChunkRecords, record_of, records_of, record_at, empty_record}
use Rattle.spec.specs.Index.{index_records}
use Rattle.spec.specs.Join.{keyword_at}
use Rattle.spec.specs.Scan.{scan_records, scan_code, scan_answer, scanned_code}
use Rattle.spec.proofs.JoinIsSearch.{get_d_map}
use Rattle.spec.proofs.KeywordLaws.{accepted, keyword-front, folded-count, folded-proper}
use Rattle.spec.proofs.ScanLaws.{newest-scans, scan-done-reads, scan-form}
use Rattle.theory.specs.Demand3.{scanned}
use Rattle.theory.proofs.Demand3.{scan-number, scan-done, scanned-is}
use Rattle.theory.specs.Published.{Published}
use Rattle.theory.proofs.RecordTheorems.{record-published}

-- an accepted list has no empty keyword
pub keyword-bytes : (list : List ℕ) → keyword_code list ≡ 0 → (w : ℕ) → w < length (folded_keywords list) → 1 ≤ length (keyword_at (folded_keywords list) w)
keyword-bytes list e w l =
    let f = keyword-front list e in
    let h : w < count_of list = omega (arith, folded-count list, (accepted list f).count) in
    (folded-proper list f w h).0

record-of-scan : (list chunk : List ℕ) (w : ℕ) → w < length (folded_keywords list)
    → record_at (scan_records newest list chunk) w ≡ record_of newest (keyword_at (folded_keywords list) w) (folded (flag_of list) chunk)
unfolding scan_records records_of
record-of-scan list chunk w l = get_d_map (λ keyword. record_of newest keyword (folded (flag_of list) chunk)) (folded_keywords list) w [] empty_record l

pub scan-published : (list store buffer : List ℕ) → scanned_code (scan_answer newest list store (length buffer)) ≡ 0
    → (k w : ℕ) → k < chunk_count store → w < length (folded_keywords list)
    → Published (keyword_at (folded_keywords list) w) (folded (flag_of list) (chunk_at store k)) newest
    (record_at (index_records (form_of (scanned list store buffer)) (scanned list store buffer) k) w)
scan-published list store buffer e k w h l =
    let c : scan_code newest list store (length buffer) ≡ 0 = sym (scan-number list store (length buffer)) ∙ e in
    let r = scan-done-reads newest newest-scans list store (length buffer) c in
    let q : index_records (form_of (scanned list store buffer)) (scanned list store buffer) k ≡ scan_records newest list (chunk_at store k) =
    rw (scanned-is list store buffer c, scan-form list store) (r.records k h) in
    let p : record_at (index_records (form_of (scanned list store buffer)) (scanned list store buffer) k) w
    ≡ record_of newest (keyword_at (folded_keywords list) w) (folded (flag_of list) (chunk_at store k)) =
    ap (λ (s : ChunkRecords). record_at s w) q ∙ record-of-scan list (chunk_at store k) w l in
    rw p
    (record-published newest (keyword_at (folded_keywords list) w) (folded (flag_of list) (chunk_at store k))
    (keyword-bytes list ((scan-done list store (length buffer)).0 c).0 w l))
