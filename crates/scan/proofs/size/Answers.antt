use Rattle.std.proofs.Common.{rules, ◌≡◌, ◌+◌, ◌*◌, length, refl, sym, ◌∙◌, arith}
use Rattle.spec.specs.Outcome.{Refused}
use Rattle.spec.specs.Refusal.{number_of, outcome_of}
use Rattle.spec.proofs.Refusals.{number-some}
use Rattle.spec.proofs.KeywordLaws.{keyword-front}
use Rattle.spec.proofs.StoreLaws.{store-good}
use Rattle.index_writer.specs.Layout.{Walks}
use Rattle.scan.proofs.Answers.{size-refused, size-done}
use Rattle.scan.proofs.Arrays.{walks-read, can-make, can-measure, table_empty}
use Rattle.scan.proofs.Fits.{entries_fit, directory-fits, whole-fits, len_is}
use Rattle.scan.proofs.Checks.{Passed, passed-both}
use Rattle.scan.proofs.size.Goals as goal
use Rattle.scan.proofs.size.Goals.{In_ok-scannable, After-chunk_count-count}

pub scannable-requires : goal.scannable-requires
scannable-requires c = table_empty

pub returns-in_err-scannable : goal.returns-in_err-scannable
returns-in_err-scannable c =
    let r = c.in_err-scannable.field-0.0 in
    let e : outcome_of c.from_residual.result ≡ Refused (number_of r) = search rules in
    e ∙ size-refused c.args.list.now c.args.store.now (number_of r) c.in_err-scannable.ensures (number-some r)

-- both checks passed
checks : (c : In_ok-scannable) → Passed c.args.list.now c.args.store.now
checks c = passed-both c.args.list.now c.args.store.now (sym c.in_ok-scannable.ensures)

pub parse-words-requires : goal.parse-words-requires
parse-words-requires c = keyword-front c.args.list.now (checks (goal.at.parse-words-requires c).In_ok-scannable).accepted

pub chunk_count-count-requires : goal.chunk_count-count-requires
chunk_count-count-requires c = (store-good c.args.store.now (checks (goal.at.chunk_count-count-requires c).In_ok-scannable).checked).header

-- the list is read, the store checked and counted
walks : (c : After-chunk_count-count) → Passed c.args.list.now c.args.store.now
    → Walks c.args.list.now c.parse-words.result c.args.store.now c.chunk_count-count.result
walks c p = walks-read p c.parse-words.ensures c.chunk_count-count.ensures

pub build-requires : goal.build-requires
build-requires c =
    let g = goal.at.build-requires c in
    let s = c.scannable in
    can-make (walks g.After-chunk_count-count (checks g.In_ok-scannable)) s.new.chains s.auto.chains

pub measure_bodies-bodies-requires : goal.measure_bodies-bodies-requires
measure_bodies-bodies-requires c =
    let g = goal.at.measure_bodies-bodies-requires c in
    let r = c.build in
    let s = c.scannable in
    can-measure (walks g.After-chunk_count-count (checks g.In_ok-scannable)) s.new.chains r.new.table r.new.sets r.new.prefixes 0 s.auto.chains
    r.ensures.cells r.ensures.bits r.ensures.lengths

pub overflow_mul-whole : goal.overflow_mul-whole
overflow_mul-whole c =
    let g = goal.at.overflow_mul-whole c in
    entries_fit (walks g.After-chunk_count-count (checks g.In_ok-scannable))

pub overflow_add-whole-2 : goal.overflow_add-whole-2
overflow_add-whole-2 c =
    let g = goal.at.overflow_add-whole-2 c in
    directory-fits (walks g.After-chunk_count-count (checks g.In_ok-scannable)) (omega arith)

pub overflow_add-whole-3 : goal.overflow_add-whole-3
overflow_add-whole-3 c =
    let g = goal.at.overflow_add-whole-3 c in
    let r = c.measure_bodies-bodies in
    whole-fits (walks g.After-chunk_count-count (checks g.In_ok-scannable)) r.result.size r.ensures.0 (omega arith)

pub returns : goal.returns
returns c =
    let a = c.args in
    let g = goal.at.returns c in
    let r = c.measure_bodies-bodies in
    size-done a.list.now a.store.now 0 c.in_ok-scannable.ensures (8 + length a.list.now + 32 * c.chunk_count-count.result + r.result.size) refl
    (len_is (walks g.After-chunk_count-count (checks g.In_ok-scannable)) r.result.size r.ensures.0)
