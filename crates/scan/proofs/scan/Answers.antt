use Rattle.std.proofs.Common.{rules, ◌≡◌, sym, ◌∙◌}
use Rattle.spec.specs.Refusal.{number_of}
use Rattle.spec.specs.Scanned.{Refused, scanned_of}
use Rattle.spec.proofs.Refusals.{number-some}
use Rattle.spec.proofs.KeywordLaws.{keyword-front}
use Rattle.spec.proofs.StoreLaws.{store-good}
use Rattle.index_writer.specs.Layout.{Walks}
use Rattle.scan.proofs.Answers.{scan-refused}
use Rattle.scan.proofs.Arrays.{walks-read, can-make, can-measure, table_empty, odd-ones}
use Rattle.scan.proofs.Checks.{Passed, passed-both}
use Rattle.scan.proofs.scan.Goals as goal
use Rattle.scan.proofs.scan.Goals.{In_ok-scannable, After-chunk_count-count}

pub scannable-requires : goal.scannable-requires
scannable-requires c = table_empty

pub returns-in_err-scannable : goal.returns-in_err-scannable
returns-in_err-scannable c =
    let a = c.args in
    let r = c.in_err-scannable.field-0.0 in
    let e : scanned_of c.from_residual.result ≡ Refused (number_of r) = search rules in
    let f = scan-refused a.list.now a.store.now (number_of r) c.in_err-scannable.ensures a.out.now (number-some r) in
    (e ∙ f.answered, f.bytes)

-- both checks passed
checks : (c : In_ok-scannable) → Passed c.args.list.now c.args.store.now
checks c = passed-both c.args.list.now c.args.store.now (sym c.in_ok-scannable.ensures)

pub parse-words-requires : goal.parse-words-requires
parse-words-requires c = keyword-front c.args.list.now (checks (goal.at.parse-words-requires c).In_ok-scannable).accepted

pub chunk_count-count-requires : goal.chunk_count-count-requires
chunk_count-count-requires c = (store-good c.args.store.now (checks (goal.at.chunk_count-count-requires c).In_ok-scannable).checked).header

-- the list is read, the store checked and counted
walks : (c : After-chunk_count-count) → Passed c.args.list.now c.args.store.now
    → Walks c.args.list.now c.parse-words.result c.args.store.now c.chunk_count-count.result
walks c p = walks-read p c.parse-words.ensures c.chunk_count-count.ensures

pub build-requires : goal.build-requires
build-requires c =
    let g = goal.at.build-requires c in
    let s = c.scannable in
    can-make (walks g.After-chunk_count-count (checks g.In_ok-scannable)) s.new.chains s.auto.chains

pub scanned-requires : goal.scanned-requires
scanned-requires c =
    let g = goal.at.scanned-requires c in
    let r = c.build in
    let s = c.scannable in (
      can-measure (walks g.After-chunk_count-count (checks g.In_ok-scannable)) s.new.chains r.new.table r.new.sets r.new.prefixes 1 s.auto.chains
          r.ensures.cells r.ensures.bits r.ensures.lengths,
      odd-ones 65000,
      sym c.in_ok-scannable.ensures,
    )
