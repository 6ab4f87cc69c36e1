-- Each return by the tests that led there (Answers).
use Rattle.std.proofs.Common.{rules, refl, ◌≡◌, true, false, take, sym, ◌∙◌, arith}
use Rattle.spec.specs.Bytes.{same}
use Rattle.spec.specs.Store.{store_mark}
use Rattle.spec.specs.Refusal.{number, number_of}
use Rattle.spec.proofs.Refusals.{number-some}
use Rattle.store.proofs.Answers.{refused-early, short, unmarked, many, cut, wrong, duplicate-told, all_told}
use Rattle.store.proofs.examine.Goals as goal
use Rattle.store.proofs.examine.Goals.{Else-not-equal}

-- the store has its mark
header : (c : Else-not-equal) → same (take 4 c.args.store.now) store_mark ≡ true
header c = sym c.equal.ensures ∙ c.if-not-equal.false

pub returns-then-store-lt8 : goal.returns-then-store-lt8
returns-then-store-lt8 c =
    refused-early c.args.store.now c.args.chains.now 5 (short c.args.store.now c.if-store-lt8.true) (λ z. omega arith) (λ z. omega arith)

pub returns-then-not-equal : goal.returns-then-not-equal
returns-then-not-equal c =
    let none : same (take 4 c.args.store.now) store_mark ≡ false =
    sym c.equal.ensures ∙ c.if-not-equal.true in
    refused-early c.args.store.now c.args.chains.now 5 (unmarked c.args.store.now c.if-store-lt8.false none) (λ z. omega arith) (λ z. omega arith)

pub returns-then-c-gt65000 : goal.returns-then-c-gt65000
returns-then-c-gt65000 c =
    let h = header (goal.at.returns-then-c-gt65000 c).Else-not-equal in
    refused-early c.args.store.now c.args.chains.now 6
    (many c.args.store.now c.if-store-lt8.false h _ c.chunk_count-c.ensures c.if-c-gt65000.true) (λ z. omega arith) (λ z. omega arith)

pub returns-then-store-c : goal.returns-then-store-c
returns-then-store-c c =
    let h = header (goal.at.returns-then-store-c c).Else-not-equal in
    refused-early c.args.store.now c.args.chains.now 6
    (cut c.args.store.now c.if-store-lt8.false h _ c.chunk_count-c.ensures c.if-c-gt65000.false c.if-store-c.true) (λ z. omega arith) (λ z. omega arith)

pub returns-in_err-entries : goal.returns-in_err-entries
returns-in_err-entries c =
    let h = header (goal.at.returns-in_err-entries c).Else-not-equal in
    let r = c.in_err-entries.field-0.0 in
    let e : number c.from_residual.result ≡ number_of r = search rules in
    let w = wrong c.args.store.now c.if-store-lt8.false h _ c.chunk_count-c.ensures c.if-c-gt65000.false c.if-store-c.false
    c.args.chains.now (number_of r) c.in_err-entries.ensures (number-some r) in
    (e ∙ w.0, w.1)

pub returns-then-build : goal.returns-then-build
returns-then-build c =
    let h = header (goal.at.returns-then-build c).Else-not-equal in
    duplicate-told c.args.store.now c.if-store-lt8.false h _ c.chunk_count-c.ensures c.if-c-gt65000.false c.if-store-c.false
    0 c.in_ok-entries.ensures refl c.args.chains.now c.build.new.chains c.build.result c.build.ensures c.if-build.true

pub returns-else-build : goal.returns-else-build
returns-else-build c =
    let h = header (goal.at.returns-else-build c).Else-not-equal in
    all_told c.args.store.now c.if-store-lt8.false h _ c.chunk_count-c.ensures c.if-c-gt65000.false c.if-store-c.false
    0 c.in_ok-entries.ensures refl c.args.chains.now c.build.new.chains c.build.result c.build.ensures c.if-build.false
