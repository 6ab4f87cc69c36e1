-- Each return by the tests that led there (Answers).
use Rattle.std.proofs.Common.{rules, ◌≡◌, sym, ◌∙◌, arith}
use lib.ListN.{replicate}
use Rattle.spec.specs.Bytes.{position_of}
use Rattle.spec.specs.Store.{store_keys, store_code}
use Rattle.spec.specs.Lookup.{find_chunk}
use Rattle.directory.proofs.ChainLaws.{zeros}
use Rattle.spec.proofs.LookupLaws.{refuses, finds, lookup-refused, lookup-length, lookup-none, lookup-found}
use Rattle.spec.specs.Outcome.{Refused}
use Rattle.spec.specs.Refusal.{number_of, outcome_of}
use Rattle.spec.proofs.Refusals.{number-some}
use Rattle.store.proofs.Answers.{findable}
use Rattle.spec.proofs.StoreLaws.{store-good, length-store_keys}
use Rattle.store.proofs.locate.Goals as goal

pub examine-requires : goal.examine-requires
examine-requires c = zeros

pub returns-in_err-examine : goal.returns-in_err-examine
unfolding find_chunk
returns-in_err-examine c =
    let s = c.args.store.now in
    let r = c.in_err-examine.field-0.0 in
    let e : outcome_of c.from_residual.result ≡ Refused (number_of r) = search rules in
    e ∙ refuses (number_of r) (find_chunk s c.args.fp.now) (position_of c.args.fp.now (store_keys s))
    (lookup-refused (store_code s) (store_keys s) c.args.fp.now (number_of r) c.in_err-examine.ensures.0 (number-some r)) (number-some r)

pub returns-then-fp-ne20 : goal.returns-then-fp-ne20
unfolding find_chunk
returns-then-fp-ne20 c =
    let s = c.args.store.now in
    refuses 19 (find_chunk s c.args.fp.now) (position_of c.args.fp.now (store_keys s))
    (lookup-length (store_code s) (store_keys s) c.args.fp.now (sym c.in_ok-examine.ensures.0) c.if-fp-ne20.true) (λ z. omega arith)

pub chunk_count-c-requires : goal.chunk_count-c-requires
chunk_count-c-requires c = (store-good c.args.store.now (sym c.in_ok-examine.ensures.0)).header

pub position-k-requires : goal.position-k-requires
position-k-requires c = (
  findable c.args.store.now c.chunk_count-c.result (replicate 130536 0) c.examine.new.chains (sym c.in_ok-examine.ensures.0)
      c.chunk_count-c.ensures zeros c.examine.ensures.1,
  c.if-fp-ne20.false,
)

pub returns-then-k-c : goal.returns-then-k-c
unfolding find_chunk
returns-then-k-c c =
    let s = c.args.store.now in
    let passed : store_code s ≡ 0 = sym c.in_ok-examine.ensures.0 in
    refuses 15 (find_chunk s c.args.fp.now) (position_of c.args.fp.now (store_keys s))
    (lookup-none (store_code s) (store_keys s) c.args.fp.now passed c.if-fp-ne20.false
    c.chunk_count-c.result (c.chunk_count-c.ensures ∙ sym (length-store_keys s)) c.position-k.result c.position-k.ensures c.if-k-c.true)
    (λ z. omega arith)

pub returns : goal.returns
unfolding find_chunk
returns c =
    let s = c.args.store.now in
    let passed : store_code s ≡ 0 = sym c.in_ok-examine.ensures.0 in
    finds c.position-k.result (find_chunk s c.args.fp.now) (position_of c.args.fp.now (store_keys s))
    (lookup-found (store_code s) (store_keys s) c.args.fp.now passed c.if-fp-ne20.false
    c.chunk_count-c.result (c.chunk_count-c.ensures ∙ sym (length-store_keys s)) c.position-k.result c.position-k.ensures c.if-k-c.false)
    c.position-k.ensures
