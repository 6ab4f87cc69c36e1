-- Each return by the tests that led there (LookupLaws).
use Rattle.std.proofs.Common.{rules, ◌≡◌, ℕ, List, sym, ap, ◌∙◌, subst}
use lib.ListN.{replicate}
use Rattle.spec.specs.Bytes.{position_of}
use Rattle.spec.specs.Form.{form_of}
use Rattle.spec.specs.Index.{index_keys, index_code}
use Rattle.directory.specs.Chains.{keys_from, Chained}
use Rattle.directory.proofs.ChainLaws.{zeros}
use Rattle.spec.specs.Outcome.{Refused}
use Rattle.spec.specs.Refusal.{number_of, outcome_of}
use Rattle.spec.proofs.Refusals.{number-some}
use Rattle.index.proofs.CheckLaws.{index-chains}
use Rattle.index.proofs.LookupLaws.{start_is, count-is, lies_in, keys_in, refused-check, refused-length, refused_none, found_at}
use Rattle.index.proofs.locate.Goals.{In_ok-examine, After-opened-known}
use Rattle.index.proofs.locate.Goals as goal

-- the index passed its check
passed : (c : In_ok-examine) → index_code (form_of c.args.index.now) c.args.index.now ≡ 0
passed c = sym c.in_ok-examine.ensures.0

-- the keys of the directory that was opened are the index's
opens : (c : After-opened-known)
    → keys_from c.args.index.now c.opened-known.result.directory 32 c.opened-known.result.entries ≡ index_keys c.args.index.now
opens c =
    let index = c.args.index.now in
    let p = sym c.in_ok-examine.ensures.0 in
    let o = c.opened-known in
    keys_in index p _ _ (start_is index p o.result o.ensures) (count-is index p o.result o.ensures)

pub examine-requires : goal.examine-requires
examine-requires c = zeros

pub returns-in_err-examine : goal.returns-in_err-examine
returns-in_err-examine c =
    let r = c.in_err-examine.field-0.0 in
    let e : outcome_of c.from_residual.result ≡ Refused (number_of r) = search rules in
    e ∙ refused-check c.args.index.now c.args.fp.now (number_of r) c.in_err-examine.ensures.0 (number-some r)

pub returns-then-fp-ne20 : goal.returns-then-fp-ne20
returns-then-fp-ne20 c = refused-length c.args.index.now c.args.fp.now (passed (goal.at.returns-then-fp-ne20 c).In_ok-examine) c.if-fp-ne20.true

pub opened-known-requires : goal.opened-known-requires
opened-known-requires c = passed (goal.at.opened-known-requires c).In_ok-examine

pub find-k-requires-clause-lies : goal.find-k-requires-clause-lies
find-k-requires-clause-lies c =
    let index = c.args.index.now in
    let p = passed (goal.at.find-k-requires-clause-lies c).In_ok-examine in
    let o = c.opened-known in
    lies_in index p _ _ (start_is index p o.result o.ensures) (count-is index p o.result o.ensures)

pub find-k-requires-clause-chained : goal.find-k-requires-clause-chained
find-k-requires-clause-chained c =
    let p = passed (goal.at.find-k-requires-clause-chained c).In_ok-examine in
    subst (λ (keys : List (List ℕ)). Chained keys 0 c.examine.new.chains) (sym (opens (goal.at.find-k-requires-clause-chained c).After-opened-known))
    (index-chains c.args.index.now (replicate 130536 0) c.examine.new.chains p c.examine.ensures.1 zeros.long)

pub returns-then-k-c : goal.returns-then-k-c
returns-then-k-c c =
    let index = c.args.index.now in
    let p = passed (goal.at.returns-then-k-c c).In_ok-examine in
    refused_none index c.args.fp.now p c.if-fp-ne20.false _ (count-is index p c.opened-known.result c.opened-known.ensures)
    c.find-k.result (c.find-k.ensures ∙ ap (position_of c.args.fp.now) (opens (goal.at.returns-then-k-c c).After-opened-known)) c.if-k-c.true

pub returns : goal.returns
returns c =
    let index = c.args.index.now in
    let p = passed (goal.at.returns c).In_ok-examine in
    found_at index c.args.fp.now p c.if-fp-ne20.false _ (count-is index p c.opened-known.result c.opened-known.ensures)
    c.find-k.result (c.find-k.ensures ∙ ap (position_of c.args.fp.now) (opens (goal.at.returns c).After-opened-known)) c.if-k-c.false
