use Rattle.std.proofs.Common.{ap, ◌≡◌, sym, ◌∙◌, arith}
use Rattle.spec.specs.Bytes.{position_of}
use Rattle.spec.specs.Store.{store_keys}
use Rattle.spec.specs.Lookup.{find_chunk}
use Rattle.spec.specs.Refusal.{number_of, outcome_of}
use Rattle.spec.proofs.LookupLaws.{done-code, refused-number}
use Rattle.store.proofs.Answers.{found-entry, chunk-length-found, chunk-length-refused}
use Rattle.store.proofs.chunk_length.Goals.{In-Ok}
use Rattle.store.proofs.chunk_length.Goals as goal

-- the entry that was found
told : (c : In-Ok)
    → (find_chunk c.args.store.now c.args.fp.now ≡ 0) × (c.in-Ok.k ≡ position_of c.args.fp.now (store_keys c.args.store.now))
told c = done-code c.in-Ok.k _ _ (sym (ap outcome_of c.in-Ok.is) ∙ c.locate.ensures)

pub entry_field-requires : goal.entry_field-requires
entry_field-requires c =
    let t = told (goal.at.entry_field-requires c).In-Ok in
    (found-entry c.args.store.now c.args.fp.now c.in-Ok.k t.0 t.1, omega arith)

pub returns-in-Ok : goal.returns-in-Ok
returns-in-Ok c =
    let t = told (goal.at.returns-in-Ok c).In-Ok in
    c.entry_field.ensures ∙ chunk-length-found c.args.store.now c.args.fp.now c.in-Ok.k t.0 t.1

pub returns-in-Err : goal.returns-in-Err
returns-in-Err c = chunk-length-refused c.args.store.now c.args.fp.now (refused-number (number_of c.in-Err.field-0) _ _ (sym (ap outcome_of c.in-Err.is) ∙ c.locate.ensures)).1
