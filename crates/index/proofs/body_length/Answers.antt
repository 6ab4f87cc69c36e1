use Rattle.std.proofs.Common.{ap, ◌≡◌, sym, ◌∙◌, arith}
use Rattle.spec.specs.Bytes.{position_of}
use Rattle.spec.specs.Form.{form_of}
use Rattle.spec.specs.Index.{index_keys}
use Rattle.spec.specs.Lookup.{find_body}
use Rattle.spec.specs.Refusal.{number_of, outcome_of}
use Rattle.index.proofs.LookupLaws.{told-done, told-refused, found-entry, length-there, length_none}
use Rattle.index.proofs.body_length.Goals.{In-Ok}
use Rattle.index.proofs.body_length.Goals as goal

-- the entry that was found
told : (c : In-Ok)
    → (find_body (form_of c.args.index.now) c.args.index.now c.args.fp.now ≡ 0) × (c.in-Ok.k ≡ position_of c.args.fp.now (index_keys c.args.index.now))
told c = told-done c.args.index.now c.args.fp.now c.in-Ok.k (sym (ap outcome_of c.in-Ok.is) ∙ c.locate.ensures)

pub entry_field-requires : goal.entry_field-requires
entry_field-requires c =
    let t = told (goal.at.entry_field-requires c).In-Ok in
    (found-entry c.args.index.now c.args.fp.now c.in-Ok.k t.0 t.1, omega arith)

pub returns-in-Ok : goal.returns-in-Ok
returns-in-Ok c =
    let t = told (goal.at.returns-in-Ok c).In-Ok in
    c.entry_field.ensures ∙ length-there c.args.index.now c.args.fp.now c.in-Ok.k t.0 t.1

pub returns-in-Err : goal.returns-in-Err
returns-in-Err c =
    length_none c.args.index.now c.args.fp.now (told-refused c.args.index.now c.args.fp.now (number_of c.in-Err.field-0) (sym (ap outcome_of c.in-Err.is) ∙ c.locate.ensures)).1
