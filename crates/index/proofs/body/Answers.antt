-- The body of the entry that `locate` finds, and its place in the index.
use Rattle.std.proofs.Common.{◌≡◌, ℕ, ◌+◌, refl, ap, sym, ◌∙◌}
use native.Mathlib.Nat.{zero-add}
use Rattle.spec.specs.Bytes.{position_of}
use Rattle.spec.specs.Form.{form_of}
use Rattle.spec.specs.Index.{index_keys}
use Rattle.spec.specs.Lookup.{find_body}
use Rattle.spec.specs.Refusal.{number_of, outcome_of}
use Rattle.index.proofs.LookupLaws.{told-done, told-refused, found-entry, body-there, offset-there, slice-none, start_none}
use Rattle.index.proofs.body.Goals.{In-Ok}
use Rattle.index.proofs.body.Goals as goal

-- the entry that was found
told : (c : In-Ok)
    → (find_body (form_of c.args.index.now) c.args.index.now c.args.fp.now ≡ 0) × (c.in-Ok.k ≡ position_of c.args.fp.now (index_keys c.args.index.now))
told c = told-done c.args.index.now c.args.fp.now c.in-Ok.k (sym (ap outcome_of c.in-Ok.is) ∙ c.locate.ensures)

pub body_at-requires : goal.body_at-requires
body_at-requires c =
    let t = told (goal.at.body_at-requires c).In-Ok in
    found-entry c.args.index.now c.args.fp.now c.in-Ok.k t.0 t.1

pub returns-in-Ok : goal.returns-in-Ok
returns-in-Ok c =
    let t = told (goal.at.returns-in-Ok c).In-Ok in
    let s = c.body_at.ensures in (
      body-there c.args.index.now c.args.fp.now c.in-Ok.k t.0 t.1 s.0,
      s.1,
      s.2 ∙ ap (λ (n : ℕ). n + c.args.index.ref_ptr.1) (offset-there c.args.index.now c.args.fp.now c.in-Ok.k t.0 t.1),
    )

pub returns-in-Err : goal.returns-in-Err
returns-in-Err c =
    let d = (told-refused c.args.index.now c.args.fp.now (number_of c.in-Err.field-0) (sym (ap outcome_of c.in-Err.is) ∙ c.locate.ensures)).1 in (
      slice-none c.args.index.now c.args.fp.now d,
      refl,
      sym (zero-add c.args.index.ref_ptr.1) ∙ ap (λ (n : ℕ). n + c.args.index.ref_ptr.1) (start_none c.args.index.now c.args.fp.now d),
    )
