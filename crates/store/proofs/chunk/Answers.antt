-- The chunk of the entry that `locate` finds, and its place in the store.
use Rattle.std.proofs.Common.{◌≡◌, ℕ, ◌+◌, refl, ap, sym, ◌∙◌}
use native.Mathlib.Nat.{zero-add}
use Rattle.spec.specs.Bytes.{position_of}
use Rattle.spec.specs.Store.{store_keys}
use Rattle.spec.specs.Lookup.{find_chunk}
use Rattle.spec.specs.Refusal.{number_of, outcome_of}
use Rattle.spec.proofs.LookupLaws.{done-code, refused-number}
use Rattle.store.proofs.Answers.{found-entry, chunk-start-found, chunk-found, slice-refused, chunk-start-refused}
use Rattle.store.proofs.chunk.Goals.{In-Ok}
use Rattle.store.proofs.chunk.Goals as goal

-- the entry that was found
told : (c : In-Ok)
    → (find_chunk c.args.store.now c.args.fp.now ≡ 0) × (c.in-Ok.k ≡ position_of c.args.fp.now (store_keys c.args.store.now))
told c = done-code c.in-Ok.k _ _ (sym (ap outcome_of c.in-Ok.is) ∙ c.locate.ensures)

pub chunk_at-requires : goal.chunk_at-requires
chunk_at-requires c =
    let t = told (goal.at.chunk_at-requires c).In-Ok in
    found-entry c.args.store.now c.args.fp.now c.in-Ok.k t.0 t.1

pub returns-in-Ok : goal.returns-in-Ok
returns-in-Ok c =
    let t = told (goal.at.returns-in-Ok c).In-Ok in
    let s = c.chunk_at.ensures in (
      chunk-found c.args.store.now c.args.fp.now c.in-Ok.k t.0 t.1 s.0,
      s.1,
      s.2 ∙ ap (λ (n : ℕ). n + c.args.store.ref_ptr.1) (chunk-start-found c.args.store.now c.args.fp.now c.in-Ok.k t.0 t.1),
    )

pub returns-in-Err : goal.returns-in-Err
returns-in-Err c =
    let d = (refused-number (number_of c.in-Err.field-0) _ _ (sym (ap outcome_of c.in-Err.is) ∙ c.locate.ensures)).1 in (
      slice-refused c.args.store.now c.args.fp.now d,
      refl,
      sym (zero-add c.args.store.ref_ptr.1) ∙ ap (λ (n : ℕ). n + c.args.store.ref_ptr.1) (chunk-start-refused c.args.store.now c.args.fp.now d),
    )
