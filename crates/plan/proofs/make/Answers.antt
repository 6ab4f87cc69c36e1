use Rattle.std.proofs.Common.{◌≡◌, ◌≢◌, sym, ap, ◌∙◌, List, ℕ, rules}
use Rattle.spec.specs.Keywords.{folded_keywords}
use Rattle.spec.specs.Index.{list_in}
use Rattle.spec.specs.Refusal.{number, number_of}
use Rattle.spec.proofs.Refusals.{number-some}
use Rattle.plan.specs.Plans.{front_code}
use Rattle.tables.specs.Tabled.{tables_of}
use Rattle.index.proofs.CheckLaws.{list-is}
use Rattle.plan.proofs.LengthLaws.{lengths-parsed}
use Rattle.plan.proofs.Stages.{header, list-good, front-passed, front-number, tables-kept, tables-made, joinable}
use Rattle.plan.proofs.make.Goals as goal

pub returns-in_err-prepare : goal.returns-in_err-prepare
returns-in_err-prepare c =
    let a = c.args in
    let r = c.in_err-prepare.field-0.0 in
    let f : number c.from_residual.result ≡ number_of r = search rules in
    let q = c.in_err-prepare.ensures in
    let taken : front_code a.index.now a.recipes.now ≢ 0 = λ z. number-some r (q.number ∙ z) in (
      f ∙ q.number ∙ front-number a.index.now a.recipes.now taken,
      search rules,
      q.chained,
      tables-kept a.index.now a.recipes.now a.tables.now taken,
    )

-- neither index nor recipes are refused
pub opened-opened-requires : goal.opened-opened-requires
opened-opened-requires c = (front-passed c.args.index.now c.args.recipes.now (sym c.in_ok-prepare.ensures.number)).0

pub slice_bounds-list-count : goal.slice_bounds-list-count
slice_bounds-list-count c = header c.args.index.now (front-passed c.args.index.now c.args.recipes.now (sym c.in_ok-prepare.ensures.number)).0

pub slice_bounds-list-start : goal.slice_bounds-list-start
slice_bounds-list-start c = header c.args.index.now (front-passed c.args.index.now c.args.recipes.now (sym c.in_ok-prepare.ensures.number)).0

pub parse-words-requires : goal.parse-words-requires
parse-words-requires c = list-good c.args.index.now (front-passed c.args.index.now c.args.recipes.now (sym c.in_ok-prepare.ensures.number)).0

pub tables_of-requires : goal.tables_of-requires
tables_of-requires c =
    record {
      accepted = list-good c.args.index.now (front-passed c.args.index.now c.args.recipes.now (sym c.in_ok-prepare.ensures.number)).0;
      parsed = c.parse-words.ensures;
    }

-- the tables are the keywords'
tabled : (list index : List ℕ) (tables : List (List (List ℕ))) → list ≡ list_in index → tables ≡ tables_of (folded_keywords list)
    → tables ≡ tables_of (folded_keywords (list_in index))
tabled list index tables e t = t ∙ ap (λ (l : List ℕ). tables_of (folded_keywords l)) e

pub survey_files-requires-clause-joinable : goal.survey_files-requires-clause-joinable
survey_files-requires-clause-joinable c =
    let index = c.args.index.now in
    let passed = front-passed index c.args.recipes.now (sym c.in_ok-prepare.ensures.number) in
    joinable index c.args.recipes.now c.opened-opened.result c.args.chains.now c.prepare.new.chains c.tables_of.result
    passed.0 passed.1 c.opened-opened.ensures c.requires.0 c.in_ok-prepare.ensures.chained
    (tabled _ index c.tables_of.result (list-is index) c.tables_of.ensures)

pub survey_files-requires-clause-query_len_bound : goal.survey_files-requires-clause-query_len_bound
survey_files-requires-clause-query_len_bound c = (c.requires.1, lengths-parsed c.args.index.now c.parse-words.result c.parse-words.ensures)

pub returns : goal.returns
returns c =
    let a = c.args in
    let index = a.index.now in (
      c.survey_files.ensures.0,
      c.survey_files.ensures.1,
      c.in_ok-prepare.ensures.chained,
      tabled _ index c.tables_of.result (list-is index) c.tables_of.ensures
          ∙ sym (tables-made index a.recipes.now a.tables.now (sym c.in_ok-prepare.ensures.number)),
    )
