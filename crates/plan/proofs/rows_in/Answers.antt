-- The count of the occurrences, or a line where the choice is complete (RowLaws).
use Rattle.std.proofs.Common.{◌≡◌, sym, ap, ◌∙◌, ◌≢◌, subst, List, length, arith}
use Rattle.std.proofs.lemmas.Bool.Decides.{nat_tests}
use Rattle.spec.specs.Index.{lengths_in}
use Rattle.spec.specs.Join.{Occurrence, sums}
use Rattle.spec.specs.Query.{earliest}
use Rattle.listing.specs.declared.Choice.{Choice}
use Rattle.listing.specs.Choosing.{Chosen}
use Rattle.listing.proofs.Choices.{chosen-earliest}
use Rattle.walk.specs.Walking.{file_list, keyword_counts}
use Rattle.walk.proofs.Counts.{count-any}
use Rattle.walk.proofs.KeywordNumbers.{keywords-any}
use Rattle.plan.proofs.CountLaws.{counted-all, counted_none, sums_none}
use Rattle.plan.proofs.LengthLaws.{lengths_read, lengths-small}
use Rattle.plan.proofs.RowLaws.{rows_all, rows-choice}
use Rattle.plan.proofs.rows_in.Goals as goal

pub returns-then-is_empty : goal.returns-then-is_empty
returns-then-is_empty c =
    let a = c.args in
    let list = file_list a.choosing.number a.source.now.index.now a.file.now in
    let empty : length a.query.now ≡ 0 = grind (arith, nat_tests) in (
      c.count_file.ensures.0
          ∙ sym (count-any a.source.now.index.now a.file.now a.choosing.number)
          ∙ rows_all (lengths_in a.source.now.index.now) a.query.now a.choosing.number list empty,
      c.count_file.ensures.1
          ∙ ap (sums a.counts.now)
          (sym (keywords-any a.source.now.index.now a.file.now a.choosing.number)
          ∙ ap (λ (l : List Occurrence). keyword_counts l) (sym (counted-all a.query.now list empty))),
    )

pub choose_file-choice-requires-clause-query_len_bound : goal.choose_file-choice-requires-clause-query_len_bound
choose_file-choice-requires-clause-query_len_bound c =
    let small = lengths-small c.args.source.now.index.now c.requires.directory.0.checked.good c.args.choosing.lengths c.requires.query_len_bound.1 in
    (c.requires.query_len_bound.0, small.0, small.1)

pub returns : goal.returns
returns c =
    let a = c.args in
    let list = file_list a.choosing.number a.source.now.index.now a.file.now in
    let some : length a.query.now ≢ 0 = λ z. grind (arith, nat_tests) in
    let same = lengths_read a.source.now.index.now c.requires.directory.0.checked.good a.choosing.lengths c.requires.query_len_bound.1 in
    let choice = subst (λ (x : Choice). Chosen x (earliest (lengths_in a.source.now.index.now) 0 a.query.now list)) (sym c.choose_file-choice.ensures)
    (chosen-earliest a.choosing.lengths (lengths_in a.source.now.index.now) a.query.now same c.requires.query_len_bound.0 list) in (
      c.from.ensures ∙ rows-choice (lengths_in a.source.now.index.now) a.query.now a.choosing.number list some c.choose_file-choice.result choice,
      sym (ap (λ (l : List Occurrence). sums a.counts.now (keyword_counts l)) (counted_none a.query.now list some)
          ∙ sums_none a.counts.now c.requires.counts_len.0),
    )
