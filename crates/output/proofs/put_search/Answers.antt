-- The answer of `search`, case by case.
use Rattle.std.proofs.Common.{◌≡◌, refl, ap, rules}
use Rattle.spec.specs.Refusal.{number_of}
use Rattle.spec.specs.Searched.{ScanRefused, JoinRefused, Found, searched_of}
use Rattle.output.proofs.Programs.{refused-room, refused-puts, list-room, list_puts}
use Rattle.output.proofs.put_search.Goals as goal

pub put_refused-requires : goal.put_refused-requires
put_refused-requires c =
    let is : searched_of c.search-answer.result.searched ≡ ScanRefused (number_of c.in-Err-Scan.refusal) = search rules in
    rw c.number.ensures
    (refused-room c.args.store.now c.args.words.now c.args.recipes.now c.args.out.now
    c.large_buffer-index.result c.large_buffer-list.result c.large_buffer-index.ensures c.large_buffer-list.ensures c.requires
    (ScanRefused (number_of c.in-Err-Scan.refusal)) (searched_of c.search-answer.result.searched) is c.search-answer.ensures.0 refl)

pub returns-in-Err-Scan : goal.returns-in-Err-Scan
returns-in-Err-Scan c =
    let is : searched_of c.search-answer.result.searched ≡ ScanRefused (number_of c.in-Err-Scan.refusal) = search rules in
    refused-puts c.args.store.now c.args.words.now c.args.recipes.now c.args.out.now
    c.large_buffer-index.result c.large_buffer-list.result c.large_buffer-index.ensures c.large_buffer-list.ensures c.requires
    (ScanRefused (number_of c.in-Err-Scan.refusal)) (searched_of c.search-answer.result.searched) is c.search-answer.ensures.0 refl
    c.put_refused.new.out c.put_refused.result (rw c.number.ensures at c.put_refused.ensures)

pub put_refused-requires-in-Err-Join : goal.put_refused-requires-in-Err-Join
put_refused-requires-in-Err-Join c =
    let is : searched_of c.search-answer.result.searched ≡ JoinRefused c.in-Err-Join.field-0-0 (number_of c.in-Err-Join.refusal) = search rules in
    rw c.number-in-Err-Join.ensures
    (refused-room c.args.store.now c.args.words.now c.args.recipes.now c.args.out.now
    c.large_buffer-index.result c.large_buffer-list.result c.large_buffer-index.ensures c.large_buffer-list.ensures c.requires
    (JoinRefused c.in-Err-Join.field-0-0 (number_of c.in-Err-Join.refusal)) (searched_of c.search-answer.result.searched) is c.search-answer.ensures.0 refl)

pub returns-in-Err-Join : goal.returns-in-Err-Join
returns-in-Err-Join c =
    let is : searched_of c.search-answer.result.searched ≡ JoinRefused c.in-Err-Join.field-0-0 (number_of c.in-Err-Join.refusal) = search rules in
    refused-puts c.args.store.now c.args.words.now c.args.recipes.now c.args.out.now
    c.large_buffer-index.result c.large_buffer-list.result c.large_buffer-index.ensures c.large_buffer-list.ensures c.requires
    (JoinRefused c.in-Err-Join.field-0-0 (number_of c.in-Err-Join.refusal)) (searched_of c.search-answer.result.searched) is c.search-answer.ensures.0 refl
    c.put_refused-in-Err-Join.new.out c.put_refused-in-Err-Join.result (rw c.number-in-Err-Join.ensures at c.put_refused-in-Err-Join.ensures)

pub put_list-requires : goal.put_list-requires
put_list-requires c =
    list-room c.args.store.now c.args.words.now c.args.recipes.now c.args.out.now
    c.large_buffer-index.result c.large_buffer-list.result c.large_buffer-index.ensures c.large_buffer-list.ensures c.requires
    (Found c.in-Ok.done.size c.in-Ok.done.count) (searched_of c.search-answer.result.searched) (ap searched_of c.in-Ok.is) c.search-answer.ensures.0 refl
    c.search-answer.new.out c.search-answer.ensures.2

pub returns-in-Ok : goal.returns-in-Ok
returns-in-Ok c =
    list_puts c.args.store.now c.args.words.now c.args.recipes.now c.args.out.now
    c.large_buffer-index.result c.large_buffer-list.result c.large_buffer-index.ensures c.large_buffer-list.ensures c.requires
    (Found c.in-Ok.done.size c.in-Ok.done.count) (searched_of c.search-answer.result.searched) (ap searched_of c.in-Ok.is) c.search-answer.ensures.0 refl
    c.search-answer.new.out c.search-answer.ensures.2 c.put_list.new.out c.put_list.result c.put_list.ensures
