-- The stages one after the other; each return by those that passed (CheckLaws).
use Rattle.std.proofs.Common.{rules, ◌≡◌, ◌+◌, ◌≤◌, length, sym, ap, ◌∙◌, arith}
use Rattle.spec.specs.Keywords.{keyword_front_code}
use Rattle.spec.specs.Form.{form_of}
use Rattle.spec.specs.Index.{list_in, index_keys, header_code, laid_code}
use Rattle.keywords.specs.Parsed.{Parsed}
use Rattle.directory.proofs.ChainLists.{Built}
use Rattle.spec.specs.Refusal.{number, number_of}
use Rattle.spec.proofs.Refusals.{number-some}
use Rattle.index.specs.Stages.{Headed, Laid}
use Rattle.index.proofs.StageLaws.{header-passed, laid, built_of}
use Rattle.index.proofs.CheckLaws.{header-stops, list-stops, directory-stops, refused-early, duplicate-told, body-told, all_told}
use Rattle.index.proofs.CheckLaws.{list-is, listed, headed, lens}
use Rattle.index.proofs.examine.Goals.{In_ok-header, In_ok-check_front, After-parse-list, After-chunk_count-c, In_ok-entries, After-build}
use Rattle.index.proofs.examine.Goals as goal

-- ---- what is known behind each stage

header-good : (c : In_ok-header) → header_code (form_of c.args.index.now) c.args.index.now ≡ 0
header-good c = sym c.in_ok-header.ensures

long : (c : In_ok-header) → 8 ≤ length c.args.index.now
long c = (header-passed c.args.index.now (header-good c)).0

list-good : (c : In_ok-check_front) → keyword_front_code (list_in c.args.index.now) ≡ 0
list-good c = sym (c.in_ok-check_front.ensures ∙ ap keyword_front_code (list-is c.args.index.now))

-- what the list's struct says
read : (c : After-parse-list) → keyword_front_code (list_in c.args.index.now) ≡ 0 → Parsed (list_in c.args.index.now) c.parse-list.result
read c g = listed c.args.index.now c.parse-list.result g c.parse-list.ensures

opens : (c : After-chunk_count-c) → header_code (form_of c.args.index.now) c.args.index.now ≡ 0 → keyword_front_code (list_in c.args.index.now) ≡ 0
    → Headed c.args.index.now (8 + c.parse-list.result.size) c.chunk_count-c.result
opens c h g = headed c.args.index.now c.parse-list.result g c.parse-list.ensures c.chunk_count-c.result h c.chunk_count-c.ensures

lies : (c : In_ok-entries) → Headed c.args.index.now (8 + c.parse-list.result.size) c.chunk_count-c.result
    → Laid c.args.index.now (8 + c.parse-list.result.size) c.chunk_count-c.result
lies c o = laid c.args.index.now (8 + c.parse-list.result.size) c.chunk_count-c.result o (sym c.in_ok-entries.ensures)

whole-directory : (c : In_ok-entries) → header_code (form_of c.args.index.now) c.args.index.now ≡ 0 → keyword_front_code (list_in c.args.index.now) ≡ 0
    → laid_code (form_of c.args.index.now) c.args.index.now ≡ 0
whole-directory c h g = sym (directory-stops c.args.index.now h g) ∙ sym c.in_ok-entries.ensures

-- the chains are those of the index's fingerprints
chains : (c : After-build) → Headed c.args.index.now (8 + c.parse-list.result.size) c.chunk_count-c.result
    → Built (index_keys c.args.index.now) c.args.chains.now c.build.new.chains c.build.result
chains c o =
    built_of c.args.index.now (8 + c.parse-list.result.size) c.chunk_count-c.result o c.args.chains.now c.build.new.chains c.build.result c.build.ensures

-- ---- the needs

pub returns-in_err-header : goal.returns-in_err-header
returns-in_err-header c =
    let r = c.in_err-header.field-0.0 in
    let f : number c.from_residual.result ≡ number_of r = search rules in
    let e = c.in_err-header.ensures in
    refused-early c.args.index.now c.args.chains.now _ (f ∙ e ∙ header-stops c.args.index.now (λ z. number-some r (e ∙ z))) (λ z. number-some r (sym f ∙ z))

pub slice_bounds-check_front-count : goal.slice_bounds-check_front-count
slice_bounds-check_front-count c = long (goal.at.slice_bounds-check_front-count c).In_ok-header

pub slice_bounds-check_front-start : goal.slice_bounds-check_front-start
slice_bounds-check_front-start c = long (goal.at.slice_bounds-check_front-start c).In_ok-header

pub returns-in_err-check_front : goal.returns-in_err-check_front
returns-in_err-check_front c =
    let h = header-good (goal.at.returns-in_err-check_front c).In_ok-header in
    let r = c.in_err-check_front.field-0.0 in
    let f : number c.from_residual-in_err-check_front.result ≡ number_of r = search rules in
    let e = c.in_err-check_front.ensures ∙ ap keyword_front_code (list-is c.args.index.now) in
    refused-early c.args.index.now c.args.chains.now _ (f ∙ e ∙ list-stops c.args.index.now h (λ z. number-some r (e ∙ z))) (λ z. number-some r (sym f ∙ z))

pub slice_bounds-parse-count : goal.slice_bounds-parse-count
slice_bounds-parse-count c = long (goal.at.slice_bounds-parse-count c).In_ok-header

pub slice_bounds-parse-start : goal.slice_bounds-parse-start
slice_bounds-parse-start c = long (goal.at.slice_bounds-parse-start c).In_ok-header

pub overflow_add-start : goal.overflow_add-start
overflow_add-start c =
    let at = goal.at.overflow_add-start c in
    omega (arith, (read at.After-parse-list (list-good at.In_ok-check_front)).short)

pub chunk_count-c-requires : goal.chunk_count-c-requires
chunk_count-c-requires c = long (goal.at.chunk_count-c-requires c).In_ok-header

pub entries-requires : goal.entries-requires
entries-requires c =
    let at = goal.at.entries-requires c in
    (opens at.After-chunk_count-c (header-good at.In_ok-header) (list-good at.In_ok-check_front), c.of-format.ensures)

pub returns-in_err-entries : goal.returns-in_err-entries
returns-in_err-entries c =
    let at = goal.at.returns-in_err-entries c in
    let r = c.in_err-entries.field-0.0 in
    let f : number c.from_residual-in_err-entries.result ≡ number_of r = search rules in
    refused-early c.args.index.now c.args.chains.now _
    (f ∙ c.in_err-entries.ensures ∙ directory-stops c.args.index.now (header-good at.In_ok-header) (list-good at.In_ok-check_front)) (λ z. number-some r (sym f ∙ z))

pub build-requires-clause-lies : goal.build-requires-clause-lies
build-requires-clause-lies c =
    let at = goal.at.build-requires-clause-lies c in
    let l = lies at.In_ok-entries (opens at.After-chunk_count-c (header-good at.In_ok-header) (list-good at.In_ok-check_front)) in
    record { inside = l.room; keyed = omega arith; few = l.headed.few }

pub returns-then-build : goal.returns-then-build
returns-then-build c =
    let at = goal.at.returns-then-build c in
    let h = header-good at.In_ok-header in
    let g = list-good at.In_ok-check_front in
    duplicate-told c.args.index.now (whole-directory at.In_ok-entries h g) c.args.chains.now c.build.new.chains c.build.result
    (chains at.After-build (opens at.After-chunk_count-c h g)) c.if-build.true

pub all_good-requires : goal.all_good-requires
all_good-requires c =
    let at = goal.at.all_good-requires c in
    let h = header-good at.In_ok-header in
    let g = list-good at.In_ok-check_front in
    (lies at.In_ok-entries (opens at.After-chunk_count-c h g), lens c.args.index.now c.parse-list.result g c.parse-list.ensures, c.of-format.ensures)

pub returns-then-all_good : goal.returns-then-all_good
returns-then-all_good c =
    let at = goal.at.returns-then-all_good c in
    let h = header-good at.In_ok-header in
    let g = list-good at.In_ok-check_front in
    all_told c.args.index.now (whole-directory at.In_ok-entries h g) c.args.chains.now c.build.new.chains c.build.result
    (chains at.After-build (opens at.After-chunk_count-c h g)) c.if-build.false (sym c.all_good.ensures ∙ c.if-all_good.true)

pub returns-else-all_good : goal.returns-else-all_good
returns-else-all_good c =
    let at = goal.at.returns-else-all_good c in
    let h = header-good at.In_ok-header in
    let g = list-good at.In_ok-check_front in
    body-told c.args.index.now (whole-directory at.In_ok-entries h g) c.args.chains.now c.build.new.chains c.build.result
    (chains at.After-build (opens at.After-chunk_count-c h g)) c.if-build.false (sym c.all_good.ensures ∙ c.if-all_good.false)
