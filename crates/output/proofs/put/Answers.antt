-- The tests in their order.
use Rattle.std.proofs.Common.{arith}
use Rattle.spec.specs.Program.{too_long_text, store_name, words_name, recipes_name, search_text, program_text}
use Rattle.output.proofs.Programs.{too-long-room, store_long, words_long, recipes-long, none-long, not-printed, printed}
use Rattle.output.proofs.put.Goals as goal

pub returns-then-out-lt-LONGEST : goal.returns-then-out-lt-LONGEST
returns-then-out-lt-LONGEST c =
    not-printed c.args.out.now (program_text c.args.store.now c.args.words.now c.args.recipes.now) (omega (arith, c.if-out-lt-LONGEST.true))

pub put_too_long-requires : goal.put_too_long-requires
put_too_long-requires c = too-long-room c.args.out.now store_name (omega arith) (omega (arith, c.if-out-lt-LONGEST.false))

pub returns-then-store-gt-ROOM : goal.returns-then-store-gt-ROOM
returns-then-store-gt-ROOM c =
    printed c.args.out.now c.put_too_long.new.out (program_text c.args.store.now c.args.words.now c.args.recipes.now)
    (too_long_text store_name) c.put_too_long.result (omega (arith, c.if-out-lt-LONGEST.false))
    (store_long c.args.store.now c.args.words.now c.args.recipes.now (omega (arith, c.if-store-gt-ROOM.true))) c.put_too_long.ensures

pub put_too_long-requires-then-words-gt-ROOM : goal.put_too_long-requires-then-words-gt-ROOM
put_too_long-requires-then-words-gt-ROOM c = too-long-room c.args.out.now words_name (omega arith) (omega (arith, c.if-out-lt-LONGEST.false))

pub returns-then-words-gt-ROOM : goal.returns-then-words-gt-ROOM
returns-then-words-gt-ROOM c =
    printed c.args.out.now c.put_too_long-then-words-gt-ROOM.new.out (program_text c.args.store.now c.args.words.now c.args.recipes.now)
    (too_long_text words_name) c.put_too_long-then-words-gt-ROOM.result (omega (arith, c.if-out-lt-LONGEST.false))
    (words_long c.args.store.now c.args.words.now c.args.recipes.now
    (omega (arith, c.if-store-gt-ROOM.false)) (omega (arith, c.if-words-gt-ROOM.true))) c.put_too_long-then-words-gt-ROOM.ensures

pub put_too_long-requires-then-recipes-gt-ROOM : goal.put_too_long-requires-then-recipes-gt-ROOM
put_too_long-requires-then-recipes-gt-ROOM c = too-long-room c.args.out.now recipes_name (omega arith) (omega (arith, c.if-out-lt-LONGEST.false))

pub returns-then-recipes-gt-ROOM : goal.returns-then-recipes-gt-ROOM
returns-then-recipes-gt-ROOM c =
    printed c.args.out.now c.put_too_long-then-recipes-gt-ROOM.new.out (program_text c.args.store.now c.args.words.now c.args.recipes.now)
    (too_long_text recipes_name) c.put_too_long-then-recipes-gt-ROOM.result (omega (arith, c.if-out-lt-LONGEST.false))
    (recipes-long c.args.store.now c.args.words.now c.args.recipes.now
    (omega (arith, c.if-store-gt-ROOM.false)) (omega (arith, c.if-words-gt-ROOM.false)) (omega (arith, c.if-recipes-gt-ROOM.true)))
    c.put_too_long-then-recipes-gt-ROOM.ensures

pub returns : goal.returns
returns c =
    printed c.args.out.now c.put_search.new.out (program_text c.args.store.now c.args.words.now c.args.recipes.now)
    (search_text c.args.store.now c.args.words.now c.args.recipes.now) c.put_search.result (omega (arith, c.if-out-lt-LONGEST.false))
    (none-long c.args.store.now c.args.words.now c.args.recipes.now
    (omega (arith, c.if-store-gt-ROOM.false)) (omega (arith, c.if-words-gt-ROOM.false)) (omega (arith, c.if-recipes-gt-ROOM.false))) c.put_search.ensures
