-- The program's answers as its text, and the text in its buffer. Assumes nothing.
use mathlib.Core.Path.{◌≡◌, refl, sym, ap, ◌∙◌}
use mathlib.Core.Bool.{true, false}
use mathlib.Core.Logic.{⊎_elim}
use mathlib.Core.List.{List, [], ◌∷◌}
use Prim.Native.Nat.{ℕ, suc, ◌*◌, ◌≤◌, ◌<◌}
use native.Mathlib.Omega.{arith}
use lib.ListN.{length, take, length-append}
use lib.Seq.{length-take-le, take_all}
use lib.Dec.{ltb}
use borrow.Author.Tests.{lt-ltb, le-ltb, ltb-false}
use Rattle.spec.proofs.Tests.{le-or-lt, bool_cases, cond-elim}
use Rattle.spec.specs.Searched.{Searched}
use Rattle.spec.specs.Form.{newest}
use Rattle.spec.specs.Join.{one_client, read_list}
use Rattle.spec.specs.Search.{search_outcome, search_buffer, searched_code, searched_count}
use Rattle.spec.specs.Program.{list_text, refused_text, too_long_text, store_name, words_name, recipes_name, program_room, search_text, program_text}
use Rattle.spec.specs.Program.{longest_text, printed_length, printed_buffer}
use Rattle.output.specs.Lines.{Room, Puts}
use Rattle.output.proofs.Runs.{room-same, puts-same}
use Rattle.output.proofs.Answers.{is_found, answered-as, refused-text, list-whole, list-text}
use Rattle.output.proofs.Bounds.{search-length}

-- ---- the search

-- a search with two buffers of 65,536 bytes, which answered r, known to be the case o
module _ (store words recipes out index list : List ℕ) (a : program_room ≡ length index) (b : program_room ≡ length list) (big : longest_text ≤ length out)
    (o r : Searched) (k : r ≡ o) (e : r ≡ search_outcome newest words store recipes one_client (length index) (length list)) where
  told : o ≡ search_outcome newest words store recipes one_client program_room program_room
  told = answered-as store words recipes index list o r a b k e

  room : Room out 0 (search_text store words recipes)
  room = omega (arith, big, search-length store words recipes)

  module _ (f : is_found o ≡ false) where
    pub refused-room : Room out 0 (refused_text (searched_code o))
    refused-room = room-same out 0 (refused_text (searched_code o)) (search_text store words recipes) (sym (refused-text store words recipes o told f)) room

    pub refused-puts : (out' : List ℕ) (n : ℕ) → Puts out out' 0 (refused_text (searched_code o)) n → Puts out out' 0 (search_text store words recipes) n
    refused-puts out' n =
        puts-same out out' 0 (refused_text (searched_code o)) (search_text store words recipes) n (sym (refused-text store words recipes o told f))

  module _ (f : is_found o ≡ true) (list' : List ℕ) (w : list' ≡ search_buffer newest words store recipes one_client (length index) list) where
    buffer : list' ≡ search_buffer newest words store recipes one_client program_room list
    buffer = w ∙ ap (λ (n : ℕ). search_buffer newest words store recipes one_client n list) (sym a)

    text : search_text store words recipes ≡ list_text (read_list (searched_count o) list')
    text = list-text store words recipes list list' o told f b buffer

    pub list-room : (9 * searched_count o ≤ length list') × Room out 0 (list_text (read_list (searched_count o) list'))
    list-room = (
      list-whole store words recipes list list' o told f b buffer,
      room-same out 0 (list_text (read_list (searched_count o) list')) (search_text store words recipes) (sym text) room,
    )

    pub list_puts : (out' : List ℕ) (n : ℕ) → Puts out out' 0 (list_text (read_list (searched_count o) list')) n
        → Puts out out' 0 (search_text store words recipes) n
    list_puts out' n = puts-same out out' 0 (list_text (read_list (searched_count o) list')) (search_text store words recipes) n (sym text)

-- ---- the program

-- a file that is too long
pub too-long-room : (out name : List ℕ) → length name ≤ 20 → longest_text ≤ length out → Room out 0 (too_long_text name)
unfolding too_long_text
too-long-room out name l big = omega (arith, l, big, length-append name (0x0A ∷ []))

module _ (store words recipes : List ℕ) where
  pub store_long : program_room < length store → program_text store words recipes ≡ too_long_text store_name
  unfolding program_text
  store_long s = rw (lt-ltb program_room (length store) s) refl

  pub words_long : length store ≤ program_room → program_room < length words → program_text store words recipes ≡ too_long_text words_name
  unfolding program_text
  words_long s w = rw (le-ltb program_room (length store) s, lt-ltb program_room (length words) w) refl

  pub recipes-long : length store ≤ program_room → length words ≤ program_room → program_room < length recipes
      → program_text store words recipes ≡ too_long_text recipes_name
  unfolding program_text
  recipes-long s w r = rw (le-ltb program_room (length store) s, le-ltb program_room (length words) w, lt-ltb program_room (length recipes) r) refl

  pub none-long : length store ≤ program_room → length words ≤ program_room → length recipes ≤ program_room
      → program_text store words recipes ≡ search_text store words recipes
  unfolding program_text
  none-long s w r = rw (le-ltb program_room (length store) s, le-ltb program_room (length words) w, le-ltb program_room (length recipes) r) refl

-- ---- the buffer

abbrev pub Printed : List ℕ → List ℕ → List ℕ → ℕ → Type 0
Printed out out' text n = (n ≡ printed_length (length out) text) × (out' ≡ printed_buffer out text)

pub not-printed : (out text : List ℕ) → length out < longest_text → Printed out out text 0
unfolding printed_length printed_buffer
not-printed out text l = rw (lt-ltb (length out) longest_text l) (refl, refl)

pub printed : (out out' text part : List ℕ) (n : ℕ) → longest_text ≤ length out → text ≡ part → Puts out out' 0 part n → Printed out out' text n
unfolding printed_length printed_buffer
printed out out' text part n big e put =
    rw (le-ltb (length out) longest_text big, e) (omega (arith, put.0), put.1)

-- the text ends within the buffer
pub printed-within : (out out' text : List ℕ) (n : ℕ) → Printed out out' text n → length text ≤ longest_text → n ≤ length out
unfolding printed_length
printed-within out out' text n p l =
    rw p.0
    (cond-elim (λ (k : ℕ). k ≤ length out) (ltb (length out) longest_text) 0 (length text)
    (λ e. omega arith) (λ e. omega (arith, l, ltb-false (length out) longest_text e)))

-- ---- what of a file is read

-- one byte more than is taken is enough to tell a longer file
read-long : (room : ℕ) (file : List ℕ) → ltb room (length (take (suc room) file)) ≡ ltb room (length file)
read-long room file =
    ⊎_elim
    (λ (l : length file ≤ room). ap (λ (t : List ℕ). ltb room (length t)) (take_all (suc room) file (omega (arith, l))))
    (λ (g : room < length file).
    lt-ltb room (length (take (suc room) file)) (omega (arith, length-take-le (suc room) file (omega (arith, g)))) ∙ sym (lt-ltb room (length file) g))
    (le-or-lt (length file) room)

read_whole : (room : ℕ) (file : List ℕ) → ltb room (length file) ≡ false → take (suc room) file ≡ file
read_whole room file e = take_all (suc room) file (omega (arith, ltb-false room (length file) e))

-- the text for what is read of the files is that for the files
pub read-enough : (store words recipes : List ℕ)
    → program_text (take (suc program_room) store) (take (suc program_room) words) (take (suc program_room) recipes) ≡ program_text store words recipes
unfolding program_text
read-enough store words recipes =
    ⊎_elim
    (λ (s : ltb program_room (length store) ≡ true). rw (read-long program_room store, s) refl)
    (λ (s : ltb program_room (length store) ≡ false).
    ⊎_elim
    (λ (w : ltb program_room (length words) ≡ true). rw (read-long program_room store, s, read-long program_room words, w) refl)
    (λ (w : ltb program_room (length words) ≡ false).
    ⊎_elim
    (λ (r : ltb program_room (length recipes) ≡ true).
    rw (read-long program_room store, s, read-long program_room words, w, read-long program_room recipes, r) refl)
    (λ (r : ltb program_room (length recipes) ≡ false).
    rw (read_whole program_room store s, read_whole program_room words w, read_whole program_room recipes r) refl)
    (bool_cases (ltb program_room (length recipes))))
    (bool_cases (ltb program_room (length words))))
    (bool_cases (ltb program_room (length store)))
