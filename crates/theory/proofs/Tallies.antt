-- Request #110: after any joins one after the other into a tally that began at zero, each client's count is the number of occurrences of that client's keywords
-- in the lists of the accepted joins: a join adds its own to each count or nothing, so the counts are sums along the joins. The sentences on key and tally
-- go count by count (spec, Clients); by them the search program's key and tally are never refused. Assumes nothing.
use mathlib.Core.Path.{◌≡◌, refl, sym, ap, ◌∙◌}
use mathlib.Core.Logic.{◌≢◌, ◌↔◌}
use mathlib.Core.Bool.{Bool, true, false, cond}
use mathlib.Core.List.{List, [], ◌∷◌, ◌++◌, map, map-append}
use Prim.Native.Nat.{ℕ, suc, ◌+◌, ◌^◌, ◌≤◌, ◌<◌}
use native.Mathlib.Nat.{add-zero, zero-add, add_assoc}
use native.Mathlib.Omega.{arith}
use borrow.Author.Tests.{eq-eqb, le-leb, ltb-true, lt-ltb}
use lib.Dec.{eqb, leb, ltb}
use lib.ListN.{length, get_or, take, get_or-replicate}
use lib.Seq.{get_or-take, length-take-le}
use Rattle.spec.specs.Bytes.{keep, every, sum}
use Rattle.spec.specs.Outcome.{code_of, unless_refused}
use Rattle.spec.specs.Form.{form_of}
use Rattle.spec.specs.Join.{Occurrence, Clients, one_client, count_by, client_counts, tally_with, is_key, fit64, clients_code, join_code, join_outcome, join_tally}
use Rattle.spec.proofs.Codes.{buffer-refused}
use Rattle.spec.proofs.FileLaws.{every-at}
use Rattle.spec.proofs.Clients.{length-sums, sums_at, count_at, count_most, key-length, key-client}
use Rattle.theory.specs.Tallies.{Joining, with_tally, list_of, of_client, answer_at, after, after_all, accepted_of, at_zero, ClientsSentence, TallyCases}
use Rattle.theory.proofs.Cases.{definitions}
use Rattle.theory.proofs.Demand3.{code-of-answer, clients-done}

-- ---- counts with those of a list

with-length : (clients : Clients) (list : List Occurrence) → length (tally_with clients list) ≡ length clients.tally
unfolding tally_with
with-length clients list = length-sums clients.tally (client_counts clients.key list)

with_at : (clients : Clients) (list : List Occurrence) → length clients.tally ≡ 4 → (c : ℕ) → c < 4
    → get_or (tally_with clients list) c 0 ≡ get_or clients.tally c 0 + count_by (λ k. get_or clients.key k 0) c list
unfolding tally_with
with_at clients list e c h =
    sums_at clients.tally (client_counts clients.key list) c (omega arith)
    ∙ ap (λ (n : ℕ). get_or clients.tally c 0 + n) (count_at (λ k. get_or clients.key k 0) 4 list c h)

-- ---- the sentences

every_of : (test : ℕ → Bool) (l : List ℕ) → ((k : ℕ) → k < length l → test (get_or l k 0) ≡ true) → every test l ≡ true
every_of test [] h = refl
every_of test (x ∷ l) h = rw (h 0 (omega arith), every_of test l (λ k u. h (suc k) (omega arith)))

key-sentence : (n : ℕ) (key : List ℕ) → n ≤ 16 → (is_key n key ≡ true) ↔ ((length key ≡ 16) × ((k : ℕ) → k < n → get_or key k 0 ≤ 3))
unfolding is_key
key-sentence n key few = (λ e. (key-length n key e, λ k l. omega (arith, key-client n key e few k l)), back)
  where
    back : (length key ≡ 16) × ((k : ℕ) → k < n → get_or key k 0 ≤ 3) → is_key n key ≡ true
    back p =
        let long : length (take n key) ≡ n = length-take-le n key (omega (arith, p.0)) in
        rw (
          eq-eqb (length key) 16 p.0,
          every_of (λ client. leb client 3) (take n key)
              (λ k u.
              let l : k < n = omega (arith, long) in
              ap (λ (client : ℕ). leb client 3) (get_or-take n key k 0 l) ∙ le-leb (get_or key k 0) 3 (p.1 k l)),
        )

counts-sentence : (clients : Clients) (list : List Occurrence) → length clients.tally ≡ 4
    → (fit64 (tally_with clients list) ≡ true)
    ↔ ((c : ℕ) → c < 4 → get_or clients.tally c 0 + count_by (λ k. get_or clients.key k 0) c list < 2 ^ 64)
unfolding fit64
counts-sentence clients list e = (there, back)
  where
    there : fit64 (tally_with clients list) ≡ true
        → (c : ℕ) → c < 4 → get_or clients.tally c 0 + count_by (λ k. get_or clients.key k 0) c list < 2 ^ 64
    there t c h =
        let w = with_at clients list e c h in
        let l : c < length (tally_with clients list) = omega (arith, with-length clients list) in
        let b = ltb-true (get_or (tally_with clients list) c 0) (2 ^ 64) (every-at (λ n. ltb n (2 ^ 64)) (tally_with clients list) c 0 t l) in
        rw (← w) b

    back : ((c : ℕ) → c < 4 → get_or clients.tally c 0 + count_by (λ k. get_or clients.key k 0) c list < 2 ^ 64)
        → fit64 (tally_with clients list) ≡ true
    back h =
        every_of (λ n. ltb n (2 ^ 64)) (tally_with clients list)
        (λ c u.
        let l : c < 4 = omega (arith, with-length clients list) in
        let w = with_at clients list e c l in
        lt-ltb (get_or (tally_with clients list) c 0) (2 ^ 64) (rw w (h c l)))

-- REQUEST #110, of a key and a tally that are not refused.
pub clients-sentence : ClientsSentence
clients-sentence = record { key = key-sentence; added = with_at; counts = counts-sentence }

-- what the search program passes, for a list of fewer than 2 ^ 64 occurrences: its list buffer has room for 7,281
pub one-client-passes : (n : ℕ) (list : List Occurrence) → n ≤ 16 → length list < 2 ^ 64 → clients_code n one_client list ≡ 0
one-client-passes n list few short =
    (clients-done n one_client list).1 (
      (key-sentence n one_client.key few).1 (refl, λ k l. omega (arith, get_or-replicate {A = ℕ} 16 k 0 0 (omega arith))),
      (counts-sentence one_client list refl).1
          (λ c h. omega (arith, get_or-replicate {A = ℕ} 4 c 0 0 h, count_most (λ k. get_or one_client.key k 0) c list)),
    )

-- ---- one join

module _ (tally : List ℕ) (j : Joining) where
  abbrev code : ℕ
  code = join_code (form_of j.index) j.index j.recipes (with_tally tally j) j.room

  -- the number of its answer is its tests' number
  code_is : code_of (answer_at tally j) ≡ code
  unfolding join_outcome
  code_is = code-of-answer code (length (list_of j))

  -- a refused join adds nothing
  pub refused-adds-nothing : code_of (answer_at tally j) ≢ 0 → after tally j ≡ tally
  unfolding join_tally
  refused-adds-nothing d = sym (buffer-refused code (tally_with (with_tally tally j) (list_of j)) tally (λ z. d (code_is ∙ z)))

  -- the tally after it, by whether it is accepted
  after_is : after tally j ≡ cond (eqb (code_of (answer_at tally j)) 0) (tally_with (with_tally tally j) (list_of j)) tally
  unfolding join_tally unless_refused
  after_is = rw code_is

  after-length : length tally ≡ 4 → length (after tally j) ≡ 4
  after-length e = ap length after_is ∙ go (eqb (code_of (answer_at tally j)) 0)
    where
      go : (b : Bool) → length (cond b (tally_with (with_tally tally j) (list_of j)) tally) ≡ 4
      go true = with-length (with_tally tally j) (list_of j) ∙ e
      go false = e

  -- each count grows by what its client has in the list, or by nothing
  after-at : length tally ≡ 4 → (c : ℕ) → c < 4
      → get_or (after tally j) c 0 ≡ get_or tally c 0 + sum (map (of_client c) (keep (eqb (code_of (answer_at tally j)) 0) j))
  after-at e c h = ap (λ (l : List ℕ). get_or l c 0) after_is ∙ go (eqb (code_of (answer_at tally j)) 0)
    where
      go : (b : Bool)
          → get_or (cond b (tally_with (with_tally tally j) (list_of j)) tally) c 0 ≡ get_or tally c 0 + sum (map (of_client c) (keep b j))
      go true = with_at (with_tally tally j) (list_of j) e c h ∙ ap (λ (n : ℕ). get_or tally c 0 + n) (sym (add-zero (of_client c j)))
      go false = sym (add-zero (get_or tally c 0))

-- ---- joins one after the other

sum-append : (l m : List ℕ) → sum (l ++ m) ≡ sum l + sum m
sum-append [] m = sym (zero-add (sum m))
sum-append (x ∷ l) m = ap (λ (n : ℕ). x + n) (sum-append l m) ∙ sym (add_assoc x (sum l) (sum m))

-- whatever the tally was
pub tally-grows : (tally : List ℕ) (joins : List Joining) → length tally ≡ 4 → (c : ℕ) → c < 4
    → get_or (after_all tally joins) c 0 ≡ get_or tally c 0 + sum (map (of_client c) (accepted_of tally joins))
tally-grows tally [] e c h = sym (add-zero (get_or tally c 0))
tally-grows tally (j ∷ rest) e c h =
    let own = keep (eqb (code_of (answer_at tally j)) 0) j in
    let later = accepted_of (after tally j) rest in
    tally-grows (after tally j) rest (after-length tally j e) c h
    ∙ ap (λ (n : ℕ). n + sum (map (of_client c) later)) (after-at tally j e c h)
    ∙ add_assoc (get_or tally c 0) (sum (map (of_client c) own)) (sum (map (of_client c) later))
    ∙ ap (λ (n : ℕ). get_or tally c 0 + n)
    (sym (sum-append (map (of_client c) own) (map (of_client c) later)) ∙ ap sum (sym (map-append (of_client c) own later)))

-- REQUEST #110: a tally that began at zero.
pub tally-true : (joins : List Joining) (c : ℕ) → c < 4 → get_or (after_all at_zero joins) c 0 ≡ sum (map (of_client c) (accepted_of at_zero joins))
tally-true joins c h =
    tally-grows at_zero joins refl c h
    ∙ ap (λ (n : ℕ). n + sum (map (of_client c) (accepted_of at_zero joins))) (get_or-replicate {A = ℕ} 4 c 0 0 h)
    ∙ zero-add (sum (map (of_client c) (accepted_of at_zero joins)))

-- ---- cases

pub tally-cases : TallyCases
unfolding definitions
tally-cases =
    record {
      counts = (refl, refl, refl);
      list = refl;
      in_turn = refl;
      before_twenty_two = refl;
      lengths = refl;
      named = refl;
      absent = refl;
      empty = refl;
      stays = (refl, refl);
      before_twenty_three = refl;
      reached = (refl, refl);
      passed = (refl, refl);
      full = (refl, refl);
      fourth = (refl, refl);
    }
