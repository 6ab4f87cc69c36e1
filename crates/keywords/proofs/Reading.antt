-- The walk of `split`: before keyword k, the bytes from `at` on read as what is left of the list, and the arrays are as promised once
-- what is left is written. Then what the struct says of each keyword. Assumes nothing.
use mathlib.Core.Path.{◌≡◌, refl, sym, ap, ◌∙◌}
use mathlib.Core.Logic.{◌⊎◌, inl, inr}
use mathlib.Core.List.{List, [], ◌∷◌, map}
use Prim.Native.Nat.{ℕ, zero, suc, ◌+◌, ◌-◌, ◌≤◌, ◌<◌, max}
use native.Mathlib.Nat.{sub-zero}
use native.Mathlib.Numerals.{add-one}
use native.Mathlib.Omega.{arith}
use lib.ListN.{length, drop, get_or, set, length-drop, length-set, length-map, drop_of_length-le, replicate, get_or-append, get_or-map}
use lib.Seq.{drop-cons, drop-drop, length-take-le}
use Rattle.spec.specs.Bytes.{part, splice, written}
use Rattle.spec.specs.Keywords.{count_of, flag_of, read_keywords, keywords_size, keywords_of, list_size, longest, read_code, keyword_front_code}
use Rattle.spec.proofs.Tests.{le-or-lt}
use Rattle.spec.proofs.Splices.{splice-nil, splice-cons, length-splice}
use Rattle.spec.proofs.KeywordLaws.{read_step, read-absent, read_count, read-room, read-most, read-proper, accepted}
use Rattle.keywords.specs.declared.Keywords.{Keywords}
use Rattle.keywords.specs.Parsed.{starts_from, parsed_of, Reads, ReadableList, Placed, Parsed}

-- ---- one keyword, n the length byte at `at`

pub record Next (list : List ℕ) (left at n : ℕ) : Type 0 where
  pub nonempty : 1 ≤ n
  pub most : n ≤ 32
  pub room : at + 1 + n ≤ length list
  pub read : read_code left (drop (at + 1 + n) list) ≡ 0
  pub keywords : read_keywords (suc left) (drop at list) ≡ part list (at + 1) n ∷ read_keywords left (drop (at + 1 + n) list)
  pub size : keywords_size (suc left) (drop at list) ≡ suc n + keywords_size left (drop (at + 1 + n) list)
  pub whole : length (part list (at + 1) n) ≡ n

read-inside : (list : List ℕ) (left at : ℕ) → read_code (suc left) (drop at list) ≡ 0 → at < length list
read-inside list left at e = go (le-or-lt (length list) at)
  where
    go : (length list ≤ at) ⊎ (at < length list) → at < length list
    go (inl h) = absurd (read-absent left (rw (drop_of_length-le list h) at e))
    go (inr h) = h

next : (list : List ℕ) (left at : ℕ) → read_code (suc left) (drop at list) ≡ 0 → Next list left at (get_or list at 0)
next list left at e =
    let h = read-inside list left at e in
    let s = read_step left (get_or list at 0) (drop (suc at) list) (rw (drop-cons list at 0 h) at e) in
    let l : at + 1 + get_or list at 0 ≤ length list = omega (arith, s.room, length-drop (suc at) list) in
    record {
      nonempty = s.nonempty;
      most = s.most;
      room = l;
      read = rw (add-one, ← drop-drop) s.rest;
      keywords = rw (add-one, drop-cons list at 0 h, ← drop-drop);
      size = rw (add-one, drop-cons list at 0 h, ← drop-drop);
      whole = length-take-le (get_or list at 0) (drop (at + 1) list) (omega (arith, length-drop (at + 1) list));
    }

-- ---- before keyword k

pub record Reading (list : List ℕ) (k at most : ℕ) (start len : List ℕ) : Type 0 where
  pub inside : k ≤ count_of list
  pub read : read_code (count_of list - k) (drop at list) ≡ 0
  pub size : at + keywords_size (count_of list - k) (drop at list) ≡ list_size list
  pub keywords : read_keywords (count_of list - k) (drop at list) ≡ drop k (keywords_of list)
  pub longer : max most (longest (drop k (keywords_of list))) ≡ longest (keywords_of list)
  pub wide : length start ≡ 16
  pub wide-len : length len ≡ 16
  pub starts : splice start k (starts_from at (drop k (keywords_of list))) ≡ (parsed_of list).start
  pub lens : splice len k (map length (drop k (keywords_of list))) ≡ (parsed_of list).len

pub reading-start : (list : List ℕ) → ReadableList list → Reading list 0 2 0 (replicate 16 0) (replicate 16 0)
unfolding list_size keywords_of parsed_of
reading-start list r =
    record {
      inside = omega arith;
      read = rw sub-zero r.read;
      size = rw sub-zero;
      keywords = rw sub-zero;
      longer = omega arith;
      wide = refl;
      wide-len = refl;
      starts = refl;
      lens = refl;
    }

-- the next keyword, while one is left
pub reading-next : {list : List ℕ} {k at most : ℕ} {start len : List ℕ} → Reading list k at most start len → k < count_of list
    → Next list (count_of list - (k + 1)) at (get_or list at 0)
reading-next {list} {k} {at} r h =
    let s : count_of list - k ≡ suc (count_of list - (k + 1)) = omega arith in
    next list (count_of list - (k + 1)) at (rw s at r.read)

tail_of : (l : List (List ℕ)) (k : ℕ) (x : List ℕ) (xs : List (List ℕ)) → x ∷ xs ≡ drop k l → xs ≡ drop (k + 1) l
tail_of l k x xs e = ap (λ (m : List (List ℕ)). drop 1 m) e ∙ drop-drop 1 k l

-- what is left to write begins with the keyword
module _ (keywords : List (List ℕ)) (k at n : ℕ) (keyword : List ℕ) (rest : List (List ℕ)) (whole : length keyword ≡ n)
    (keys : keyword ∷ rest ≡ drop k keywords) where
  starts-on : starts_from at (drop k keywords) ≡ (at + 1) ∷ starts_from (at + 1 + n) (drop (k + 1) keywords)
  unfolding starts_from
  starts-on = rw (← keys, ← tail_of keywords k keyword rest keys, ← whole)

  lens-on : map length (drop k keywords) ≡ n ∷ map length (drop (k + 1) keywords)
  lens-on = rw (← keys, ← tail_of keywords k keyword rest keys, ← whole)

-- a store, and what is left is written behind it
store-on : (l whole left rest : List ℕ) (k x : ℕ) → k < length l → left ≡ x ∷ rest → splice l k left ≡ whole → splice (set l k x) (k + 1) rest ≡ whole
store-on l whole left rest k x h p e = splice-cons l k x rest h ∙ ap (splice l k) (sym p) ∙ e

pub reading-on : {list : List ℕ} {k at most : ℕ} {start len : List ℕ} → Reading list k at most start len → k < count_of list → count_of list ≤ 16
    → (n m : ℕ) → n ≡ get_or list at 0 → m ≡ max most n → Reading list (k + 1) (at + (1 + n)) m (set start k (at + 1)) (set len k n)
reading-on {list} {k} {at} {most} {start} {len} r h few n m e f =
    let on : at + (1 + n) ≡ at + 1 + n = omega arith in
    rw on (go (rw (← e) at (reading-next r h)))
  where
    go : Next list (count_of list - (k + 1)) at n → Reading list (k + 1) (at + 1 + n) m (set start k (at + 1)) (set len k n)
    go x =
        let s : count_of list - k ≡ suc (count_of list - (k + 1)) = omega arith in
        let w : List ℕ = part list (at + 1) n in
        let ws : List (List ℕ) = read_keywords (count_of list - (k + 1)) (drop (at + 1 + n) list) in
        let keys : w ∷ ws ≡ drop k (keywords_of list) = sym x.keywords ∙ rw s at r.keywords in
        let tail = tail_of (keywords_of list) k w ws keys in
        let size : at + 1 + n + keywords_size (count_of list - (k + 1)) (drop (at + 1 + n) list) ≡ list_size list = omega (arith, rw s at r.size, x.size) in
        record {
          inside = omega arith;
          read = x.read;
          size = size;
          keywords = tail;
          longer = omega (arith, ap longest keys, ap longest tail, x.whole, r.longer);
          wide = length-set start k (at + 1) ∙ r.wide;
          wide-len = length-set len k n ∙ r.wide-len;
          starts = store-on start _ _ _ k (at + 1) (omega (arith, r.wide)) (starts-on (keywords_of list) k at n w ws x.whole keys) r.starts;
          lens = store-on len _ _ _ k n (omega (arith, r.wide-len)) (lens-on (keywords_of list) k at n w ws x.whole keys) r.lens;
        }

-- nothing is left: the struct is as promised
pub reading-end : {list : List ℕ} {k at most : ℕ} {start len : List ℕ} → Reading list k at most start len → count_of list ≤ k
    → (words : Keywords) → words ≡ record { count = count_of list; flag = flag_of list; size = at; most = most; start = start; len = len }
    → words ≡ parsed_of list
unfolding parsed_of starts_from
reading-end {list} {k} {at} {most} {start} {len} r h words e =
    let z : count_of list - k ≡ 0 = omega arith in
    let size : at + 0 ≡ list_size list = rw z at r.size in
    let keys : [] ≡ drop k (keywords_of list) = rw z at r.keywords in
    let ends : at ≡ list_size list = omega arith in
    let longer : most ≡ longest (keywords_of list) = omega (arith, ap longest keys, r.longer) in
    let starts : start ≡ (parsed_of list).start = sym (splice-nil start k) ∙ rw (← keys) at r.starts in
    let lens : len ≡ (parsed_of list).len = sym (splice-nil len k) ∙ rw (← keys) at r.lens in
    e ∙ (λ i. record { count = count_of list; flag = flag_of list; size = ends i; most = longer i; start = starts i; len = lens i })

-- ---- what the struct says

-- keyword k of those from `at` on is where its start says
module _ (list : List ℕ) where
  abbrev Lies : ℕ → ℕ → ℕ → Type 0
  Lies count at k =
      let keywords = read_keywords count (drop at list) in
      let start = get_or (starts_from at keywords) k 0 in
      let len = length (get_or keywords k []) in
      (part list start len ≡ get_or keywords k []) × (start + len ≤ at + keywords_size count (drop at list))

  lies : (count at k : ℕ) → read_code count (drop at list) ≡ 0 → k < count → Lies count at k
  unfolding starts_from
  lies zero at k e h = let z : ⊥ = omega arith in absurd z
  lies (suc count) at zero e h =
      let n = next list count at e in
      rw (n.keywords, n.size, n.whole) (refl, omega arith)
  lies (suc count) at (suc k) e h =
      let n = next list count at e in
      let r = lies count (at + 1 + get_or list at 0) k n.read (omega arith) in
      rw (n.keywords, n.size, n.whole) (r.0, omega (arith, r.1))

length-starts : (at : ℕ) (keywords : List (List ℕ)) → length (starts_from at keywords) ≡ length keywords
unfolding starts_from
length-starts at [] = refl
length-starts at (keyword ∷ keywords) = ap suc (length-starts (at + 1 + length keyword) keywords)

-- what is written at the start of an array is read there
written_at : (l v : List ℕ) (k : ℕ) → k < length v → get_or (written l v) k 0 ≡ get_or v k 0
unfolding splice
written_at l v k h = get_or-append v (drop (0 + length v) l) 0 k h

module _ (list : List ℕ) (r : ReadableList list) where
  count-is : length (keywords_of list) ≡ count_of list
  unfolding keywords_of
  count-is = read_count (count_of list) (drop 2 list) r.read

  start-at : (k : ℕ) → k < count_of list → get_or (parsed_of list).start k 0 ≡ get_or (starts_from 2 (keywords_of list)) k 0
  unfolding parsed_of
  start-at k h = written_at (replicate 16 0) (starts_from 2 (keywords_of list)) k (omega (arith, length-starts 2 (keywords_of list), count-is))

  len-at : (k : ℕ) → k < count_of list → get_or (parsed_of list).len k 0 ≡ length (get_or (keywords_of list) k [])
  unfolding parsed_of
  len-at k h =
      written_at (replicate 16 0) (map length (keywords_of list)) k (omega (arith, length-map (keywords_of list) length, count-is))
      ∙ get_or-map length (keywords_of list) k []

  placed : (k : ℕ) → k < count_of list → Placed list k (get_or (parsed_of list).start k 0) (get_or (parsed_of list).len k 0)
  unfolding keywords_of list_size
  placed k h =
      let p = lies list (count_of list) 2 k r.read h in
      let n = read-proper (count_of list) (drop 2 list) r.read k h in
      rw (start-at k h, len-at k h) (record { bytes = p.0; room = p.1; nonempty = n.0; most = n.1 })

  pub parsed-readable : (words : Keywords) → words ≡ parsed_of list → Parsed list words
  unfolding parsed_of list_size
  parsed-readable words e =
      rw e (record {
        counts = refl;
        nonempty = r.nonempty;
        few = r.most;
        flags = refl;
        bit = r.flag;
        ends = refl;
        room = omega (arith, read-room (count_of list) (drop 2 list) r.read, length-drop 2 list, r.header);
        short = omega (arith, read-most (count_of list) (drop 2 list) r.read, r.most);
        longer = refl;
        starts = length-splice (replicate 16 0) 0 (starts_from 2 (keywords_of list)) (omega (arith, length-starts 2 (keywords_of list), count-is, r.most));
        lens = length-splice (replicate 16 0) 0 (map length (keywords_of list)) (omega (arith, length-map (keywords_of list) length, count-is, r.most));
        placed = placed;
      })

pub readable : (list : List ℕ) → keyword_front_code list ≡ 0 → ReadableList list
readable list e = let a = accepted list e in record { header = a.header; nonempty = a.nonempty; most = a.most; flag = a.flag; read = a.read }

-- a list that the check accepts
pub parsed : (list : List ℕ) (words : Keywords) → Reads list words → Parsed list words
parsed list words r = parsed-readable list (readable list r.accepted) words r.parsed
