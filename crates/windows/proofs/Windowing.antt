-- The walk of a chunk in windows: the windows before a place are walked, then the window from there on; their logs are one after the other, so
-- nodes, moves and tallies go on. Assumes nothing.
use mathlib.Core.Path.{◌≡◌, refl, sym, ap, ap₂, ◌∙◌}
use mathlib.Core.List.{List, [], ◌∷◌, ◌++◌, append_assoc, append-nil}
use Prim.Native.Nat.{ℕ, ◌+◌, ◌*◌, ◌≤◌, ◌<◌}
use native.Mathlib.Omega.{arith}
use lib.ListN.{length, take, length-take, length-append, get_or-append}
use lib.Seq.{get_or-append-add}
use Rattle.spec.specs.Bytes.{written}
use Rattle.spec.specs.Form.{newest}
use Rattle.spec.specs.Keywords.{folded, folded_keywords, keyword_front_code}
use Rattle.spec.specs.Trie.{is_node, node_from}
use Rattle.spec.proofs.Splices.{splice-read}
use Rattle.keywords.specs.declared.Keywords.{Keywords}
use Rattle.trie.specs.Numbers.{node_count, node_number}
use Rattle.trie.proofs.Numbering.{number-below, root-number}
use Rattle.automaton.specs.Automaton.{log_from}
use Rattle.automaton.specs.Walking.{walked_of, walk_log}
use Rattle.automaton.specs.declared.Walked.{Walked}
use Rattle.automaton.proofs.Parts.{walked-inside, walked-moves, logged-is, log-short, two-logs, two-nodes, two-moves}
use Rattle.automaton_lanes.specs.Lanes.{CanWalkLanes}
use Rattle.logs.specs.Log.{AllFit}
use Rattle.offset_lists.specs.Patches.{patched}
use Rattle.offset_lists.specs.Runs.{log_run, cursor, moved_by, CanList}
use Rattle.logs.specs.Tallies.{tally_of, tally_both, CanJoin}
use Rattle.logs.specs.declared.Tally.{Tally}
use Rattle.logs.proofs.Tallying.{tally-join, tally-joins}
use Rattle.offset_lists.proofs.Filling.{lists-none}
use Rattle.offset_lists.proofs.Joining.{lists-append, part-fills, part_filled, part_moved, none_filled, none-moved}
use Rattle.windows.specs.Windows.{counted_of, CanCount, CanWindow}
use Rattle.windows.specs.declared.Counted.{Counted}

-- ---- parts of a log

pub fits-first : (ends len x y : List ℕ) → AllFit ends len (x ++ y) → AllFit ends len x
fits-first ends len x y f i h = rw (get_or-append x y 0 i h) at (f i (omega (arith, length-append x y)))

pub fits-second : (ends len x y : List ℕ) → AllFit ends len (x ++ y) → AllFit ends len y
fits-second ends len x y f i h = rw (get_or-append-add x y i 0) at (f (length x + i) (omega (arith, length-append x y)))

pub fits-part : (ends len part log : List ℕ) → part ≡ log → AllFit ends len log → AllFit ends len part
fits-part ends len part log e f = rw e f

-- what a walk wrote of its log
module _ (list : List ℕ) (front : keyword_front_code list ≡ 0) (node : ℕ) (bytes : List ℕ) (at : ℕ) (w : Walked) (e : w ≡ walked_of list node bytes at) where
  pub logged-count : w.logged ≡ length (walk_log list node bytes at)
  logged-count = ap (λ (x : Walked). x.logged) e ∙ logged-is list front node bytes at

  module _ (l l₁ : List ℕ) (p : l₁ ≡ written l (walk_log list node bytes at)) where
    pub logged-part : take w.logged l₁ ≡ walk_log list node bytes at
    logged-part = rw (logged-count, p) (splice-read l 0 (walk_log list node bytes at) (omega arith))

    pub logged-length : w.logged ≡ length (take w.logged l₁)
    logged-length = logged-count ∙ sym (ap length logged-part)

    pub logged-room : w.logged ≤ length l₁
    logged-room = omega (arith, logged-length, length-take w.logged l₁)

-- ---- the windows before a place, and the one from there on

-- and counted
pub counted_is : (list ends len : List ℕ) → keyword_front_code list ≡ 0 → (node : ℕ) (bytes : List ℕ) (at : ℕ) (w : Walked) (tally : Tally) (part : List ℕ)
    → w ≡ walked_of list node bytes at → part ≡ walk_log list node bytes at → tally ≡ tally_of ends len part
    → record { node = w.node; moves = w.moves; logged = w.logged; tally = tally } ≡ counted_of list ends len node bytes at
unfolding counted_of
counted_is list ends len front node bytes at w tally part e p t =
    let a = ap (λ (x : Walked). x.node) e in
    let b = ap (λ (x : Walked). x.moves) e in
    let c = logged-count list front node bytes at w e in
    let d = t ∙ ap (tally_of ends len) p in
    λ i. record { node = a i; moves = b i; logged = c i; tally = d i }

-- what was counted of the windows before a place: `done` are their bytes, `rest` those to come
pub record Toured (list ends len chunk rest : List ℕ) (at node moves logged : ℕ) (tally : Tally) : Type 0 where
  pub done : List ℕ
  pub split : chunk ≡ done ++ rest
  pub place : at ≡ length done
  pub last : node ≡ (walked_of list 0 done 0).node
  pub moved : moves ≡ (walked_of list 0 done 0).moves
  pub count : logged ≡ length (walk_log list 0 done 0)
  pub told : tally ≡ tally_of ends len (walk_log list 0 done 0)

-- what was filled of them: the buffer and the cursors from what both were
pub record Filled (list : List ℕ) (words : Keywords) (ends counts chunk before c₀ rest out c : List ℕ) (at node : ℕ) : Type 0 where
  pub done : List ℕ
  pub split : chunk ≡ done ++ rest
  pub place : at ≡ length done
  pub last : node ≡ (walked_of list 0 done 0).node
  pub bytes : out ≡ patched words.count (cursor c₀) (log_run newest counts words.len ends (walk_log list 0 done 0)) before
  pub cursors : c ≡ moved_by (log_run newest counts words.len ends (walk_log list 0 done 0)) c₀

-- nothing is to come
all_done : (chunk done rest : List ℕ) → chunk ≡ done ++ rest → length rest ≡ 0 → done ≡ chunk
all_done chunk done [] e z = sym (e ∙ append-nil done)
all_done chunk done (x ∷ rest) e z = absurd (omega arith)

module _ {list : List ℕ} {words : Keywords} {chunk table ends log run1 run2 run3 : List ℕ}
    (can : CanWindow list words chunk table ends log run1 run2 run3) where
  root : 0 < node_count (folded_keywords list)
  unfolding is_node
  root = omega (arith, number-below (folded_keywords list) [] refl, (root-number (folded_keywords list)).0)

  -- the first window starts at the root
  root-first : 0 ≡ (walked_of list 0 [] 0).node
  unfolding walked_of folded node_from
  root-first = sym (ap (node_number (folded_keywords list)) (root-number (folded_keywords list)).1 ∙ (root-number (folded_keywords list)).0)

  -- of the logs only their lengths count
  pub can-on : {log' run1' run2' run3' : List ℕ} → length log' ≡ length log → length run1' ≡ length run1 → length run2' ≡ length run2
      → length run3' ≡ length run3 → CanWindow list words chunk table ends log' run1' run2' run3'
  can-on h h1 h2 h3 = record {
    rows = can.rows;
    places = can.places;
    sizes = can.sizes;
    fits = can.fits;
    room = omega (arith, can.room);
    room1 = omega (arith, can.room1);
    room2 = omega (arith, can.room2);
    room3 = omega (arith, can.room3);
  }

  -- what is done is no longer than the chunk
  module _ (done rest : List ℕ) (split : chunk ≡ done ++ rest) where
    moves-most : (walked_of list 0 done 0).moves ≤ 32 + 2 * length chunk
    moves-most = omega (arith, walked-moves list can.rows.accepted 0 root done 0, ap length split, length-append done rest)

    log-most : length (walk_log list 0 done 0) ≤ length chunk
    log-most = omega (arith, log-short list can.rows.accepted 0 done 0, ap length split, length-append done rest)

  module _ (done window rest : List ℕ) (split : chunk ≡ done ++ (window ++ rest)) (short : length window ≤ 65536)
      (at node : ℕ) (place : at ≡ length done) (en : node ≡ (walked_of list 0 done 0).node) where
    next-split : chunk ≡ (done ++ window) ++ rest
    next-split = split ∙ sym (append_assoc done window rest)

    next-place : at + length window ≡ length (done ++ window)
    next-place = omega (arith, place, length-append done window)

    within : at + length window ≤ length chunk
    within = omega (arith, next-place, ap length next-split, length-append (done ++ window) rest)

    before : at ≡ 0 + length done
    before = omega (arith, place)

    inside : node < node_count (folded_keywords list)
    inside = omega (arith, en, walked-inside list can.rows.accepted 0 root done 0)

    log-next : walk_log list 0 (done ++ window) 0 ≡ walk_log list 0 done 0 ++ walk_log list node window at
    log-next = two-logs list can.rows.accepted 0 node 0 at done window root en before

    node-next : (walked_of list node window at).node ≡ (walked_of list 0 (done ++ window) 0).node
    node-next = sym (two-nodes list can.rows.accepted 0 node 0 at done window root en before)

    moves_next : (walked_of list 0 done 0).moves + (walked_of list node window at).moves ≡ (walked_of list 0 (done ++ window) 0).moves
    moves_next = sym (two-moves list can.rows.accepted 0 node 0 at done window root en before)

    -- the whole log begins so
    behind_log : List ℕ
    behind_log = walk_log list (walked_of list 0 (done ++ window) 0).node rest (at + length window)

    whole : walk_log list 0 chunk 0 ≡ walk_log list 0 (done ++ window) 0 ++ behind_log
    unfolding behind_log
    whole =
        ap (λ (l : List ℕ). walk_log list 0 l 0) next-split
        ∙ two-logs list can.rows.accepted 0 (walked_of list 0 (done ++ window) 0).node 0 (at + length window) (done ++ window) rest root refl
        (omega (arith, next-place))

    window-fits : AllFit ends words.len (walk_log list node window at)
    window-fits =
        fits-second ends words.len (walk_log list 0 done 0) (walk_log list node window at)
        (rw log-next at (fits-first ends words.len (walk_log list 0 (done ++ window) 0) behind_log (rw whole at can.fits)))

    pub window-walks : CanWalkLanes list table node (length window) at (length log) (length run1) (length run2) (length run3)
    window-walks = record {
      walks = record {
        rows = can.rows;
        inside = inside;
        places = omega (arith, within, can.places);
        long = omega (arith, can.room);
      };
      long1 = omega (arith, can.room1);
      long2 = omega (arith, can.room2);
      long3 = omega (arith, can.room3);
    }

    pub window-counts : CanCount list words node window at table ends log run1 run2 run3
    window-counts = record { walks = window-walks; sizes = can.sizes; fits = window-fits }

    -- what each list gets of it: the windows before it, it, and what is behind it
    lists-next : (counts : List ℕ) (k : ℕ) → log_run newest counts words.len ends (walk_log list 0 (done ++ window) 0) k
        ≡ log_run newest counts words.len ends (walk_log list 0 done 0) k ++ log_run newest counts words.len ends (walk_log list node window at) k
    lists-next counts k =
        ap (λ (l : List ℕ). log_run newest counts words.len ends l k) log-next
        ∙ lists-append counts words.len ends (walk_log list 0 done 0) (walk_log list node window at) k

    lists-parts : (counts : List ℕ) (k : ℕ) → log_run newest counts words.len ends (walk_log list 0 chunk 0) k
        ≡ log_run newest counts words.len ends (walk_log list 0 done 0) k
        ++ log_run newest counts words.len ends (walk_log list node window at) k ++ log_run newest counts words.len ends behind_log k
    lists-parts counts k =
        ap (λ (l : List ℕ). log_run newest counts words.len ends l k) whole
        ∙ lists-append counts words.len ends (walk_log list 0 (done ++ window) 0) behind_log k
        ∙ ap (λ (l : List ℕ). l ++ log_run newest counts words.len ends behind_log k) (lists-next counts k)

  -- ---- filling, window by window

  module _ (counts before c₀ : List ℕ) (lists : CanList words (log_run newest counts words.len ends (walk_log list 0 chunk 0)) before c₀ counts) where
    abbrev run : List ℕ → ℕ → List ℕ
    run entries = log_run newest counts words.len ends entries

    -- before the first nothing is filled
    nothing : (k : ℕ) → run (walk_log list 0 [] 0) k ≡ []
    unfolding walk_log folded log_from
    nothing k = lists-none counts words.len ends k

    pub filled-first : Filled list words ends counts chunk before c₀ chunk before c₀ 0 0
    unfolding walked_of folded node_from
    filled-first = record {
      done = [];
      split = refl;
      place = refl;
      last = root-first;
      bytes = none_filled words.count (cursor c₀) (run (walk_log list 0 [] 0)) before nothing;
      cursors = none-moved (run (walk_log list 0 [] 0)) c₀ lists.placed nothing;
    }

    module _ (window rest out c : List ℕ) (at node : ℕ) (f : Filled list words ends counts chunk before c₀ (window ++ rest) out c at node)
        (short : length window ≤ 65536) where
      abbrev after : List ℕ
      after = behind_log f.done window rest f.split short at node f.place f.last

      parts : (k : ℕ) → run (walk_log list 0 chunk 0) k
          ≡ run (walk_log list 0 f.done 0) k ++ run (walk_log list node window at) k ++ run after k
      parts k = lists-parts f.done window rest f.split short at node f.place f.last counts k

      pub filled-walks : CanWalkLanes list table node (length window) at (length log) (length run1) (length run2) (length run3)
      filled-walks = window-walks f.done window rest f.split short at node f.place f.last

      module _ (part : List ℕ) (p : part ≡ walk_log list node window at) where
        pub filled-can : CanList words (log_run newest counts words.len ends part) out c counts × AllFit ends words.len part
        filled-can = rw p (
          part-fills words (run (walk_log list 0 chunk 0)) (run (walk_log list 0 f.done 0)) (run (walk_log list node window at))
              (run after) parts before c₀ counts lists out c f.bytes f.cursors,
          window-fits f.done window rest f.split short at node f.place f.last,
        )

        pub filled-turn : (out' c' : List ℕ) (node' : ℕ) → node' ≡ (walked_of list node window at).node
            → out' ≡ patched words.count (cursor c) (log_run newest counts words.len ends part) out
            → c' ≡ moved_by (log_run newest counts words.len ends part) c
            → Filled list words ends counts chunk before c₀ rest out' c' (at + length window) node'
        filled-turn out' c' node' n e m = record {
          done = f.done ++ window;
          split = next-split f.done window rest f.split short at node f.place f.last;
          place = next-place f.done window rest f.split short at node f.place f.last;
          last = n ∙ node-next f.done window rest f.split short at node f.place f.last;
          bytes = part_filled words (run (walk_log list 0 chunk 0)) (run (walk_log list 0 f.done 0)) (run (walk_log list node window at))
              (run after) parts before c₀ counts lists out c f.bytes f.cursors
              (run (walk_log list 0 (f.done ++ window) 0)) (lists-next f.done window rest f.split short at node f.place f.last counts) out'
              (e ∙ ap (λ (l : List ℕ). patched words.count (cursor c) (run l) out) p);
          cursors = part_moved words (run (walk_log list 0 chunk 0)) (run (walk_log list 0 f.done 0)) (run (walk_log list node window at))
              (run after) parts before c₀ counts lists out c f.bytes f.cursors
              (run (walk_log list 0 (f.done ++ window) 0)) (lists-next f.done window rest f.split short at node f.place f.last counts) c'
              (m ∙ ap (λ (l : List ℕ). moved_by (run l) c) p);
        }

    -- behind the last all is
    pub filled-end : (rest out c : List ℕ) (at node : ℕ) → Filled list words ends counts chunk before c₀ rest out c at node → length rest ≡ 0
        → out ≡ patched words.count (cursor c₀) (log_run newest counts words.len ends (walk_log list 0 chunk 0)) before
    filled-end rest out c at node f z =
        f.bytes ∙ ap (λ (l : List ℕ). patched words.count (cursor c₀) (run (walk_log list 0 l 0)) before) (all_done chunk f.done rest f.split z)

  pub first-counts : (window rest : List ℕ) → chunk ≡ window ++ rest → length window ≤ 65536 → CanCount list words 0 window 0 table ends log run1 run2 run3
  first-counts window rest split short = window-counts [] window rest split short 0 0 refl root-first

  -- a chunk that is one window
  pub whole-counts : length chunk ≤ 65536 → CanCount list words 0 chunk 0 table ends log run1 run2 run3
  whole-counts h = first-counts chunk [] (sym (append-nil chunk)) h

  -- ---- counting, window by window

  pub toured-first : (window rest : List ℕ) (w : Counted) → chunk ≡ window ++ rest → w ≡ counted_of list ends words.len 0 window 0
      → Toured list ends words.len chunk rest (length window) w.node w.moves w.logged w.tally
  unfolding counted_of
  toured-first window rest w split e = record {
    done = window;
    split = split;
    place = refl;
    last = ap (λ (x : Counted). x.node) e;
    moved = ap (λ (x : Counted). x.moves) e;
    count = ap (λ (x : Counted). x.logged) e;
    told = ap (λ (x : Counted). x.tally) e;
  }

  module _ (window rest : List ℕ) (at node moves logged : ℕ) (tally : Tally)
      (t : Toured list ends words.len chunk (window ++ rest) at node moves logged tally) (short : length window ≤ 65536) where
    pub toured-counts : CanCount list words node window at table ends log run1 run2 run3
    toured-counts = window-counts t.done window rest t.split short at node t.place t.last

    split : chunk ≡ (t.done ++ window) ++ rest
    split = next-split t.done window rest t.split short at node t.place t.last

    log_is : walk_log list 0 (t.done ++ window) 0 ≡ walk_log list 0 t.done 0 ++ walk_log list node window at
    log_is = log-next t.done window rest t.split short at node t.place t.last

    module _ (w : Counted) (e : w ≡ counted_of list ends words.len node window at) where
      moves-is : moves + w.moves ≡ (walked_of list 0 (t.done ++ window) 0).moves
      unfolding counted_of
      moves-is =
          ap₂ {C = ℕ} (λ x y. x + y) t.moved (ap (λ (x : Counted). x.moves) e)
          ∙ moves_next t.done window rest t.split short at node t.place t.last

      logged-sum : logged + w.logged ≡ length (walk_log list 0 (t.done ++ window) 0)
      unfolding counted_of
      logged-sum = omega (
        arith,
        t.count,
        ap (λ (x : Counted). x.logged) e,
        ap length log_is,
        length-append (walk_log list 0 t.done 0) (walk_log list node window at),
      )

      pub sum-moves : moves + w.moves ≤ 32 + 2 * length chunk
      sum-moves = omega (arith, moves-is, moves-most (t.done ++ window) rest split)

      pub sum-logged : logged + w.logged ≤ length chunk
      sum-logged = omega (arith, logged-sum, log-most (t.done ++ window) rest split)

      pub toured-joins : CanJoin tally w.tally
      unfolding counted_of
      toured-joins = tally-joins ends words.len (walk_log list 0 t.done 0) (walk_log list node window at) tally w.tally t.told
          (ap (λ (x : Counted). x.tally) e) (omega (
            arith,
            ap length log_is,
            length-append (walk_log list 0 t.done 0) (walk_log list node window at),
            log-most (t.done ++ window) rest split,
            can.places,
          ))

      pub toured-turn : (tally' : Tally) → tally' ≡ tally_both tally w.tally
          → Toured list ends words.len chunk rest (at + length window) w.node (moves + w.moves) (logged + w.logged) tally'
      unfolding counted_of
      toured-turn tally' j = record {
        done = t.done ++ window;
        split = split;
        place = next-place t.done window rest t.split short at node t.place t.last;
        last = ap (λ (x : Counted). x.node) e ∙ node-next t.done window rest t.split short at node t.place t.last;
        moved = moves-is;
        count = logged-sum;
        told = j ∙ tally-join ends words.len (walk_log list 0 t.done 0) (walk_log list node window at) tally w.tally t.told
            (ap (λ (x : Counted). x.tally) e) ∙ ap (tally_of ends words.len) (sym log_is);
      }

  pub toured-end : (rest : List ℕ) (at node moves logged : ℕ) (tally : Tally) → length rest ≡ 0
      → Toured list ends words.len chunk rest at node moves logged tally
      → record { node = node; moves = moves; logged = logged; tally = tally } ≡ counted_of list ends words.len 0 chunk 0
  unfolding counted_of
  toured-end rest at node moves logged tally z t =
      let all = all_done chunk t.done rest t.split z in
      let p = t.last ∙ ap (λ (l : List ℕ). (walked_of list 0 l 0).node) all in
      let q = t.moved ∙ ap (λ (l : List ℕ). (walked_of list 0 l 0).moves) all in
      let r = t.count ∙ ap (λ (l : List ℕ). length (walk_log list 0 l 0)) all in
      let s = t.told ∙ ap (λ (l : List ℕ). tally_of ends words.len (walk_log list 0 l 0)) all in
      λ i. record { node = p i; moves = q i; logged = r i; tally = s i }
