-- What counting a chunk gives, as its records are told from it; what a body is that was begun and filled; marks. Assumes nothing.
use mathlib.Core.Path.{◌≡◌, refl, sym, ap, ap₂, ◌∙◌}
use mathlib.Core.Logic.{◌≢◌}
use mathlib.Core.Bool.{Bool, true, false, cond}
use mathlib.Core.List.{List, []}
use Prim.Native.Nat.{ℕ, ◌+◌, ◌*◌, ◌/◌, ◌%◌, ◌≤◌, ◌<◌}
use native.Mathlib.Omega.{arith}
use lib.ListN.{length, take, length-take}
use lib.Dec.{eqb}
use Rattle.spec.specs.Bytes.{written}
use Rattle.spec.specs.Keywords.{flag_of, folded, folded_keywords}
use Rattle.spec.specs.Form.{newest}
use Rattle.spec.specs.Scan.{scan_body}
use Rattle.spec.proofs.Tests.{eqb-ne}
use Rattle.spec.proofs.Splices.{splice-read}
use Rattle.spec.proofs.RecordLaws.{no-offsets, eq_of}
use Rattle.spec.proofs.KeywordLaws.{accepted}
use Rattle.keywords.specs.declared.Keywords.{Keywords}
use Rattle.spec.specs.Trie.{node_after, node_from, moves_from}
use Rattle.trie.specs.Numbers.{node_count, node_number, node_at}
use Rattle.trie.proofs.Numbering.{number-below, root-number, accepted-count}
use Rattle.trie.proofs.Walks.{walk-node-is}
use Rattle.automaton.specs.Automaton.{log_from}
use Rattle.automaton.specs.Walking.{walked_of, walk_log, number_after}
use Rattle.spec.proofs.Forms.{newest-read}
use Rattle.records.specs.declared.Started.{Started}
use Rattle.logs.specs.Log.{logged_offsets, AllFit}
use Rattle.records.specs.Bodies.{start_of, place_of, started_of, Tells}
use Rattle.offset_lists.specs.Patches.{patched}
use Rattle.offset_lists.specs.Runs.{log_run, cursor, CanList}
use Rattle.logs.specs.Tallies.{tally_of}
use Rattle.records.proofs.Beginning.{started-size}
use Rattle.records.proofs.BodyLaws.{lens}
use Rattle.records.proofs.Telling.{Sources, sources-fit, sources-tell}
use Rattle.records.proofs.Whole.{can-list, body-filled}
use Rattle.windows.specs.Windows.{counted_of, CanWindow}
use Rattle.windows.specs.declared.Counted.{Counted}
use Rattle.chunkwalk.specs.declared.Measured.{Measured}
use Rattle.chunkwalk.specs.Marks.{chunk_log, chunk_moves, mark_of, measured_of, Usable, walked_moves, written_of, nothing, Equipped}
use Rattle.chunkwalk.specs.declared.Written.{Written}

module _ {list : List ℕ} {words : Keywords} {table ends tails entries run1 run2 run3 : List ℕ}
    (e : Equipped list words table ends tails entries run1 run2 run3) (chunk : List ℕ) (short : length chunk ≤ newest.longest_chunk) where
  -- node 0 is the root
  root : node_at (folded_keywords list) 0 ≡ []
  root = (root-number (folded_keywords list)).1

  -- a chunk's log, as the walk from node 0 leaves it
  abbrev entries_of : List ℕ
  entries_of = walk_log list 0 chunk 0

  walk-log : walk_log list 0 chunk 0 ≡ chunk_log list chunk
  unfolding walk_log chunk_log
  walk-log = ap (λ (u : List ℕ). log_from (folded_keywords list) u 0 (folded (flag_of list) chunk)) root

  -- the records are told from the log and the last node
  sources : (log : List ℕ) (last : ℕ) → log ≡ chunk_log list chunk → last ≡ number_after list chunk → Sources list words chunk log ends tails last
  unfolding chunk_log number_after
  sources log last p q = record {
    reads = e.reads;
    short = short;
    tabled = e.tabled;
    walked = record { logged = p; ended = q };
  }

  all_fit : AllFit ends words.len (walk_log list 0 chunk 0)
  all_fit = sources-fit list words chunk entries_of ends tails (number_after list chunk) (sources entries_of (number_after list chunk) walk-log refl)

  -- the windows can be walked
  pub can-window : CanWindow list words chunk table ends entries run1 run2 run3
  can-window = record {
    rows = e.rows;
    places = omega (arith, newest-read.longest);
    sizes = lens list words e.reads;
    fits = all_fit;
    room = e.room;
    room1 = e.room1;
    room2 = e.room2;
    room3 = e.room3;
  }

  -- ---- what counting gives

  module _ (w : Counted) (a : w ≡ counted_of list ends words.len 0 chunk 0) where
    pub count-node : w.node ≡ number_after list chunk
    unfolding counted_of walked_of number_after
    count-node = ap (λ (x : Counted). x.node) a ∙ ap (λ (u : List ℕ). node_number (folded_keywords list)
        (node_from (folded_keywords list) u (folded (flag_of list) chunk))) root

    count-moves : w.moves ≡ chunk_moves list chunk
    unfolding counted_of walked_of chunk_moves
    count-moves = ap (λ (x : Counted). x.moves) a ∙ ap (λ (u : List ℕ). moves_from (folded_keywords list) u (folded (flag_of list) chunk)) root

    count-logged : w.logged ≡ length (walk_log list 0 chunk 0)
    unfolding counted_of
    count-logged = ap (λ (x : Counted). x.logged) a

    count-tally : w.tally ≡ tally_of ends words.len (walk_log list 0 chunk 0)
    unfolding counted_of
    count-tally = ap (λ (x : Counted). x.tally) a

    counted-sources : Sources list words chunk (walk_log list 0 chunk 0) ends tails w.node
    counted-sources = sources entries_of w.node walk-log count-node

    pub count-tells : Tells list words chunk tails w.node w.tally
    count-tells = sources-tell list words chunk entries_of ends tails w.node counted-sources w.tally count-tally

    -- the part of the log that was written, which is as long as it says
    module _ (l l₁ : List ℕ) (p : l₁ ≡ written l (walk_log list 0 chunk 0)) where
      pub count-part : take w.logged l₁ ≡ walk_log list 0 chunk 0
      count-part = rw (count-logged, p) (splice-read l 0 (walk_log list 0 chunk 0) (omega arith))

      pub count-part-length : w.logged ≡ length (take w.logged l₁)
      count-part-length = count-logged ∙ sym (ap length count-part)

      pub count-part-room : w.logged ≤ length l₁
      count-part-room = omega (arith, count-part-length, length-take w.logged l₁)

    pub measured-is : (size mark : ℕ) → size ≡ length (scan_body newest list chunk) → mark ≡ w.node * 2 + cond (eqb w.logged 0) 0 1
        → record { size = size; moves = w.moves; mark = mark } ≡ measured_of list chunk
    unfolding measured_of mark_of
    measured-is size mark p q =
        let m : mark ≡ mark_of list chunk =
        q ∙ ap₂ {C = ℕ} (λ x y. x * 2 + cond (eqb y 0) 0 1) count-node (count-logged ∙ ap length walk-log) in
        λ i. record { size = p i; moves = count-moves i; mark = m i }

    -- ---- a body begun and filled

    module _ (before begun : List ℕ) (started : Started) (fits : length (scan_body newest list chunk) ≤ length before)
        (b : begun ≡ patched words.count (place_of list chunk) (start_of list chunk) before) (c : started ≡ started_of list chunk) where
      pub lists-room : CanList words (log_run newest w.tally.counts words.len ends (walk_log list 0 chunk 0)) begun started.cursors w.tally.counts
      lists-room = can-list list words chunk entries_of ends tails w.node counted-sources w.tally count-tally before begun started fits b c

      -- from the log, or from a part of an array that has it
      pub log-room : (part : List ℕ) → part ≡ walk_log list 0 chunk 0
          → CanList words (log_run newest w.tally.counts words.len ends part) begun started.cursors w.tally.counts × AllFit ends words.len part
      log-room part p = rw p (lists-room, all_fit)

      pub written-whole : (after : List ℕ) → after
          ≡ patched words.count (cursor started.cursors) (log_run newest w.tally.counts words.len ends (walk_log list 0 chunk 0)) begun
          → (after ≡ written before (scan_body newest list chunk)) × (record { size = started.size; moves = w.moves } ≡ written_of list chunk 1)
      unfolding written_of walked_moves
      written-whole after p =
          let size = started-size list chunk started c in (
            body-filled list words chunk entries_of ends tails w.node counted-sources w.tally count-tally before begun started fits b c after p,
            λ i. record { size = size i; moves = count-moves i },
          )

      pub written-part : (part after : List ℕ) → part ≡ walk_log list 0 chunk 0 → after
          ≡ patched words.count (cursor started.cursors) (log_run newest w.tally.counts words.len ends part) begun
          → (after ≡ written before (scan_body newest list chunk)) × (record { size = started.size; moves = w.moves } ≡ written_of list chunk 1)
      written-part part after q p =
          written-whole after (p ∙ ap (λ (l : List ℕ). patched words.count (cursor started.cursors)
          (log_run newest w.tally.counts words.len ends l) begun) q)

  -- a node's number is small
  pub last-few : number_after list chunk < 1048576
  unfolding number_after
  last-few =
      let u : List ℕ = node_after (folded_keywords list) (folded (flag_of list) chunk) in
      omega (arith, number-below (folded_keywords list) u (walk-node-is (folded_keywords list) (folded (flag_of list) chunk)).0, nodes-few)
    where
      nodes-few : node_count (folded_keywords list) ≤ 513
      nodes-few = accepted-count list (accepted list e.reads.accepted)

  -- ---- marks

  module _ (mark : ℕ) (even : mark % 2 ≡ 0) (usable : Usable list chunk mark) where
    m : mark ≡ mark_of list chunk
    m = usable even

    pub mark-node : mark / 2 ≡ number_after list chunk
    unfolding mark_of
    mark-node = go (eqb (length (chunk_log list chunk)) 0) m
      where
        go : (b : Bool) → mark ≡ number_after list chunk * 2 + cond b 0 1 → mark / 2 ≡ number_after list chunk
        go true p = omega arith
        go false p = omega arith

    pub mark-none : [] ≡ chunk_log list chunk
    unfolding mark_of
    mark-none = sym (no-offsets (chunk_log list chunk) (eq_of (length (chunk_log list chunk)) 0 (go (eqb (length (chunk_log list chunk)) 0) m)))
      where
        go : (b : Bool) → mark ≡ number_after list chunk * 2 + cond b 0 1 → b ≡ true
        go true p = refl
        go false p = let x : ⊥ = omega (arith, even) in absurd x

    -- the tally of no entry tells its records
    pub none-tells : Tells list words chunk tails (mark / 2) nothing
    unfolding tally_of logged_offsets
    none-tells = sources-tell list words chunk [] ends tails (mark / 2) (sources [] (mark / 2) mark-none mark-node) nothing refl

    -- written without a walk
    pub written_none : (size : ℕ) → size ≡ length (scan_body newest list chunk) → record { size = size; moves = 0 } ≡ written_of list chunk mark
    unfolding written_of walked_moves
    written_none size p = λ i. record { size = p i; moves = none i }
      where
        none : 0 ≡ cond (eqb (mark % 2) 0) 0 (chunk_moves list chunk)
        none = rw even

-- written by a walk, whatever odd mark asked for it
pub written-odd : (list chunk : List ℕ) (mark : ℕ) → mark % 2 ≢ 0 → written_of list chunk 1 ≡ written_of list chunk mark
unfolding written_of walked_moves
written-odd list chunk mark odd =
    let e : chunk_moves list chunk ≡ cond (eqb (mark % 2) 0) 0 (chunk_moves list chunk) = rw (eqb-ne (mark % 2) 0 odd) in
    λ i. record { size = length (scan_body newest list chunk); moves = e i }

-- of the logs only their lengths count
pub equipped-on : {list : List ℕ} {words : Keywords} {table ends tails log run1 run2 run3 log' run1' run2' run3' : List ℕ}
    → Equipped list words table ends tails log run1 run2 run3
    → length log' ≡ length log → length run1' ≡ length run1 → length run2' ≡ length run2 → length run3' ≡ length run3
    → Equipped list words table ends tails log' run1' run2' run3'
equipped-on e h h1 h2 h3 = record {
  reads = e.reads;
  rows = e.rows;
  tabled = e.tabled;
  room = omega (arith, e.room);
  room1 = omega (arith, e.room1);
  room2 = omega (arith, e.room2);
  room3 = omega (arith, e.room3);
}

-- what measuring gives, number by number
module _ (list chunk : List ℕ) (m : Measured) (e : m ≡ measured_of list chunk) where
  pub measured-size : m.size ≡ length (scan_body newest list chunk)
  unfolding measured_of
  measured-size = ap (λ (x : Measured). x.size) e

  pub measured-moves : m.moves ≡ chunk_moves list chunk
  unfolding measured_of
  measured-moves = ap (λ (x : Measured). x.moves) e

  pub measured-mark : m.mark ≡ mark_of list chunk
  unfolding measured_of
  measured-mark = ap (λ (x : Measured). x.mark) e

-- what writing gives, number by number
module _ (list chunk : List ℕ) (mark : ℕ) (w : Written) (e : w ≡ written_of list chunk mark) where
  pub written-size : w.size ≡ length (scan_body newest list chunk)
  unfolding written_of
  written-size = ap (λ (x : Written). x.size) e

  pub written-moves : w.moves ≡ walked_moves list chunk mark
  unfolding written_of
  written-moves = ap (λ (x : Written). x.moves) e
