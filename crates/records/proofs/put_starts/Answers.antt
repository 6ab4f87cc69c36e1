use Rattle.std.proofs.Common.{◌≡◌, ℕ, ◌+◌, ◌*◌, ◌-◌, ◌≤◌, ◌<◌, length, sym, ap, ap₂, ◌∙◌, zero-add, arith}
use borrow.Rule.Slice.PartMut.{mid_of}
use Rattle.spec.specs.Bytes.{splice}
use Rattle.spec.specs.Form.{newest}
use Rattle.records.specs.Bodies.{start_of, list_of}
use Rattle.records.specs.Summaries.{summary_of, start_bytes}
use Rattle.records.specs.declared.Summary.{Summary}
use Rattle.records.proofs.BodyLaws.{start_is, lists-is, keywords-few, found_prefix, found-suffix}
use Rattle.records.proofs.Beginning.{part_room, place-start, place-next, place-most, begun-start, begun-turn, cursors-start, cursors-turn, started-is}
use Rattle.records.proofs.put_starts.Goals as goal
use Rattle.records.proofs.put_starts.Goals.{In-loop-k, After-summary_of-s, After-put_start, After-listed_of}

few : (c : In-loop-k) → c.loop-k.k < 16
few c = omega (arith, c.loop-k-test.true, keywords-few c.args.list.now c.args.words c.requires.0.reads)

-- the record of keyword k has room
room : (c : In-loop-k) → let l = c.loop-k in let a = c.args in
    l.size + length (start_of a.list.now a.chunk.now l.k) + length (list_of a.list.now a.chunk.now l.k) ≤ length l.out
room c =
    let a = c.args in
    let l = c.loop-k in
    omega (arith, place-most a.list.now a.words c.requires.0.reads a.chunk.now l.k c.loop-k-test.true, l.invariant.place, c.requires.1)

pub loop-k-init : goal.loop-k-init
loop-k-init c =
    let a = c.args in
    record {
      bytes = begun-start a.list.now a.words c.requires.0.reads a.chunk.now a.out.now c.requires.1;
      place = sym (place-start a.list.now a.words c.requires.0.reads a.chunk.now);
      cursors = cursors-start a.list.now a.chunk.now;
    }

pub slice_bounds-put_start-count : goal.slice_bounds-put_start-count
slice_bounds-put_start-count c = omega (arith, room (goal.at.slice_bounds-put_start-count c).In-loop-k)

pub slice_bounds-put_start-start : goal.slice_bounds-put_start-start
slice_bounds-put_start-start c = omega (arith, room (goal.at.slice_bounds-put_start-start c).In-loop-k)

-- what is written of it
starts : (c : After-summary_of-s) (n : ℕ) → start_bytes newest n c.loop-k.k c.summary_of-s.result ≡ start_of c.args.list.now c.args.chunk.now c.loop-k.k
starts c n =
    let a = c.args in
    start_is a.list.now a.words c.requires.0.reads a.chunk.now c.loop-k.k c.loop-k-test.true c.summary_of-s.result c.summary_of-s.ensures n

pub put_start-requires : goal.put_start-requires
unfolding summary_of
put_start-requires c =
    let g = goal.at.put_start-requires c in
    let a = c.args in
    let k = c.loop-k.k in
    let e = c.summary_of-s.ensures in
    let h = c.loop-k-test.true in
    record {
      number = omega (arith, few g.In-loop-k);
      prefixed = omega (arith, ap (λ (x : Summary). x.prefix) e, found_prefix a.list.now a.words c.requires.0.reads k h a.chunk.now);
      suffixed = omega (arith, ap (λ (x : Summary). x.suffix) e, found-suffix a.list.now a.words c.requires.0.reads k h a.chunk.now);
      room = part_room c.loop-k.out c.loop-k.size (length (start_bytes newest 0 k c.summary_of-s.result))
          (omega (arith, room g.In-loop-k, ap length (starts g.After-summary_of-s 0)));
    }

-- where it ends
ended : (c : After-put_start) → c.put_start.result ≡ length (start_of c.args.list.now c.args.chunk.now c.loop-k.k)
ended c =
    let a = c.args in
    let m = c.summary_of-s in
    (c.put_start.ensures 0).ends ∙ zero-add _
    ∙ ap length (start_is a.list.now a.words c.requires.0.reads a.chunk.now c.loop-k.k c.loop-k-test.true m.result m.ensures 0)

pub overflow_add-end : goal.overflow_add-end
overflow_add-end c = let g = goal.at.overflow_add-end c in omega (arith, ended g.After-put_start, room g.In-loop-k)

pub offset_bounds-cursors-k : goal.offset_bounds-cursors-k
offset_bounds-cursors-k c = omega (arith, few (goal.at.offset_bounds-cursors-k c).In-loop-k)

pub bounds-cursors-k : goal.bounds-cursors-k
bounds-cursors-k c = omega (arith, few (goal.at.bounds-cursors-k c).In-loop-k)

-- how long its list is
list : (c : After-listed_of) → newest.width * c.listed_of.result ≡ length (list_of c.args.list.now c.args.chunk.now c.loop-k.k)
list c =
    let a = c.args in
    lists-is a.list.now a.words c.requires.0.reads a.chunk.now c.loop-k.k c.loop-k-test.true c.summary_of-s.result c.summary_of-s.ensures
    c.listed_of.result c.listed_of.ensures

pub overflow_mul-size : goal.overflow_mul-size
overflow_mul-size c = let g = goal.at.overflow_mul-size c in omega (arith, list g.After-listed_of, room g.In-loop-k)

pub overflow_add-size : goal.overflow_add-size
overflow_add-size c =
    let g = goal.at.overflow_add-size c in
    omega (arith, list g.After-listed_of, ended g.After-put_start, room g.In-loop-k)

pub loop-k-preserved : goal.loop-k-preserved
loop-k-preserved c =
    let g = goal.at.loop-k-preserved c in
    let a = c.args in
    let l = c.loop-k in
    let w = c.put_start in
    let end = ended g.After-put_start in
    record {
      bytes = begun-turn a.list.now a.words c.requires.0.reads a.chunk.now a.out.now c.requires.1 l.k l.out w.new.out l.size c.loop-k-test.true
          l.invariant.bytes l.invariant.place
          ((w.ensures 0).written ∙ ap (splice (mid_of l.size (length l.out - l.size) l.out) 0) (starts g.After-summary_of-s 0));
      place = omega (arith, end, list g.After-listed_of, l.invariant.place, place-next a.list.now a.words c.requires.0.reads a.chunk.now l.k);
      cursors = cursors-turn a.list.now a.words c.requires.0.reads a.chunk.now l.k l.cursors (l.size + w.result) c.loop-k-test.true
          (ap₂ {C = ℕ} (λ x y. x + y) l.invariant.place end) l.invariant.cursors;
    }

pub returns : goal.returns
returns c =
    let a = c.args in
    let l = c.loop-k in
    let all : l.k ≡ a.words.count = omega arith in (
      rw all at l.invariant.bytes,
      started-is a.list.now a.words c.requires.0.reads a.chunk.now l.k l.size l.cursors (omega arith) c.loop-k-test.false l.invariant.place
          l.invariant.cursors,
    )
