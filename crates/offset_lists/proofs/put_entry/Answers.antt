use Rattle.std.proofs.Common.{◌≡◌, ℕ, ◌+◌, ◌/◌, ◌^◌, ◌≤◌, ◌<◌, get_or, length, ap, ◌∙◌, arith}
use lib.Count.{count_trailing_zeros}
use Rattle.logs.proofs.Bits.{Next, next-member, changed-not, changed-turn}
use Rattle.offset_lists.specs.Runs.{cursor}
use Rattle.offset_lists.proofs.Filling.{piece, moves, member-turn, member-end, member-room}
use Rattle.offset_lists.proofs.put_entry.Goals as goal
use Rattle.offset_lists.proofs.put_entry.Goals.{In-loop-rest}

-- the next member
next : (c : In-loop-rest) → let l = c.loop-rest in let z = count_trailing_zeros 32 l.rest in
    Next c.args.members l.from (l.from + z) (l.rest / 2 ^ z / 2)
next c = next-member c.args.members c.loop-rest.from c.loop-rest.rest c.requires.few c.loop-rest.invariant.left (omega arith)

-- its piece has room
room : (c : In-loop-rest) → let l = c.loop-rest in let a = c.args in let k = l.from + count_trailing_zeros 32 l.rest in
    cursor l.cursors k + length (piece a.counts.now a.len.now a.members a.end k) ≤ length l.out
room c =
    let a = c.args in
    let l = c.loop-rest in
    omega (
      arith,
      member-room a.counts.now a.len.now a.members a.end _ _ _ (length a.out.now) a.cursors.now l.cursors (next c)
          l.invariant.cursors (c.requires.fill.room _),
    )

pub overflow_add-k : goal.overflow_add-k
overflow_add-k c = omega (arith, (next (goal.at.overflow_add-k c).In-loop-rest).known)

pub offset_bounds-cursors-k : goal.offset_bounds-cursors-k
offset_bounds-cursors-k c = omega (arith, (next (goal.at.offset_bounds-cursors-k c).In-loop-rest).known)

pub bounds-cursors-k : goal.bounds-cursors-k
bounds-cursors-k c = omega (arith, (next (goal.at.bounds-cursors-k c).In-loop-rest).known)

pub offset_bounds-len-k : goal.offset_bounds-len-k
offset_bounds-len-k c = omega (arith, (next (goal.at.offset_bounds-len-k c).In-loop-rest).known)

pub bounds-len-k : goal.bounds-len-k
bounds-len-k c = omega (arith, (next (goal.at.bounds-len-k c).In-loop-rest).known)

pub overflow_sub-end : goal.overflow_sub-end
overflow_sub-end c = c.requires.back _ (next (goal.at.overflow_sub-end c).In-loop-rest).here

pub offset_bounds-counts-k : goal.offset_bounds-counts-k
offset_bounds-counts-k c = omega (arith, (next (goal.at.offset_bounds-counts-k c).In-loop-rest).known)

pub bounds-counts-k : goal.bounds-counts-k
bounds-counts-k c = omega (arith, (next (goal.at.bounds-counts-k c).In-loop-rest).known)

pub put_offset-requires : goal.put_offset-requires
put_offset-requires c = room (goal.at.put_offset-requires c).In-loop-rest

pub overflow_add-cursors : goal.overflow_add-cursors
overflow_add-cursors c = omega (arith, room (goal.at.overflow_add-cursors c).In-loop-rest, c.put_offset.ensures.1)

pub offset_bounds-cursors-k-in-loop-rest : goal.offset_bounds-cursors-k-in-loop-rest
offset_bounds-cursors-k-in-loop-rest c = omega (arith, (next (goal.at.offset_bounds-cursors-k-in-loop-rest c).In-loop-rest).known)

pub bounds-cursors-k-in-loop-rest : goal.bounds-cursors-k-in-loop-rest
bounds-cursors-k-in-loop-rest c = omega (arith, (next (goal.at.bounds-cursors-k-in-loop-rest c).In-loop-rest).known)

pub overflow_add-from : goal.overflow_add-from
overflow_add-from c = omega (arith, (next (goal.at.overflow_add-from c).In-loop-rest).known)

pub loop-rest-smaller : goal.loop-rest-smaller
loop-rest-smaller c = let n = next (goal.at.loop-rest-smaller c).In-loop-rest in omega (arith, n.known, n.low)

pub loop-rest-preserved : goal.loop-rest-preserved
loop-rest-preserved c =
    let n = next (goal.at.loop-rest-preserved c).In-loop-rest in
    let a = c.args in
    let l = c.loop-rest in
    let k = l.from + count_trailing_zeros 32 l.rest in
    let x = get_or l.cursors k 0 + c.put_offset.result in
    let on : x ≡ cursor l.cursors k + length (piece a.counts.now a.len.now a.members a.end k) =
    ap (λ (y : ℕ). get_or l.cursors k 0 + y) c.put_offset.ensures.1 in
    let f = moves a.counts.now a.len.now a.members a.end in
    let was = changed-not a.members f l.from k a.cursors.now l.cursors l.invariant.cursors n.low in
    let within : k < length l.cursors = omega (arith, n.known) in
    record {
      left = n.above;
      cursors = changed-turn a.members f l.from k _ x a.cursors.now l.cursors n within (on ∙ ap (f k) was) l.invariant.cursors;
      bytes = λ m none apart. member-turn a.counts.now a.len.now a.members a.end m l.from k _ x a.cursors.now l.cursors
          a.out.now l.out c.put_offset.new.out n within on c.put_offset.ensures.0 (omega arith) l.invariant.cursors none apart
          ∙ l.invariant.bytes m none apart;
    }

pub returns : goal.returns
returns c =
    let a = c.args in
    let l = c.loop-rest in
    let none : 0 ≡ a.members / 2 ^ l.from = omega (arith, l.invariant.left) in
    member-end a.counts.now a.len.now a.members a.end l.from a.cursors.now l.cursors a.out.now l.out none l.invariant.cursors l.invariant.bytes
