use Rattle.std.proofs.Common.{◌≡◌, ℕ, ◌+◌, ◌-◌, ◌/◌, ◌^◌, get_or, ap, refl, arith}
use lib.Count.{count_trailing_zeros}
use Rattle.logs.proofs.Bits.{Next, next-member, changed-not, changed-turn, changed-end}
use Rattle.logs.proofs.count_entry.Goals as goal
use Rattle.logs.proofs.count_entry.Goals.{In-loop-rest}

-- the next member
next : (c : In-loop-rest) → let l = c.loop-rest in let z = count_trailing_zeros 32 l.rest in
    Next c.args.members l.from (l.from + z) (l.rest / 2 ^ z / 2)
next c = next-member c.args.members c.loop-rest.from c.loop-rest.rest c.requires.few c.loop-rest.invariant.left (omega arith)

pub overflow_add-k : goal.overflow_add-k
overflow_add-k c = omega (arith, (next (goal.at.overflow_add-k c).In-loop-rest).known)

pub offset_bounds-counts-k : goal.offset_bounds-counts-k
offset_bounds-counts-k c = omega (arith, (next (goal.at.offset_bounds-counts-k c).In-loop-rest).known)

pub bounds-counts-k : goal.bounds-counts-k
bounds-counts-k c = omega (arith, (next (goal.at.bounds-counts-k c).In-loop-rest).known)

pub bounds-counts-k-in-loop-rest : goal.bounds-counts-k-in-loop-rest
bounds-counts-k-in-loop-rest c = omega (arith, (next (goal.at.bounds-counts-k-in-loop-rest c).In-loop-rest).known)

pub offset_bounds-len-k : goal.offset_bounds-len-k
offset_bounds-len-k c = omega (arith, (next (goal.at.offset_bounds-len-k c).In-loop-rest).known)

pub bounds-len-k : goal.bounds-len-k
bounds-len-k c = omega (arith, (next (goal.at.bounds-len-k c).In-loop-rest).known)

pub overflow_sub-firsts : goal.overflow_sub-firsts
overflow_sub-firsts c = c.requires.back _ (next (goal.at.overflow_sub-firsts c).In-loop-rest).here

pub offset_bounds-firsts-k : goal.offset_bounds-firsts-k
offset_bounds-firsts-k c = omega (arith, (next (goal.at.offset_bounds-firsts-k c).In-loop-rest).known)

pub bounds-firsts-k : goal.bounds-firsts-k
bounds-firsts-k c = omega (arith, (next (goal.at.bounds-firsts-k c).In-loop-rest).known)

pub overflow_add-from : goal.overflow_add-from
overflow_add-from c = omega (arith, (next (goal.at.overflow_add-from c).In-loop-rest).known)

pub loop-rest-smaller : goal.loop-rest-smaller
loop-rest-smaller c = let n = next (goal.at.loop-rest-smaller c).In-loop-rest in omega (arith, n.known, n.low)

pub loop-rest-preserved : goal.loop-rest-preserved
loop-rest-preserved c =
    let n = next (goal.at.loop-rest-preserved c).In-loop-rest in
    let a = c.args in
    let l = c.loop-rest in
    let one : ℕ → ℕ → ℕ = λ k x. x + 1 in
    let offset : ℕ → ℕ → ℕ = λ k x. a.end - get_or a.len.now k 0 in
    record {
      left = n.above;
      counts = changed-turn a.members one _ _ _ _ _ _ n (omega (arith, n.known)) (ap (λ x. x + 1) (changed-not a.members one _ _ _ _ l.invariant.counts n.low))
          l.invariant.counts;
      firsts = changed-turn a.members offset _ _ _ _ _ _ n (omega (arith, n.known)) refl l.invariant.firsts;
    }

pub returns : goal.returns
returns c =
    let a = c.args in
    let v = c.loop-rest.invariant in
    let none : 0 ≡ a.members / 2 ^ c.loop-rest.from = omega (arith, v.left) in (
      changed-end a.members (λ k x. x + 1) _ _ _ none v.counts,
      changed-end a.members (λ k x. a.end - get_or a.len.now k 0) _ _ _ none v.firsts,
    )
