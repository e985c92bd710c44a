use Rattle.std.proofs.Common.{◌<◌, ◌<ℤ◌, ◌+ℤ◌, pos, length, get_or, arith}
use Rattle.std.proofs.lemmas.Int.{ints}
use borrow.Author.Count.{below_more}
use Rattle.exchange.specs.Tries.{no_entry}
use Rattle.exchange.proofs.entry.gaining_pairs.Goals as goal

pub returns-then-a-rank-le0 : goal.returns-then-a-rank-le0
returns-then-a-rank-le0 c =
    let a = c.args.a.now in
    let b = c.args.b.now in
    let n = c.loop-rank.rank in
    let in_a : n < length a = omega (arith, c.min-most.ensures) in
    let in_b : n < length b = omega (arith, c.min-most.ensures) in
    let low_a = c.requires.low_a n no_entry in_a in
    let low_b = c.requires.low_b n no_entry in_b in
    let test = c.if-a-rank-le0.true in
    record {
      passed = record {
        within_a = omega (arith, in_a);
        within_b = omega (arith, in_b);
        passed = c.loop-rank.invariant;
        next = λ u v. grind (arith, ints);
      };
    }

pub loop-rank-preserved : goal.loop-rank-preserved
loop-rank-preserved c =
    let a = c.args.a.now in
    let b = c.args.b.now in
    let n = c.loop-rank.rank in
    let in_a : n < length a = omega (arith, c.min-most.ensures) in
    let in_b : n < length b = omega (arith, c.min-most.ensures) in
    let low_a = c.requires.low_a n no_entry in_a in
    let low_b = c.requires.low_b n no_entry in_b in
    let test = c.if-a-rank-le0.false in
    let here : pos 0 <ℤ ((get_or a n no_entry).gain +ℤ (get_or b n no_entry).gain) = grind (arith, ints) in
    below_more (λ k. pos 0 <ℤ ((get_or a k no_entry).gain +ℤ (get_or b k no_entry).gain)) n c.loop-rank.invariant here

pub returns : goal.returns
returns c = record {
  passed = record {
    within_a = omega (arith, c.min-most.ensures);
    within_b = omega (arith, c.min-most.ensures);
    passed = λ k within. c.loop-rank.invariant k (omega (arith, c.loop-rank.auto.rank-end));
    next = λ u v. absurd (omega (arith, c.min-most.ensures));
  };
}
