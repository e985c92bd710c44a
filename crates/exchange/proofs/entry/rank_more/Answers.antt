use Rattle.std.proofs.Common.{◌≡◌, ◌+◌, ◌^◌, ◌<◌, ℤ, to_z, of_z, w64, List, ◌++◌, length, get_or, sym, subst, arith}
use Rattle.std.specs.List.Sorted.{IsPermutation}
use Rattle.exchange.specs.declared.entry.Entry.{Entry}
use Rattle.exchange.specs.Tries.{docs_of, no_entry, IsParted, IsFront}
use Rattle.exchange.proofs.Bounds.{read_back}
use Rattle.exchange.proofs.Exchanged.{Differ}
use Rattle.exchange.proofs.Fronts.{differ_drop}
use Rattle.exchange.proofs.Longer.{same_front, longer_front, rest_permuted}
use Rattle.exchange.proofs.entry.rank_more.Goals as goal

pub returns-then-front-others-clause-front : goal.returns-then-front-others-clause-front
returns-then-front-others-clause-front c = same_front c.args.front c.args.others.now c.args.entries.now (omega (arith, c.if-front-others.true)) c.requires.parted c.requires.ranked

pub rank_front-requires-clause-differ : goal.rank_front-requires-clause-differ
rank_front-requires-clause-differ c =
    subst (λ (xs : List Entry). Differ (docs_of xs)) (sym c.split_at_mut-rest.ensures.back) (differ_drop c.args.front c.args.entries.now c.requires.differ)

pub returns-clause-same : goal.returns-clause-same
returns-clause-same c =
    let front = c.args.front in
    let xs = c.args.entries.now in
    let new = c.rank_front.new.entries in
    let same = subst (λ (ys : List Entry). IsPermutation ys new) c.split_at_mut-rest.ensures.back c.rank_front.ensures.same in
    subst (λ (ys : List Entry). IsPermutation xs (ys ++ new)) (sym c.split_at_mut-rest.ensures.front) (rest_permuted front xs new same)

pub returns-clause-front : goal.returns-clause-front
returns-clause-front c =
    let front = c.args.front in
    let xs = c.args.entries.now in
    let others = c.args.others.now in
    let new = c.rank_front.new.entries in
    let same = subst (λ (ys : List Entry). IsPermutation ys new) c.split_at_mut-rest.ensures.back c.rank_front.ensures.same in
    let fewer : front < length others = omega (arith, c.requires.fewer, c.if-front-others.false) in
    let other = (get_or others front no_entry).gain in
    let back : to_z w64 (of_z w64 other) ≡ other = read_back (2 ^ 56) other (omega arith) (c.requires.low_others front no_entry fewer) in
    let parted = subst (λ (z : ℤ). IsParted c.rank_front.result z new) back c.rank_front.ensures.parted in
    subst (λ (ys : List Entry). IsFront (front + c.rank_front.result) others (ys ++ new)) (sym c.split_at_mut-rest.ensures.front)
    (longer_front front c.rank_front.result xs new others c.requires.parted c.requires.ranked c.requires.gaining c.requires.ranked_others fewer same parted c.rank_front.ensures.ranked)
