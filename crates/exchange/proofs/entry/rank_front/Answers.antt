use Rattle.std.proofs.Common.{◌≡◌, ◌^◌, ℤ, ◌++◌, to_z, of_z, w64, drop, subst, arith}
use Rattle.std.proofs.lemmas.List.Elements.{All-take}
use Rattle.std.proofs.lemmas.List.Sorted.{All-permutation}
use Rattle.exchange.specs.Tries.{docs_of, IsLow, IsParted}
use Rattle.exchange.proofs.Bounds.{read_back}
use Rattle.exchange.proofs.Exchanged.{Differ-permutation}
use Rattle.exchange.proofs.Fronts.{docs_to}
use Rattle.exchange.proofs.Parted.{differ_front, front_permuted, front_parted}
use Rattle.exchange.proofs.entry.rank_front.Goals as goal

pub rank-requires-clause-differ : goal.rank-requires-clause-differ
rank-requires-clause-differ c =
    let old = c.args.entries.now in
    let xs = c.part-front.new.entries in
    differ_front c.part-front.result xs (Differ-permutation (docs_of old) (docs_of xs) (docs_to old xs c.part-front.ensures.same) c.requires.differ)

pub rank-requires-clause-low : goal.rank-requires-clause-low
rank-requires-clause-low c =
    let xs = c.part-front.new.entries in
    All-take IsLow c.part-front.result xs (All-permutation IsLow c.args.entries.now xs c.part-front.ensures.same c.requires.low)

pub greatest-greatest-requires : goal.greatest-greatest-requires
greatest-greatest-requires c =
    let xs = c.part-front.new.entries in
    record { low = All-take IsLow c.part-front.result xs (All-permutation IsLow c.args.entries.now xs c.part-front.ensures.same c.requires.low) }

pub returns-clause-same : goal.returns-clause-same
returns-clause-same c = front_permuted c.part-front.result c.args.entries.now c.part-front.new.entries c.rank.new.entries c.part-front.ensures.same c.rank.ensures.same

pub returns-clause-parted : goal.returns-clause-parted
returns-clause-parted c =
    let other = c.args.other in
    let back : to_z w64 (of_z w64 other) ≡ other = read_back (2 ^ 56) other (omega arith) c.requires.small in
    let xs = c.part-front.new.entries in
    let new = c.rank.new.entries in
    subst (λ (z : ℤ). IsParted c.part-front.result z (new ++ drop c.part-front.result xs)) back (front_parted c.part-front.result (to_z w64 (of_z w64 other)) xs new c.part-front.ensures.parted c.rank.ensures.same)
