use Rattle.std.proofs.Common.{ℕ, ◌<◌, List, length, sym, subst, ap, arith, All}
use Rattle.std.specs.List.Sorted.{IsStrictlyIncreasing}
use Rattle.std.proofs.lemmas.List.FromFn.{length-range_with_len}
use Rattle.bisection.proofs.Places.{range_rising, range_below}
use Rattle.bisection.proofs.cell.halve_places.Goals as goal

pub halve-requires-clause-some : goal.halve-requires-clause-some
halve-requires-clause-some g c κs within =
    omega (arith, c.requires.some, ap length c.requires.places, length-range_with_len 0 (length c.args.rows.now.rows))

pub halve-requires-clause-rising : goal.halve-requires-clause-rising
halve-requires-clause-rising g c κs within =
    subst (λ (xs : List ℕ). IsStrictlyIncreasing xs) (sym c.requires.places) (range_rising (length c.args.rows.now.rows))

pub halve-requires-clause-below : goal.halve-requires-clause-below
halve-requires-clause-below g c κs within =
    subst (λ (xs : List ℕ). All (λ k. k < length c.args.rows.now.rows) xs) (sym c.requires.places) (range_below (length c.args.rows.now.rows))

pub halve-requires-clause-room : goal.halve-requires-clause-room
halve-requires-clause-room g c κs within =
    omega (arith, ap length c.requires.places, length-range_with_len 0 (length c.args.rows.now.rows), c.docs.ensures.same, c.in_ok-scratch.ensures)
