use Rattle.std.proofs.Common.{◌≡◌, ℕ, ◌+◌, ◌-◌, ◌/◌, ◌<◌, ◌++◌, List, length, get_or, take, drop, map, sym, subst, ap, ◌∙◌, arith, All}
use Rattle.std.proofs.lemmas.List.Elements.{All-take, All-drop}
use Rattle.std.proofs.lemmas.List.Sorted.{All-permutation}
use Rattle.exchange.specs.Halving.{half_a, half_b, halves_of}
use Rattle.bisection.specs.Recursion.{all_places}
use Rattle.bisection.specs.Progress.{limits_of}
use Rattle.bisection.specs.Cells.{IsPartOf, IsCellIn}
use Rattle.bisection.proofs.Places.{places_are, put_whole, range_rising, range_below, halves_join}
use Rattle.bisection.proofs.cell.halve_cell.Goals as goal

pub halve_places-requires-clause-places : goal.halve_places-requires-clause-places
halve_places-requires-clause-places g c κs within =
    let n = length c.args.rows.now.rows in
    c.deref_mut.ensures.value
    ∙ places_are n c.in_ok-places.places.items (c.in_ok-places.ensures.len ∙ c.docs.ensures.same) (λ k lt. c.in_ok-places.ensures.each k (omega (arith, lt, c.docs.ensures.same)))

pub arrange-requires-clause-below : goal.arrange-requires-clause-below
arrange-requires-clause-below g c =
    let rows = c.args.rows.now in
    let n = length rows.rows in
    let new = c.halve_places.new.places in
    let order : c.deref.result.now ≡ new =
    c.deref.ensures.value ∙ put_whole c.in_ok-places.places.len new c.in_ok-places.places.items (omega (arith, c.halve_places.auto.places, c.deref_mut.ensures.len, c.in_ok-places.places.ok.0)) (omega (arith, c.in_ok-places.places.ok.0)) in
    let keep = c.requires.laws.keep rows (all_places rows) c.args.slab.now.options.rounds (halves_of new) c.in_ok-kept.kept (range_rising n) c.in_ok-kept.ensures.ok in
    let both : All (λ k. k < n) (half_a new ++ half_b new) = All-permutation (λ (k : ℕ). k < n) (all_places rows) (half_a new ++ half_b new) keep.documents (range_below n) in
    let all : All (λ k. k < length c.args.docs.now) new = subst (λ (m : ℕ). All (λ k. k < m) new) (sym c.requires.len) (subst (λ (xs : List ℕ). All (λ k. k < n) xs) (halves_join new) both) in
    subst (λ (xs : List ℕ). All (λ k. k < length c.args.docs.now) xs) (sym order) all

pub parts_of-requires-clause-cell : goal.parts_of-requires-clause-cell
parts_of-requires-clause-cell g c κs within =
    let rows = c.args.rows.now in
    let n = length rows.rows in
    let new = c.halve_places.new.places in
    let order : c.deref-2.result.now ≡ new =
    c.deref-2.ensures.value ∙ put_whole c.in_ok-places.places.len new c.in_ok-places.places.items (omega (arith, c.halve_places.auto.places, c.deref_mut.ensures.len, c.in_ok-places.places.ok.0)) (omega (arith, c.in_ok-places.places.ok.0)) in
    let keep = c.requires.laws.keep rows (all_places rows) c.args.slab.now.options.rounds (halves_of new) c.in_ok-kept.kept (range_rising n) c.in_ok-kept.ensures.ok in
    let both : All (λ k. k < n) (half_a new ++ half_b new) = All-permutation (λ (k : ℕ). k < n) (all_places rows) (half_a new ++ half_b new) keep.documents (range_below n) in
    let all : All (λ k. k < n) new = subst (λ (xs : List ℕ). All (λ k. k < n) xs) (halves_join new) both in
    let middle : c.len.result - c.len-2.result / 2 ≡ (length new + 1) / 2 = omega (arith, c.len.ensures, c.len-2.ensures, c.halve_places.auto.places, c.deref_mut.ensures.len, c.in_ok-places.places.ok.0) in
    let front : c.split_at.result.0.now ≡ half_a new = c.split_at.ensures.front ∙ ap (λ (xs : List ℕ). take (c.len.result - c.len-2.result / 2) xs) order ∙ ap (λ (k : ℕ). take k new) middle in
    let here : IsCellIn rows (half_a new) = record { rising = keep.rising_a; below = All-take (λ (k : ℕ). k < n) ((length new + 1) / 2) new all } in
    subst (λ (xs : List ℕ). IsCellIn rows xs) (sym front) here

pub parts_of-requires-clause-cell_b : goal.parts_of-requires-clause-cell_b
parts_of-requires-clause-cell_b g c κs within =
    let rows = c.args.rows.now in
    let n = length rows.rows in
    let new = c.halve_places.new.places in
    let order : c.deref-2.result.now ≡ new =
    c.deref-2.ensures.value ∙ put_whole c.in_ok-places.places.len new c.in_ok-places.places.items (omega (arith, c.halve_places.auto.places, c.deref_mut.ensures.len, c.in_ok-places.places.ok.0)) (omega (arith, c.in_ok-places.places.ok.0)) in
    let keep = c.requires.laws.keep rows (all_places rows) c.args.slab.now.options.rounds (halves_of new) c.in_ok-kept.kept (range_rising n) c.in_ok-kept.ensures.ok in
    let both : All (λ k. k < n) (half_a new ++ half_b new) = All-permutation (λ (k : ℕ). k < n) (all_places rows) (half_a new ++ half_b new) keep.documents (range_below n) in
    let all : All (λ k. k < n) new = subst (λ (xs : List ℕ). All (λ k. k < n) xs) (halves_join new) both in
    let middle : c.len.result - c.len-2.result / 2 ≡ (length new + 1) / 2 = omega (arith, c.len.ensures, c.len-2.ensures, c.halve_places.auto.places, c.deref_mut.ensures.len, c.in_ok-places.places.ok.0) in
    let back : c.split_at.result.1.now ≡ half_b new = c.split_at.ensures.back ∙ ap (λ (xs : List ℕ). drop (c.len.result - c.len-2.result / 2) xs) order ∙ ap (λ (k : ℕ). drop k new) middle in
    let here : IsCellIn rows (half_b new) = record { rising = keep.rising_b; below = All-drop (λ (k : ℕ). k < n) ((length new + 1) / 2) new all } in
    subst (λ (xs : List ℕ). IsCellIn rows xs) (sym back) here

pub returns : goal.returns
returns g c =
    let rows = c.args.rows.now in
    let new = c.halve_places.new.places in
    let limits = limits_of c.args.slab.now.options in
    let depth = c.args.slab.now.options.depth in
    let order : c.deref.result.now ≡ new =
    c.deref.ensures.value ∙ put_whole c.in_ok-places.places.len new c.in_ok-places.places.items (omega (arith, c.halve_places.auto.places, c.deref_mut.ensures.len, c.in_ok-places.places.ok.0)) (omega (arith, c.in_ok-places.places.ok.0)) in
    let again : c.deref-2.result.now ≡ new =
    c.deref-2.ensures.value ∙ put_whole c.in_ok-places.places.len new c.in_ok-places.places.items (omega (arith, c.halve_places.auto.places, c.deref_mut.ensures.len, c.in_ok-places.places.ok.0)) (omega (arith, c.in_ok-places.places.ok.0)) in
    let middle : c.len.result - c.len-2.result / 2 ≡ (length new + 1) / 2 = omega (arith, c.len.ensures, c.len-2.ensures, c.halve_places.auto.places, c.deref_mut.ensures.len, c.in_ok-places.places.ok.0) in
    let front : c.split_at.result.0.now ≡ half_a new = c.split_at.ensures.front ∙ ap (λ (xs : List ℕ). take (c.len.result - c.len-2.result / 2) xs) again ∙ ap (λ (k : ℕ). take k new) middle in
    let back : c.split_at.result.1.now ≡ half_b new = c.split_at.ensures.back ∙ ap (λ (xs : List ℕ). drop (c.len.result - c.len-2.result / 2) xs) again ∙ ap (λ (k : ℕ). drop k new) middle in
    record {
      ok = record {
        places = new;
        are_halves = c.in_ok-kept.ensures.ok;
        in_order = c.in_ok-arrange.ensures.ok ∙ ap (λ (xs : List ℕ). map (λ k. get_or c.args.docs.now k 0) xs) order;
        part_a = subst (λ (xs : List ℕ). IsPartOf rows limits depth c.args.level xs c.in_ok-a.a) front c.in_ok-a.ensures.a;
        part_b = subst (λ (xs : List ℕ). IsPartOf rows limits depth c.args.level xs c.in_ok-a.b) back c.in_ok-a.ensures.b;
      };
    }
