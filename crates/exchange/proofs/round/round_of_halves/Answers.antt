use Rattle.std.proofs.Common.{rules, ◌≡◌, ℕ, ℤ, ◌++◌, to_z, of_z, FitsSigned, length, All, refl, sym, subst, ap, ◌∙◌, arith}
use mir.Syntax.{w128}
use Rattle.std.proofs.lemmas.Int.{ints}
use Rattle.std.proofs.lemmas.List.{length-append}
use Rattle.degrees.specs.Cost.{cost}
use Rattle.degrees.specs.Counts.{Counted, IsCountedIn, cost_of}
use Rattle.forward_index.specs.Forward.{row_at}
use Rattle.rgb_base.specs.declared.parts.Side.TheVariants.{A, B}
use Rattle.exchange.specs.Gain.{IsReady}
use Rattle.exchange.specs.Tries.{docs_of, gaining, tried, IsFirstLess}
use Rattle.std.proofs.lemmas.List.Sorted.{IsPermutation-append}
use Rattle.exchange.proofs.Exchanged.{Differ, Differ-left, Differ-right, Differ-permutation}
use Rattle.exchange.proofs.Fronts.{docs_from, ranked_by, put_same, tried_same, first_same}
use Rattle.exchange.proofs.Outcome.{below_left, below_right, loaded_terms, loaded_counted_A, loaded_counted_B, loaded_ready, loaded_cost, loaded_tried, loaded_after, docs_below, few_numbers, no_pairs, kept, refused, both_permuted}
use Rattle.exchange.proofs.round.round_of_halves.Goals as goal

pub fill_halves-requires-clause-terms : goal.fill_halves-requires-clause-terms
fill_halves-requires-clause-terms g c κs within =
    let forward = c.args.ground.now.forward.now in
    let a = c.args.a.now in
    let b = c.args.b.now in
    let table = c.args.degrees.now in
    let loads = c.args.degrees.now.loads in
    ap (λ (t : Counted). length t.a) c.requires.table ∙ loaded_terms forward a b loads

pub fill_halves-requires-clause-below_a : goal.fill_halves-requires-clause-below_a
fill_halves-requires-clause-below_a g c κs within =
    let forward = c.args.ground.now.forward.now in
    let a = c.args.a.now in
    let b = c.args.b.now in
    let table = c.args.degrees.now in
    let loads = c.args.degrees.now.loads in
    below_left (length forward.rows) a b c.requires.places.below

pub fill_halves-requires-clause-counted_a : goal.fill_halves-requires-clause-counted_a
fill_halves-requires-clause-counted_a g c κs within =
    let forward = c.args.ground.now.forward.now in
    let a = c.args.a.now in
    let b = c.args.b.now in
    let table = c.args.degrees.now in
    let loads = c.args.degrees.now.loads in
    subst (λ (t : Counted). All (λ doc. IsCountedIn A (row_at forward.rows doc) t) a) (sym c.requires.table) (loaded_counted_A forward a b loads c.is_sound.ensures.sound (below_left (length forward.rows) a b c.requires.places.below))

pub fill_halves-requires-clause-ready : goal.fill_halves-requires-clause-ready
fill_halves-requires-clause-ready g c κs within =
    let forward = c.args.ground.now.forward.now in
    let a = c.args.a.now in
    let b = c.args.b.now in
    let table = c.args.degrees.now in
    let loads = c.args.degrees.now.loads in
    subst (IsReady c.args.ground.now.logs.now) (sym c.requires.table) (loaded_ready c.args.ground.now.logs.now forward a b loads c.requires.places c.requires.top c.requires.some c.requires.some_b)

pub fill_halves-requires-clause-below_b : goal.fill_halves-requires-clause-below_b
fill_halves-requires-clause-below_b g c κs within =
    let forward = c.args.ground.now.forward.now in
    let a = c.args.a.now in
    let b = c.args.b.now in
    let table = c.args.degrees.now in
    let loads = c.args.degrees.now.loads in
    below_right (length forward.rows) a b c.requires.places.below

pub fill_halves-requires-clause-counted_b : goal.fill_halves-requires-clause-counted_b
fill_halves-requires-clause-counted_b g c κs within =
    let forward = c.args.ground.now.forward.now in
    let a = c.args.a.now in
    let b = c.args.b.now in
    let table = c.args.degrees.now in
    let loads = c.args.degrees.now.loads in
    subst (λ (t : Counted). All (λ doc. IsCountedIn B (row_at forward.rows doc) t) b) (sym c.requires.table) (loaded_counted_B forward a b loads c.is_sound.ensures.sound (below_right (length forward.rows) a b c.requires.places.below))

pub returns-then-pairs-eq0-clause-round : goal.returns-then-pairs-eq0-clause-round
returns-then-pairs-eq0-clause-round g c =
    let forward = c.args.ground.now.forward.now in
    let a = c.args.a.now in
    let b = c.args.b.now in
    let table = c.args.degrees.now in
    let loads = c.args.degrees.now.loads in
    let old_x = c.fill_halves.new.entries_a in
    let old_y = c.fill_halves.new.entries_b in
    let xs = c.rank_pairs-pairs.new.a in
    let ys = c.rank_pairs-pairs.new.b in
    let have = c.rank_pairs-pairs.ensures.pairs in
    let are = ranked_by forward a b loads table c.rank_pairs-pairs.result old_x old_y xs ys c.is_sound.ensures.sound c.requires.places c.requires.table c.fill_halves.ensures.same_a c.fill_halves.ensures.same_b c.fill_halves.ensures.gains_a c.fill_halves.ensures.gains_b c.rank_pairs-pairs.ensures.same_a c.rank_pairs-pairs.ensures.same_b have in
    (no_pairs forward a b loads have.ranked_a have.ranked_b are (sym have.gaining ∙ c.if-pairs-eq0.true), refl, refl)

pub first_less-last-requires-clause-below : goal.first_less-last-requires-clause-below
first_less-last-requires-clause-below g c =
    let forward = c.args.ground.now.forward.now in
    let a = c.args.a.now in
    let b = c.args.b.now in
    let table = c.args.degrees.now in
    let loads = c.args.degrees.now.loads in
    let old_x = c.fill_halves.new.entries_a in
    let old_y = c.fill_halves.new.entries_b in
    let xs = c.rank_pairs-pairs.new.a in
    let ys = c.rank_pairs-pairs.new.b in
    let have = c.rank_pairs-pairs.ensures.pairs in
    docs_below (length forward.rows) a xs (docs_from a old_x xs c.fill_halves.ensures.same_a c.rank_pairs-pairs.ensures.same_a) (below_left (length forward.rows) a b c.requires.places.below)

pub first_less-last-requires-clause-below_b : goal.first_less-last-requires-clause-below_b
first_less-last-requires-clause-below_b g c =
    let forward = c.args.ground.now.forward.now in
    let a = c.args.a.now in
    let b = c.args.b.now in
    let table = c.args.degrees.now in
    let loads = c.args.degrees.now.loads in
    let old_x = c.fill_halves.new.entries_a in
    let old_y = c.fill_halves.new.entries_b in
    let xs = c.rank_pairs-pairs.new.a in
    let ys = c.rank_pairs-pairs.new.b in
    let have = c.rank_pairs-pairs.ensures.pairs in
    docs_below (length forward.rows) b ys (docs_from b old_y ys c.fill_halves.ensures.same_b c.rank_pairs-pairs.ensures.same_b) (below_right (length forward.rows) a b c.requires.places.below)

pub first_less-last-requires-clause-ready : goal.first_less-last-requires-clause-ready
first_less-last-requires-clause-ready g c =
    let forward = c.args.ground.now.forward.now in
    let a = c.args.a.now in
    let b = c.args.b.now in
    let table = c.args.degrees.now in
    let loads = c.args.degrees.now.loads in
    subst (IsReady c.args.ground.now.logs.now) (sym c.requires.table) (loaded_ready c.args.ground.now.logs.now forward a b loads c.requires.places c.requires.top c.requires.some c.requires.some_b)

pub first_less-last-requires-clause-table : goal.first_less-last-requires-clause-table
first_less-last-requires-clause-table g c =
    let forward = c.args.ground.now.forward.now in
    let a = c.args.a.now in
    let b = c.args.b.now in
    let table = c.args.degrees.now in
    let loads = c.args.degrees.now.loads in
    let old_x = c.fill_halves.new.entries_a in
    let old_y = c.fill_halves.new.entries_b in
    let xs = c.rank_pairs-pairs.new.a in
    let ys = c.rank_pairs-pairs.new.b in
    let have = c.rank_pairs-pairs.ensures.pairs in
    let are = ranked_by forward a b loads table c.rank_pairs-pairs.result old_x old_y xs ys c.is_sound.ensures.sound c.requires.places c.requires.table c.fill_halves.ensures.same_a c.fill_halves.ensures.same_b c.fill_halves.ensures.gains_a c.fill_halves.ensures.gains_b c.rank_pairs-pairs.ensures.same_a c.rank_pairs-pairs.ensures.same_b have in
    loaded_tried forward a b loads table have.ranked_a have.ranked_b are c.requires.table ∙ sym (tried_same forward 0 loads c.rank_pairs-pairs.result xs ys have (omega arith))

pub overflow_cast-result : goal.overflow_cast-result
overflow_cast-result g c =
    let forward = c.args.ground.now.forward.now in
    let a = c.args.a.now in
    let b = c.args.b.now in
    let table = c.args.degrees.now in
    let loads = c.args.degrees.now.loads in
    let old_x = c.fill_halves.new.entries_a in
    let old_y = c.fill_halves.new.entries_b in
    let xs = c.rank_pairs-pairs.new.a in
    let ys = c.rank_pairs-pairs.new.b in
    let have = c.rank_pairs-pairs.ensures.pairs in
    let few = few_numbers (length forward.rows) (a ++ b) c.requires.places in
    let sound = c.is_sound.ensures.sound in
    let all = length-append a b in
    record { fits = omega (arith, few, all, sound.ordered.small, sound.len, have.within_a, c.rank_pairs-pairs.auto.a, c.fill_halves.auto.entries_a, c.requires.room) }

pub returns-then-last-eq0-clause-round : goal.returns-then-last-eq0-clause-round
returns-then-last-eq0-clause-round g c =
    let forward = c.args.ground.now.forward.now in
    let a = c.args.a.now in
    let b = c.args.b.now in
    let table = c.args.degrees.now in
    let loads = c.args.degrees.now.loads in
    let old_x = c.fill_halves.new.entries_a in
    let old_y = c.fill_halves.new.entries_b in
    let xs = c.rank_pairs-pairs.new.a in
    let ys = c.rank_pairs-pairs.new.b in
    let have = c.rank_pairs-pairs.ensures.pairs in
    let are = ranked_by forward a b loads table c.rank_pairs-pairs.result old_x old_y xs ys c.is_sound.ensures.sound c.requires.places c.requires.table c.fill_halves.ensures.same_a c.fill_halves.ensures.same_b c.fill_halves.ensures.gains_a c.fill_halves.ensures.gains_b c.rank_pairs-pairs.ensures.same_a c.rank_pairs-pairs.ensures.same_b have in
    let last = c.first_less-last.result in
    let same : c.rank_pairs-pairs.result ≡ gaining have.ranked_a have.ranked_b = have.gaining in
    let before_back : to_z w128 (of_z w128 c.args.before) ≡ c.args.before = omega (arith, ints, c.ranges.before) in
    let first : IsFirstLess forward (docs_of have.ranked_a) (docs_of have.ranked_b) (gaining have.ranked_a have.ranked_b) c.args.before last = subst (λ (z : ℤ). IsFirstLess forward (docs_of have.ranked_a) (docs_of have.ranked_b) (gaining have.ranked_a have.ranked_b) z last) before_back (subst (λ (n : ℕ). IsFirstLess forward (docs_of have.ranked_a) (docs_of have.ranked_b) n (to_z w128 (of_z w128 c.args.before)) last) same (first_same forward c.rank_pairs-pairs.result xs ys have (to_z w128 (of_z w128 c.args.before)) last c.first_less-last.ensures.first)) in
    let before_is : c.args.before ≡ cost forward a b = c.requires.before ∙ ap cost_of c.requires.table ∙ loaded_cost forward a b loads in
    let fit : FitsSigned w128 last.first = search rules in
    let first_back : to_z w128 (of_z w128 last.first) ≡ last.first = omega (arith, ints, fit) in
    (refused forward a b loads have.ranked_a have.ranked_b are c.args.before last _ before_is first (omega (arith, same, c.if-pairs-eq0.false)) c.if-last-eq0.true before_back first_back same, refl, refl)

pub returns-then-last-eq0-clause-loaded : goal.returns-then-last-eq0-clause-loaded
returns-then-last-eq0-clause-loaded g c =
    let forward = c.args.ground.now.forward.now in
    let a = c.args.a.now in
    let b = c.args.b.now in
    let table = c.args.degrees.now in
    let loads = c.args.degrees.now.loads in
    let old_x = c.fill_halves.new.entries_a in
    let old_y = c.fill_halves.new.entries_b in
    let xs = c.rank_pairs-pairs.new.a in
    let ys = c.rank_pairs-pairs.new.b in
    let have = c.rank_pairs-pairs.ensures.pairs in
    let are = ranked_by forward a b loads table c.rank_pairs-pairs.result old_x old_y xs ys c.is_sound.ensures.sound c.requires.places c.requires.table c.fill_halves.ensures.same_a c.fill_halves.ensures.same_b c.fill_halves.ensures.gains_a c.fill_halves.ensures.gains_b c.rank_pairs-pairs.ensures.same_a c.rank_pairs-pairs.ensures.same_b have in
    c.first_less-last.ensures.table ∙ ap (λ (n : ℕ). tried forward (docs_of xs) (docs_of ys) n loads) c.if-last-eq0.true ∙ tried_same forward 0 loads c.rank_pairs-pairs.result xs ys have (omega arith) ∙ sym (loaded_tried forward a b loads table have.ranked_a have.ranked_b are c.requires.table) ∙ c.requires.table

pub exchange_documents-requires-clause-docs : goal.exchange_documents-requires-clause-docs
exchange_documents-requires-clause-docs g c κs within = docs_from c.args.a.now c.fill_halves.new.entries_a c.rank_pairs-pairs.new.a c.fill_halves.ensures.same_a c.rank_pairs-pairs.ensures.same_a

pub exchange_documents-requires-clause-docs_b : goal.exchange_documents-requires-clause-docs_b
exchange_documents-requires-clause-docs_b g c κs within = docs_from c.args.b.now c.fill_halves.new.entries_b c.rank_pairs-pairs.new.b c.fill_halves.ensures.same_b c.rank_pairs-pairs.ensures.same_b

pub exchange_documents-requires-clause-differ : goal.exchange_documents-requires-clause-differ
exchange_documents-requires-clause-differ g c κs within =
    let forward = c.args.ground.now.forward.now in
    let a = c.args.a.now in
    let b = c.args.b.now in
    let old_x = c.fill_halves.new.entries_a in
    let old_y = c.fill_halves.new.entries_b in
    let xs = c.rank_pairs-pairs.new.a in
    let ys = c.rank_pairs-pairs.new.b in
    Differ-permutation (a ++ b) (docs_of xs ++ docs_of ys) (IsPermutation-append a (docs_of xs) b (docs_of ys) (docs_from a old_x xs c.fill_halves.ensures.same_a c.rank_pairs-pairs.ensures.same_a) (docs_from b old_y ys c.fill_halves.ensures.same_b c.rank_pairs-pairs.ensures.same_b)) c.requires.places.different

pub overflow_cast-result-2 : goal.overflow_cast-result-2
overflow_cast-result-2 g c =
    let forward = c.args.ground.now.forward.now in
    let a = c.args.a.now in
    let b = c.args.b.now in
    let table = c.args.degrees.now in
    let loads = c.args.degrees.now.loads in
    let old_x = c.fill_halves.new.entries_a in
    let old_y = c.fill_halves.new.entries_b in
    let xs = c.rank_pairs-pairs.new.a in
    let ys = c.rank_pairs-pairs.new.b in
    let have = c.rank_pairs-pairs.ensures.pairs in
    let few = few_numbers (length forward.rows) (a ++ b) c.requires.places in
    let sound = c.is_sound.ensures.sound in
    let all = length-append a b in
    record { fits = omega (arith, few, all, sound.ordered.small, sound.len, c.first_less-last.ensures.fewer, have.within_a, c.rank_pairs-pairs.auto.a, c.fill_halves.auto.entries_a, c.requires.room) }

pub returns-clause-round : goal.returns-clause-round
returns-clause-round g c =
    let forward = c.args.ground.now.forward.now in
    let a = c.args.a.now in
    let b = c.args.b.now in
    let table = c.args.degrees.now in
    let loads = c.args.degrees.now.loads in
    let old_x = c.fill_halves.new.entries_a in
    let old_y = c.fill_halves.new.entries_b in
    let xs = c.rank_pairs-pairs.new.a in
    let ys = c.rank_pairs-pairs.new.b in
    let have = c.rank_pairs-pairs.ensures.pairs in
    let are = ranked_by forward a b loads table c.rank_pairs-pairs.result old_x old_y xs ys c.is_sound.ensures.sound c.requires.places c.requires.table c.fill_halves.ensures.same_a c.fill_halves.ensures.same_b c.fill_halves.ensures.gains_a c.fill_halves.ensures.gains_b c.rank_pairs-pairs.ensures.same_a c.rank_pairs-pairs.ensures.same_b have in
    let last = c.first_less-last.result in
    let same : c.rank_pairs-pairs.result ≡ gaining have.ranked_a have.ranked_b = have.gaining in
    let before_back : to_z w128 (of_z w128 c.args.before) ≡ c.args.before = omega (arith, ints, c.ranges.before) in
    let first : IsFirstLess forward (docs_of have.ranked_a) (docs_of have.ranked_b) (gaining have.ranked_a have.ranked_b) c.args.before last = subst (λ (z : ℤ). IsFirstLess forward (docs_of have.ranked_a) (docs_of have.ranked_b) (gaining have.ranked_a have.ranked_b) z last) before_back (subst (λ (n : ℕ). IsFirstLess forward (docs_of have.ranked_a) (docs_of have.ranked_b) n (to_z w128 (of_z w128 c.args.before)) last) same (first_same forward c.rank_pairs-pairs.result xs ys have (to_z w128 (of_z w128 c.args.before)) last c.first_less-last.ensures.first)) in
    let before_is : c.args.before ≡ cost forward a b = c.requires.before ∙ ap cost_of c.requires.table ∙ loaded_cost forward a b loads in
    let fit : FitsSigned w128 last.after = search rules in
    let after_back : to_z w128 (of_z w128 last.after) ≡ last.after = omega (arith, ints, fit) in
    kept forward a b loads have.ranked_a have.ranked_b are c.args.before last c.exchange_documents.new.a c.exchange_documents.new.b _ before_is first (omega (arith, c.if-last-eq0.false)) (put_same c.first_less-last.result.pairs c.rank_pairs-pairs.result xs ys have.ranked_a have.ranked_b c.exchange_documents.new.a c.first_less-last.ensures.fewer have.is_a have.is_b c.exchange_documents.ensures.same) c.exchange_documents.ensures.rising (put_same c.first_less-last.result.pairs c.rank_pairs-pairs.result ys xs have.ranked_b have.ranked_a c.exchange_documents.new.b c.first_less-last.ensures.fewer have.is_b have.is_a c.exchange_documents.ensures.same_b) c.exchange_documents.ensures.rising_b before_back after_back refl

pub returns-clause-loaded : goal.returns-clause-loaded
returns-clause-loaded g c =
    let forward = c.args.ground.now.forward.now in
    let a = c.args.a.now in
    let b = c.args.b.now in
    let table = c.args.degrees.now in
    let loads = c.args.degrees.now.loads in
    let old_x = c.fill_halves.new.entries_a in
    let old_y = c.fill_halves.new.entries_b in
    let xs = c.rank_pairs-pairs.new.a in
    let ys = c.rank_pairs-pairs.new.b in
    let have = c.rank_pairs-pairs.ensures.pairs in
    let are = ranked_by forward a b loads table c.rank_pairs-pairs.result old_x old_y xs ys c.is_sound.ensures.sound c.requires.places c.requires.table c.fill_halves.ensures.same_a c.fill_halves.ensures.same_b c.fill_halves.ensures.gains_a c.fill_halves.ensures.gains_b c.rank_pairs-pairs.ensures.same_a c.rank_pairs-pairs.ensures.same_b have in
    c.first_less-last.ensures.table ∙ tried_same forward c.first_less-last.result.pairs loads c.rank_pairs-pairs.result xs ys have c.first_less-last.ensures.fewer ∙ loaded_after forward a b loads have.ranked_a have.ranked_b are c.first_less-last.result.pairs c.exchange_documents.new.a c.exchange_documents.new.b (omega (arith, c.first_less-last.ensures.fewer, have.gaining)) (put_same c.first_less-last.result.pairs c.rank_pairs-pairs.result xs ys have.ranked_a have.ranked_b c.exchange_documents.new.a c.first_less-last.ensures.fewer have.is_a have.is_b c.exchange_documents.ensures.same) (put_same c.first_less-last.result.pairs c.rank_pairs-pairs.result ys xs have.ranked_b have.ranked_a c.exchange_documents.new.b c.first_less-last.ensures.fewer have.is_b have.is_a c.exchange_documents.ensures.same_b)

pub returns-clause-same : goal.returns-clause-same
returns-clause-same g c =
    let forward = c.args.ground.now.forward.now in
    let a = c.args.a.now in
    let b = c.args.b.now in
    let table = c.args.degrees.now in
    let loads = c.args.degrees.now.loads in
    let old_x = c.fill_halves.new.entries_a in
    let old_y = c.fill_halves.new.entries_b in
    let xs = c.rank_pairs-pairs.new.a in
    let ys = c.rank_pairs-pairs.new.b in
    let have = c.rank_pairs-pairs.ensures.pairs in
    let are = ranked_by forward a b loads table c.rank_pairs-pairs.result old_x old_y xs ys c.is_sound.ensures.sound c.requires.places c.requires.table c.fill_halves.ensures.same_a c.fill_halves.ensures.same_b c.fill_halves.ensures.gains_a c.fill_halves.ensures.gains_b c.rank_pairs-pairs.ensures.same_a c.rank_pairs-pairs.ensures.same_b have in
    both_permuted c.first_less-last.result.pairs a b (docs_of xs) (docs_of ys) c.exchange_documents.new.a c.exchange_documents.new.b (docs_from a old_x xs c.fill_halves.ensures.same_a c.rank_pairs-pairs.ensures.same_a) (docs_from b old_y ys c.fill_halves.ensures.same_b c.rank_pairs-pairs.ensures.same_b) c.exchange_documents.ensures.same c.exchange_documents.ensures.same_b

pub rank_pairs-pairs-requires-clause-differ_a : goal.rank_pairs-pairs-requires-clause-differ_a
rank_pairs-pairs-requires-clause-differ_a g c κs within = subst Differ (sym c.fill_halves.ensures.same_a) (Differ-left c.args.a.now c.args.b.now c.requires.places.different)

pub rank_pairs-pairs-requires-clause-differ_b : goal.rank_pairs-pairs-requires-clause-differ_b
rank_pairs-pairs-requires-clause-differ_b g c κs within = subst Differ (sym c.fill_halves.ensures.same_b) (Differ-right c.args.a.now c.args.b.now c.requires.places.different)
