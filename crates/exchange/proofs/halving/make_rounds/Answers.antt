use Rattle.std.proofs.Common.{◌≡◌, ◌+◌, ℕ, List, length, to_z, of_z, FitsSigned, rules, refl, sym, subst, ap, ◌∙◌, arith}
use mir.Syntax.{w128}
use Rattle.std.proofs.lemmas.Int.{ints}
use Rattle.degrees.specs.Counts.{Counted, cost_of, loaded}
use Rattle.exchange.specs.declared.round.Kept.{Kept}
use Rattle.exchange.specs.Halving.{half_a, half_b, AreMade}
use Rattle.exchange.proofs.Outcome.{loaded_cost}
use Rattle.exchange.proofs.Cells.{AreNumbers-permutation}
use Rattle.exchange.proofs.Rounds.{none_made, one_made, all_made, stopped_refused, stopped_still, loaded_loads}
use Rattle.exchange.proofs.halving.make_rounds.Goals as goal

pub loop-made-init : goal.loop-made-init
loop-made-init g c = record {
  made = none_made c.args.ground.now.forward.now c.args.docs.now c.args.kept.now.items;
  places = c.requires.places;
  table = c.requires.table;
  before = omega (arith, ints, c.loaded_cost-before.ensures.same, c.loaded_cost-before.type_inv);
  room = refl;
  place = omega (arith, c.requires.place);
}

pub round_from-requires-clause-places : goal.round_from-requires-clause-places
round_from-requires-clause-places g c κs within = c.loop-made.invariant.places

pub round_from-requires-clause-table : goal.round_from-requires-clause-table
round_from-requires-clause-table g c κs within =
    loaded_loads c.args.ground.now.forward.now (half_a c.loop-made.docs) (half_b c.loop-made.docs) c.args.degrees.now.loads c.loop-made.degrees c.loop-made.invariant.table

pub round_from-requires-clause-room : goal.round_from-requires-clause-room
round_from-requires-clause-room g c κs within = omega (arith, c.loop-made.invariant.room, c.loop-made.auto.docs, c.requires.room)

pub round_from-requires-clause-before : goal.round_from-requires-clause-before
round_from-requires-clause-before g c κs within = c.loop-made.invariant.before

pub push_reserved-requires : goal.push_reserved-requires
push_reserved-requires g c = omega (arith, c.loop-made-test.true, c.loop-made.invariant.place)

pub loop-made-preserved : goal.loop-made-preserved
loop-made-preserved g c =
    let forward = c.args.ground.now.forward.now in
    let left = c.loop-made.docs in
    let new = c.round_from.new.docs in
    let record_ = c.in-Kept.round in
    let round = c.in-Kept.ensures.round in
    let made = one_made forward c.args.docs.now c.loop-made.made left new c.args.kept.now.items c.loop-made.kept.items record_ c.loop-made.invariant.made round in
    let loads = ap (λ (t : Counted). t.loads) c.loop-made.invariant.table in
    let table = c.in-Kept.ensures.loaded ∙ ap (loaded forward (half_a new) (half_b new)) loads in
    let fit : FitsSigned w128 record_.after = search rules in
    let back : to_z w128 (of_z w128 record_.after) ≡ record_.after = omega (arith, ints, fit) in
    record {
      made = subst (λ (xs : List Kept). AreMade forward c.args.docs.now (c.loop-made.made + 1) new c.args.kept.now.items xs) (sym c.push_reserved.ensures.items) made;
      places = AreNumbers-permutation (length forward.rows) left new c.in-Kept.ensures.same c.loop-made.invariant.places;
      table = table;
      before = back ∙ round.after ∙ sym (ap cost_of table ∙ loaded_cost forward (half_a new) (half_b new) c.args.degrees.now.loads);
      room = c.in-Kept.ensures.room ∙ c.loop-made.invariant.room;
      place = omega (arith, c.push_reserved.ensures.len, c.push_reserved.ensures.capacity, c.loop-made.invariant.place, c.loop-made-test.true);
    }

pub returns-in-Refused : goal.returns-in-Refused
returns-in-Refused g c =
    let forward = c.args.ground.now.forward.now in
    let new = c.round_from.new.docs in
    let loads = ap (λ (t : Counted). t.loads) c.loop-made.invariant.table in
    record {
      ok = stopped_refused forward c.args.docs.now c.args.rounds c.loop-made.made c.loop-made.docs new c.args.kept.now.items c.loop-made.kept.items _ c.loop-made.invariant.made (omega (arith, c.loop-made-test.true)) c.in-Refused.ensures.round;
      loaded = c.in-Refused.ensures.loaded ∙ ap (loaded forward (half_a new) (half_b new)) loads;
      scratch = c.in-Refused.ensures.room ∙ c.loop-made.invariant.room;
    }

pub returns-in-Still : goal.returns-in-Still
returns-in-Still g c =
    let forward = c.args.ground.now.forward.now in
    let new = c.round_from.new.docs in
    let loads = ap (λ (t : Counted). t.loads) c.loop-made.invariant.table in
    record {
      ok = stopped_still forward c.args.docs.now c.args.rounds c.loop-made.made c.loop-made.docs new c.args.kept.now.items c.loop-made.kept.items c.loop-made.invariant.made (omega (arith, c.loop-made-test.true)) c.in-Still.ensures.round;
      loaded = c.in-Still.ensures.loaded ∙ ap (loaded forward (half_a new) (half_b new)) loads;
      scratch = c.in-Still.ensures.room ∙ c.loop-made.invariant.room;
    }

pub returns : goal.returns
returns g c =
    let forward = c.args.ground.now.forward.now in
    let whole : c.loop-made.made ≡ c.args.rounds = omega (arith, c.loop-made-test.false, c.loop-made.auto.made-end) in
    record {
      ok = all_made forward c.args.docs.now c.args.rounds c.loop-made.docs c.args.kept.now.items c.loop-made.kept.items
          (subst (λ (n : ℕ). AreMade forward c.args.docs.now n c.loop-made.docs c.args.kept.now.items c.loop-made.kept.items) whole c.loop-made.invariant.made);
      loaded = c.loop-made.invariant.table;
      scratch = c.loop-made.invariant.room;
    }
