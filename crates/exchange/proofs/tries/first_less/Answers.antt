use Rattle.std.proofs.Common.{◌≡◌, ℕ, ◌+◌, ◌/◌, ◌^◌, ◌<◌, ℤ, ◌-ℤ◌, ◌≤ℤ◌, ◌<ℤ◌, to_z, of_z, length, sym, subst, ap, ◌∙◌, arith}
use mir.Syntax.{w128}
use Rattle.std.proofs.lemmas.Int.{ints}
use Rattle.degrees.specs.Counts.{Counted, cost_of}
use Rattle.exchange.specs.declared.entry.Entry.{Entry}
use Rattle.exchange.specs.Gain.{IsReady}
use Rattle.exchange.specs.Tries.{docs_of, cost_tried, NoneLess, IsWithin}
use Rattle.exchange.proofs.Bounds.{fits_wide, read_back_wide, le_from_test, lt_from_test}
use Rattle.exchange.proofs.Many.{cost_small}
use Rattle.exchange.proofs.Cascade.{tried_terms, ready_tried, tried_first, tried_next, counted_first_a, counted_first_b, counted_next_a, counted_next_b, none_yet, none_more, whole_first, half_again, All-range}
use Rattle.exchange.proofs.tries.first_less.Goals as goal

pub exchange_first-saved-requires-clause-terms : goal.exchange_first-saved-requires-clause-terms
exchange_first-saved-requires-clause-terms c =
    ap (λ (t : Counted). length t.a) c.requires.table ∙ tried_terms c.args.ground.now.forward.now (docs_of c.args.a.now) (docs_of c.args.b.now) 0 c.args.degrees.now.loads

pub exchange_first-saved-requires-clause-counted : goal.exchange_first-saved-requires-clause-counted
exchange_first-saved-requires-clause-counted c =
    counted_first_a c.args.ground.now.forward.now c.args.a.now c.args.b.now c.args.pairs c.args.degrees.now.loads c.args.degrees.now c.requires.table

pub exchange_first-saved-requires-clause-counted_come : goal.exchange_first-saved-requires-clause-counted_come
exchange_first-saved-requires-clause-counted_come c =
    counted_first_b c.args.ground.now.forward.now c.args.a.now c.args.b.now c.args.pairs c.args.degrees.now.loads c.args.degrees.now c.requires.table

pub overflow_sub-first : goal.overflow_sub-first
overflow_sub-first c =
    let new = c.exchange_first-saved.new.degrees in
    let is = tried_first c.args.ground.now.forward.now c.args.a.now c.args.b.now c.args.pairs c.args.degrees.now.loads c.args.degrees.now new c.exchange_first-saved.ensures.moved c.requires.table in
    let z = to_z w128 (of_z w128 c.args.before) -ℤ to_z w128 (of_z w128 c.exchange_first-saved.result) in
    let z_is : z ≡ cost_of new = omega (arith, ints, c.requires.before, c.exchange_first-saved.ensures.saved, c.ranges.before, c.exchange_first-saved.type_inv) in
    let ready = subst (IsReady c.args.ground.now.logs.now) (sym is) (ready_tried c.args.ground.now.logs.now c.args.ground.now.forward.now (docs_of c.args.a.now) (docs_of c.args.b.now) c.args.pairs c.args.degrees.now.loads (subst (IsReady c.args.ground.now.logs.now) c.requires.table c.requires.ready)) in
    let small = cost_small c.log_is_small.ensures.small new c.is_sound-2.ensures.sound ready.some_a ready.some_b in
    fits_wide (2 ^ 90) z (omega arith) (subst (IsWithin (2 ^ 90)) (sym z_is) small)

pub loop-exchanged-init : goal.loop-exchanged-init
loop-exchanged-init c =
    let new = c.exchange_first-saved.new.degrees in
    let forward = c.args.ground.now.forward.now in
    let a = docs_of c.args.a.now in
    let b = docs_of c.args.b.now in
    let is = tried_first forward c.args.a.now c.args.b.now c.args.pairs c.args.degrees.now.loads c.args.degrees.now new c.exchange_first-saved.ensures.moved c.requires.table in
    let z = to_z w128 (of_z w128 c.args.before) -ℤ to_z w128 (of_z w128 c.exchange_first-saved.result) in
    let z_is : z ≡ cost_of new = omega (arith, ints, c.requires.before, c.exchange_first-saved.ensures.saved, c.ranges.before, c.exchange_first-saved.type_inv) in
    let ready = subst (IsReady c.args.ground.now.logs.now) (sym is) (ready_tried c.args.ground.now.logs.now forward a b c.args.pairs c.args.degrees.now.loads (subst (IsReady c.args.ground.now.logs.now) c.requires.table c.requires.ready)) in
    let small = cost_small c.log_is_small.ensures.small new c.is_sound-2.ensures.sound ready.some_a ready.some_b in
    let back = read_back_wide (2 ^ 90) z (omega arith) (subst (IsWithin (2 ^ 90)) (sym z_is) small) in
    record {
      table = is;
      after = back ∙ z_is ∙ ap cost_of is;
      fewer = omega arith;
      number = (0, whole_first c.args.pairs, none_yet forward a b c.args.pairs (to_z w128 (of_z w128 c.args.before)));
    }

pub exchange-saved-requires-clause-terms : goal.exchange-saved-requires-clause-terms
exchange-saved-requires-clause-terms c =
    ap (λ (t : Counted). length t.a) c.loop-exchanged.invariant.table ∙ tried_terms c.args.ground.now.forward.now (docs_of c.args.a.now) (docs_of c.args.b.now) c.loop-exchanged.exchanged c.args.degrees.now.loads

pub exchange-saved-requires-clause-below : goal.exchange-saved-requires-clause-below
exchange-saved-requires-clause-below c =
    All-range (λ (entry : Entry). entry.doc < length c.args.ground.now.forward.now.rows) c.args.b.now (c.loop-exchanged.exchanged / 2) c.loop-exchanged.exchanged c.requires.below_b

pub exchange-saved-requires-clause-below_come : goal.exchange-saved-requires-clause-below_come
exchange-saved-requires-clause-below_come c =
    All-range (λ (entry : Entry). entry.doc < length c.args.ground.now.forward.now.rows) c.args.a.now (c.loop-exchanged.exchanged / 2) c.loop-exchanged.exchanged c.requires.below

pub exchange-saved-requires-clause-counted : goal.exchange-saved-requires-clause-counted
exchange-saved-requires-clause-counted c =
    counted_next_a c.args.ground.now.forward.now c.args.a.now c.args.b.now (c.loop-exchanged.exchanged / 2) c.loop-exchanged.exchanged c.args.degrees.now.loads c.loop-exchanged.degrees (omega arith) c.loop-exchanged.invariant.table

pub exchange-saved-requires-clause-counted_come : goal.exchange-saved-requires-clause-counted_come
exchange-saved-requires-clause-counted_come c =
    counted_next_b c.args.ground.now.forward.now c.args.a.now c.args.b.now (c.loop-exchanged.exchanged / 2) c.loop-exchanged.exchanged c.args.degrees.now.loads c.loop-exchanged.degrees (omega arith) c.loop-exchanged.invariant.table

pub exchange-saved-requires-clause-ready : goal.exchange-saved-requires-clause-ready
exchange-saved-requires-clause-ready c =
    subst (IsReady c.args.ground.now.logs.now) (sym c.loop-exchanged.invariant.table) (ready_tried c.args.ground.now.logs.now c.args.ground.now.forward.now (docs_of c.args.a.now) (docs_of c.args.b.now) c.loop-exchanged.exchanged c.args.degrees.now.loads (subst (IsReady c.args.ground.now.logs.now) c.requires.table c.requires.ready))

pub overflow_sub-after : goal.overflow_sub-after
overflow_sub-after c =
    let forward = c.args.ground.now.forward.now in
    let a = docs_of c.args.a.now in
    let b = docs_of c.args.b.now in
    let top = c.args.ground.now.logs.now in
    let m = c.loop-exchanged.exchanged in
    let f = c.loop-exchanged.exchanged / 2 in
    let new = c.exchange-saved.new.degrees in
    let is = tried_next forward c.args.a.now c.args.b.now f m c.args.degrees.now.loads c.loop-exchanged.degrees new (omega arith) c.exchange-saved.ensures.moved c.loop-exchanged.invariant.table in
    let was = ap cost_of c.loop-exchanged.invariant.table in
    let z = to_z w128 c.loop-exchanged.after-bits -ℤ to_z w128 (of_z w128 c.exchange-saved.result) in
    let z_is : z ≡ cost_of new = omega (arith, ints, c.loop-exchanged.invariant.after, was, c.exchange-saved.ensures.saved, c.exchange-saved.type_inv) in
    let ready = subst (IsReady top) (sym is) (ready_tried top forward a b f c.args.degrees.now.loads (subst (IsReady top) c.requires.table c.requires.ready)) in
    let small = cost_small c.log_is_small.ensures.small new c.is_sound-in-loop-exchanged-2.ensures.sound ready.some_a ready.some_b in
    fits_wide (2 ^ 90) z (omega arith) (subst (IsWithin (2 ^ 90)) (sym z_is) small)

pub loop-exchanged-preserved : goal.loop-exchanged-preserved
loop-exchanged-preserved c =
    let forward = c.args.ground.now.forward.now in
    let a = docs_of c.args.a.now in
    let b = docs_of c.args.b.now in
    let top = c.args.ground.now.logs.now in
    let m = c.loop-exchanged.exchanged in
    let f = c.loop-exchanged.exchanged / 2 in
    let new = c.exchange-saved.new.degrees in
    let is = tried_next forward c.args.a.now c.args.b.now f m c.args.degrees.now.loads c.loop-exchanged.degrees new (omega arith) c.exchange-saved.ensures.moved c.loop-exchanged.invariant.table in
    let was = ap cost_of c.loop-exchanged.invariant.table in
    let z = to_z w128 c.loop-exchanged.after-bits -ℤ to_z w128 (of_z w128 c.exchange-saved.result) in
    let z_is : z ≡ cost_of new = omega (arith, ints, c.loop-exchanged.invariant.after, was, c.exchange-saved.ensures.saved, c.exchange-saved.type_inv) in
    let ready = subst (IsReady top) (sym is) (ready_tried top forward a b f c.args.degrees.now.loads (subst (IsReady top) c.requires.table c.requires.ready)) in
    let small = cost_small c.log_is_small.ensures.small new c.is_sound-in-loop-exchanged-2.ensures.sound ready.some_a ready.some_b in
    let back = read_back_wide (2 ^ 90) z (omega arith) (subst (IsWithin (2 ^ 90)) (sym z_is) small) in
    let number = c.loop-exchanged.invariant.number in
    let before = to_z w128 (of_z w128 c.args.before) in
    let here : before ≤ℤ cost_tried forward a b m = subst (λ (z : ℤ). before ≤ℤ z) c.loop-exchanged.invariant.after (le_from_test before (to_z w128 c.loop-exchanged.after-bits) c.if-before-after.true) in
    record {
      table = is;
      after = back ∙ z_is ∙ ap cost_of is;
      fewer = omega arith;
      number = (number.0 + 1, ap (λ (k : ℕ). k / 2) number.1 ∙ half_again c.args.pairs number.0, none_more forward a b c.args.pairs before number.0 m number.2 number.1 here);
    }

pub returns-else-before-after-clause-first : goal.returns-else-before-after-clause-first
returns-else-before-after-clause-first c =
    let new = c.exchange_first-saved.new.degrees in
    let forward = c.args.ground.now.forward.now in
    let a = docs_of c.args.a.now in
    let b = docs_of c.args.b.now in
    let pairs = c.args.pairs in
    let is = tried_first forward c.args.a.now c.args.b.now pairs c.args.degrees.now.loads c.args.degrees.now new c.exchange_first-saved.ensures.moved c.requires.table in
    let before = to_z w128 (of_z w128 c.args.before) in
    let before_is : before ≡ c.args.before = omega (arith, ints, c.ranges.before) in
    let z = before -ℤ to_z w128 (of_z w128 c.exchange_first-saved.result) in
    let z_is : z ≡ cost_of new = omega (arith, ints, c.requires.before, c.exchange_first-saved.ensures.saved, c.ranges.before, c.exchange_first-saved.type_inv) in
    let ready = subst (IsReady c.args.ground.now.logs.now) (sym is) (ready_tried c.args.ground.now.logs.now forward a b pairs c.args.degrees.now.loads (subst (IsReady c.args.ground.now.logs.now) c.requires.table c.requires.ready)) in
    let small = cost_small c.log_is_small.ensures.small new c.is_sound-2.ensures.sound ready.some_a ready.some_b in
    let back = read_back_wide (2 ^ 90) z (omega arith) (subst (IsWithin (2 ^ 90)) (sym z_is) small) in
    let number = c.loop-exchanged.invariant.number in
    record {
      number = number.0;
      is_pairs = number.1;
      none_before = subst (λ (y : ℤ). NoneLess forward a b pairs y number.0) before_is number.2;
      first = back ∙ z_is ∙ ap cost_of is;
      after = c.loop-exchanged.invariant.after;
      less = λ some. subst (λ (y : ℤ). to_z w128 c.loop-exchanged.after-bits <ℤ y) before_is (lt_from_test before (to_z w128 c.loop-exchanged.after-bits) c.if-before-after.false);
    }

pub returns-after-loop-exchanged-clause-first : goal.returns-after-loop-exchanged-clause-first
returns-after-loop-exchanged-clause-first c =
    let new = c.exchange_first-saved.new.degrees in
    let forward = c.args.ground.now.forward.now in
    let a = docs_of c.args.a.now in
    let b = docs_of c.args.b.now in
    let pairs = c.args.pairs in
    let is = tried_first forward c.args.a.now c.args.b.now pairs c.args.degrees.now.loads c.args.degrees.now new c.exchange_first-saved.ensures.moved c.requires.table in
    let before = to_z w128 (of_z w128 c.args.before) in
    let before_is : before ≡ c.args.before = omega (arith, ints, c.ranges.before) in
    let z = before -ℤ to_z w128 (of_z w128 c.exchange_first-saved.result) in
    let z_is : z ≡ cost_of new = omega (arith, ints, c.requires.before, c.exchange_first-saved.ensures.saved, c.ranges.before, c.exchange_first-saved.type_inv) in
    let ready = subst (IsReady c.args.ground.now.logs.now) (sym is) (ready_tried c.args.ground.now.logs.now forward a b pairs c.args.degrees.now.loads (subst (IsReady c.args.ground.now.logs.now) c.requires.table c.requires.ready)) in
    let small = cost_small c.log_is_small.ensures.small new c.is_sound-2.ensures.sound ready.some_a ready.some_b in
    let back = read_back_wide (2 ^ 90) z (omega arith) (subst (IsWithin (2 ^ 90)) (sym z_is) small) in
    let number = c.loop-exchanged.invariant.number in
    record {
      number = number.0;
      is_pairs = number.1;
      none_before = subst (λ (y : ℤ). NoneLess forward a b pairs y number.0) before_is number.2;
      first = back ∙ z_is ∙ ap cost_of is;
      after = c.loop-exchanged.invariant.after;
      less = λ some. absurd (omega (arith, some, c.loop-exchanged-test.false));
    }
