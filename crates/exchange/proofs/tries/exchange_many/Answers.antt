use Rattle.std.proofs.Common.{◌≡◌, ◌^◌, ◌<◌, ◌-ℤ◌, to_z, of_z, length, sym, subst, ap, ◌∙◌, arith}
use mir.Syntax.{w128}
use Rattle.std.proofs.lemmas.Int.{ints}
use Rattle.rgb_base.specs.declared.parts.Side.TheVariants.{A, B}
use Rattle.degrees.specs.Cost.{degree}
use Rattle.degrees.specs.Counts.{Counted, cost_of}
use Rattle.exchange.specs.Gain.{IsReady}
use Rattle.exchange.specs.Tries.{docs_of, all_across, AreCountedIn}
use Rattle.exchange.proofs.Bounds.{fits_wide, read_back_wide}
use Rattle.exchange.proofs.Many.{length_across, ready_across, below_ready, in_beside, saved_small}
use Rattle.exchange.proofs.tries.exchange_many.Goals as goal

pub shift_all-requires-2 : goal.shift_all-requires-2
shift_all-requires-2 c =
    let forward = c.args.ground.now.forward.now in
    let table = c.args.degrees.now in
    let leave = degree forward (docs_of c.args.leave.now) in
    let moved = c.shift_all.ensures.moved in
    let len = c.is_sound.ensures.sound.len in
    record {
      terms = ap (λ (t : Counted). length t.a) moved ∙ length_across A leave table ∙ c.requires.terms;
      below = c.requires.below_come;
      counted = subst (AreCountedIn B (degree forward (docs_of c.args.come.now))) (sym moved) (λ t within.
          let inside : t < length table.a = omega (arith, within, length_across A leave table) in
          omega (arith, c.requires.counted_come t inside, in_beside leave table t len inside));
      ready = subst (IsReady c.args.ground.now.logs.now) (sym moved) (ready_across c.args.ground.now.logs.now A leave table len c.requires.counted c.requires.ready);
    }

pub cost-requires : goal.cost-requires
cost-requires c =
    let forward = c.args.ground.now.forward.now in
    let table = c.args.degrees.now in
    let top = c.args.ground.now.logs.now in
    let leave = degree forward (docs_of c.args.leave.now) in
    let left = all_across A leave table in
    let come = degree forward (docs_of c.args.come.now) in
    let new = c.shift_all-2.new.degrees in
    let len = c.is_sound.ensures.sound.len in
    let left_len : length left.b ≡ length left.a = subst (λ (t : Counted). length t.b ≡ length t.a) c.shift_all.ensures.moved c.is_sound-2.ensures.sound.len in
    let counted : AreCountedIn B come left = λ t within.
    let inside : t < length table.a = omega (arith, within, length_across A leave table) in
    omega (arith, c.requires.counted_come t inside, in_beside leave table t len inside) in
    let left_ready = ready_across top A leave table len c.requires.counted c.requires.ready in
    let ready = subst (IsReady top) (sym (c.shift_all-2.ensures.moved ∙ ap (all_across B come) c.shift_all.ensures.moved)) (ready_across top B come left left_len counted left_ready) in
    record {
      some_a = ready.some_a;
      some_b = ready.some_b;
      top = below_ready top new c.is_sound-3.ensures.sound.len ready;
    }

pub overflow_sub-result : goal.overflow_sub-result
overflow_sub-result c =
    let table = c.args.degrees.now in
    let new = c.shift_all-2.new.degrees in
    let z = to_z w128 (of_z w128 c.args.before) -ℤ to_z w128 (of_z w128 c.cost.result) in
    let z_is : z ≡ cost_of table -ℤ cost_of new = omega (arith, ints, c.requires.before, c.ranges.before, c.cost.ensures.same, c.cost.type_inv) in
    let len_a : new.len_a ≡ table.len_a = ap (λ (t : Counted). t.len_a) c.shift_all-2.ensures.moved ∙ ap (λ (t : Counted). t.len_a) c.shift_all.ensures.moved in
    let len_b : new.len_b ≡ table.len_b = ap (λ (t : Counted). t.len_b) c.shift_all-2.ensures.moved ∙ ap (λ (t : Counted). t.len_b) c.shift_all.ensures.moved in
    fits_wide (2 ^ 92) z (omega arith) (saved_small c.log_is_small.ensures.small table new c.is_sound.ensures.sound c.is_sound-3.ensures.sound c.requires.ready.some_a c.requires.ready.some_b (omega (arith, len_a, c.requires.ready.some_a)) (omega (arith, len_b, c.requires.ready.some_b)) z z_is)

pub returns : goal.returns
returns c =
    let table = c.args.degrees.now in
    let new = c.shift_all-2.new.degrees in
    let come = degree c.args.ground.now.forward.now (docs_of c.args.come.now) in
    let z = to_z w128 (of_z w128 c.args.before) -ℤ to_z w128 (of_z w128 c.cost.result) in
    let z_is : z ≡ cost_of table -ℤ cost_of new = omega (arith, ints, c.requires.before, c.ranges.before, c.cost.ensures.same, c.cost.type_inv) in
    let len_a : new.len_a ≡ table.len_a = ap (λ (t : Counted). t.len_a) c.shift_all-2.ensures.moved ∙ ap (λ (t : Counted). t.len_a) c.shift_all.ensures.moved in
    let len_b : new.len_b ≡ table.len_b = ap (λ (t : Counted). t.len_b) c.shift_all-2.ensures.moved ∙ ap (λ (t : Counted). t.len_b) c.shift_all.ensures.moved in
    let back = read_back_wide (2 ^ 92) z (omega arith) (saved_small c.log_is_small.ensures.small table new c.is_sound.ensures.sound c.is_sound-3.ensures.sound c.requires.ready.some_a c.requires.ready.some_b (omega (arith, len_a, c.requires.ready.some_a)) (omega (arith, len_b, c.requires.ready.some_b)) z z_is) in
    record {
      moved = c.shift_all-2.ensures.moved ∙ ap (all_across B come) c.shift_all.ensures.moved;
      saved = back ∙ z_is;
    }
