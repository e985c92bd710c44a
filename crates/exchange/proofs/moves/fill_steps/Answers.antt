use Rattle.std.proofs.Common.{◌≡◌, ◌^◌, ◌<◌, to_z, of_z, w64, w32, length, get_or, sym, subst, ◌∙◌, arith}
use mir.Val.{SFits}
use Rattle.std.proofs.lemmas.Int.{ints, to_z-of_z}
use Rattle.std.proofs.lemmas.List.{length-set}
use Rattle.degrees.specs.Counts.{counts_in}
use Rattle.exchange.specs.Gain.{term_gain_of}
use Rattle.exchange.specs.Tries.{IsStep}
use Rattle.exchange.proofs.Bounds.{read_back}
use Rattle.exchange.proofs.Steps.{filled_more}
use Rattle.exchange.proofs.RowGains.{g_is, g_small}
use Rattle.exchange.proofs.moves.fill_steps.Goals as goal

pub loop-term-preserved : goal.loop-term-preserved
loop-term-preserved c =
    let table = c.args.degrees.now in
    let side = c.args.from in
    let t = c.loop-term.term in
    let steps = c.loop-term.steps in
    let g = c.narrow_term_gain-step.result in
    let low : t < length table.a = omega (arith, c.loop-term-test.true, c.loop-term.invariant.len, c.requires.len) in
    let back = read_back (2 ^ 55) g (omega arith) c.narrow_term_gain-step.ensures.within in
    let apart = read_back (2 ^ 32) c.logs_apart-apart.result (omega arith) c.logs_apart-apart.ensures.small in
    let same : 0 < get_or (counts_in side table) t 0 → g ≡ term_gain_of side table t =
    g_is side table t c.counts-own.result.0 c.counts-own.result.1 (to_z w64 (of_z w64 c.logs_apart-apart.result)) g c.narrow_term_gain-step.ensures.same (apart ∙ c.logs_apart-apart.ensures.same) c.counts-own.ensures.own c.counts-own.ensures.other in
    let narrow = c.in-Ok.narrow in
    let v = to_z w32 (of_z w32 narrow) in
    let told : SFits w32 (to_z w64 (of_z w64 g)) × (narrow ≡ to_z w64 (of_z w64 g)) = c.in-Ok.ensures in
    let wide : v ≡ g = to_z-of_z w32 narrow (subst (SFits w32) (sym told.1) told.0) ∙ told.1 ∙ back in
    let here : IsStep side table t g = record {
      same = same;
      small = λ some. g_small c.log_is_small.ensures.small side table t g c.is_sound.ensures.sound c.requires.ready.some_a c.requires.ready.some_b low some (same some);
      low = omega (arith, ints, wide);
      high = omega (arith, ints, wide);
    } in
    let within : t < length steps = omega (arith, c.loop-term-test.true, c.loop-term.invariant.len) in
    record {
      len = length-set steps t v ∙ c.loop-term.invariant.len;
      filled = filled_more side table steps t v within c.loop-term.invariant.filled (subst (IsStep side table t) (sym wide) here);
    }
