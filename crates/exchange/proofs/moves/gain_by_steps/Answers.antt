use Rattle.std.proofs.Common.{◌≡◌, ℕ, ◌+◌, ◌*◌, ◌^◌, ◌<◌, ℤ, ◌+ℤ◌, pos, to_z, of_z, w64, w32, List, length, get_or, take, refl, sym, subst, ap, ◌∙◌, arith}
use Rattle.std.specs.List.{sum_by}
use Rattle.std.proofs.lemmas.Int.{ints}
use Rattle.std.proofs.lemmas.List.{take_all}
use Rattle.degrees.specs.Counts.{counts_in}
use Rattle.degrees.specs.Sums.{total_by}
use Rattle.exchange.specs.Gain.{term_gain_of}
use Rattle.exchange.specs.Tries.{IsStep, IsWithin}
use Rattle.exchange.proofs.Bounds.{fits, read_back}
use Rattle.exchange.proofs.RowGains.{row_read, row_table, both_counts, total_small, gain_step, within_weaker}
use Rattle.exchange.proofs.moves.gain_by_steps.Goals as goal

pub loop-term-init : goal.loop-term-init
unfolding total_by
loop-term-init c = record { same = refl; small = record { low = omega (arith, ints); high = omega (arith, ints) } }

pub bounds-steps-term : goal.bounds-steps-term
bounds-steps-term c =
    let is = row_table c.args.ground.now.forward.now c.args.degrees.now c.args.doc c.terms_of-term-items.result.now c.is_sound-2.ensures.sound c.requires.below c.terms_of-term-items.ensures.same c.requires.terms in
    omega (arith, is.below c.loop-term.term-index 0 c.loop-term-test.true, c.requires.len)

pub overflow_add-sum : goal.overflow_add-sum
overflow_add-sum c =
    let table = c.args.degrees.now in
    let side = c.args.from in
    let row = c.terms_of-term-items.result.now in
    let i = c.loop-term.term-index in
    let sum = to_z w64 c.loop-term.sum-bits in
    let g = get_or c.args.steps.now (get_or row i 0) (pos 0) in
    let is = row_table c.args.ground.now.forward.now table c.args.doc row c.is_sound-2.ensures.sound c.requires.below c.terms_of-term-items.ensures.same c.requires.terms in
    let low = is.below i 0 c.loop-term-test.true in
    let counted = subst (λ (terms : List ℕ). (k : ℕ) (d : ℕ) → k < length terms → 0 < get_or (counts_in side table) (get_or terms k d) 0) (row_read c.args.ground.now.forward.now.rows c.args.doc row c.terms_of-term-items.ensures.same) c.requires.counted in
    let step : IsStep side table (get_or row i 0) g = c.requires.steps (get_or row i 0) (omega (arith, low, c.requires.len)) in
    let z = sum +ℤ to_z w64 (of_z w64 c.from-sum.result) in
    let few = c.is_sound.ensures.sound.both (get_or row i 0) low in
    let g_back = read_back (both_counts table (get_or row i 0) * 8388608) g (omega (arith, few)) (step.small (counted i 0 c.loop-term-test.true)) in
    let told : to_z w32 (of_z w32 g) ≡ g = omega (arith, ints, step.low, step.high) in
    let z_is : z ≡ sum +ℤ g = ap (λ (y : ℤ). sum +ℤ to_z w64 (of_z w64 y)) (c.from-sum.ensures ∙ told) ∙ ap (λ (y : ℤ). sum +ℤ y) g_back in
    let more = gain_step side table row i sum g z c.is_sound.ensures.sound is c.loop-term-test.true c.loop-term.invariant.same c.loop-term.invariant.small (step.same (counted i 0 c.loop-term-test.true)) (step.small (counted i 0 c.loop-term-test.true)) z_is in
    fits (2 ^ 56) z (omega arith) more.2

pub loop-term-preserved : goal.loop-term-preserved
loop-term-preserved c =
    let table = c.args.degrees.now in
    let side = c.args.from in
    let row = c.terms_of-term-items.result.now in
    let i = c.loop-term.term-index in
    let sum = to_z w64 c.loop-term.sum-bits in
    let g = get_or c.args.steps.now (get_or row i 0) (pos 0) in
    let is = row_table c.args.ground.now.forward.now table c.args.doc row c.is_sound-2.ensures.sound c.requires.below c.terms_of-term-items.ensures.same c.requires.terms in
    let low = is.below i 0 c.loop-term-test.true in
    let counted = subst (λ (terms : List ℕ). (k : ℕ) (d : ℕ) → k < length terms → 0 < get_or (counts_in side table) (get_or terms k d) 0) (row_read c.args.ground.now.forward.now.rows c.args.doc row c.terms_of-term-items.ensures.same) c.requires.counted in
    let step : IsStep side table (get_or row i 0) g = c.requires.steps (get_or row i 0) (omega (arith, low, c.requires.len)) in
    let z = sum +ℤ to_z w64 (of_z w64 c.from-sum.result) in
    let few = c.is_sound.ensures.sound.both (get_or row i 0) low in
    let g_back = read_back (both_counts table (get_or row i 0) * 8388608) g (omega (arith, few)) (step.small (counted i 0 c.loop-term-test.true)) in
    let told : to_z w32 (of_z w32 g) ≡ g = omega (arith, ints, step.low, step.high) in
    let z_is : z ≡ sum +ℤ g = ap (λ (y : ℤ). sum +ℤ to_z w64 (of_z w64 y)) (c.from-sum.ensures ∙ told) ∙ ap (λ (y : ℤ). sum +ℤ y) g_back in
    let more = gain_step side table row i sum g z c.is_sound.ensures.sound is c.loop-term-test.true c.loop-term.invariant.same c.loop-term.invariant.small (step.same (counted i 0 c.loop-term-test.true)) (step.small (counted i 0 c.loop-term-test.true)) z_is in
    let back = read_back (2 ^ 56) z (omega arith) more.2 in
    record {
      same = back ∙ more.0;
      small = subst (IsWithin (sum_by (both_counts table) (take (i + 1) row) * 8388608)) (sym back) more.1;
    }

pub returns-clause-same : goal.returns-clause-same
returns-clause-same c =
    let row = c.terms_of-term-items.result.now in
    let f = term_gain_of c.args.from c.args.degrees.now in
    c.loop-term.invariant.same
    ∙ ap (total_by f) (take_all c.loop-term.term-index row (omega arith))
    ∙ ap (total_by f) (sym (row_read c.args.ground.now.forward.now.rows c.args.doc row c.terms_of-term-items.ensures.same))

pub returns-clause-small : goal.returns-clause-small
returns-clause-small c =
    let table = c.args.degrees.now in
    let row = c.terms_of-term-items.result.now in
    let i = c.loop-term.term-index in
    let is = row_table c.args.ground.now.forward.now table c.args.doc row c.is_sound-2.ensures.sound c.requires.below c.terms_of-term-items.ensures.same c.requires.terms in
    let few = total_small table row i c.is_sound.ensures.sound is (omega arith) in
    within_weaker (sum_by (both_counts table) (take i row) * 8388608) (2 ^ 56) (to_z w64 c.loop-term.sum-bits) (omega (arith, few)) c.loop-term.invariant.small
