use Rattle.std.proofs.Common.{◌≡◌, ℕ, ◌+◌, ◌*◌, ◌^◌, ◌<◌, ℤ, ◌+ℤ◌, to_z, of_z, w64, List, length, get_or, take, refl, sym, subst, ap, ◌∙◌, arith}
use Rattle.std.specs.List.{sum_by}
use Rattle.std.proofs.lemmas.Int.{ints}
use Rattle.std.proofs.lemmas.List.{take_all}
use Rattle.degrees.specs.Counts.{counts_in}
use Rattle.degrees.specs.Sums.{total_by}
use Rattle.exchange.specs.Gain.{term_gain_of}
use Rattle.exchange.specs.Tries.{IsWithin}
use Rattle.exchange.proofs.Bounds.{fits, read_back}
use Rattle.exchange.proofs.RowGains.{row_read, row_table, both_counts, total_small, gain_step, g_is, g_small, within_weaker}
use Rattle.exchange.proofs.moves.narrow_gain.Goals as goal

pub loop-term-init : goal.loop-term-init
unfolding total_by
loop-term-init c = record { same = refl; small = record { low = omega (arith, ints); high = omega (arith, ints) } }

pub counts-own-requires : goal.counts-own-requires
counts-own-requires c =
    let is = row_table c.args.ground.now.forward.now c.args.degrees.now c.args.doc c.terms_of-term-items.result.now c.is_sound-2.ensures.sound c.requires.below c.terms_of-term-items.ensures.same c.requires.terms in
    is.below c.loop-term.term-index 0 c.loop-term-test.true

pub overflow_add-sum : goal.overflow_add-sum
overflow_add-sum c =
    let table = c.args.degrees.now in
    let side = c.args.from in
    let row = c.terms_of-term-items.result.now in
    let i = c.loop-term.term-index in
    let sum = to_z w64 c.loop-term.sum-bits in
    let g = c.narrow_term_gain-sum.result in
    let is = row_table c.args.ground.now.forward.now table c.args.doc row c.is_sound-2.ensures.sound c.requires.below c.terms_of-term-items.ensures.same c.requires.terms in
    let low = is.below i 0 c.loop-term-test.true in
    let counted = subst (λ (terms : List ℕ). (k : ℕ) (d : ℕ) → k < length terms → 0 < get_or (counts_in side table) (get_or terms k d) 0) (row_read c.args.ground.now.forward.now.rows c.args.doc row c.terms_of-term-items.ensures.same) c.requires.counted in
    let some = counted i 0 c.loop-term-test.true in
    let apart = read_back (2 ^ 32) c.logs_apart-apart.result (omega arith) c.logs_apart-apart.ensures.small in
    let g_same = g_is side table (get_or row i 0) c.counts-own.result.0 c.counts-own.result.1 (to_z w64 (of_z w64 c.logs_apart-apart.result)) g c.narrow_term_gain-sum.ensures.same (apart ∙ c.logs_apart-apart.ensures.same) c.counts-own.ensures.own c.counts-own.ensures.other some in
    let g_low = g_small c.log_is_small.ensures.small side table (get_or row i 0) g c.is_sound.ensures.sound c.requires.ready.some_a c.requires.ready.some_b low some g_same in
    let z = sum +ℤ to_z w64 (of_z w64 g) in
    let z_is : z ≡ sum +ℤ g = ap (λ (y : ℤ). sum +ℤ y) (read_back (2 ^ 55) g (omega arith) c.narrow_term_gain-sum.ensures.within) in
    fits (2 ^ 56) z (omega arith) (gain_step side table row i sum g z c.is_sound.ensures.sound is c.loop-term-test.true c.loop-term.invariant.same c.loop-term.invariant.small g_same g_low z_is).2

pub loop-term-preserved : goal.loop-term-preserved
loop-term-preserved c =
    let table = c.args.degrees.now in
    let side = c.args.from in
    let row = c.terms_of-term-items.result.now in
    let i = c.loop-term.term-index in
    let sum = to_z w64 c.loop-term.sum-bits in
    let g = c.narrow_term_gain-sum.result in
    let is = row_table c.args.ground.now.forward.now table c.args.doc row c.is_sound-2.ensures.sound c.requires.below c.terms_of-term-items.ensures.same c.requires.terms in
    let low = is.below i 0 c.loop-term-test.true in
    let counted = subst (λ (terms : List ℕ). (k : ℕ) (d : ℕ) → k < length terms → 0 < get_or (counts_in side table) (get_or terms k d) 0) (row_read c.args.ground.now.forward.now.rows c.args.doc row c.terms_of-term-items.ensures.same) c.requires.counted in
    let some = counted i 0 c.loop-term-test.true in
    let apart = read_back (2 ^ 32) c.logs_apart-apart.result (omega arith) c.logs_apart-apart.ensures.small in
    let g_same = g_is side table (get_or row i 0) c.counts-own.result.0 c.counts-own.result.1 (to_z w64 (of_z w64 c.logs_apart-apart.result)) g c.narrow_term_gain-sum.ensures.same (apart ∙ c.logs_apart-apart.ensures.same) c.counts-own.ensures.own c.counts-own.ensures.other some in
    let g_low = g_small c.log_is_small.ensures.small side table (get_or row i 0) g c.is_sound.ensures.sound c.requires.ready.some_a c.requires.ready.some_b low some g_same in
    let z = sum +ℤ to_z w64 (of_z w64 g) in
    let z_is : z ≡ sum +ℤ g = ap (λ (y : ℤ). sum +ℤ y) (read_back (2 ^ 55) g (omega arith) c.narrow_term_gain-sum.ensures.within) in
    let step = gain_step side table row i sum g z c.is_sound.ensures.sound is c.loop-term-test.true c.loop-term.invariant.same c.loop-term.invariant.small g_same g_low z_is in
    let back = read_back (2 ^ 56) z (omega arith) step.2 in
    record {
      same = back ∙ step.0;
      small = subst (IsWithin (sum_by (both_counts table) (take (i + 1) row) * 8388608)) (sym back) step.1;
    }

pub returns-clause-same : goal.returns-clause-same
returns-clause-same c =
    let row = c.terms_of-term-items.result.now in
    let f = term_gain_of c.args.from c.args.degrees.now in
    c.loop-term.invariant.same
    ∙ ap (total_by f) (take_all c.loop-term.term-index row (omega arith))
    ∙ ap (total_by f) (sym (row_read c.args.ground.now.forward.now.rows c.args.doc row c.terms_of-term-items.ensures.same))

pub returns-clause-small : goal.returns-clause-small
returns-clause-small c =
    let table = c.args.degrees.now in
    let row = c.terms_of-term-items.result.now in
    let i = c.loop-term.term-index in
    let is = row_table c.args.ground.now.forward.now table c.args.doc row c.is_sound-2.ensures.sound c.requires.below c.terms_of-term-items.ensures.same c.requires.terms in
    let few = total_small table row i c.is_sound.ensures.sound is (omega arith) in
    within_weaker (sum_by (both_counts table) (take i row) * 8388608) (2 ^ 56) (to_z w64 c.loop-term.sum-bits) (omega (arith, few)) c.loop-term.invariant.small
