use Rattle.std.proofs.Common.{◌≡◌, ◌<◌, ℕ, List, length, get_or, take, sym, ap, ◌∙◌, arith}
use Rattle.degrees.specs.Steps.{half_of, other_of, one_more, one_less}
use Rattle.degrees.proofs.Rows.{more_none, more_len, more_step, more_before, less_none, less_len, less_step, less_before}
use Rattle.degrees.proofs.Sides.{half_as_a, other_as_a, a_kept}
use Rattle.degrees.proofs.table.shift_row.Goals as goal

low : (c : goal.After-row_known-1) → get_or c.args.row.now c.loop-term.term-index 0 < length (half_of c.args.from c.args.counts.now)
low c = omega (arith, half_as_a c.args.from c.args.counts.now c.is_sound.ensures.sound, c.requires.below c.loop-term.term-index 0 c.loop-term-test.true)

low_across : (c : goal.After-row_known-1) → get_or c.args.row.now c.loop-term.term-index 0 < length (other_of c.args.from c.args.counts.now)
low_across c = omega (arith, other_as_a c.args.from c.args.counts.now c.is_sound.ensures.sound, c.requires.below c.loop-term.term-index 0 c.loop-term-test.true)

pub loop-term-init : goal.loop-term-init
loop-term-init c = record {
  half = sym (less_none c.args.row.now (half_of c.args.from c.args.counts.now));
  other = sym (more_none c.args.row.now (other_of c.args.from c.args.counts.now));
}

pub shift-requires-clause-below : goal.shift-requires-clause-below
shift-requires-clause-below c =
    let front = take c.loop-term.term-index c.args.row.now in
    let half = ap (λ (xs : List ℕ). length xs) c.loop-term.invariant.half ∙ less_len front (half_of c.args.from c.args.counts.now) in
    let other = ap (λ (xs : List ℕ). length xs) c.loop-term.invariant.other ∙ more_len front (other_of c.args.from c.args.counts.now) in
    let kept : length c.loop-term.counts.a ≡ length c.args.counts.now.a = a_kept c.args.from c.loop-term.counts c.args.counts.now half other in
    omega (arith, c.requires.below c.loop-term.term-index 0 c.loop-term-test.true)

pub shift-requires-clause-some : goal.shift-requires-clause-some
shift-requires-clause-some c =
    let old = half_of c.args.from c.args.counts.now in
    let term = get_or c.args.row.now c.loop-term.term-index 0 in
    omega (
      arith,
      ap (λ (xs : List ℕ). get_or xs term 0) c.loop-term.invariant.half,
      less_before c.args.row.now old c.loop-term.term-index c.requires.rising c.loop-term-test.true (low c),
      c.requires.counted c.loop-term.term-index 0 c.loop-term-test.true,
    )

pub shift-requires-clause-few : goal.shift-requires-clause-few
shift-requires-clause-few c =
    let old = other_of c.args.from c.args.counts.now in
    let term = get_or c.args.row.now c.loop-term.term-index 0 in
    omega (
      arith,
      ap (λ (xs : List ℕ). get_or xs term 0) c.loop-term.invariant.other,
      more_before c.args.row.now old c.loop-term.term-index c.requires.rising c.loop-term-test.true (low_across c),
      c.requires.few term 0 (low_across c),
    )

pub loop-term-preserved : goal.loop-term-preserved
loop-term-preserved c =
    let row = c.args.row.now in
    let i = c.loop-term.term-index in
    let old = half_of c.args.from c.args.counts.now in
    let across = other_of c.args.from c.args.counts.now in
    let within : get_or row i 0 < length old = omega (arith, half_as_a c.args.from c.args.counts.now c.is_sound.ensures.sound, c.requires.below i 0 c.loop-term-test.true) in
    let inside : get_or row i 0 < length across = omega (arith, other_as_a c.args.from c.args.counts.now c.is_sound.ensures.sound, c.requires.below i 0 c.loop-term-test.true) in
    record {
      half = c.shift.ensures.half ∙ ap (λ (xs : List ℕ). one_less xs (get_or row i 0)) c.loop-term.invariant.half
          ∙ sym (less_step row old i c.requires.rising c.loop-term-test.true within);
      other = c.shift.ensures.other ∙ ap (λ (xs : List ℕ). one_more xs (get_or row i 0)) c.loop-term.invariant.other
          ∙ sym (more_step row across i c.requires.rising c.loop-term-test.true inside);
    }
