use Rattle.std.proofs.Common.{◌≡◌, ◌<◌, ℕ, List, length, get_or, take, sym, ap, ◌∙◌, arith, refl}
use Rattle.degrees.specs.Steps.{half_of, one_more}
use Rattle.degrees.proofs.Rows.{more_none, more_len, more_step, more_before}
use Rattle.degrees.proofs.Sides.{half_as_a, a_kept}
use Rattle.degrees.proofs.table.add_row.Goals as goal

low : (c : goal.After-row_known-1) → get_or c.args.row.now c.loop-term.term-index 0 < length (half_of c.args.side c.args.counts.now)
low c = omega (arith, half_as_a c.args.side c.args.counts.now c.is_sound.ensures.sound, c.requires.below c.loop-term.term-index 0 c.loop-term-test.true)

pub loop-term-init : goal.loop-term-init
loop-term-init c = record { half = sym (more_none c.args.row.now (half_of c.args.side c.args.counts.now)); other = refl }

pub add-requires-clause-below : goal.add-requires-clause-below
add-requires-clause-below c =
    let old = half_of c.args.side c.args.counts.now in
    let front = take c.loop-term.term-index c.args.row.now in
    let kept : length c.loop-term.counts.a ≡ length c.args.counts.now.a =
    a_kept c.args.side c.loop-term.counts c.args.counts.now (ap (λ (xs : List ℕ). length xs) c.loop-term.invariant.half ∙ more_len front old) (ap (λ (xs : List ℕ). length xs) c.loop-term.invariant.other) in
    omega (arith, c.requires.below c.loop-term.term-index 0 c.loop-term-test.true)

pub add-requires-clause-few : goal.add-requires-clause-few
add-requires-clause-few c =
    let old = half_of c.args.side c.args.counts.now in
    let term = get_or c.args.row.now c.loop-term.term-index 0 in
    omega (
      arith,
      ap (λ (xs : List ℕ). get_or xs term 0) c.loop-term.invariant.half,
      more_before c.args.row.now old c.loop-term.term-index c.requires.rising c.loop-term-test.true (low c),
      c.requires.few term 0 (low c),
    )

pub loop-term-preserved : goal.loop-term-preserved
loop-term-preserved c =
    let row = c.args.row.now in
    let i = c.loop-term.term-index in
    let old = half_of c.args.side c.args.counts.now in
    let within : get_or row i 0 < length old = omega (arith, half_as_a c.args.side c.args.counts.now c.is_sound.ensures.sound, c.requires.below i 0 c.loop-term-test.true) in
    record {
      half = c.add.ensures.half ∙ ap (λ (xs : List ℕ). one_more xs (get_or row i 0)) c.loop-term.invariant.half
          ∙ sym (more_step row old i c.requires.rising c.loop-term-test.true within);
      other = c.add.ensures.other ∙ c.loop-term.invariant.other;
    }
