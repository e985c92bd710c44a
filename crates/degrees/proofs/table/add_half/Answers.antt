use Rattle.std.proofs.Common.{◌≡◌, ◌<◌, ℕ, List, length, get_or, take, sym, ap, ◌∙◌, arith, refl}
use Rattle.std.proofs.lemmas.List.{length-take-le, length-replicate, get_or_default}
use Rattle.forward_index.specs.Forward.{IsRow}
use Rattle.degrees.specs.Counts.{degrees_of, with_more}
use Rattle.degrees.specs.Steps.{half_of}
use Rattle.degrees.proofs.Rows.{row_read, row_is, degrees_none, degrees_step, degrees_len, degrees_at, degree_le}
use Rattle.degrees.proofs.Sides.{half_as_a, a_kept}
use Rattle.degrees.proofs.table.add_half.Goals as goal

pub loop-place-init : goal.loop-place-init
loop-place-init c = record { half = c.requires.clear ∙ sym (degrees_none c.args.forward.now c.args.half.now); other = refl }

row : (c : goal.After-terms_of) → IsRow c.args.forward.now.terms c.terms_of.result.now
row c =
    row_is c.args.forward.now (get_or c.args.half.now c.loop-place.place-index 0) c.terms_of.result.now c.is_sound.ensures.sound (c.requires.below c.loop-place.place-index 0 c.loop-place-test.true) c.terms_of.ensures.same

half_len : (c : goal.After-terms_of) → length (half_of c.args.side c.loop-place.counts) ≡ c.args.forward.now.terms
half_len c = ap (λ (xs : List ℕ). length xs) c.loop-place.invariant.half ∙ degrees_len c.args.forward.now (take c.loop-place.place-index c.args.half.now)

pub add_row-requires-clause-rising : goal.add_row-requires-clause-rising
add_row-requires-clause-rising c = (row c).rising

pub add_row-requires-clause-below : goal.add_row-requires-clause-below
add_row-requires-clause-below c k d lt =
    let terms = c.args.forward.now.terms in
    let was : length (half_of c.args.side c.args.counts.now) ≡ terms = ap (λ (xs : List ℕ). length xs) c.requires.clear ∙ length-replicate {A = ℕ} terms 0 in
    let kept : length c.loop-place.counts.a ≡ length c.args.counts.now.a =
    a_kept c.args.side c.loop-place.counts c.args.counts.now (half_len c ∙ sym was) (ap (λ (xs : List ℕ). length xs) c.loop-place.invariant.other) in
    omega (arith, half_as_a c.args.side c.args.counts.now c.is_sound-2.ensures.sound, (row c).below k d lt)

pub add_row-requires-clause-few : goal.add_row-requires-clause-few
add_row-requires-clause-few c k d lt =
    let counts = half_of c.args.side c.loop-place.counts in
    let front = take c.loop-place.place-index c.args.half.now in
    let low : k < c.args.forward.now.terms = omega (arith, half_len c) in
    omega (
      arith,
      get_or_default counts k d 0 lt,
      ap (λ (xs : List ℕ). get_or xs k 0) c.loop-place.invariant.half,
      degrees_at c.args.forward.now front k low,
      degree_le c.args.forward.now front k,
      length-take-le {A = ℕ} c.loop-place.place-index c.args.half.now (omega arith),
      c.requires.few,
    )

pub loop-place-preserved : goal.loop-place-preserved
loop-place-preserved c =
    let forward = c.args.forward.now in
    let half = c.args.half.now in
    let i = c.loop-place.place-index in
    let place = get_or half i 0 in
    let row = row_read forward.rows place c.terms_of.result.now (c.requires.below i 0 c.loop-place-test.true) c.terms_of.ensures.same in
    record {
      half = c.add_row.ensures.half ∙ ap (with_more c.terms_of.result.now) c.loop-place.invariant.half
          ∙ ap (λ (r : List ℕ). with_more r (degrees_of forward (take i half))) (sym row) ∙ sym (degrees_step forward half i c.loop-place-test.true);
      other = c.add_row.ensures.other ∙ c.loop-place.invariant.other;
    }
