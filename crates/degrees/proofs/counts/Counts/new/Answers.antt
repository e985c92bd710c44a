use Rattle.std.proofs.Common.{◌≡◌, [], replicate, ap, subst, sym, refl, ◌∙◌, arith}
use Rattle.degrees.specs.declared.pair.Pair.{Pair}
use Rattle.degrees.specs.Kept.{both_of, AreTouched}
use Rattle.degrees.specs.Steps.{Both, no_counts}
use Rattle.degrees.proofs.Touched.{AreTouched-none}
use Rattle.degrees.proofs.Pairs.{both_of_none}
use Rattle.degrees.proofs.counts.Counts.new.Goals as goal

pub invariant_of-result : goal.invariant_of-result
invariant_of-result c =
    let none : Pair = record { a = 0; b = 0 } in
    let items : c.in_ok-pairs.pairs.items ≡ replicate c.args.terms none = c.in_ok-pairs.ensures.items_if_clones_equal (λ y clone. clone) in
    let both : both_of c.in_ok-pairs.pairs.items ≡ no_counts c.args.terms = ap both_of items ∙ both_of_none c.args.terms none refl refl in
    record {
      touched = subst (AreTouched (both_of c.in_ok-pairs.pairs.items)) (sym c.in_ok-touched.ensures.items) (subst (λ (v : Both). AreTouched v []) (sym both) (AreTouched-none c.args.terms));
      room = omega (arith, c.in_ok-pairs.pairs.ok.0, c.in_ok-pairs.ensures.len, c.in_ok-touched.ensures.capacity);
    }

pub returns : goal.returns
returns c = record {
  ok =
      let none : Pair = record { a = 0; b = 0 } in
      let items : c.in_ok-pairs.pairs.items ≡ replicate c.args.terms none = c.in_ok-pairs.ensures.items_if_clones_equal (λ y clone. clone) in
      ap both_of items ∙ both_of_none c.args.terms none refl refl;
}
