use Rattle.std.proofs.Common.{◌≡◌, List, [], length, set, sym, subst, ap, ◌∙◌, arith}
use Rattle.std.proofs.lemmas.List.{length-set, nil_from_length}
use Rattle.degrees.specs.Kept.{both_of, AreTouched}
use Rattle.degrees.specs.Steps.{Both, no_counts}
use Rattle.degrees.proofs.Pairs.{a_len}
use Rattle.degrees.proofs.Marked.{AreTouched-erased, untouched_are_none}
use Rattle.degrees.specs.declared.pair.Pair.{Pair}
use Rattle.degrees.proofs.counts.Counts.clear.Goals as goal

pub loop-term-preserved : goal.loop-term-preserved
loop-term-preserved c =
    let pairs : List Pair = c.loop-term.self-inside.pairs.items in
    let none : Pair = record { a = 0; b = 0 } in
    let len : length (set pairs c.in-Some.term none) ≡ length pairs = length-set pairs c.in-Some.term none in
    record {
      sound = record {
        touched = AreTouched-erased pairs c.pop.new.self.items c.in-Some.term none (subst (AreTouched (both_of pairs)) c.in-Some.ensures.items c.loop-term.invariant.sound.touched) (omega arith);
        room = omega (arith, len, c.pop.ensures.capacity, c.loop-term.invariant.sound.room);
      };
      len = len ∙ c.loop-term.invariant.len;
    }

pub returns : goal.returns
returns c =
    let pairs : List Pair = c.loop-term.self-inside.pairs.items in
    let empty : c.loop-term.self-inside.touched.items ≡ [] = nil_from_length c.loop-term.self-inside.touched.items (omega (arith, c.loop-term.self-inside.touched.ok.0, c.in_default.ensures.cases.0)) in
    let all = untouched_are_none pairs (subst (AreTouched (both_of pairs)) empty c.loop-term.invariant.sound.touched) in
    record {
      clear = all ∙ ap no_counts (c.loop-term.invariant.len ∙ sym (a_len c.self.inside.pairs.items) ∙ ap (λ (v : Both). length v.a) c.self.view_is);
    }
