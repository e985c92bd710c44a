use Rattle.std.proofs.Common.{◌+◌, ◌-◌, ◌<◌, List, length, get_or, set, sym, ap, ◌∙◌, arith}
use Rattle.std.proofs.lemmas.List.{length-set}
use Rattle.degrees.specs.declared.pair.Pair.{Pair}
use Rattle.degrees.specs.Kept.{both_of}
use Rattle.degrees.specs.Steps.{Both, half_of, other_of}
use Rattle.degrees.proofs.Pairs.{a_len, half_at, other_at, half_set, other_set, sum_of_sides}
use Rattle.degrees.proofs.Marked.{AreTouched-again}
use Rattle.degrees.proofs.counts.Counts.shift.Goals as goal

pub invariant_of-self : goal.invariant_of-self
invariant_of-self c =
    let pairs : List Pair = c.self.inside.pairs.items in
    let term = c.args.term in
    let old = c.index-pair.result.now in
    let new = c.shifted.result in
    let low : term < length pairs = omega (arith, a_len pairs, c.requires.below, ap (λ (v : Both). length v.a) c.self.view_is) in
    let before : 0 < old.a + old.b =
    omega (arith, sum_of_sides c.args.from old, half_at c.args.from pairs term old low c.index-pair.ensures, ap (λ (v : Both). get_or (half_of c.args.from v) term 0) c.self.view_is, c.requires.some) in
    let after : 0 < new.a + new.b = omega (arith, sum_of_sides c.args.from new, c.shifted.ensures.other) in
    record {
      touched = AreTouched-again pairs c.self.inside.touched.items term old new c.self.invariant.touched low c.index-pair.ensures (λ some. after) (λ some. before);
      room = omega (arith, length-set pairs term new, c.self.invariant.room);
    }

pub returns-clause-half : goal.returns-clause-half
returns-clause-half c =
    let pairs : List Pair = c.self.inside.pairs.items in
    let term = c.args.term in
    let from = c.args.from in
    let low : term < length pairs = omega (arith, a_len pairs, c.requires.below, ap (λ (v : Both). length v.a) c.self.view_is) in
    let here = half_at from pairs term c.index-pair.result.now low c.index-pair.ensures in
    half_set from pairs term c.shifted.result
    ∙ ap (set (half_of from (both_of pairs)) term) (c.shifted.ensures.half ∙ ap (λ n. n - 1) (sym here))
    ∙ ap (λ (v : Both). set (half_of from v) term (get_or (half_of from v) term 0 - 1)) c.self.view_is

pub returns-clause-other : goal.returns-clause-other
returns-clause-other c =
    let pairs : List Pair = c.self.inside.pairs.items in
    let term = c.args.term in
    let from = c.args.from in
    let low : term < length pairs = omega (arith, a_len pairs, c.requires.below, ap (λ (v : Both). length v.a) c.self.view_is) in
    let there = other_at from pairs term c.index-pair.result.now low c.index-pair.ensures in
    other_set from pairs term c.shifted.result
    ∙ ap (set (other_of from (both_of pairs)) term) (c.shifted.ensures.other ∙ ap (λ n. n + 1) (sym there))
    ∙ ap (λ (v : Both). set (other_of from v) term (get_or (other_of from v) term 0 + 1)) c.self.view_is
