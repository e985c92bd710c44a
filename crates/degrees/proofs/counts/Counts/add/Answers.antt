use Rattle.std.proofs.Common.{◌≡◌, true, false, inl, inr, ◌+◌, ◌<◌, List, length, get_or, set, subst, sym, ap, ◌∙◌, arith}
use Rattle.std.proofs.lemmas.Bool.{cases_eq}
use Rattle.std.proofs.lemmas.List.{length-set, set-get_or}
use Rattle.std.specs.Vec.{with_item}
use Rattle.degrees.specs.declared.pair.Pair.{Pair}
use Rattle.degrees.specs.declared.counts.Counts.TheInside.{Inside}
use Rattle.degrees.specs.Kept.{both_of, AreTouched, IsCounts}
use Rattle.degrees.specs.Steps.{Both, half_of, other_of}
use Rattle.degrees.proofs.Pairs.{a_len, half_at, other_at, half_set, other_set, sum_of_sides}
use Rattle.degrees.proofs.Marked.{AreTouched-first, AreTouched-again, room_for}
use Rattle.degrees.proofs.counts.Counts.add.Goals as goal
use Rattle.degrees.proofs.counts.Counts.add.Goals.{then-is_none, else-is_none}

pub push_reserved-requires : goal.push_reserved-requires
push_reserved-requires c =
    let pairs : List Pair = c.self.inside.pairs.items in
    let low : c.args.term < length pairs = omega (arith, a_len pairs, c.requires.below, ap (λ (v : Both). length v.a) c.self.view_is) in
    let none = c.is_none.ensures.same.0 c.if-is_none.true in
    let space = room_for pairs c.self.inside.touched.items c.args.term c.index-pair.result.now c.self.invariant.touched low c.index-pair.ensures none in
    omega (arith, c.self.invariant.room, c.self.inside.touched.ok.0)

pub invariant_of-self : goal.invariant_of-self
invariant_of-self c =
    let pairs : List Pair = c.self.inside.pairs.items in
    let term = c.args.term in
    let new = c.with_more.result in
    let low : term < length pairs = omega (arith, a_len pairs, c.requires.below, ap (λ (v : Both). length v.a) c.self.view_is) in
    let some : 0 < new.a + new.b = omega (arith, sum_of_sides c.args.side new, c.with_more.ensures.half) in
    let counted : c.is_none.result ≡ false → 0 < c.index-pair.result.now.a + c.index-pair.result.now.b = λ no.
    elim (cases_eq (c.index-pair.result.now.a + c.index-pair.result.now.b) 0) [
      | inl none ↦ let yes : c.is_none.result ≡ true = c.is_none.ensures.same.1 none in let clash : true ≡ false = sym yes ∙ no in absurd (cc)
      | inr unlike ↦ omega arith
    ] in
    let P : Inside → Type 0 = λ inside. IsCounts (record { pairs = with_item inside.pairs term new; touched = inside.touched }) in
    elim c.if-is_none.branch [
      | then-is_none w ↦
          let none = c.is_none.ensures.same.0 w.if-is_none.true in
          subst P (sym w.self-inside-is) (record {
            touched = subst (AreTouched (both_of (set pairs term new))) (sym w.push_reserved.ensures.items) (AreTouched-first pairs c.self.inside.touched.items term c.index-pair.result.now new c.self.invariant.touched low c.index-pair.ensures none some);
            room = omega (arith, length-set pairs term new, w.push_reserved.ensures.capacity, c.self.invariant.room);
          })
      | else-is_none w ↦
          subst P (sym w.self-inside-is) (record {
            touched = AreTouched-again pairs c.self.inside.touched.items term c.index-pair.result.now new c.self.invariant.touched low c.index-pair.ensures (λ before. some) (λ after. counted w.if-is_none.false);
            room = omega (arith, length-set pairs term new, c.self.invariant.room);
          })
    ]

pub returns-clause-half : goal.returns-clause-half
returns-clause-half c =
    let pairs : List Pair = c.self.inside.pairs.items in
    let term = c.args.term in
    let side = c.args.side in
    let new = c.with_more.result in
    let low : term < length pairs = omega (arith, a_len pairs, c.requires.below, ap (λ (v : Both). length v.a) c.self.view_is) in
    let kept : c.if-is_none.self-inside.pairs.items ≡ pairs = elim c.if-is_none.branch [
      | then-is_none w ↦ ap (λ (inside : Inside). inside.pairs.items) w.self-inside-is
      | else-is_none w ↦ ap (λ (inside : Inside). inside.pairs.items) w.self-inside-is
    ] in
    let here = half_at side pairs term c.index-pair.result.now low c.index-pair.ensures in
    ap (λ (xs : List Pair). half_of side (both_of (set xs term new))) kept ∙ half_set side pairs term new
    ∙ ap (set (half_of side (both_of pairs)) term) (c.with_more.ensures.half ∙ ap (λ n. n + 1) (sym here))
    ∙ ap (λ (v : Both). set (half_of side v) term (get_or (half_of side v) term 0 + 1)) c.self.view_is

pub returns-clause-other : goal.returns-clause-other
returns-clause-other c =
    let pairs : List Pair = c.self.inside.pairs.items in
    let term = c.args.term in
    let side = c.args.side in
    let new = c.with_more.result in
    let low : term < length pairs = omega (arith, a_len pairs, c.requires.below, ap (λ (v : Both). length v.a) c.self.view_is) in
    let kept : c.if-is_none.self-inside.pairs.items ≡ pairs = elim c.if-is_none.branch [
      | then-is_none w ↦ ap (λ (inside : Inside). inside.pairs.items) w.self-inside-is
      | else-is_none w ↦ ap (λ (inside : Inside). inside.pairs.items) w.self-inside-is
    ] in
    let there = other_at side pairs term c.index-pair.result.now low c.index-pair.ensures in
    ap (λ (xs : List Pair). other_of side (both_of (set xs term new))) kept ∙ other_set side pairs term new
    ∙ ap (set (other_of side (both_of pairs)) term) (c.with_more.ensures.other ∙ sym there) ∙ set-get_or (other_of side (both_of pairs)) term 0
    ∙ ap (other_of side) c.self.view_is
