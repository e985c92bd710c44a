use Rattle.std.proofs.Common.{◌≡◌, ◌≢◌, get_or, inl, inr, sym, refl, ◌∙◌, arith}
use Rattle.std.proofs.lemmas.List.{get_or_default}
use Rattle.std.proofs.lemmas.Option.{slice_get-get_or}
use Rattle.rgb_base.proofs.Tables.{AreMarked-more, AreNumbers-from_AreMarked, Contains-from_AreMarked}
use Rattle.rgb_base.proofs.permutation.places_of.Goals as goal
use Rattle.rgb_base.proofs.permutation.places_of.Goals.{then-order-value-via-then-order-value, then-order-value-via-else-order-value+then-index}

pub returns-then-order-value-clause-fault : goal.returns-then-order-value-clause-fault
returns-then-order-value-clause-fault c =
    let order = c.args.order.now in
    let place = c.loop-place.place in
    let value = get_or order place 0 in
    record {
      at = slice_get-get_or order place 0 c.loop-place-test.true;
      wrong = elim c.then-order-value.branch [
        | then-order-value-via-then-order-value w ↦ inl w.if-order-value.true
        | then-order-value-via-else-order-value+then-index w ↦
            let places = c.loop-place.places.items in
            let read = get_or_default places value (w.index.result.now) 0 (omega (arith, c.loop-place.invariant.len, w.if-order-value.false)) in
            let taken : get_or places value 0 ≢ 4294967295 = λ free. w.if-index.true (w.index.ensures ∙ read ∙ free) in
            inr (Contains-from_AreMarked order places place value c.loop-place.invariant (omega arith) w.if-order-value.false taken)
      ];
      before = AreNumbers-from_AreMarked order _ place c.loop-place.invariant (omega arith);
    }

pub loop-place-preserved : goal.loop-place-preserved
loop-place-preserved c =
    let order = c.args.order.now in
    let place = c.loop-place.place in
    let value = get_or order place 0 in
    let free : get_or c.loop-place.places.items value 0 ≡ 4294967295 = get_or_default c.loop-place.places.items value 0 c.index.result.now (omega (arith, c.loop-place.invariant.len)) ∙ sym c.index.ensures ∙ c.if-index.false in
    AreMarked-more order c.loop-place.places.items place value c.requires c.loop-place.invariant c.loop-place-test.true refl c.if-order-value.false free
