use Rattle.std.proofs.Common.{◌+◌, length, refl, sym, ap, subst, ◌∙◌}
use Rattle.rgb_app.specs.Prepared.{all_lent}
use Rattle.rgb_app.proofs.Merges.{lists_of, AreMerged, one_more_merged, one_more_lent, stands_in_turn}
use Rattle.rgb_app.proofs.merging.in_order.Goals as goal

pub loop-place-preserved : goal.loop-place-preserved
loop-place-preserved c =
    let by_reader = c.args.by_reader.now in
    let l = c.loop-place in
    let answers = c.index-by_reader-place.result in
    let stands = stands_in_turn by_reader (length by_reader) c.args.count l.place answers c.index.result.now refl c.requires.turns c.loop-place-test.true c.index-by_reader-place.is c.index.ensures in
    subst (λ merged. AreMerged (lists_of by_reader) (l.place + 1) merged) (sym (ap all_lent c.in_ok-push.ensures.items ∙ one_more_lent l.all.items c.index.result))
    (one_more_merged (lists_of by_reader) l.place (all_lent l.all.items) c.index.result.now l.invariant stands)
