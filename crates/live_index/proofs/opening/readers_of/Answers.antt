use Rattle.std.proofs.Common.{◌≡◌, length, ap, ◌∙◌, arith}
use Rattle.std.proofs.lemmas.List.{length_push}
use Rattle.std.specs.Arc.{arc_value}
use Rattle.live_index.specs.declared.view.Shown.{Shown}
use Rattle.live_index.specs.declared.view.View.{View}
use Rattle.live_index.specs.Rule.{seen_in}
use Rattle.live_index.proofs.Views.{all_more}
use Rattle.live_index.proofs.opening.readers_of.Goals as goal

pub loop-preserved : goal.loop-preserved
loop-preserved g c =
    let base = c.args.base.now in let plan = c.args.plan in let view = arc_value c.args.view.now in
    let items = c.in_ok-push.ensures.items in
    record {
      publishing = c.place_of-place.ensures.publishing;
      shows = ap (λ (s : Shown). arc_value s.view) c.place_of-place.ensures.shown ∙ c.loop.invariant.shows;
      count = omega (arith, length_push c.loop.made.items (seen_in base plan (arc_value c.in_ok-try_clone-2.field-0)), ap length items, c.loop.invariant.count);
      readers = all_more (λ reader. reader ≡ seen_in base plan view) c.loop.made.items _ c.push.new.self.items items
          c.loop.invariant.readers (ap (λ (v : View). seen_in base plan v) c.in_ok-try_clone-2.ensures);
    }
