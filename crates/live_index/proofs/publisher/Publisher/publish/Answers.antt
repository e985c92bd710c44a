use Rattle.std.proofs.Common.{◌+◌}
use Rattle.std.specs.Arc.{arc_value}
use Rattle.live_index.proofs.Views.{next_view}
use Rattle.live_index.proofs.publisher.Publisher.publish.Goals as goal

pub put_out-requires-clause-view : goal.put_out-requires-clause-view
put_out-requires-clause-view g c κs within =
    next_view g.K.Plan.versions g.K.Plan.planned c.args.self.now c.self.inside.base.now c.self.inside.plan
    (arc_value c.self.inside.view) (c.version-version.result + 1) c.args.by c.in_ok-store.store (arc_value c.in_ok-view.view)
    c.self.view_is c.version-version.ensures.last c.requires.planned c.is_sound.ensures.sound c.requires.len
    c.in_ok-store.ensures.ok c.in_ok-view.ensures.ok
