use Rattle.std.proofs.Common.{◌∙◌}
use Rattle.std.specs.Arc.{arc_value}
use Rattle.left_right.specs.Sides.{view as party_of}
use Rattle.live_index.proofs.Views.{opens_first}
use Rattle.live_index.proofs.writing.publish_first.Goals as goal

pub publish_as-requires : goal.publish_as-requires
publish_as-requires g c next is =
    opens_first g.K.Plan.versions g.K.Plan.planned c.args.base.now c.args.plan (arc_value c.args.view.now)
    c.args.writer.desk.shown.value (party_of c.args.writer.desk.place) _ g.B.Opening.opens next
    c.requires.picked c.requires.unknown c.requires.closed c.requires.view (is ∙ c.requires.last)
