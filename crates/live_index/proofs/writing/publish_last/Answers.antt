use Rattle.std.proofs.Common.{drop, ◌∙◌}
use Rattle.std.specs.Arc.{arc_value}
use Rattle.left_right.specs.Sides.{view as party_of}
use Rattle.live_index.proofs.Views.{publishes_next, published}
use Rattle.live_index.proofs.writing.publish_last.Goals as goal

pub publish_as-requires : goal.publish_as-requires
publish_as-requires g c next is =
    publishes_next g.K.Plan.versions g.K.Plan.planned c.args.base.now c.args.plan (arc_value c.args.view.now)
    c.args.writer.desk.shown.value (party_of c.args.writer.desk.place) _ next c.requires.publishing.knows
    c.requires.view c.requires.next (is ∙ c.requires.last)

pub returns-clause-publishing : goal.returns-clause-publishing
returns-clause-publishing g c =
    let w = c.publish_as.result.0 in
    published g.K.Plan.versions g.K.Plan.planned c.args.base.now c.args.plan (arc_value c.args.view.now)
    c.args.writer.desk.shown.value (party_of c.args.writer.desk.place)
    w.desk.shown.value (party_of w.desk.place) (drop c.args.writer.behind c.args.writer.log.items)
    (drop w.behind w.log.items) c.publish_as.result.1 c.requires.publishing c.requires.view c.requires.last
    c.publish_as.ensures.values c.publish_as.ensures.rule
