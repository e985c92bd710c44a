use Rattle.std.proofs.Common.{Some}
use Rattle.std.specs.Arc.{arc_value}
use Rattle.live_index.specs.Rule.{seen_in}
use Rattle.live_index.proofs.writing.put_first.Given as goal

-- the publisher is told of the history that has the view's version last
abbrev pub ghosts-publish_first : goal.ghosts-publish_first
ghosts-publish_first g a = record { opens = Some (seen_in a.base.now a.plan (arc_value a.view.now)) }
