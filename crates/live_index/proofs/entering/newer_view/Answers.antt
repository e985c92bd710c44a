use Rattle.live_index.proofs.Rules.{enters}
use Rattle.live_index.proofs.entering.newer_view.Goals as goal

pub enter_as-requires : goal.enter_as-requires
enter_as-requires g c = enters g.K.Plan.versions g.K.Plan.planned _ _
