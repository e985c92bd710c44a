use Rattle.live_index.proofs.Rules.{admits, forks, merges}
use Rattle.live_index.proofs.opening.place_of.Goals as goal

pub reader-requires : goal.reader-requires
reader-requires g c = admits g.K.Plan.versions g.K.Plan.planned

pub tell-requires : goal.tell-requires
tell-requires g c = forks g.K.Plan.versions g.K.Plan.planned _ _

pub learn-requires-clause-rule : goal.learn-requires-clause-rule
learn-requires-clause-rule g c = merges g.K.Plan.versions g.K.Plan.planned _ _ _ _
