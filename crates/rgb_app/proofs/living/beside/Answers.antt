use Rattle.rgb_app.proofs.living.beside.Goals as goal

pub open-requires-clause-identity : goal.open-requires-clause-identity
open-requires-clause-identity g c κs within = c.versions_are_planned.ensures.first c.args.index.now (record { options = c.args.options }) c.is_sound.ensures.sound
