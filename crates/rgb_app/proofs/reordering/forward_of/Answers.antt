use Rattle.rgb_app.proofs.Reorderings.{by_number, if_ok_both}
use Rattle.rgb_app.proofs.reordering.forward_of.Goals as goal

pub returns-else-options : goal.returns-else-options
returns-else-options g c = record {
  ok = if_ok_both c.build.result _ _ _ (λ forward of sound. by_number c.args.options c.args.index.now forward c.if-options.false of sound) c.build.ensures.ok c.build.ensures.sound;
}
