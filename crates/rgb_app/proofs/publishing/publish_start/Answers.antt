use Rattle.std.proofs.Common.{length, ap, ◌∙◌}
use Rattle.rgb_app.proofs.Slabs.{slab_len}
use Rattle.rgb_app.proofs.publishing.publish_start.Goals as goal

pub publish_next-requires-clause-len : goal.publish_next-requires-clause-len
publish_next-requires-clause-len g c κs within =
    ap length c.numbering.ensures.same
    ∙ slab_len c.each_document_once.ensures.law c.args.options c.args.publisher.now.base c.args.bisector.now c.requires.forward c.requires.recursion c.is_sound.ensures.sound
