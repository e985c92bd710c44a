use Rattle.std.proofs.Common.{◌∙◌, arith}
use Rattle.bisection.proofs.Progressing.{standing_none, progress_of}
use Rattle.bisection.proofs.bisector.Bisector.prepare.Goals as goal

pub invariant_of-result : goal.invariant_of-result
invariant_of-result c =
    let sound = c.is_sound.ensures.sound in
    record {
      options = c.requires.options;
      sound = sound;
      most = omega arith;
      top = omega (arith, c.in_ok-logs.ensures.top, c.docs.ensures.same);
      standing = standing_none c.args.forward.now c.args.options c.in_ok-numbering.numbering c.new-2.result.items c.new-3.result.items sound (c.in_ok-numbering.ensures ∙ c.in_ok-documents.ensures) c.new-3.ensures.items;
    }

pub returns-clause-sound : goal.returns-clause-sound
returns-clause-sound c =
    let sound = c.is_sound.ensures.sound in
    let standing = standing_none c.args.forward.now c.args.options c.in_ok-numbering.numbering c.new-2.result.items c.new-3.result.items sound (c.in_ok-numbering.ensures ∙ c.in_ok-documents.ensures) c.new-3.ensures.items in
    progress_of c.args.forward.now c.args.options 0 c.in_ok-numbering.numbering c.new-2.result.items c.new-3.result.items c.requires.options sound (omega arith) standing
