use Rattle.std.proofs.Common.{arith, rules, subst}
use Rattle.std.specs.Prelude.{IsUtf8}
use Rattle.std.proofs.lemmas.Grind.{common_steps}
use Rattle.rgb_base.specs.Parts.{FitsRecord}
use Rattle.rgb_base.proofs.Lists.{All-whole, All-more_read}
use Rattle.rgb_base.proofs.checks.room_after_names.Goals as goal

pub loop-document-preserved : goal.loop-document-preserved
loop-document-preserved c =
    let item : FitsRecord c.document-item.result = record { name = ∣ subst IsUtf8 c.as_str.ensures.same c.as_str.utf8 ∣₁; length = search rules } in
    record {
      left = grind (arith, common_steps);
      fits = All-more_read FitsRecord _ _ c.document-item.result c.loop-document-test.true c.document-item.is c.loop-document.invariant.fits item;
    }

pub returns-clause-fits : goal.returns-clause-fits
returns-clause-fits c = All-whole FitsRecord _ _ (omega arith) c.loop-document.invariant.fits
