use Rattle.std.proofs.Common.{◌≡◌, pos, ap, ◌∙◌}
use Rattle.rgb_base.specs.Building.{Building, with_record}
use Rattle.generated_index.proofs.Lists.{record_pushed}
use Rattle.generated_index.proofs.index.push_records.Goals as goal

pub loop-document-preserved : goal.loop-document-preserved
loop-document-preserved c =
    c.in-Ok.ensures.ok ∙ ap (λ (b : Building). with_record b c.as_str.result.now (pos 20)) c.loop-document.invariant
    ∙ record_pushed c.args.builder.now c.loop-document.document c.as_str.result.now (c.as_str.ensures.value ∙ c.label_of-label.ensures)
