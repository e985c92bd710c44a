use Rattle.std.proofs.Common.{◌≡◌, ℕ, pos, List, length, replicate, ap, ◌∙◌}
use Rattle.std.proofs.lemmas.List.{length-replicate}
use Rattle.rgb_base.specs.declared.parts.Posting.{Posting}
use Rattle.generated_index.proofs.Steps.{filled_fresh}
use Rattle.generated_index.proofs.passes.table_of.Goals as goal

pub loop-document-init : goal.loop-document-init
loop-document-init c =
    let none : Posting = record { doc = 0; tf = pos 0 } in
    let items : c.in_ok-table.table.items ≡ replicate c.in_ok-cursors.end none = c.in_ok-table.ensures.items_if_clones_equal (λ y clone. clone) in
    record {
      made = c.of-draws.ensures.none;
      same = c.of-draws.ensures.number;
      cursors = c.in_ok-cursors.ensures.cursors;
      filled = filled_fresh c.args.number c.args.documents c.in_ok-table.table.items (ap (λ (ps : List Posting). length ps) items ∙ length-replicate c.in_ok-cursors.end none ∙ c.in_ok-cursors.ensures.end);
    }
