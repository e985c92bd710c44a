use Rattle.std.proofs.Common.{◌≡◌, length, sym, ap, subst, ◌∙◌}
use Rattle.std.proofs.lemmas.List.Concat.{length-flat_map}
use Rattle.rgb_base.specs.declared.parts.TermList.{TermList}
use Rattle.rgb_base.specs.Parts.{AreOrdered}
use Rattle.rgb_base.specs.Table.{cut_anew}
use Rattle.rgb_base.proofs.table_tests.moved.Goals as goal

pub with_table-requires-clause-len : goal.with_table-requires-clause-len
with_table-requires-clause-len c =
    ap length (c.in_ok-table.ensures.items ∙ c.table.ensures.same) ∙ length-flat_map (λ (list : TermList). list.postings) c.args.index.now.lists

pub with_table-requires-clause-rising : goal.with_table-requires-clause-rising
with_table-requires-clause-rising c =
    let lists = c.args.index.now.lists in
    let same : lists ≡ cut_anew lists c.in_ok-table.table.items =
    sym (c.parts_of_the_table.ensures.same lists) ∙ ap (cut_anew lists) (sym (c.in_ok-table.ensures.items ∙ c.table.ensures.same)) in
    subst (AreOrdered (length c.args.index.now.documents)) same c.is_sound.ensures.sound.ordered
