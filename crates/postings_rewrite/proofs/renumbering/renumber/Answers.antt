use Rattle.std.proofs.Common.{◌≡◌, ℕ, length, sym, subst}
use Rattle.rayon.proofs.ListFacts.{IfOk-then}
use Rattle.rgb_base.specs.Parts.{IndexParts, AreOrdered}
use Rattle.rgb_base.specs.Table.{cut_anew, with_table}
use Rattle.postings_rewrite.specs.Renumbering.{IsRenumbered}
use Rattle.postings_rewrite.proofs.Indexes.{renumbered_ordered, IsRenumbered-with_table}
use Rattle.postings_rewrite.proofs.renumbering.renumber.Goals as goal

pub with_table-requires-clause-len : goal.with_table-requires-clause-len
with_table-requires-clause-len g c = c.in_ok-table.ensures.ok.len

pub with_table-requires-clause-rising : goal.with_table-requires-clause-rising
with_table-requires-clause-rising g c =
    let index = c.args.index.now in
    let order = c.args.by.now in
    let table = c.in_ok-table.table.items in
    let old : AreOrdered (length order) index.lists = subst (λ (n : ℕ). AreOrdered n index.lists) (sym c.requires.len) c.is_sound.ensures.sound.ordered in
    let new : AreOrdered (length order) (cut_anew index.lists table) = renumbered_ordered order index.lists (cut_anew index.lists table) c.numbers_undo_the_order.ensures.law c.is_sound-2.ensures.sound old c.in_ok-table.ensures.ok.parts in
    subst (λ (n : ℕ). AreOrdered n (cut_anew index.lists table)) c.requires.len new

pub returns-clause-ok : goal.returns-clause-ok
returns-clause-ok g c =
    let index = c.args.index.now in
    let order = c.args.by.now in
    let table = c.in_ok-table.table.items in
    let is : IsRenumbered index order (with_table index table order) = IsRenumbered-with_table index order table c.is_sound-2.ensures.sound c.requires.len c.in_ok-table.ensures.ok in
    IfOk-then c.with_table.result _ _ c.with_table.ensures.ok (λ (new : IndexParts) same. subst (IsRenumbered index order) (sym same) is)
