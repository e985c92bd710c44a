use Rattle.std.proofs.Common.{◌≡◌, ◌++◌, ℕ, List, length, take, drop, sym, subst, ap, arith}
use Rattle.rgb_base.specs.declared.parts.Posting.{Posting}
use Rattle.rgb_base.specs.Table.{AreEnds}
use Rattle.postings_rewrite.specs.Tables.{IsTableRenumbered}
use Rattle.postings_rewrite.specs.Pieces.{AreListsRenumbered}
use Rattle.postings_rewrite.proofs.Indexes.{given_back, whole_table}
use Rattle.postings_rewrite.proofs.Stored.{lists_renumbered}
use Rattle.postings_rewrite.proofs.renumbering.renumbered_table.Goals as goal

pub returns-clause-ok : goal.returns-clause-ok
returns-clause-ok g c =
    let filled = c.renumber_lists.new.table in
    let items = c.in_ok-table.table.items in
    let back : take c.in_ok-table.table.len (filled ++ drop (length filled) items) ≡ filled = given_back items filled c.in_ok-table.table.len
    (omega (arith, c.renumber_lists.auto.table, ap length c.deref_mut.ensures.value)) (omega (arith, c.deref_mut.ensures.len, ap length c.deref_mut.ensures.value)) in
    subst (IsTableRenumbered c.args.by.now c.args.index.now.lists) (sym back) (whole_table c.args.by.now c.args.index.now.lists c.lists.result filled c.lists.ensures.same c.renumber_lists.ensures)

pub returns-clause-stored : goal.returns-clause-stored
returns-clause-stored g c ends are =
    let index = c.args.index.now in
    let order = c.args.by.now in
    let filled = c.renumber_lists.new.table in
    let items = c.in_ok-table.table.items in
    let back : take c.in_ok-table.table.len (filled ++ drop (length filled) items) ≡ filled = given_back items filled c.in_ok-table.table.len
    (omega (arith, c.renumber_lists.auto.table, ap length c.deref_mut.ensures.value)) (omega (arith, c.deref_mut.ensures.len, ap length c.deref_mut.ensures.value)) in
    let whole : IsTableRenumbered order index.lists filled = whole_table order index.lists c.lists.result filled c.lists.ensures.same c.renumber_lists.ensures in
    subst (λ (table : List Posting). AreListsRenumbered index order ends table) (sym back)
    (lists_renumbered index order ends filled c.numbers_undo_the_order.ensures.law c.is_sound.ensures.sound c.is_sound-2.ensures.sound c.requires.len whole are)
