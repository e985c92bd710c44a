use Rattle.std.proofs.Common.{◌≡◌, ℕ, ◌+◌, ◌-◌, ◌<◌, ◌≤◌, ◌^◌, List, [], ◌∷◌, ◌++◌, length, get_or, take, map, refl, sym, ap, subst, ◌∙◌, arith, add-one}
use Rattle.std.proofs.lemmas.List.{take_more, take_all}
use Rattle.rgb_base.specs.declared.parts.Posting.{Posting}
use Rattle.postings_rewrite.specs.Stores.{AreDocuments}
use Rattle.postings_rewrite.specs.Pieces.{pieces, start_from}
use Rattle.postings_rewrite.specs.BlockTables.{AreTables, IsAppended}
use Rattle.postings_rewrite.proofs.Pieces.{length-pieces, start_from-le, end-le, piece_of, start_from-next}
use Rattle.postings_rewrite.proofs.Appending.{tables_more}
use Rattle.postings_rewrite.proofs.block_tables.Tables.of_lists.Goals as goal

abbrev doc_of : Posting → ℕ
doc_of posting = posting.doc

abbrev parts_of : List ℕ → List Posting → List (List ℕ)
parts_of ends table = pieces 0 ends (map doc_of table)

pub postings_between-requires-clause-order : goal.postings_between-requires-clause-order
postings_between-requires-clause-order c = omega (arith, c.loop-list.invariant.start, start_from-le 0 c.args.ends.now _ c.loop-list.list c.requires.cuts c.loop-list-test.true)

pub postings_between-requires-clause-within : goal.postings_between-requires-clause-within
postings_between-requires-clause-within c = end-le 0 c.args.ends.now _ c.loop-list.list c.requires.cuts c.loop-list-test.true

pub put_list-requires : goal.put_list-requires
put_list-requires c =
    let ends = c.args.ends.now in
    let table = c.args.table.now in
    let list = c.loop-list.list in
    let part : map doc_of c.postings_between.result.now ≡ get_or (parts_of ends table) list [] = ap (map doc_of) c.postings_between.ensures.same ∙ piece_of ends table list c.loop-list.from (get_or ends list 0) c.loop-list-test.true c.loop-list.invariant.start refl in
    subst (AreDocuments (2 ^ 32 - 1)) (sym part) (c.requires.sound list [] (omega (arith, c.loop-list-test.true, length-pieces 0 ends (map doc_of table))))

pub loop-list-preserved : goal.loop-list-preserved
loop-list-preserved c =
    let ends = c.args.ends.now in
    let table = c.args.table.now in
    let list = c.loop-list.list in
    let part : map doc_of c.postings_between.result.now ≡ get_or (parts_of ends table) list [] = ap (map doc_of) c.postings_between.ensures.same ∙ piece_of ends table list c.loop-list.from (get_or ends list 0) c.loop-list-test.true c.loop-list.invariant.start refl in
    let app : IsAppended c.loop-list.tables (get_or (parts_of ends table) list []) c.put_list.new.self = subst (λ (l : List ℕ). IsAppended c.loop-list.tables l c.put_list.new.self) part c.in_ok-put_list.ensures.ok in
    let more : take (list + 1) (parts_of ends table) ≡ take list (parts_of ends table) ++ get_or (parts_of ends table) list [] ∷ [] = take_more (parts_of ends table) list [] (omega (arith, c.loop-list-test.true, length-pieces 0 ends (map doc_of table))) in
    record {
      start = sym (start_from-next 0 ends list);
      tables = subst (AreTables c.put_list.new.self) (sym more) (tables_more c.loop-list.tables c.put_list.new.self (take list (parts_of ends table)) (get_or (parts_of ends table) list []) c.loop-list.invariant.tables app);
    }

pub returns-clause-ok : goal.returns-clause-ok
returns-clause-ok c =
    let ends = c.args.ends.now in
    let table = c.args.table.now in
    let whole : take c.loop-list.list (parts_of ends table) ≡ parts_of ends table = take_all c.loop-list.list (parts_of ends table) (omega (arith, c.loop-list-test.false, length-pieces 0 ends (map doc_of table))) in
    subst (AreTables c.loop-list.tables) whole c.loop-list.invariant.tables
