-- The lists before this one stand in the tables, and the next one begins where the last one ended.
use Rattle.std.proofs.Common.{◌≡◌, take, map}
use Rattle.postings_rewrite.specs.Pieces.{pieces, start_from}
use Rattle.postings_rewrite.specs.BlockTables.{AreTables}
use Rattle.postings_rewrite.proofs.block_tables.Tables.of_lists.Given as goal

abbrev pub invariant-loop-list : goal.invariant-loop-list
invariant-loop-list l = record {
  start : l.from ≡ start_from 0 l.fn.ends l.list;
  tables : AreTables l.tables (take l.list (pieces 0 l.fn.ends (map (λ posting. posting.doc) l.fn.table)));
}
