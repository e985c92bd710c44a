use Rattle.std.proofs.Common.{◌≡◌, ℕ, List, length, map, sym, ap, subst, ◌∙◌, arith}
use Rattle.rgb_base.specs.declared.parts.Posting.{Posting}
use Rattle.postings_rewrite.specs.Stores.{StoredLists}
use Rattle.postings_rewrite.specs.Pieces.{pieces, stored_in}
use Rattle.postings_rewrite.specs.BlockTables.{IsBlocks, blocks_in}
use Rattle.postings_rewrite.proofs.Appending.{storable_wide, store_of, blocks_of}
use Rattle.postings_rewrite.proofs.blocks.BlockStore.of_table.Goals as goal

pub of_lists-requires : goal.of_lists-requires
of_lists-requires c = storable_wide c.args.documents c.args.ends.now c.args.table.now c.ranges.documents.fits c.requires

pub invariant_of-result : goal.invariant_of-result
invariant_of-result c = blocks_of _ c.args.documents c.args.ends.now c.args.table.now c.ranges.documents.fits c.in_ok-tables.ensures.ok c.in_ok-tables.ensures.small c.requires

pub returns : goal.returns
returns c = record { ok = store_of _ c.args.documents c.args.ends.now c.args.table.now c.ranges.documents.fits c.in_ok-tables.ensures.ok c.requires }
