-- The documents below the next band are written.
use Rattle.std.proofs.Common.{◌-◌, length}
use Rattle.forward_index.specs.Rows.{rows_of, block}
use Rattle.forward_index.specs.Bands.{ArePassed, AreBegun, rows_below}
use Rattle.forward_index.proofs.fill.fill_block.Given as goal

abbrev pub invariant-loop-from : goal.invariant-loop-from
invariant-loop-from l = record {
  passed : ArePassed l.min_df l.from l.index.lists l.table;
  begun : AreBegun l.base
      (rows_of l.min_df l.index.lists (block l.start l.first (length l.initial.cursors)))
      (rows_below l.from l.min_df l.index.lists (block l.start l.first (length l.initial.cursors)))
      l.cursors l.entries;
}

abbrev pub decreases-loop-from : goal.decreases-loop-from
decreases-loop-from l = l.whole.limit - l.from
