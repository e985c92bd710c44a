-- The documents below the next band are counted.
use Rattle.std.proofs.Common.{◌≡◌, ◌-◌, length, map}
use Rattle.forward_index.specs.Rows.{block}
use Rattle.forward_index.specs.Bands.{ArePassed, rows_below}
use Rattle.forward_index.proofs.count.count_block.Given as goal

abbrev pub invariant-loop-from : goal.invariant-loop-from
invariant-loop-from l = record {
  passed : ArePassed l.min_df l.from l.index.lists l.table;
  counts : l.counts ≡ map (λ row. length row) (rows_below l.from l.min_df l.index.lists (block l.start l.first (length l.initial.counts)));
}

abbrev pub decreases-loop-from : goal.decreases-loop-from
decreases-loop-from l = l.whole.limit - l.from
