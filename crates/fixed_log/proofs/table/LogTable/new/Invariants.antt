-- The logarithms and growths of the numbers so far, with room for all.
use Rattle.std.proofs.Common.{◌≡◌, ℕ, ◌+◌, ◌-◌, ◌<◌, ◌≤◌, pos, slice_index, get_or, vec_len, vec_capacity}
use Rattle.fixed_log.specs.Log.{lg}
use Rattle.fixed_log.specs.Growth.{log_product, growth}
use Rattle.fixed_log.proofs.table.LogTable.new.Given as goal

abbrev pub invariant-loop-below : goal.invariant-loop-below
invariant-loop-below l = record {
  len : vec_len l.logs ≡ l.below;
  room : l.n ≤ vec_capacity l.logs;
  entries : (i : ℕ) → i < l.below → slice_index l.logs.items i ≡ lg (i + 1);
  growths_len : vec_len l.growths ≡ l.below;
  growths_room : l.n + 1 ≤ vec_capacity l.growths;
  growths : (i : ℕ) → i < l.below → get_or l.growths.items i (pos 0) ≡ growth i;
  before : l.before ≡ pos (log_product (l.below - 1));
  small : log_product (l.below - 1) ≤ 9007199254740992;
}
