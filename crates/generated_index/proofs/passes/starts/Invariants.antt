-- So many terms have a cursor.
use Rattle.std.proofs.Common.{◌≡◌, ℕ, ◌<◌, length, get_or}
use Rattle.generated_index.specs.Steps.{no_cursor, cursor_at, begins}
use Rattle.generated_index.proofs.passes.starts.Given as goal

abbrev pub invariant-loop-cursor : goal.invariant-loop-cursor
invariant-loop-cursor l = record {
  len : length l.cursors.items ≡ l.cursor-index;
  end : l.end ≡ begins l.number l.documents l.cursor-index;
  each : (k : ℕ) → k < l.cursor-index → cursor_at l.cursors.items k ≡ record no_cursor { end = begins l.number l.documents k };
}
