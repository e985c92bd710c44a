-- The lists passed are written, and have passed the band.
use Rattle.std.proofs.Common.{◌≡◌, ℕ, ◌+◌, ◌<◌, ◌≤◌, length, get_or, Some}
use Rattle.std.specs.Prelude.{slice_get}
use Rattle.rgb_base.specs.declared.parts.TermList.{TermList}
use Rattle.forward_index.specs.Rows.{rows_of, block, begins}
use Rattle.forward_index.specs.Bands.{IsPassed}
use Rattle.forward_index.proofs.Banded.{row_in}
use Rattle.forward_index.proofs.fill.fill_band.Given as goal

abbrev pub invariant-loop-list : goal.invariant-loop-list
invariant-loop-list l = record {
  done : (k : ℕ) (list : TermList) → k < l.list → slice_get l.index.lists k ≡ Some list → l.min_df ≤ length list.postings
      → IsPassed l.band.limit list.postings (get_or l.table k 0);
  left : (k : ℕ) (list : TermList) → l.list ≤ k → slice_get l.index.lists k ≡ Some list → l.min_df ≤ length list.postings
      → IsPassed l.band.from list.postings (get_or l.table k 0);
  cursors : (k : ℕ) → k < length l.initial.cursors
      → get_or l.cursors k 0 ≡ get_or (begins l.base (rows_of l.min_df l.index.lists (block l.start l.first (length l.initial.cursors)))) k 0
      + length (row_in l.band l.min_df l.index.lists l.list (get_or l.start (l.first + k) 0));
  entries : (k i j : ℕ) → k < length l.initial.cursors → i < length (row_in l.band l.min_df l.index.lists l.list (get_or l.start (l.first + k) 0))
      → l.base + j ≡ get_or (begins l.base (rows_of l.min_df l.index.lists (block l.start l.first (length l.initial.cursors)))) k 0 + i
      → get_or l.entries j 0 ≡ get_or (row_in l.band l.min_df l.index.lists l.list (get_or l.start (l.first + k) 0)) i 0;
}
