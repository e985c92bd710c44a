-- The lists passed are counted, and have passed the band.
use Rattle.std.proofs.Common.{◌≡◌, ℕ, ◌+◌, ◌<◌, ◌≤◌, length, get_or, Some}
use Rattle.std.specs.Prelude.{slice_get}
use Rattle.rgb_base.specs.declared.parts.TermList.{TermList}
use Rattle.forward_index.specs.Bands.{IsPassed}
use Rattle.forward_index.proofs.Banded.{row_in}
use Rattle.forward_index.proofs.count.count_band.Given as goal

abbrev pub invariant-loop-list : goal.invariant-loop-list
invariant-loop-list l = record {
  done : (k : ℕ) (list : TermList) → k < l.list → slice_get l.index.lists k ≡ Some list → l.min_df ≤ length list.postings
      → IsPassed l.band.limit list.postings (get_or l.table k 0);
  left : (k : ℕ) (list : TermList) → l.list ≤ k → slice_get l.index.lists k ≡ Some list → l.min_df ≤ length list.postings
      → IsPassed l.band.from list.postings (get_or l.table k 0);
  counts : (k : ℕ) → k < length l.initial.counts → get_or l.counts k 0 ≡ length (row_in l.band l.min_df l.index.lists l.list (get_or l.start (l.first + k) 0));
}
