-- The lists passed have their places.
use Rattle.std.proofs.Common.{◌≡◌, ℕ, ◌<◌, get_or, Some}
use Rattle.std.specs.Prelude.{slice_get}
use Rattle.rgb_base.specs.declared.parts.TermList.{TermList}
use Rattle.forward_index.specs.Bands.{IsPassed}
use Rattle.forward_index.proofs.bands.pass_lists.Given as goal

abbrev pub invariant-loop-list : goal.invariant-loop-list
invariant-loop-list l = (k : ℕ) (list : TermList) → k < l.list → slice_get l.index.lists k ≡ Some list
    → IsPassed l.limit list.postings (get_or l.table k 0)
