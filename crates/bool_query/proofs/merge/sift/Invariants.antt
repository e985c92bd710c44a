-- How far the sift has come, and that the other numbers before the place are below what is left.
use Rattle.std.proofs.Common.{ℕ, ◌<◌, ◌≤◌, length, get_or}
use Rattle.bool_query.specs.Scopes.{IsPassed}
use Rattle.bool_query.proofs.Exactly.{IsSifting}
use Rattle.bool_query.proofs.merge.sift.Given as goal

abbrev pub invariant-loop-i : goal.invariant-loop-i
invariant-loop-i l = record {
  sifting : IsSifting l.fn.ids.items l.others l.listed l.i l.kept l.ids.items;
  behind : (k : ℕ) → l.i ≤ k → k < length l.fn.ids.items → IsPassed l.others (get_or l.fn.ids.items k 0) l.place;
}
