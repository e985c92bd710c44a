-- How far the sift has come, and that the place stands behind all entries that are below what is left.
use Rattle.std.proofs.Common.{ℕ, ◌<◌, ◌≤◌, length, get_or}
use Rattle.postings_rewrite.specs.Stores.{list_at}
use Rattle.bool_query.specs.Scopes.{StandsBehind}
use Rattle.bool_query.proofs.Exactly.{IsSifting}
use Rattle.bool_query.proofs.listed.sift_listed.Given as goal

abbrev pub invariant-loop-i : goal.invariant-loop-i
invariant-loop-i g l =
    let store = g.S.PostingStore in
    let list = list_at (store.stored l.store) l.list in
    record {
      sifting : IsSifting l.fn.ids.items list l.listed l.i l.kept l.ids.items;
      behind : (k : ℕ) → l.i ≤ k → k < length l.fn.ids.items → StandsBehind (store.stands l.store l.list) list (get_or l.fn.ids.items k 0) l.place;
    }
