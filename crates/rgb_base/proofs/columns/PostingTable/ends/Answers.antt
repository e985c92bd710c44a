use Rattle.std.proofs.Common.{◌≡◌, ℕ, suc, ◌+◌, List, length, take, sum_by, sym, ap, subst, arith, add-one}
use Rattle.rgb_base.specs.declared.parts.Posting.{Posting}
use Rattle.rgb_base.specs.Flat.{Parted, AreRunningTotals, pieces}
use Rattle.rgb_base.proofs.Cuts.{length-pieces, running_total}
use Rattle.rgb_base.proofs.columns.PostingTable.ends.Goals as goal

pub returns : goal.returns
returns c =
    let ends = c.self.inside.ends.items in
    let parts = pieces 0 ends c.self.inside.table.items in
    let totals : AreRunningTotals parts ends = record {
      len = sym (length-pieces 0 ends c.self.inside.table.items);
      each = λ k lt.
          let total = running_total 0 ends c.self.inside.table.items k c.self.invariant.cuts (omega (arith, lt, length-pieces 0 ends c.self.inside.table.items)) in
          let next : take (suc k) parts ≡ take (k + 1) parts = ap (λ (n : ℕ). take n parts) (sym (add-one k)) in
          omega (arith, total, ap (sum_by (λ (part : List Posting). length part)) next);
    } in
    let held : AreRunningTotals c.args.self.now.closed ends = subst (λ (v : Parted). AreRunningTotals v.closed ends) c.self.view_is totals in
    record { same = subst (AreRunningTotals c.args.self.now.closed) (sym c.deref.ensures.value) held }
