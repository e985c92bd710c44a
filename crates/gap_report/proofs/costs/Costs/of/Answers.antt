use Rattle.std.proofs.Common.{Ok, ap, length, subst}
use Rattle.std.specs.Prelude.{slice_range}
use Rattle.gap_report.specs.Tally.{IsTallyOf}
use Rattle.gap_report.proofs.Tallies.{tally_of_all}
use Rattle.gap_report.proofs.costs.Costs.of.Goals as goal

pub returns : goal.returns
returns g c =
    let index = c.args.index.now in
    let tally = c.tally_of-tally.result in
    let is : IsTallyOf tally (slice_range index.lists 0 (length index.lists)) = subst (λ to. IsTallyOf tally (slice_range index.lists 0 to)) c.lists.ensures.same c.tally_of-tally.ensures in
    record { ok = ap Ok (c.of_tally.ensures.same index (tally_of_all index.lists tally is)) }
