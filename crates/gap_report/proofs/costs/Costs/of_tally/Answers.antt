use Rattle.std.proofs.Common.{◌+◌, ◌*◌, arith}
use Rattle.gap_report.proofs.Tallies.{costs_from_tally}
use Rattle.gap_report.proofs.costs.Costs.of_tally.Goals as goal

pub returns : goal.returns
returns c = record {
  same = λ index is.
      costs_from_tally index c.args.tally c.from-postings.result (2 * c.from-exponents.result + c.from-postings.result) (c.from-exponents.result + 2 * c.from.result + c.from-postings.result) (c.from-2.result + c.from-postings.result) is
      c.from-postings.ensures (omega (arith, c.from-postings.ensures, c.from-exponents.ensures)) (omega (arith, c.from-postings.ensures, c.from-exponents.ensures, c.from.ensures)) (omega (arith, c.from-postings.ensures, c.from-2.ensures));
}
