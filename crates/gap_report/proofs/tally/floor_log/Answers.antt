use Rattle.std.proofs.Common.{◌≡◌, ◌+◌, ◌^◌, ◌<◌, ◌≤◌, arith, add-one, sym}
use Rattle.std.proofs.Math.Nat.{pow-suc}
use Rattle.gap_report.proofs.Logs.{floor_log_is}
use Rattle.gap_report.proofs.tally.floor_log.Goals as goal

pub returns-clause-same : goal.returns-clause-same
returns-clause-same c =
    let e = c.ilog2.result in
    let same : c.max.result ≡ c.args.number = omega (arith, c.max.ensures, c.requires) in
    let low : 2 ^ e ≤ c.args.number = omega (arith, same, c.ilog2.ensures.power_le) in
    let above : c.args.number < 2 ^ (e + 1) = rw (add-one e, pow-suc 2 e) (omega (arith, same, c.ilog2.ensures.next_power_gt)) in
    sym (floor_log_is c.args.number e (omega (arith, c.ilog2.ensures.bound)) low above)
