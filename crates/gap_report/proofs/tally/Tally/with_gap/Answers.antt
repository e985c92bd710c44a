use Rattle.std.proofs.Common.{◌≡◌, ℕ, ◌+◌, ◌*◌, ◌/◌, ◌<◌, ap, arith, ◌∙◌}
use Rattle.gap_report.specs.Codes.{floor_log, gamma_bits, delta_bits}
use Rattle.gap_report.proofs.Logs.{varint_bytes_is}
use Rattle.gap_report.proofs.tally.Tally.with_gap.Goals as goal

-- a seventh of a small number
seventh_is : (e : ℕ) → e < 32 → e * 37 / 256 ≡ e / 7
seventh_is e small = omega (arith, small)

pub returns : goal.returns
unfolding gamma_bits delta_bits
returns c =
    let gap = c.args.gap in
    let exponent : c.from.result ≡ floor_log gap = c.from.ensures ∙ c.floor_log-exponent.ensures.same in
    let log : c.from-2.result ≡ floor_log (floor_log gap + 1) = c.from-2.ensures ∙ (c.floor_log.ensures.same ∙ ap (λ n. floor_log (n + 1)) c.floor_log-exponent.ensures.same) in
    let seventh : c.from-3.result ≡ floor_log gap / 7 = c.from-3.ensures ∙ seventh_is c.floor_log-exponent.result c.floor_log-exponent.ensures.most ∙ ap (λ n. n / 7) c.floor_log-exponent.ensures.same in
    record {
      postings = omega arith;
      gamma = omega (arith, exponent);
      delta = omega (arith, exponent, log);
      bytes = omega (arith, seventh, varint_bytes_is gap c.requires.some (omega arith));
    }
