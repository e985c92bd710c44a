use Rattle.std.proofs.Common.{◌≡◌, sym, subst, arith, rules}
use Rattle.fixed_log.specs.Log.{IsLog, lg}
use Rattle.fixed_log.proofs.LogLaws.{log_is_log}
use Rattle.fixed_log.proofs.Shifts.{IsStart-shifted, IsStep-shifts, bits_more, bit_fits, all_bits}
use Rattle.fixed_log.proofs.log.lg.Goals as goal

pub loop-place-init : goal.loop-place-init
loop-place-init c =
    let found = c.ilog2-exponent.ensures in
    let start = IsStart-shifted c.args.x c.ilog2-exponent.result c.requires.some c.requires.most found.power_le found.next_power_gt in
    record { low = start.low; high = start.high; bits = start.bits }

pub overflow_add-log : goal.overflow_add-log
overflow_add-log c =
    let kept = c.loop-place.invariant in
    let step = IsStep-shifts c.loop-place.unit c.square-squared.result kept.low kept.high c.square-squared.ensures.same in
    search (rules, bit_fits c.loop-place.log c.loop-place.place _ _ c.args.x step c.requires.some c.requires.most (omega arith) (omega arith) kept.bits)

pub loop-place-preserved : goal.loop-place-preserved
loop-place-preserved c =
    let kept = c.loop-place.invariant in
    let step = IsStep-shifts c.loop-place.unit c.square-squared.result kept.low kept.high c.square-squared.ensures.same in
    record {
      low = omega (arith, step.rest, step.low);
      high = omega (arith, step.rest, step.high);
      bits = bits_more c.loop-place.log c.loop-place.place _ _ _ step (omega arith) (omega arith) kept.bits;
    }

whole : (c : goal.After-loop-place) → c.loop-place.log ≡ lg c.args.x
whole c = all_bits c.loop-place.log c.loop-place.place c.loop-place.unit (lg c.args.x) c.loop-place-test.false c.loop-place.invariant.bits

pub returns-clause-same : goal.returns-clause-same
returns-clause-same c = whole c

pub returns-clause-power : goal.returns-clause-power
returns-clause-power c = subst (IsLog c.args.x) (sym (whole c)) (log_is_log c.args.x c.requires.some c.requires.most)
