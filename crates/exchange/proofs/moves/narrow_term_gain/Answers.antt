use Rattle.std.proofs.Common.{◌+◌, arith}
use Rattle.std.proofs.lemmas.Int.{ints}
use Rattle.exchange.proofs.Bounds.{term_gain_by_growths}
use Rattle.exchange.proofs.moves.narrow_term_gain.Goals as goal

pub overflow_sub-result : goal.overflow_sub-result
overflow_sub-result c =
    let told = c.requires.growths (c.args.other + 1) (omega (arith, c.requires.low)) in
    let told_own = c.requires.growths c.args.own (omega (arith, c.requires.low)) in
    let grown = c.growth_is_small.ensures.small (c.args.other + 1) (omega (arith, c.requires.few)) in
    let shrunk = c.growth_is_small.ensures.small c.args.own (omega (arith, c.requires.few)) in
    omega (arith, ints, grown.0, grown.1, shrunk.0, shrunk.1, told, told_own, c.requires.small.low, c.requires.small.high)

pub returns-clause-same : goal.returns-clause-same
returns-clause-same c m n some apart =
    let told = c.requires.growths (c.args.other + 1) (omega (arith, c.requires.low)) in
    let told_own = c.requires.growths c.args.own (omega (arith, c.requires.low)) in
    let grown = c.growth_is_small.ensures.small (c.args.other + 1) (omega (arith, c.requires.few)) in
    let shrunk = c.growth_is_small.ensures.small c.args.own (omega (arith, c.requires.few)) in
    let is = term_gain_by_growths m n c.args.own c.args.other some in
    omega (arith, ints, grown.0, grown.1, shrunk.0, shrunk.1, told, told_own, c.requires.small.low, c.requires.small.high, apart, is)

pub returns-clause-within : goal.returns-clause-within
returns-clause-within c =
    let told = c.requires.growths (c.args.other + 1) (omega (arith, c.requires.low)) in
    let told_own = c.requires.growths c.args.own (omega (arith, c.requires.low)) in
    let grown = c.growth_is_small.ensures.small (c.args.other + 1) (omega (arith, c.requires.few)) in
    let shrunk = c.growth_is_small.ensures.small c.args.own (omega (arith, c.requires.few)) in
    record {
      low = omega (arith, ints, grown.0, grown.1, shrunk.0, shrunk.1, told, told_own, c.requires.small.low, c.requires.small.high);
      high = omega (arith, ints, grown.0, grown.1, shrunk.0, shrunk.1, told, told_own, c.requires.small.low, c.requires.small.high);
    }
