use Rattle.std.proofs.Common.{arith}
use Rattle.bool_query.proofs.Terms.{within}
use Rattle.bool_query.proofs.turns.+estimates.Goals as goal

pub estimate-len-requires : goal.estimate-len-requires
estimate-len-requires g t c =
    omega (arith, within c.args.dictionary.now c.in-Some.list c.as_str.result.now ((c.list_of.ensures.list c.in-Some.list).0 c.in-Some.is), c.requires)
