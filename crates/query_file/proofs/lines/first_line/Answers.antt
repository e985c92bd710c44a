use Rattle.std.proofs.Common.{refl, arith}
use Rattle.query_file.proofs.Feeds.{ended_at, no_feed_at_all}
use Rattle.query_file.proofs.lines.first_line.Goals as goal

pub returns-in-Some-clause-line : goal.returns-in-Some-clause-line
returns-in-Some-clause-line c =
    ended_at c.args.bytes.now c.without_return.result.now c.in-Some.end (λ j below feed. c.in-Some.ensures.0.before j (omega arith) below feed) c.in-Some.ensures.0.high c.in-Some.ensures.1 c.without_return.ensures.same

pub returns-in-None-clause-line : goal.returns-in-None-clause-line
returns-in-None-clause-line c = (no_feed_at_all c.args.bytes.now (λ j below feed. c.in-None.ensures j (omega arith) below feed), refl)
