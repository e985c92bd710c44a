use Rattle.command_words.specs.Command.{texts_of}
use Rattle.rgb_app.specs.Outcome.{IsPlain}
use Rattle.rgb_app.specs.Ends.{Ends}
use Rattle.rgb_app.proofs.Endings.{exact_comes}
use Rattle.rgb_app.proofs.running.run_plain.Goals as goal

pub returns-clause-exact : goal.returns-clause-exact
returns-clause-exact g c =
    let seen = g.H.Host.seen in
    let words = texts_of c.args.words.now in
    let ends : Ends IsPlain words (seen c.args.host.now) (seen c.end.new.host) c.end.result = record {
      status = c.work-status.result;
      code = c.end.ensures.code;
      between = seen c.work-status.new.host;
      runs = c.work-status.ensures.runs;
      warned = c.end.ensures.warned;
    } in
    exact_comes c.exactly_one_outcome.ensures.alike IsPlain words (seen c.args.host.now) (seen c.end.new.host) c.end.result c.work-status.ensures.one ends
