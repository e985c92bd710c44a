use Rattle.std.proofs.Common.{◌∙◌}
use Rattle.rgb_app.proofs.Commands.{copied}
use Rattle.rgb_app.proofs.running.copy.Goals as goal

pub returns : goal.returns
returns g c =
    let seen = g.H.Host.seen in
    record {
      says = copied c.args.input.now c.args.output.now c.in_ok-index.index c.deref.result.now (seen c.args.host.now) (seen c.read_index.new.host) (seen c.deliver.new.host)
          c.in_ok-index.ensures.ok (c.deref.ensures ∙ c.in_ok-text.ensures.line) c.in_ok-index.ensures.same c.in_ok-deliver.ensures.ok;
    }
