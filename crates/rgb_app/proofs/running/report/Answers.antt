use Rattle.std.proofs.Common.{◌∙◌}
use Rattle.command_words.specs.Command.{report}
use Rattle.rgb_app.specs.Ends.{Says}
use Rattle.rgb_app.specs.declared.status.Status.TheVariants.{Done, WriteFault}
use Rattle.rgb_app.proofs.Commands.{reported, report_cut, told_error}
use Rattle.rgb_app.proofs.running.report.Goals as goal

pub returns : goal.returns
returns g c =
    let seen = g.H.Host.seen in
    record {
      says = reported c.args.input.now c.args.workers c.in_ok-counted.counted c.deref.result.now (seen c.args.host.now) (seen c.read_costs.new.host) (seen c.show.new.host)
          c.in_ok-counted.ensures.ok (λ index is. c.deref.ensures ∙ c.in_ok-text.ensures.text index is) c.in_ok-counted.ensures.same c.in_ok-show.ensures.ok;
    }

pub returns-in_err-show : goal.returns-in_err-show
returns-in_err-show g c =
    let seen = g.H.Host.seen in
    let command = report c.args.input.now c.args.workers in
    record {
      says = told_error c.from_residual-in_err-show.result (Says Done command (seen c.args.host.now) (seen c.show.new.host)) (λ status. Says status command (seen c.args.host.now) (seen c.show.new.host)) WriteFault
          c.from_residual-in_err-show.ensures.1
          (report_cut c.args.input.now c.args.workers c.in_ok-counted.counted c.deref.result.now (seen c.args.host.now) (seen c.read_costs.new.host) (seen c.show.new.host)
          c.in_ok-counted.ensures.ok (λ index is. c.deref.ensures ∙ c.in_ok-text.ensures.text index is) c.in_ok-counted.ensures.same c.in_err-show.ensures.fault);
    }
