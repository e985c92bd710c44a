use Rattle.std.proofs.Common.{[], refl}
use Rattle.command_words.specs.Command.{reorder}
use Rattle.rgb_app.specs.Prepared.{text_of}
use Rattle.rgb_app.specs.Status.{status_of_read}
use Rattle.rgb_app.specs.Ends.{Says}
use Rattle.rgb_app.specs.declared.status.Status.TheVariants.{Done, WriteFault, Memory}
use Rattle.rgb_app.proofs.Commands.{explained, reordered, reorder_cut, told_error}
use Rattle.rgb_app.proofs.running.reorder.Goals as goal

pub returns : goal.returns
returns g c =
    let seen = g.H.Host.seen in
    record {
      says = reordered c.args.input.now c.args.output.now c.args.options c.in_ok-index.index c.in_ok-work.work.new c.in_ok-work.work.rounds (text_of c.in_ok-work.work) (seen c.args.host.now) (seen c.read_index.new.host)
          (seen c.deliver_reordered.new.host) c.in_ok-index.ensures.ok c.in_ok-work.ensures.ok c.in_ok-work.ensures.text c.in_ok-index.ensures.same c.in_ok-deliver_reordered.ensures.ok;
    }

pub returns-in_err-index : goal.returns-in_err-index
returns-in_err-index g c =
    let seen = g.H.Host.seen in
    let command = reorder c.args.input.now c.args.output.now c.args.options in
    record {
      says = told_error c.from_residual.result (Says Done command (seen c.args.host.now) (seen c.read_index.new.host)) (λ status. Says status command (seen c.args.host.now) (seen c.read_index.new.host)) (status_of_read c.in_err-index.field-0.0)
          c.from_residual.ensures.1 (explained c.in_err-index.field-0.0 command c.args.input.now [] (seen c.args.host.now) (seen c.read_index.new.host) refl c.in_err-index.ensures.error);
    }

pub returns-in_err-work : goal.returns-in_err-work
returns-in_err-work g c =
    let seen = g.H.Host.seen in
    let command = reorder c.args.input.now c.args.output.now c.args.options in
    record {
      says = told_error c.from_residual-in_err-work.result (Says Done command (seen c.args.host.now) (seen c.read_index.new.host)) (λ status. Says status command (seen c.args.host.now) (seen c.read_index.new.host)) Memory
          c.from_residual-in_err-work.ensures.1 c.in_ok-index.ensures.same;
    }

pub returns-in_err-deliver_reordered : goal.returns-in_err-deliver_reordered
returns-in_err-deliver_reordered g c =
    let seen = g.H.Host.seen in
    let command = reorder c.args.input.now c.args.output.now c.args.options in
    record {
      says = told_error c.from_residual-in_err-deliver_reordered.result (Says Done command (seen c.args.host.now) (seen c.deliver_reordered.new.host)) (λ status. Says status command (seen c.args.host.now) (seen c.deliver_reordered.new.host)) WriteFault
          c.from_residual-in_err-deliver_reordered.ensures.1
          (reorder_cut c.args.input.now c.args.output.now c.args.options c.in_ok-index.index c.in_ok-work.work.new c.in_ok-work.work.rounds (text_of c.in_ok-work.work) (seen c.args.host.now) (seen c.read_index.new.host)
          (seen c.deliver_reordered.new.host) c.in_ok-index.ensures.ok c.in_ok-work.ensures.ok c.in_ok-work.ensures.text c.in_ok-index.ensures.same c.in_err-deliver_reordered.ensures.fault);
    }
