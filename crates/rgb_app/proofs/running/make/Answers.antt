use Rattle.std.proofs.Common.{string_bytes}
use Rattle.command_words.specs.Command.{make}
use Rattle.rgb_app.specs.Ends.{Says}
use Rattle.rgb_app.specs.declared.status.Status.TheVariants.{Done, WriteFault}
use Rattle.rgb_app.proofs.Commands.{made_is, generated_whole, generated_cut, told_error}
use Rattle.rgb_app.proofs.running.make.Goals as goal

pub returns : goal.returns
returns g c =
    let seen = g.H.Host.seen in
    record {
      says = generated_whole c.args.documents c.args.output.now c.args.number c.args.options c.in_ok-index.index (string_bytes c.in_ok-text.text) c.deref.result.now (seen c.args.host.now) (seen c.deliver.new.host)
          (made_is c.args.documents c.args.number c.in_ok-index.index c.requires.documents c.in_ok-index.ensures.ok) c.in_ok-text.ensures.ok c.deref.ensures c.in_ok-deliver.ensures.ok;
    }

pub returns-in_err-deliver : goal.returns-in_err-deliver
returns-in_err-deliver g c =
    let seen = g.H.Host.seen in
    let command = make c.args.documents c.args.output.now c.args.number c.args.options in
    record {
      says = told_error c.from_residual-in_err-deliver.result (Says Done command (seen c.args.host.now) (seen c.deliver.new.host)) (λ status. Says status command (seen c.args.host.now) (seen c.deliver.new.host)) WriteFault
          c.from_residual-in_err-deliver.ensures.1
          (generated_cut c.args.documents c.args.output.now c.args.number c.args.options c.in_ok-index.index (string_bytes c.in_ok-text.text) c.deref.result.now (seen c.args.host.now) (seen c.deliver.new.host)
          (made_is c.args.documents c.args.number c.in_ok-index.index c.requires.documents c.in_ok-index.ensures.ok) c.in_ok-text.ensures.ok c.deref.ensures c.in_err-deliver.ensures.fault);
    }
