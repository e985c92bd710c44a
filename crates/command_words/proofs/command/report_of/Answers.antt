use Rattle.std.proofs.Common.{[], ◌∷◌}
use Rattle.command_words.specs.Line.{Follow}
use Rattle.command_words.specs.Command.{texts_of, workers_option}
use Rattle.command_words.proofs.Lines.{report_line, no_workers}
use Rattle.command_words.proofs.command.report_of.Goals as goal

pub returns-in_err-workers : goal.returns-in_err-workers
returns-in_err-workers c = rw c.from_residual-in_err-workers.ensures (no_workers (texts_of c.args.words.now) c.in_err-workers.ensures)

pub returns : goal.returns
returns c =
    let words = texts_of c.args.words.now in
    let follow : Follow 1 (workers_option ∷ []) words = c.follow.ensures.0 (cc) in
    report_line words c.in_ok-input.input.now c.in_ok-workers.workers follow c.in_ok-input.ensures c.in_ok-workers.ensures
