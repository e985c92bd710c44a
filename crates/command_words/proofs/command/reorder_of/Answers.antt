use Rattle.command_words.specs.Line.{Follow}
use Rattle.command_words.specs.Command.{texts_of, reordering_options}
use Rattle.command_words.proofs.Lines.{reorder_line, no_reordering}
use Rattle.command_words.proofs.command.reorder_of.Goals as goal

pub returns-in_err-options : goal.returns-in_err-options
returns-in_err-options c = rw c.from_residual-in_err-options.ensures (no_reordering (texts_of c.args.words.now) c.in_err-options.ensures)

pub returns : goal.returns
returns c =
    let words = texts_of c.args.words.now in
    let follow : Follow 2 reordering_options words = c.follow.ensures.0 (cc) in
    reorder_line words c.in_ok-input.input.now c.in_ok-output.output.now c.in_ok-options.options follow c.in_ok-input.ensures c.in_ok-output.ensures c.in_ok-options.ensures
