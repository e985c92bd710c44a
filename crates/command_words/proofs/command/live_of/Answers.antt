use Rattle.std.proofs.Common.{◌∷◌}
use Rattle.command_words.specs.Line.{Follow}
use Rattle.command_words.specs.Command.{texts_of, readers_option, reordering_options}
use Rattle.command_words.proofs.Lines.{live_line, no_readers, no_live_reordering}
use Rattle.command_words.proofs.command.live_of.Goals as goal

pub returns-in_err-readers : goal.returns-in_err-readers
returns-in_err-readers c = rw c.from_residual-in_err-readers.ensures (no_readers (texts_of c.args.words.now) c.in_err-readers.ensures)

pub returns-in_err-options : goal.returns-in_err-options
returns-in_err-options c = rw c.from_residual-in_err-options.ensures (no_live_reordering (texts_of c.args.words.now) c.in_err-options.ensures)

pub returns : goal.returns
returns c =
    let words = texts_of c.args.words.now in
    let follow : Follow 3 (readers_option ∷ reordering_options) words = c.follow.ensures.0 (cc) in
    live_line words c.in_ok-input.input.now c.in_ok-output.output.now c.in_ok-queries.queries.now c.in_ok-options.options c.in_ok-readers.readers follow
    c.in_ok-input.ensures c.in_ok-output.ensures c.in_ok-queries.ensures c.in_ok-readers.ensures c.in_ok-options.ensures
