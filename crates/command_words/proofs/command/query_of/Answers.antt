use Rattle.std.proofs.Common.{[]}
use Rattle.command_words.specs.Line.{Follow}
use Rattle.command_words.specs.Command.{texts_of}
use Rattle.command_words.proofs.Lines.{query_line}
use Rattle.command_words.proofs.command.query_of.Goals as goal

pub returns : goal.returns
returns c =
    let words = texts_of c.args.words.now in
    let follow : Follow 2 [] words = c.follow.ensures.0 (cc) in
    query_line words c.in_ok-input.input.now c.in_ok-queries.queries.now follow c.in_ok-input.ensures c.in_ok-queries.ensures
