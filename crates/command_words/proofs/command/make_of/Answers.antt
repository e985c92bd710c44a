use Rattle.std.proofs.Common.{◌∷◌}
use Rattle.command_words.specs.Line.{Follow}
use Rattle.command_words.specs.Command.{texts_of, number_option, reordering_options}
use Rattle.command_words.proofs.Lines.{make_line, no_documents, no_number, no_made_reordering}
use Rattle.command_words.proofs.command.make_of.Goals as goal

pub returns-in_err-documents : goal.returns-in_err-documents
returns-in_err-documents c = rw c.from_residual-in_err-documents.ensures (no_documents (texts_of c.args.words.now) c.in_ok-count.count.now c.in_ok-count.ensures c.in_err-documents.ensures)

pub returns-in_err-number : goal.returns-in_err-number
returns-in_err-number c = rw c.from_residual-in_err-number.ensures (no_number (texts_of c.args.words.now) c.in_err-number.ensures)

pub returns-in_err-options : goal.returns-in_err-options
returns-in_err-options c = rw c.from_residual-in_err-options.ensures (no_made_reordering (texts_of c.args.words.now) c.in_err-options.ensures)

pub returns : goal.returns
returns c =
    let words = texts_of c.args.words.now in
    let follow : Follow 2 (number_option ∷ reordering_options) words = c.follow.ensures.0 (cc) in
    make_line words c.in_ok-count.count.now c.in_ok-documents.documents c.in_ok-output.output.now c.in_ok-number.number c.in_ok-options.options follow
    c.in_ok-count.ensures c.in_ok-documents.ensures c.in_ok-output.ensures c.in_ok-number.ensures c.in_ok-options.ensures
