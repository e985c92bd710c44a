use Rattle.std.proofs.Common.{◌≡◌, IsTrue, true, sym, subst, string_bytes}
use Rattle.command_words.specs.Line.{names_option}
use Rattle.command_words.proofs.Parting.{no_words, one_word}
use Rattle.command_words.proofs.part.first_part.Goals as goal

pub returns-in_default-clause-none : goal.returns-in_default-clause-none
returns-in_default-clause-none c = λ parts are. no_words c.args.words.now parts c.in_default.len_below are

pub returns-in_default-rest-clause-none : goal.returns-in_default-rest-clause-none
returns-in_default-rest-clause-none c = λ parts are.
    let named : IsTrue (names_option (string_bytes c.word-item.result)) = subst (λ w. names_option w ≡ true) c.as_str-word.ensures.value (sym c.if-not-names_option.ensures) in
    absurd (one_word c.args.words.now c.word-item.result parts c.word-item.is c.in-len1-up.len_at_least c.in_default-rest.len_below named are)
