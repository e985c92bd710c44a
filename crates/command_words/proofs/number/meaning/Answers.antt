use Rattle.std.proofs.Common.{◌≡◌, ◌↔◌, Some, sym, subst}
use Rattle.command_words.specs.Line.{Means}
use Rattle.command_words.specs.View.{values_seen}
use Rattle.command_words.proofs.number.meaning.Goals as goal

pub returns-in-Numbers : goal.returns-in-Numbers
returns-in-Numbers c = λ number. subst (λ v. (c.in_range.result ≡ Some number) ↔ Means (values_seen v) c.args.word.now number) (sym c.in-Numbers.is) (c.in_range.ensures number)

pub returns-in-Either : goal.returns-in-Either
returns-in-Either c = λ number. subst (λ v. (c.place_of.result ≡ Some number) ↔ Means (values_seen v) c.args.word.now number) (sym c.in-Either.is) (c.place_of.ensures number)
