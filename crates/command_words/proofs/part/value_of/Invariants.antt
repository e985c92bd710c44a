use Rattle.std.specs.Option.{option_copied}
use Rattle.std.proofs.Common.{length}
use Rattle.command_words.specs.Line.{OfParts}
use Rattle.command_words.specs.Command.{texts_of}
use Rattle.command_words.proofs.Parting.{LeavesValues}
use Rattle.command_words.proofs.part.value_of.Given as goal

abbrev pub invariant-parts : goal.invariant-parts
invariant-parts l = OfParts (texts_of l.fn.words) (λ parts. LeavesValues l.option.name.now parts (option_copied l.found) (texts_of l.rest))

abbrev pub decreases-parts : goal.decreases-parts
decreases-parts l = length l.rest
