use Rattle.std.proofs.Common.{length}
use Rattle.command_words.specs.Line.{OfParts}
use Rattle.command_words.specs.Command.{texts_of}
use Rattle.command_words.proofs.Parting.{LeavesOperand}
use Rattle.command_words.proofs.part.operand.Given as goal

abbrev pub invariant-parts : goal.invariant-parts
invariant-parts l = OfParts (texts_of l.fn.words) (λ parts. LeavesOperand l.place parts l.before (texts_of l.rest))

abbrev pub decreases-parts : goal.decreases-parts
decreases-parts l = length l.rest
