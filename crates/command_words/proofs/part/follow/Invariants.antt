use Rattle.std.proofs.Common.{length, map}
use Rattle.command_words.specs.Command.{texts_of}
use Rattle.command_words.specs.View.{option_seen}
use Rattle.command_words.proofs.Parting.{Tells}
use Rattle.command_words.proofs.part.follow.Given as goal

abbrev pub invariant-parts : goal.invariant-parts
invariant-parts l = Tells l.fn.row.operands (map option_seen l.row.options.now) (texts_of l.fn.words) l.left (texts_of l.rest)

abbrev pub decreases-parts : goal.decreases-parts
decreases-parts l = length l.rest
