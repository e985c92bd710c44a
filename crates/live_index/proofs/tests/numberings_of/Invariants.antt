use Rattle.live_index.specs.Listed.{BeginsWithIdentityOf}
use Rattle.live_index.proofs.tests.numberings_of.Given as goal

abbrev pub invariant-loop-order : goal.invariant-loop-order
invariant-loop-order l = BeginsWithIdentityOf l.fn.documents l.numberings.items
