use Rattle.live_index.specs.Listed.{BeginsWithIdentityOf}
use Rattle.live_rows.proofs.rows.numberings_of.Given as goal

abbrev pub invariant-loop-seed : goal.invariant-loop-seed
invariant-loop-seed l = BeginsWithIdentityOf l.fn.documents l.numberings.items
