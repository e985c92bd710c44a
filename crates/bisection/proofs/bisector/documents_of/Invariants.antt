-- The documents of the places passed.
use Rattle.std.proofs.Common.{◌≡◌, take}
use Rattle.bisection.proofs.bisector.documents_of.Given as goal

abbrev pub invariant-loop-place : goal.invariant-loop-place
invariant-loop-place l = l.documents.items ≡ take l.place l.forward.documents
