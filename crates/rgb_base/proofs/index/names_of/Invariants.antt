use Rattle.std.proofs.Common.{◌≡◌, map, take}
use Rattle.rgb_base.proofs.index.names_of.Given as goal

abbrev pub invariant-loop-document : goal.invariant-loop-document
invariant-loop-document l = l.names ≡ map (λ document. document.name) (take l.document-index l.documents)
