use Rattle.std.proofs.Common.{◌≡◌, map, take, string_bytes}
use Rattle.bool_query.proofs.dictionary.Dictionary.new.Given as goal

abbrev pub invariant-loop-list : goal.invariant-loop-list
invariant-loop-list l = map (λ term. string_bytes term) l.terms.keys ≡ take l.list (map (λ list. list.term) l.index.lists)
