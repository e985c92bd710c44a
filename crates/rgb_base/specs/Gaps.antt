-- The gaps of a list of documents, by which an index stores its postings.
use Rattle.std.specs.Prelude.{ℕ, ◌-◌, List, [], ◌∷◌}

-- the gaps of rising documents: each document less the one before it, the first less this one
unfoldable pub gaps_from : ℕ → List ℕ → List ℕ
gaps_from before [] = []
gaps_from before (doc ∷ docs) = (doc - before) ∷ gaps_from doc docs

-- the gaps of a list of documents, the first of which counts from 0
abbrev pub gaps_of : List ℕ → List ℕ
gaps_of docs = gaps_from 0 docs
