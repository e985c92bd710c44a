-- How a forward index lies in memory: the rows side by side in one table, with the place at which
-- each ends.
use Rattle.std.specs.Prelude.{◌≡◌, ℕ, zero, suc, ◌-◌, ◌≤◌, List, [], ◌∷◌, length, take, drop, slice_index}
use Rattle.forward_index.specs.declared.forward.Forward.TheInside as forward
use Rattle.forward_index.specs.Forward.{ForwardIndex, IsForward}

-- the parts of a table that end at these places, the first of which begins at this one
abbrev pub pieces : ℕ → List ℕ → List ℕ → List (List ℕ)
pieces from [] table = []
pieces from (end ∷ ends) table = take (end - from) (drop from table) ∷ pieces end ends table

-- the ends don't fall, and the last one is where the table ends
abbrev pub AreEnds : ℕ → List ℕ → ℕ → Type 0
AreEnds from [] limit = from ≡ limit
AreEnds from (end ∷ ends) limit = (from ≤ end) × AreEnds end ends limit

-- where part k begins
abbrev pub start_from : ℕ → List ℕ → ℕ → ℕ
start_from from ends zero = from
start_from from ends (suc k) = slice_index ends k

abbrev pub forward_in : forward.Inside → ForwardIndex
forward_in tables = record {
  terms = tables.terms;
  rows = pieces 0 tables.ends.items tables.entries.items;
  documents = tables.documents.items;
}

pub record IsFlat (tables : forward.Inside) : Type 0 where
  pub ends : AreEnds 0 tables.ends.items (length tables.entries.items)
  pub sound : IsForward (forward_in tables)
