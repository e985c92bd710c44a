-- What holds of every text, as contracts of calls: it is one query, or it has one fault.
use Rattle.std.specs.Prelude.{◌≡◌, ◌⊎◌, ℕ, List}
use Rattle.bool_query.specs.Tree.{Tree}
use Rattle.bool_query.specs.Fault.{IsFault, IsQueryOf}
use Rattle.bool_query.specs.declared.error.QueryCause.{QueryCause}

-- a text is one query at most
abbrev pub QueryIsOne : Type 0
QueryIsOne = (text : List ℕ) (a b : Tree) → IsQueryOf text a → IsQueryOf text b → a ≡ b

-- it has one first fault at most, of one cause
abbrev pub FaultIsOne : Type 0
FaultIsOne =
    (text : List ℕ) (at place : ℕ) (a b : QueryCause)
    → IsFault text at a → IsFault text place b → (at ≡ place) × (a ≡ b)

-- a query has no fault
abbrev pub NeverBoth : Type 0
NeverBoth =
    (text : List ℕ) (query : Tree) (place : ℕ) (cause : QueryCause)
    → IsQueryOf text query → ¬ IsFault text place cause

-- there is a tree that the text spells, or a fault of it
abbrev pub HasQueryOrFault : List ℕ → Type 0
HasQueryOrFault text =
    ((query : Tree) × IsQueryOf text query)
    ⊎ ((place : ℕ) × (cause : QueryCause) × IsFault text place cause)

-- every text is a query or has a fault, whatever its bytes
abbrev pub QueryOrFault : Type 0
QueryOrFault = (text : List ℕ) → HasQueryOrFault text
