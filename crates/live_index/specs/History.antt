-- The history of a live index: the numberings of its documents that were published, in order. Version v
-- is the entry at place v, and entry 0 leaves each document where it is. A plan says for each version
-- which numbering may stand there, so a history is told by how long it is.
use Rattle.std.specs.Prelude.{◌≡◌, ℕ, ◌+◌, ◌<◌, ◌≤◌, List, length}
use Rattle.rgb_base.specs.Parts.{IndexParts}
use Rattle.rgb_base.specs.Order.{IsOrder, Renumbers}
use Rattle.live_index.specs.declared.history.History.{History}

-- ---- plans

-- one list is such a numbering, and no other
pub record IsOneNumbering (Planned : List ℕ → Type 0) : Type 0 where
  pub order : List ℕ
  pub is_planned : Planned order
  pub only : (other : List ℕ) → Planned other → other ≡ order

-- the order leaves each of so many documents where it is
pub record IsIdentity (documents : ℕ) (order : List ℕ) : Type 0 where
  pub ordered : IsOrder order
  pub leaves : Renumbers order documents (λ old. old)

module _ {K : Type 0} (versions : K → IndexParts → ℕ) (planned : K → IndexParts → ℕ → List ℕ → Type 0)
  where
    -- over this base the plan has one numbering for each version that it plans
    abbrev pub IsPlan : IndexParts → K → Type 0
    IsPlan base plan = (version : ℕ) → version < versions plan base
        → IsOneNumbering (planned plan base version)

    -- the numbering is the one that is planned as this version
    pub record IsPlanned (base : IndexParts) (plan : K) (version : ℕ) (order : List ℕ) : Type 0 where
      pub below : version < versions plan base
      pub is_planned : planned plan base version order

    -- version 0 is planned to leave each document where it is
    pub record BeginsWithIdentity (base : IndexParts) (plan : K) : Type 0 where
      pub order : List ℕ
      pub identity : IsIdentity (length base.documents) order
      pub is_planned : IsPlanned base plan 0 order

    -- what each history is: it has the first version, which leaves each document where it is, and each of
    -- its versions is planned
    pub record IsHistory (history : History K) : Type 0 where
      pub some : 0 < history.length
      pub all_planned : history.length ≤ versions history.plan history.base
      pub plan : IsPlan history.base history.plan
      pub identity : BeginsWithIdentity history.base history.plan

-- ---- histories, one beside another

module _ {K : Type 0} where
  -- the history of an index that was just opened: version 0 alone
  abbrev pub opened : IndexParts → K → History K
  opened base plan = record { base = base; plan = plan; length = 1 }

  -- the history with the next version
  abbrev pub with_next : History K → History K
  with_next history = record history { length = history.length + 1 }

  -- the two are of one index and one plan, so the shorter begins the longer
  pub record IsOfSame (history other : History K) : Type 0 where
    pub base : other.base ≡ history.base
    pub plan : other.plan ≡ history.plan

  -- the history begins with what it was before
  pub record Continues (before after : History K) : Type 0 where
    pub same : IsOfSame before after
    pub longer : before.length ≤ after.length

  -- the version is the last of the history
  abbrev pub IsLast : History K → ℕ → Type 0
  IsLast history version = history.length ≡ version + 1
