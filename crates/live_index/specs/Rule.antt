-- The rule of the two copies that readers enter, and of what the publisher and the readers know.
use Rattle.std.specs.Prelude.{◌≡◌, ℕ, ◌+◌, ◌≤◌, Bool, true, IsTrue, List, [], ◌∷◌, ◌++◌, Option, Some, None, fold}
use Rattle.std.specs.Arc.{arc_value}
use mathlib.Core.Option.{some}
use lib.ListN.{get_elem?}
use Rattle.rgb_base.specs.Parts.{IndexParts}
use Rattle.postings_rewrite.specs.Laws.{IsOrderOf}
use Rattle.postings_rewrite.specs.Stores.{IsStoredRenumbered}
use Rattle.live_index.specs.declared.history.History.{History}
use Rattle.live_index.specs.declared.view.View.{View}
use Rattle.live_index.specs.declared.view.Shown.{Shown}
use Rattle.live_index.specs.History.{IsPlanned, IsOfSame}

-- ---- what a view tells, and what a party knows

module _ {K : Type 0} where
  -- the history whose last version is that of the view
  abbrev pub seen_in : IndexParts → K → View → History K
  seen_in base plan view = record { base = base; plan = plan; length = view.version + 1 }

  -- the party knows a history of this base and plan
  pub record KnowsOf (base : IndexParts) (plan : K) (party : Option (History K)) : Type 0 where
    pub length : ℕ
    pub knows : party ≡ Some (record { base = base; plan = plan; length = length })

-- what a copy has in common with the other
abbrev pub state_of : Shown → View × Bool
state_of shown = (arc_value shown.view, shown.is_open)

-- what a copy has once it has taken in these entries
abbrev pub state_after : View × Bool → List Shown → View × Bool
state_after state entries = fold (λ _ entry. state_of entry) state entries

-- the view was put behind the entries that wait
pub record IsAppended (view : View) (before after : List Shown) : Type 0 where
  pub entry : Shown
  pub state : state_of entry ≡ (view, true)
  pub behind : after ≡ before ++ entry ∷ []

-- ---- the rule

module _ {K : Type 0} (versions : K → IndexParts → ℕ) (planned : K → IndexParts → ℕ → List ℕ → Type 0)
  where
    -- the view has the numbering that is planned as its version, and the base renumbered by it
    pub record IsViewOf (base : IndexParts) (plan : K) (view : View) : Type 0 where
      pub is_planned : IsPlanned versions planned base plan view.version view.numbering
      pub is_order : IsOrderOf base view.numbering
      pub stored : IsStoredRenumbered base view.numbering view.store

    -- what a copy shows to who knows this history: a view of its base and plan, of a version that is no
    -- older than what is known
    pub record IsShownTo (history : History K) (shown : Shown) : Type 0 where
      pub is_open : IsTrue shown.is_open
      pub view : IsViewOf history.base history.plan (arc_value shown.view)
      pub longer : history.length ≤ (arc_value shown.view).version + 1

    -- an entry that waits to be published behind this history: the view of the next version
    pub record IsNextView (history : History K) (entry : Shown) : Type 0 where
      pub is_open : IsTrue entry.is_open
      pub view : IsViewOf history.base history.plan (arc_value entry.view)
      pub next : (arc_value entry.view).version ≡ history.length

    abbrev pub ArePending : History K → List Shown → Type 0
    ArePending history entries = (place : ℕ) (entry : Shown) → get_elem? entries place ≡ some entry
        → IsNextView history entry

    -- The rule. What each party knows is a front of what is published, and all that know anything know
    -- one base and one plan. A party that knows nothing has yet to be told.
    pub record IsLive (shown : Shown) (parties : List (Option (History K))) : Type 0 where
      pub each : (seat : ℕ) (history : History K) → get_elem? parties seat ≡ some (Some history)
          → IsShownTo history shown
      pub one_index : (seat other : ℕ) (a b : History K) → get_elem? parties seat ≡ some (Some a)
          → get_elem? parties other ≡ some (Some b) → IsOfSame a b

    -- ---- what the events tell

    -- A reader enters: its history becomes what is published, which is what it finds. Who knows nothing
    -- learns nothing.
    abbrev pub Enters : Option (History K) → Shown → Shown → Option (History K) → Type 0
    Enters None x y after = after ≡ None
    Enters (Some history) x y after =
        IsShownTo history y
        × (after ≡ Some (record history { length = (arc_value y.view).version + 1 }))

    -- A version is published: the publisher's history goes up to it.
    abbrev pub Publishes : Option (History K) → Shown → Shown → Option (History K) → Type 0
    Publishes None x y after = after ≡ None
    Publishes (Some history) x y after =
        after ≡ Some (record history { length = (arc_value y.view).version + 1 })

    -- ---- what the publisher keeps, and what a reader and a note do

    -- the writer shows a view, which is the last that its party knows of, and what is pending comes next
    pub record IsPublishing (base : IndexParts) (plan : K) (shown : Shown) (party : Option (History K))
        (pending : List Shown) : Type 0 where
      pub is_open : IsTrue shown.is_open
      pub view : IsViewOf base plan (arc_value shown.view)
      pub knows : party ≡ Some (seen_in base plan (arc_value shown.view))
      pub next_ones : ArePending (seen_in base plan (arc_value shown.view)) pending
