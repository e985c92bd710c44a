-- What the publisher keeps when it publishes, and when that is refused.
use Rattle.std.proofs.Common.{◌≡◌, ℕ, ◌+◌, ◌<◌, ◌≤◌, length, Bool, true, false, IsTrue, List, [], ◌∷◌, ◌++◌, Option, Some, None, Result, Ok, Err, MatchResult, All, sym, refl, ◌∙◌, subst, ap, ⊎_elim, le_refl, arith}
use Rattle.std.proofs.lemmas.List.Elements.{All-push}
use Rattle.std.specs.Arc.{arc_value}
use mathlib.Core.Option.{some, some-ne-none}
use lib.ListN.{get_elem?}
use Rattle.left_right.specs.Register.{TurnsAt}
use Rattle.atomic_table.proofs.Lists.{at_snoc}
use Rattle.rgb_base.specs.Parts.{IndexParts}
use Rattle.rgb_base.specs.Order.{IsOrder, Renumbers}
use Rattle.rgb_base.specs.Laws.{NewNumbersTellTheOrder}
use Rattle.postings_rewrite.specs.Stores.{StoredLists, IsStoredRenumbered}
use Rattle.live_index.specs.History.{BeginsWithIdentity, IsPlanned}
use Rattle.live_index.specs.declared.history.History.{History}
use Rattle.live_index.specs.declared.view.View.{View}
use Rattle.live_index.specs.declared.view.Shown.{Shown}
use Rattle.live_index.specs.Rule.{IsViewOf, IsNextView, ArePending, IsLive, Publishes, IsPublishing, IsAppended, seen_in, state_of, state_after}
use Rattle.live_index.proofs.Rules.{publishes, opens}

-- a copy with this state shows this view, and is open
pub shows_view : (y : Shown) (view : View) → state_of y ≡ (view, true) → arc_value y.view ≡ view
shows_view y view e = ap (λ (s : View × Bool). s.0) e

pub is_open_with : (y : Shown) (view : View) → state_of y ≡ (view, true) → IsTrue y.is_open
is_open_with y view e = ap (λ (s : View × Bool). s.1) e

-- the last entry decides
pub last_decides : (state : View × Bool) (entries : List Shown) (entry : Shown)
    → state_after state (entries ++ entry ∷ []) ≡ state_of entry
last_decides state [] entry = refl
last_decides state (e ∷ es) entry = last_decides (state_of e) es entry

pub ends_with : (view : View) (state : View × Bool) (before after : List Shown) → IsAppended view before after
    → state_after state after ≡ (view, true)
ends_with view state before after appended =
    ap (state_after state) appended.behind
    ∙ (last_decides state before appended.entry ∙ appended.state)

module _ {K : Type 0} (versions : K → IndexParts → ℕ) (planned : K → IndexParts → ℕ → List ℕ → Type 0)
  where
    pub none_pending : (history : History K) (entries : List Shown) → entries ≡ []
        → ArePending versions planned history entries
    none_pending history entries is place entry at =
        let e : get_elem? [] place ≡ some entry = subst (λ (l : List Shown). get_elem? l place ≡ some entry) is at in
        absurd (some-ne-none entry (sym e))

    pub one_more : (history : History K) (entries : List Shown) (entry : Shown)
        → ArePending versions planned history entries → IsNextView versions planned history entry
        → ArePending versions planned history (entries ++ entry ∷ [])
    one_more history entries entry before next place other at =
        ⊎_elim (before place other)
        (λ (e : entry ≡ other). subst (λ (s : Shown). IsNextView versions planned history s) e next)
        (at_snoc entries entry other place at)

    module _ (base : IndexParts) (plan : K) (view : View) (x : Shown) (party : Option (History K)) where
      -- what is pending may be published
      pub publishes_next : (seat : ℕ) (y : Shown) → party ≡ Some (seen_in base plan (arc_value x.view))
          → IsViewOf versions planned base plan view → view.version ≡ (arc_value x.view).version + 1
          → state_of y ≡ (view, true)
          → TurnsAt (IsLive versions planned) seat party x y (Publishes versions planned)
      publishes_next seat y knows is_view next state =
          let h : History K = seen_in base plan (arc_value x.view) in
          let e : view ≡ arc_value y.view = sym (shows_view y view state) in
          subst (λ (p : Option (History K)). TurnsAt (IsLive versions planned) seat p x y (Publishes versions planned))
          (sym knows)
          (publishes versions planned seat h x y (is_open_with y view state)
          (subst (λ (v : View). IsViewOf versions planned base plan v) e is_view)
          (subst (λ (v : View). (arc_value x.view).version ≤ v.version) e (omega arith)))

      -- and then the publisher knows of it
      after_ok : (y : Shown) (after : Option (History K)) (pending : List Shown)
          → party ≡ Some (seen_in base plan (arc_value x.view))
          → IsViewOf versions planned base plan view → state_of y ≡ (view, true) → pending ≡ []
          → Publishes versions planned party x y after
          → IsPublishing versions planned base plan y after pending
      after_ok y after pending knows is_view state none tells =
          let told : Publishes versions planned (Some (seen_in base plan (arc_value x.view))) x y after
          = subst (λ (p : Option (History K)). Publishes versions planned p x y after) knows tells in
          record {
            is_open = is_open_with y view state;
            view = subst (λ (v : View). IsViewOf versions planned base plan v) (sym (shows_view y view state)) is_view;
            knows = told;
            next_ones = none_pending (seen_in base plan (arc_value y.view)) pending none;
          }

      pub after_err : (y : Shown) (after : Option (History K)) (before pending : List Shown)
          → IsPublishing versions planned base plan x party before → y ≡ x → pending ≡ before → after ≡ party
          → IsPublishing versions planned base plan y after pending
      after_err y after before pending is same same_pending same_party =
          subst (λ (s : Shown). IsPublishing versions planned base plan s after pending) (sym same)
          (subst (λ (p : Option (History K)). IsPublishing versions planned base plan x p pending) (sym same_party)
          (subst (λ (l : List Shown). IsPublishing versions planned base plan x party l) (sym same_pending) is))

      -- the view waits behind what waited before
      pub waits : (y : Shown) (after : Option (History K)) (before pending : List Shown)
          → IsPublishing versions planned base plan x party before → IsViewOf versions planned base plan view
          → view.version ≡ (arc_value x.view).version + 1 → y ≡ x → after ≡ party
          → IsAppended view before pending
          → IsPublishing versions planned base plan y after pending
      waits y after before pending is is_view next same same_party appended =
          let e : view ≡ arc_value appended.entry.view = sym (shows_view appended.entry view appended.state) in
          let own : IsNextView versions planned (seen_in base plan (arc_value x.view)) appended.entry = record {
            is_open = is_open_with appended.entry view appended.state;
            view = subst (λ (v : View). IsViewOf versions planned base plan v) e is_view;
            next = subst (λ (v : View). v.version ≡ (arc_value x.view).version + 1) e next;
          } in
          after_err y after (before ++ appended.entry ∷ []) pending (record {
            is_open = is.is_open;
            view = is.view;
            knows = is.knows;
            next_ones = one_more (seen_in base plan (arc_value x.view)) before appended.entry is.next_ones own;
          }) same appended.behind same_party

      pub published : {T E : Type 0} (y : Shown) (after : Option (History K)) (before pending : List Shown)
          (outcome : Result T E) → IsPublishing versions planned base plan x party before
          → IsViewOf versions planned base plan view → state_after (state_of x) before ≡ (view, true)
          → MatchResult outcome (λ _. (state_of y ≡ state_after (state_of x) before) × (pending ≡ []))
          (λ _. (y ≡ x) × (pending ≡ before))
          → MatchResult outcome (λ _. Publishes versions planned party x y after) (λ _. after ≡ party)
          → IsPublishing versions planned base plan y after pending
      published y after before pending (Ok t) is is_view last values rule =
          after_ok y after pending is.knows is_view (values.0 ∙ last) values.1 rule
      published y after before pending (Err e) is is_view last values rule =
          after_err y after before pending is values.0 values.1 rule

      -- the copies are opened by publishing the view
      pub opens_first : (seat : ℕ) (opening : Option (History K)) (y : Shown)
          → opening ≡ Some (seen_in base plan view) → party ≡ None → x.is_open ≡ false
          → IsViewOf versions planned base plan view → state_of y ≡ (view, true)
          → TurnsAt (IsLive versions planned) seat party x y (λ before x y after. after ≡ opening)
      opens_first seat opening y picked unknown shut is_view state =
          let e : view ≡ arc_value y.view = sym (shows_view y view state) in
          subst (λ (p : Option (History K)). TurnsAt (IsLive versions planned) seat p x y (λ before x y after. after ≡ opening))
          (sym unknown)
          (opens versions planned seat (seen_in base plan view) opening x y picked shut (record {
            is_open = is_open_with y view state;
            view = subst (λ (v : View). IsViewOf versions planned base plan v) e is_view;
            longer = subst (λ (v : View). view.version + 1 ≤ v.version + 1) e (le_refl _);
          }))

-- ---- views that are made

module _ {K : Type 0} (versions : K → IndexParts → ℕ) (planned : K → IndexParts → ℕ → List ℕ → Type 0)
  where
    pub is_first : (base : IndexParts) (plan : K) (order : List ℕ) → NewNumbersTellTheOrder
        → BeginsWithIdentity versions planned base plan → IsOrder order
        → Renumbers order (length base.documents) (λ old. old) → IsPlanned versions planned base plan 0 order
    is_first base plan order law begins ordered leaves =
        let own = begins.identity in
        let e : begins.order ≡ order = law order begins.order ordered own.ordered (own.leaves.len ∙ sym leaves.len)
        (λ old below. let h : old < length base.documents = omega (arith, leaves.len) in
        own.leaves.each old h ∙ sym (leaves.each old h)) in
        subst (λ (o : List ℕ). IsPlanned versions planned base plan 0 o) e begins.is_planned

    pub is_first_view : (base : IndexParts) (plan : K) (order : List ℕ) (store : StoredLists) (view : View)
        → NewNumbersTellTheOrder → BeginsWithIdentity versions planned base plan → IsOrder order
        → Renumbers order (length base.documents) (λ old. old) → IsStoredRenumbered base order store
        → view ≡ record { version = 0; numbering = order; store = store }
        → IsViewOf versions planned base plan view
    is_first_view base plan order store view law begins ordered leaves stored is =
        subst (λ (v : View). IsViewOf versions planned base plan v) (sym is) (record {
          is_planned = is_first base plan order law begins ordered leaves;
          is_order = record { ordered = ordered; len = leaves.len };
          stored = stored;
        })

    pub is_view : (base : IndexParts) (plan : K) (version : ℕ) (order : List ℕ) (store : StoredLists) (view : View)
        → IsPlanned versions planned base plan version order → IsOrder order
        → length order ≡ length base.documents → IsStoredRenumbered base order store
        → view ≡ record { version = version; numbering = order; store = store }
        → IsViewOf versions planned base plan view
    is_view base plan version order store view is_planned ordered len stored is =
        subst (λ (v : View). IsViewOf versions planned base plan v) (sym is) (record {
          is_planned = is_planned;
          is_order = record { ordered = ordered; len = len };
          stored = stored;
        })

    -- the history of a publisher with the next version
    pub next_view : (history : History K) (base : IndexParts) (plan : K) (kept : View) (version : ℕ)
        (order : List ℕ) (store : StoredLists) (view : View)
        → seen_in base plan kept ≡ history → history.length ≡ version
        → IsPlanned versions planned history.base history.plan history.length order → IsOrder order
        → length order ≡ length history.base.documents → IsStoredRenumbered base order store
        → view ≡ record { version = version; numbering = order; store = store }
        → IsViewOf versions planned base plan view
    next_view history base plan kept version order store view same last is_planned ordered len stored is =
        let here : IsPlanned versions planned base plan (kept.version + 1) order = subst
        (λ (h : History K). IsPlanned versions planned h.base h.plan h.length order) (sym same) is_planned in
        let at : IsPlanned versions planned base plan version order = subst
        (λ (v : ℕ). IsPlanned versions planned base plan v order)
        (ap (λ (h : History K). h.length) same ∙ last) here in
        let long : length order ≡ length base.documents = subst
        (λ (h : History K). length order ≡ length h.base.documents) (sym same) len in
        is_view base plan version order store view at ordered long stored is

pub all_more : {X : Type 0} (P : X → Type 0) (xs : List X) (x : X) (ys : List X) → ys ≡ xs ++ x ∷ []
    → All P xs → P x → All P ys
all_more P xs x ys is all here = subst (λ l. All P l) (sym is) (All-push P xs x all here)
