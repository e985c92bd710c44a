-- That each step keeps the rule.
use Rattle.std.proofs.Common.{◌≡◌, ◌≢◌, ℕ, ◌+◌, ◌≤◌, true, false, IsTrue, List, [], ◌∷◌, ◌++◌, set, Option, Some, None, sym, refl, subst, ap, ⊎_elim, le_refl, arith}
use Rattle.std.specs.Arc.{arc_value}
use mathlib.Core.Option.{some}
use lib.ListN.{get_elem?}
use Rattle.left_right.specs.Register.{Admits, TurnsAt, Turns, Forks, Merges}
use Rattle.atomic_table.proofs.Lists.{at_set, at_snoc}
use Rattle.rgb_base.specs.Parts.{IndexParts}
use Rattle.live_index.specs.declared.history.History.{History}
use Rattle.live_index.specs.declared.view.Shown.{Shown}
use Rattle.live_index.specs.History.{IsOfSame}
use Rattle.live_index.specs.Rule.{IsViewOf, IsShownTo, IsLive, Enters, Publishes}

module _ {K : Type 0} (versions : K → IndexParts → ℕ) (planned : K → IndexParts → ℕ → List ℕ → Type 0)
  where
    -- what a party knows rests on what some party knew before
    pub record Rests (y : Shown) (before : List (Option (History K))) (history : History K) : Type 0 where
      pub seat : ℕ
      pub known : History K
      pub at : get_elem? before seat ≡ some (Some known)
      pub same : IsOfSame known history
      pub shown : IsShownTo versions planned history y

    pub of_same : (a b k l : History K) → IsOfSame k a → IsOfSame k l → IsOfSame l b → IsOfSame a b
    of_same a b k l p q r = record { base = cc (p.base, q.base, r.base); plan = cc (p.plan, q.plan, r.plan) }

    pub itself : (a : History K) → IsOfSame a a
    itself a = record { base = refl; plan = refl }

    pub kept : (x y : Shown) (before after : List (Option (History K))) → IsLive versions planned x before
        → ((seat : ℕ) (history : History K) → get_elem? after seat ≡ some (Some history) → Rests y before history)
        → IsLive versions planned y after
    kept x y before after live rests = record {
      each = λ seat history at. (rests seat history at).shown;
      one_index = λ seat other a b at there.
          let p = rests seat a at in let q = rests other b there in
          of_same a b p.known q.known p.same (live.one_index p.seat q.seat p.known q.known p.at q.at) q.same;
    }

    -- a party of before still knows what it knew
    pub rests_on : (x : Shown) (before : List (Option (History K))) → IsLive versions planned x before
        → (seat : ℕ) (history : History K) → get_elem? before seat ≡ some (Some history)
        → Rests x before history
    rests_on x before live seat history at = record {
      seat = seat;
      known = history;
      at = at;
      same = itself history;
      shown = live.each seat history at;
    }

    pub rests_at : (x : Shown) (before : List (Option (History K))) → IsLive versions planned x before
        → (seat : ℕ) (party : Option (History K)) (history : History K) → get_elem? before seat ≡ some party
        → party ≡ Some history → Rests x before history
    rests_at x before live seat party history at is =
        rests_on x before live seat history
        (subst (λ (p : Option (History K)). get_elem? before seat ≡ some p) is at)

    pub nobody : (history : History K) → None ≡ Some history → {P : Type 0} → P
    nobody history e = cc

    pub admits : Admits (IsLive versions planned) None
    admits x views live = kept x x views (views ++ None ∷ []) live
        (λ seat history at. ⊎_elim (rests_on x views live seat history) (λ (e : None ≡ Some history). nobody history e)
        (at_snoc views None (Some history) seat at))

    -- one party's view is put in place of another, or of the same
    set_rests : (x : Shown) (views : List (Option (History K))) (seat : ℕ) (party : Option (History K))
        → IsLive versions planned x views
        → ((history : History K) → party ≡ Some history → Rests x views history)
        → (j : ℕ) (history : History K) → get_elem? (set views seat party) j ≡ some (Some history)
        → Rests x views history
    set_rests x views seat party live own j history at =
        ⊎_elim (λ (t : (j ≡ seat) × (party ≡ Some history)). own history t.1)
        (λ (t : (j ≢ seat) × (get_elem? views j ≡ some (Some history))). rests_on x views live j history t.1)
        (at_set views seat j party (Some history) at)

    pub forks : (seat : ℕ) (party : Option (History K)) → Forks (IsLive versions planned) seat party party party
    forks seat party x views live at = kept x x views (set views seat party ++ party ∷ []) live
        (λ j history there. ⊎_elim
        (set_rests x views seat party live (λ h. rests_at x views live seat party h at) j history)
        (λ (e : party ≡ Some history). rests_at x views live seat party history at e)
        (at_snoc (set views seat party) party (Some history) j there))

    pub merges : (seat : ℕ) (party : Option (History K)) (other : ℕ) (told : Option (History K))
        → Merges (IsLive versions planned) seat party other told told None
    merges seat party other told x views live at apart there =
        let own : (h : History K) → told ≡ Some h → Rests x views h = λ h e.
        ⊎_elim (λ (t : (other ≡ seat) × (told ≡ told)). absurd (apart t.0))
        (λ (t : (other ≢ seat) × (get_elem? views other ≡ some told)). rests_at x views live other told h t.1 e)
        (at_set views seat other told told there) in
        let first = set_rests x views seat told live own in
        kept x x views (set (set views seat told) other None) live
        (λ j history e. ⊎_elim (λ (t : (j ≡ other) × (None ≡ Some history)). nobody history t.1)
        (λ (t : (j ≢ other) × (get_elem? (set views seat told) j ≡ some (Some history))). first j history t.1)
        (at_set (set views seat told) other j None (Some history) e))

    -- ---- a reader enters

    pub enters : (seat : ℕ) (party : Option (History K))
        → Turns (IsLive versions planned) seat party (λ x. x) (Enters versions planned)
    enters seat None x views live at = (
      None,
      kept x x views (set views seat None) live
          (set_rests x views seat None live (λ h e. nobody h e)),
      refl,
    )
    enters seat (Some h) x views live at =
        let here = live.each seat h at in
        let now : History K = record h { length = (arc_value x.view).version + 1 } in
        let own : (k : History K) → Some now ≡ Some k → Rests x views k = λ k e.
        let same : now ≡ k = cc in
        subst (λ (l : History K). Rests x views l) same (record {
          seat = seat;
          known = h;
          at = at;
          same = record { base = refl; plan = refl };
          shown = record { is_open = here.is_open; view = here.view; longer = le_refl _ };
        }) in (
          Some now,
          kept x x views (set views seat (Some now)) live (set_rests x views seat (Some now) live own),
          (here, refl),
        )

    -- ---- the publisher publishes the version behind all that it knows

    -- the next view is shown to whoever knows as much or less
    shows_next : (x y : Shown) (h k : History K) → IsTrue y.is_open
        → IsViewOf versions planned h.base h.plan (arc_value y.view)
        → (arc_value x.view).version ≤ (arc_value y.view).version
        → IsShownTo versions planned k x → IsOfSame h k → IsShownTo versions planned k y
    shows_next x y h k is_open view rise shown same = record {
      is_open = is_open;
      view = subst (λ (b : IndexParts). IsViewOf versions planned b k.plan (arc_value y.view)) (sym same.base)
          (subst (λ (p : K). IsViewOf versions planned h.base p (arc_value y.view)) (sym same.plan) view);
      longer = let a = shown.longer in omega arith;
    }

    pub publishes : (seat : ℕ) (h : History K) (x y : Shown) → IsTrue y.is_open
        → IsViewOf versions planned h.base h.plan (arc_value y.view)
        → (arc_value x.view).version ≤ (arc_value y.view).version
        → TurnsAt (IsLive versions planned) seat (Some h) x y (Publishes versions planned)
    publishes seat h x y is_open view rise views live at =
        let now : History K = record h { length = (arc_value y.view).version + 1 } in
        let own : (k : History K) → Some now ≡ Some k → Rests y views k = λ k e.
        let same : now ≡ k = cc in
        subst (λ (l : History K). Rests y views l) same (record {
          seat = seat;
          known = h;
          at = at;
          same = record { base = refl; plan = refl };
          shown = record { is_open = is_open; view = view; longer = le_refl _ };
        }) in
        let others : (j : ℕ) (k : History K) → get_elem? views j ≡ some (Some k) → Rests y views k = λ j k there.
        record {
          seat = j;
          known = k;
          at = there;
          same = itself k;
          shown = shows_next x y h k is_open view rise (live.each j k there) (live.one_index seat j h k at there);
        } in (
          Some now,
          kept x y views (set views seat (Some now)) live
              (λ j k there. ⊎_elim (λ (t : (j ≡ seat) × (Some now ≡ Some k)). own k t.1)
              (λ (t : (j ≢ seat) × (get_elem? views j ≡ some (Some k))). others j k t.1)
              (at_set views seat j (Some now) (Some k) there)),
          refl,
        )

    -- ---- the publisher opens the copies

    -- while the copies aren't open, no party knows anything
    none_knows : (x : Shown) (views : List (Option (History K))) → IsLive versions planned x views
        → x.is_open ≡ false → (j : ℕ) (k : History K) → get_elem? views j ≡ some (Some k) → {P : Type 0} → P
    none_knows x views live shut j k at =
        let shows = (live.each j k at).is_open in
        let e : true ≡ false = cc (shows, shut) in cc

    pub opens : (seat : ℕ) (h : History K) (opening : Option (History K)) (x y : Shown) → opening ≡ Some h
        → x.is_open ≡ false → IsShownTo versions planned h y
        → TurnsAt (IsLive versions planned) seat None x y (λ before x y after. after ≡ opening)
    opens seat h opening x y is shut shown views live at =
        let only : (j : ℕ) (k : History K) → get_elem? (set views seat (Some h)) j ≡ some (Some k) → h ≡ k
        = λ j k there. ⊎_elim (λ (t : (j ≡ seat) × (Some h ≡ Some k)). let e = t.1 in cc)
        (λ (t : (j ≢ seat) × (get_elem? views j ≡ some (Some k))). none_knows x views live shut j k t.1)
        (at_set views seat j (Some h) (Some k) there) in (
          Some h,
          record {
            each = λ j k there. subst (λ (l : History K). IsShownTo versions planned l y) (only j k there) shown;
            one_index = λ j l a b there here.
                let p = only j a there in let q = only l b here in let e : b ≡ a = cc (p, q) in
                record { base = ap (λ (v : History K). v.base) e; plan = ap (λ (v : History K). v.plan) e };
          },
          sym is,
        )
