-- Each step keeps the rule.
use Rattle.std.proofs.Common.{◌≡◌, ◌≢◌, ℕ, zero, suc, ◌+◌, ◌-◌, ◌%◌, ◌<◌, ◌≤◌, List, [], ◌∷◌, ◌++◌, length, map, set, Some, refl, sym, ap, ◌∙◌, subst, ⊎_elim, arith, lt_of_not-le}
use Rattle.std.specs.Prelude.{slice_get, slice_index}
use Rattle.std.proofs.lemmas.List.{map-append}
use Rattle.std.proofs.lemmas.Option.{slice_get_cases, slice_get_within}
use Rattle.std.proofs.Math.Nat.{mod-eq_of_lt}
use native.Mathlib.Decide.{dec_le}
use mathlib.Core.Option.{Option, some, some-injective, some-ne-none}
use lib.ListN.{get_elem?}
use Rattle.atomic_table.specs.Table.{State, Me, Act, keeps, takes, gives, Allows, Splits, Joins, Valid, stepped, homes_after, carried_after}
use Rattle.atomic_table.proofs.Lists.{at_set, at_snoc, set_here, set_else}
use Rattle.cell_claims.specs.declared.cell.CellWork.{CellWork}
use Rattle.cell_claims.specs.declared.cell.CellDone.{CellDone}
use Rattle.cell_claims.specs.declared.cell.Slot.{Slot}
use Rattle.cell_claims.specs.declared.cell.Slot.TheVariants.{Ready, Away, Done}
use Rattle.cell_claims.specs.declared.rule.Hand.{Hand}
use Rattle.cell_claims.specs.Numbers.{total, times, late, is_below, is_same}
use Rattle.cell_claims.specs.Rule.{places, LiesIn, AllLieIn, Fits, IsRuled, first_hand, empty_hand, one_less, one_share, both_hands, drawn_hand, given_hand, HasDrawn, HasReturned, MayDraw, MayGive}
use Rattle.cell_claims.proofs.Sums.{some_from, total_set, total_at, total_two, total_snoc, total_le, times_append, late_append, below_next, same_here, place_there, get_snoc, get_append}

abbrev pub Ruled : List CellWork → State Slot Hand → Type 0
Ruled cells s = IsRuled cells s.words s.homes s.views

abbrev shares_of : Hand → ℕ
shares_of v = v.shares

-- what lies in slots still does where only one slot changed, of which no cell was given back
pub lies_on : (homes now : List (Option Slot)) (n : ℕ) (given : List CellDone)
    → ((k : ℕ) → k ≢ n → get_elem? now k ≡ get_elem? homes k)
    → times n (places given) ≡ 0 → AllLieIn homes given → AllLieIn now given
lies_on homes now n given same none lie j done e =
    let apart : done.place ≢ n = λ q. let t = place_there given j done e in let z : times done.place (places given) ≡ 0 = ap (λ (k : ℕ). times k (places given)) q ∙ none in omega arith in
    same done.place apart ∙ lie j done e

pub fits_on : (cells : List CellWork) (homes now : List (Option Slot)) (n : ℕ) (v : Hand)
    → ((k : ℕ) → k ≢ n → get_elem? now k ≡ get_elem? homes k)
    → times n (places v.given) ≡ 0 → Fits cells homes v → Fits cells now v
fits_on cells homes now n v same none fits = record {
  own = fits.own;
  late = fits.late;
  spent = fits.spent;
  drawn = fits.drawn;
  given = lies_on homes now n v.given same none fits.given;
}

-- all seats fit once one seat changed
pub fits_set : (cells : List CellWork) (now : List (Option Slot)) (views : List Hand) (id : ℕ) (w : Hand)
    → ((j : ℕ) (u : Hand) → j ≢ id → get_elem? views j ≡ some u → Fits cells now u)
    → Fits cells now w → (j : ℕ) (u : Hand) → get_elem? (set views id w) j ≡ some u → Fits cells now u
fits_set cells now views id w others mine j u e =
    ⊎_elim
    (λ (x : (j ≡ id) × (w ≡ u)). subst (Fits cells now) x.1 mine)
    (λ (x : (j ≢ id) × (get_elem? views j ≡ some u)). others j u x.0 x.1)
    (at_set views id j w u e)

-- ---- the start

ready_at : (cells : List CellWork) (k : ℕ) (cell : CellWork) → slice_get cells k ≡ Some cell
    → get_elem? (map some (map Ready cells)) k ≡ some (some (Ready cell))
ready_at [] k cell e = absurd cc
ready_at (x ∷ xs) zero cell e = ap (λ (c : CellWork). some (some (Ready c))) (some_from e)
ready_at (x ∷ xs) (suc k) cell e = ready_at xs k cell e

one_fits : (cells : List CellWork) (homes : List (Option Slot)) (id : ℕ) (v : Hand) → get_elem? (first_hand cells ∷ []) id ≡ some v → Fits cells homes v
one_fits cells homes zero v e = subst (Fits cells homes) (some-injective _ _ e) record {
  own = λ _. refl;
  late = omega arith;
  spent = λ _. refl;
  drawn = λ k. omega arith;
  given = λ j done d. absurd cc;
}
one_fits cells homes (suc id) v e = absurd (some-ne-none v (sym e))

pub opens : (cells : List CellWork) → length cells < 9223372036854775808 → IsRuled cells (0 ∷ []) (map some (map Ready cells)) (first_hand cells ∷ [])
opens cells few = record {
  one = refl;
  few = few;
  shares = omega arith;
  most = omega arith;
  once = λ k. omega arith;
  ready = λ k cell low e. ready_at cells k cell e;
  each = one_fits cells (map some (map Ready cells));
}

pub opens_as : (cells : List CellWork) (slots : List Slot) → length cells < 9223372036854775808 → slots ≡ map Ready cells → IsRuled cells (0 ∷ []) (map some slots) (first_hand cells ∷ [])
opens_as cells slots few is = subst (λ (xs : List Slot). IsRuled cells (0 ∷ []) (map some xs) (first_hand cells ∷ [])) (sym is) (opens cells few)

-- ---- a share for a new seat

pub splits : (cells : List CellWork) (id : ℕ) (v : Hand) → v.cells ≡ cells → v.drawn ≡ [] → v.given ≡ [] → 1 < v.shares
    → Splits (Ruled cells) id v (one_less v) (one_share v)
splits cells id v own none nothing more s h at =
    let views = set s.views id (one_less v) in
    let right : Fits cells s.homes (one_share v) = record {
      own = λ _. own;
      late = omega arith;
      spent = λ z. absurd (omega arith);
      drawn = λ k. omega arith;
      given = λ j done d. absurd cc;
    } in
    let left : Fits cells s.homes (one_less v) = let f = h.each id v at in record {
      own = λ _. own;
      late = (let z : late (length cells) v.drawn ≡ 0 = ap (late (length cells)) none in omega arith);
      spent = λ z. none;
      drawn = f.drawn;
      given = f.given;
    } in record {
      one = h.one;
      few = h.few;
      shares = (let a = total_set shares_of s.views id v (one_less v) at in let b = total_snoc shares_of views (one_share v) in let c = h.shares in omega arith);
      most = (let f : Hand → ℕ = λ u. late (length cells) u.drawn in let a = total_set f s.views id v (one_less v) at in let b = total_snoc f views (one_share v) in let c = h.most in omega arith);
      once = λ k. let f : Hand → ℕ = λ u. times k u.drawn in let a = total_set f s.views id v (one_less v) at in let b = total_snoc f views (one_share v) in let c = h.once k in omega arith;
      ready = h.ready;
      each = λ j u e. ⊎_elim
          (λ was. fits_set cells s.homes s.views id (one_less v) (λ i x n d. h.each i x d) left j u was)
          (λ (same : one_share v ≡ u). subst (Fits cells s.homes) same right)
          (at_snoc views (one_share v) u j e);
    }

-- ---- the next number

-- no cell was given back whose number wasn't drawn
fresh : (cells : List CellWork) (s : State Slot Hand) → Ruled cells s → (j : ℕ) (u : Hand) → get_elem? s.views j ≡ some u → times (slice_index s.words 0) (places u.given) ≡ 0
fresh cells s h j u e =
    let n = slice_index s.words 0 in
    let f : Hand → ℕ = λ v. times n v.drawn in
    let a = total_at f s.views j u e in
    let b = h.once n in
    let c = (h.each j u e).drawn n in omega arith

pub draws_ruled : (cells : List CellWork) (s : State Slot Hand) (now : List (Option Slot)) (id : ℕ) (me : Me Slot Hand) (m : ℕ)
    → Ruled cells s → MayDraw cells me → get_elem? s.views id ≡ some me.0 → m ≡ slice_index s.words 0 + 1
    → ((k : ℕ) → k ≢ slice_index s.words 0 → get_elem? now k ≡ get_elem? s.homes k)
    → IsRuled cells (set s.words 0 m) now (set s.views id (drawn_hand me.0 (slice_index s.words 0)))
draws_ruled cells s now id me m h may at next same =
    let n = slice_index s.words 0 in
    let v = me.0 in
    let w = drawn_hand v n in
    let late_w : late (length cells) w.drawn ≡ late (length cells) v.drawn + ((1 - (length cells - n)) + 0) = late_append (length cells) v.drawn (n ∷ []) in
    let fits = h.each id v at in
    let mine : Fits cells now w = record {
      own = λ _. may.own;
      late = (let e = may.early in let p = may.share in omega arith);
      spent = λ z. absurd (let p = may.share in omega arith);
      drawn = λ k. (let t = times_append k v.drawn (n ∷ []) in let f = fits.drawn k in omega arith);
      given = lies_on s.homes now n v.given same (fresh cells s h id v at) fits.given;
    } in
    let after : IsRuled cells (m ∷ []) now (set s.views id w) = record {
      one = refl;
      few = h.few;
      shares = (let a = total_set shares_of s.views id v w at in let c = h.shares in omega arith);
      most = (let a = total_set (λ (u : Hand). late (length cells) u.drawn) s.views id v w at in let c = h.most in let e = may.early in omega arith);
      once = λ k. (let a = total_set (λ (u : Hand). times k u.drawn) s.views id v w at in let c = h.once k in let t = times_append k v.drawn (n ∷ []) in let b = below_next k n in let q : is_below k m ≡ is_below k (n + 1) = ap (is_below k) next in omega arith);
      ready = λ k cell low e. same k (λ q. omega arith) ∙ h.ready k cell (omega arith) e;
      each = fits_set cells now s.views id w (λ j u apart e. fits_on cells s.homes now n u same (fresh cells s h j u e) (h.each j u e)) mine;
    } in subst (λ ws. IsRuled cells ws now (set s.views id w)) (sym (ap (λ (ws : List ℕ). set ws 0 m) h.one)) after

more_than : (cells : List CellWork) (s : State Slot Hand) (id : ℕ) (me : Me Slot Hand) → Ruled cells s → get_elem? s.views id ≡ some me.0
    → (k : ℕ) → 0 < times k me.0.drawn → k < slice_index s.words 0
more_than cells s id me h at k some_k =
    let a = total_at (λ (u : Hand). times k u.drawn) s.views id me.0 at in let b = h.once k in omega arith

draws_some : (cells : List CellWork) (me : Me Slot Hand) (s : State Slot Hand) (id : ℕ) (cell : CellWork)
    → MayDraw cells me → Ruled cells s → length s.homes ≡ length cells → get_elem? s.views id ≡ some me.0
    → slice_get cells (slice_index s.words 0) ≡ Some cell → (m : ℕ) → m ≡ slice_index s.words 0 + 1
    → (w : Hand) × (a : Act Slot) × Valid s.homes me.1 a
    × Ruled cells (stepped s 0 m id me.1 w a)
    × HasDrawn me (slice_index s.words 0) (w, carried_after me.1 a)
draws_some cells me s id cell may h slots at found m next =
    let n = slice_index s.words 0 in
    let w = drawn_hand me.0 n in
    let lies : get_elem? s.homes n ≡ some (some (Ready cell)) = h.ready n cell (omega arith) found in
    let within : n < length cells = slice_get_within cells n cell found in (
      w,
      takes n (Ready cell),
      lies,
      draws_ruled cells s (homes_after s.homes me.1 (takes n (Ready cell))) id me m h may at next (λ k apart. set_else s.homes n k _ apart),
      record {
        hand = refl;
        more = more_than cells s id me h at;
        out = λ _. record { cell = cell; found = ap (λ (c : List CellWork). slice_get c n) may.own ∙ found; goes = ap (λ (c : List (ℕ × Slot)). (n, Ready cell) ∷ c) may.none };
        none = λ low. absurd (let e : length me.0.cells ≡ length cells = ap (λ (c : List CellWork). length c) may.own in omega arith);
      },
    )

draws_none : (cells : List CellWork) (me : Me Slot Hand) (s : State Slot Hand) (id : ℕ)
    → MayDraw cells me → Ruled cells s → get_elem? s.views id ≡ some me.0
    → length cells ≤ slice_index s.words 0 → (m : ℕ) → m ≡ slice_index s.words 0 + 1
    → (w : Hand) × (a : Act Slot) × Valid s.homes me.1 a
    × Ruled cells (stepped s 0 m id me.1 w a)
    × HasDrawn me (slice_index s.words 0) (w, carried_after me.1 a)
draws_none cells me s id may h at low m next =
    let n = slice_index s.words 0 in (
      drawn_hand me.0 n,
      keeps,
      tt,
      draws_ruled cells s s.homes id me m h may at next (λ k apart. refl),
      record {
        hand = refl;
        more = more_than cells s id me h at;
        out = λ within. absurd (let e : length me.0.cells ≡ length cells = ap (λ (c : List CellWork). length c) may.own in omega arith);
        none = λ _. may.none;
      },
    )

pub draws : (cells : List CellWork) (id slots : ℕ) (me : Me Slot Hand) → MayDraw cells me → slots ≡ length cells
    → Allows (Ruled cells) slots id me 0 (λ n. (n + 1) % 18446744073709551616) (HasDrawn me)
draws cells id slots me may is s h homes at small =
    let n = slice_index s.words 0 in
    let late_most : total (λ (u : Hand). late (length cells) u.drawn) s.views ≤ total shares_of s.views = total_le (λ (u : Hand). late (length cells) u.drawn) shares_of s.views (λ j u e. (h.each j u e).late) in
    let bound : n + 1 < 18446744073709551616 = let a = h.most in let b = h.few in let c = h.shares in omega arith in
    let next : (n + 1) % 18446744073709551616 ≡ n + 1 = mod-eq_of_lt bound in
    ⊎_elim
    (λ t. draws_some cells me s id t.0 may h (homes ∙ is) at t.2 _ next)
    (λ t. draws_none cells me s id may h at t.0 _ next)
    (slice_get_cases cells n).1

-- ---- a cell that is done

returns_ruled : (cells : List CellWork) (s : State Slot Hand) (now : List (Option Slot)) (id : ℕ) (me : Me Slot Hand) (done : CellDone)
    → Ruled cells s → MayGive cells done.place me → get_elem? s.views id ≡ some me.0
    → ((k : ℕ) → k ≢ done.place → get_elem? now k ≡ get_elem? s.homes k) → get_elem? now done.place ≡ some (some (Done done))
    → IsRuled cells (set s.words 0 (slice_index s.words 0)) now (set s.views id (given_hand me.0 done))
returns_ruled cells s now id me done h may at same lies =
    let n = slice_index s.words 0 in
    let v = me.0 in
    let p = done.place in
    let w = given_hand v done in
    let fits = h.each id v at in
    let f : Hand → ℕ = λ u. times p u.drawn in
    let all = total_at f s.views id v at in
    let once = h.once p in
    let here = may.drew p may.within in
    let self = same_here p in
    let none : times p (places v.given) ≡ 0 = omega arith in
    let below : p < n = omega arith in
    let mine : Fits cells now w = record {
      own = λ _. may.own;
      late = fits.late;
      spent = λ z. absurd (let q = may.share in omega arith);
      drawn = λ k. (let t = times_append k (places v.given) (p ∷ []) in let m : times k (places w.given) ≡ times k (places v.given ++ p ∷ []) = ap (times k) (map-append (λ (d : CellDone). d.place) v.given (done ∷ [])) in let o = fits.drawn k in drawn_one k (dec_le (length cells) k) t m o);
      given = λ j d e. ⊎_elim
          (λ was. lies_on s.homes now p v.given same none fits.given j d was)
          (λ (q : done ≡ d). subst (λ (x : CellDone). LiesIn now x) q lies)
          (get_snoc v.given done j d e);
    } in
    let after : IsRuled cells (n ∷ []) now (set s.views id w) = record {
      one = refl;
      few = h.few;
      shares = (let a = total_set shares_of s.views id v w at in let c = h.shares in omega arith);
      most = (let a = total_set (λ (u : Hand). late (length cells) u.drawn) s.views id v w at in let c = h.most in omega arith);
      once = λ k. (let a = total_set (λ (u : Hand). times k u.drawn) s.views id v w at in let c = h.once k in omega arith);
      ready = λ k cell low e. same k (λ q. omega arith) ∙ h.ready k cell low e;
      each = fits_set cells now s.views id w
          (λ j u apart e. fits_on cells s.homes now p u same
          (let two = total_two f s.views j id u v apart e at in let o = (h.each j u e).drawn p in omega arith) (h.each j u e))
          mine;
    } in subst (λ ws. IsRuled cells ws now (set s.views id w)) (sym (ap (λ (ws : List ℕ). set ws 0 n) h.one)) after
  where
    drawn_one : (k : ℕ) → Dec (length cells ≤ k)
        → times k (places me.0.given ++ done.place ∷ []) ≡ times k (places me.0.given) + (is_same k done.place + 0)
        → times k (places (given_hand me.0 done).given) ≡ times k (places me.0.given ++ done.place ∷ [])
        → times k (places me.0.given) ≤ times k me.0.drawn
        → times k (places (given_hand me.0 done).given) ≤ times k me.0.drawn
    drawn_one k (yes d) t m o = let w = may.within in omega arith
    drawn_one k (no d) t m o = let e = may.drew k (lt_of_not-le d) in omega arith

abbrev head_slot : List (ℕ × Slot) → Slot
head_slot [] = Away
head_slot (x ∷ xs) = x.1

done_from : (done other : CellDone) → Done done ≡ Done other → done ≡ other
done_from done other e = cc

pub returns : (cells : List CellWork) (id slots : ℕ) (me now : Me Slot Hand) (done : CellDone) → MayGive cells done.place me → slots ≡ length cells
    → now ≡ (me.0, (done.place, Done done) ∷ [])
    → Allows (Ruled cells) slots id now 0 (λ n. n) (λ n after. HasReturned now after)
returns cells id slots me now done may is at_now =
    subst (λ (x : Me Slot Hand). Allows (Ruled cells) slots id x 0 (λ n. n) (λ n after. HasReturned x after)) (sym at_now)
    (λ s h homes at small.
    let inside : done.place < length s.homes = let w = may.within in omega (arith, homes ∙ is) in (
      given_hand me.0 done,
      gives,
      tt,
      returns_ruled cells s (set s.homes done.place (some (Done done))) id me done h may at (λ k apart. set_else s.homes done.place k _ apart) (set_here s.homes done.place _ inside),
      λ other e. ap (λ (d : CellDone). (given_hand me.0 d, [])) (done_from done other (ap (λ (x : List (ℕ × Slot)). head_slot x) e)),
    ))

-- ---- two seats as one

total_join : (f : Hand → ℕ) (views : List Hand) (id other : ℕ) (v w both spent : Hand) → get_elem? views id ≡ some v
    → get_elem? (set views id both) other ≡ some w → f both ≡ f v + f w → f spent ≡ 0
    → total f (set (set views id both) other spent) ≡ total f views
total_join f views id other v w both spent at there sum zero_f =
    let a = total_set f views id v both at in
    let b = total_set f (set views id both) other w spent there in omega arith

both_fit : (cells : List CellWork) (homes : List (Option Slot)) (v w : Hand) → v.cells ≡ cells → 0 < v.shares → Fits cells homes v → Fits cells homes w → Fits cells homes (both_hands v w)
both_fit cells homes v w own some_v f g =
    record {
      own = λ _. own;
      late = (let a = late_append (length cells) w.drawn v.drawn in let x = f.late in let y = g.late in omega arith);
      spent = λ z. absurd (omega arith);
      drawn = λ k. (let a = times_append k w.drawn v.drawn in let b = times_append k (places w.given) (places v.given) in let m : times k (places (w.given ++ v.given)) ≡ times k (places w.given ++ places v.given) = ap (times k) (map-append (λ (d : CellDone). d.place) w.given v.given) in let x = f.drawn k in let y = g.drawn k in omega arith);
      given = λ j d e. ⊎_elim (λ t. g.given t.0 d t.1) (λ t. f.given t.0 d t.1) (get_append w.given v.given j d e);
    }

pub joins : (cells : List CellWork) (id other : ℕ) (v w : Hand) → v.cells ≡ cells → 0 < v.shares
    → Joins (Ruled cells) id v other w (both_hands v w) empty_hand
joins cells id other v w own some_v s h at apart there =
    let b = both_hands v w in
    let views = set s.views id b in
    let at_w : get_elem? s.views other ≡ some w = sym (set_else s.views id other b apart) ∙ there in
    let fit_b = both_fit cells s.homes v w own some_v (h.each id v at) (h.each other w at_w) in
    let fit_e : Fits cells s.homes empty_hand = record {
      own = λ z. absurd (omega arith);
      late = omega arith;
      spent = λ z. refl;
      drawn = λ k. omega arith;
      given = λ j d e. absurd cc;
    } in record {
      one = h.one;
      few = h.few;
      shares = total_join shares_of s.views id other v w b empty_hand at there refl refl ∙ h.shares;
      most = (let t = total_join (λ (u : Hand). late (length cells) u.drawn) s.views id other v w b empty_hand at there (let a = late_append (length cells) w.drawn v.drawn in omega arith) refl in let m = h.most in omega arith);
      once = λ k. total_join (λ (u : Hand). times k u.drawn) s.views id other v w b empty_hand at there (let a = times_append k w.drawn v.drawn in omega arith) refl ∙ h.once k;
      ready = h.ready;
      each = fits_set cells s.homes views other empty_hand (λ j u n e. fits_set cells s.homes s.views id b (λ i x m d. h.each i x d) fit_b j u e) fit_e;
    }
