-- One of some seats was exchanged for another.
use Rattle.std.proofs.Common.{◌≡◌, ℕ, zero, suc, ◌+◌, ◌<◌, List, [], ◌∷◌, ◌++◌, length, set, Some, None, Option, IfNone, refl, ap, sym, ◌⊎◌, ⊎_elim, inl, inr, ◌∙◌, arith}
use Rattle.std.specs.Prelude.{slice_get}
use Rattle.std.proofs.lemmas.List.Elements.{All-set}
use Rattle.cell_claims.specs.declared.cell.CellWork.{CellWork}
use Rattle.cell_claims.specs.Numbers.{late}
use Rattle.cell_claims.specs.Claims.{Known, Seated, IsSeatOf, AreBack, AreInPlace, shares_of, drawn_by}

late_append : (n : ℕ) (xs ys : List ℕ) → late n (xs ++ ys) ≡ late n xs + late n ys
late_append n [] ys = omega arith
late_append n (x ∷ xs) ys = let s = late_append n xs ys in omega arith

shares_set : (seats : List Seated) (i : ℕ) (x y : Seated) → slice_get seats i ≡ Some x → y.shares ≡ x.shares → shares_of (set seats i y) ≡ shares_of seats
shares_set [] i x y e same = absurd cc
shares_set (s ∷ ss) zero x y e same = let q : s ≡ x = cc in let p : s.shares ≡ x.shares = ap (λ (z : Seated). z.shares) q in omega arith
shares_set (s ∷ ss) (suc i) x y e same = let t = shares_set ss i x y e same in omega arith

pub late_set : (n : ℕ) (seats : List Seated) (i : ℕ) (y : Seated) → i < length seats → 0 < late n y.drawn → 0 < late n (drawn_by (set seats i y))
late_set n [] i y low h = absurd (omega arith)
late_set n (s ∷ ss) zero y low h = let a = late_append n y.drawn (drawn_by ss) in omega arith
late_set n (s ∷ ss) (suc i) y low h = let a = late_append n s.drawn (drawn_by (set ss i y)) in let t = late_set n ss i y (omega arith) h in omega arith

pub back_set : (claims : Known) (seats : List Seated) (i : ℕ) (x y : Seated) → AreBack claims seats → slice_get seats i ≡ Some x → IsSeatOf claims y → y.held ≡ None → y.shares ≡ x.shares → AreBack claims (set seats i y)
back_set claims seats i x y back e mine free same = record {
  each = All-set (IsSeatOf claims) seats i y mine back.each;
  free = All-set (λ (seat : Seated). seat.held ≡ None) seats i y free back.free;
  shares = shares_set seats i x y e same ∙ back.shares;
}

get_snoc : (cells : List CellWork) (cell : CellWork) (k : ℕ) (x : CellWork) → slice_get (cells ++ cell ∷ []) k ≡ Some x → (slice_get cells k ≡ Some x) ⊎ ((k ≡ length cells) × (cell ≡ x))
get_snoc [] cell zero x e = inr (refl, cc)
get_snoc [] cell (suc k) x e = absurd cc
get_snoc (c ∷ cs) cell zero x e = inl e
get_snoc (c ∷ cs) cell (suc k) x e = ⊎_elim (λ t. inl t) (λ t. inr (ap suc t.0, t.1)) (get_snoc cs cell k x e)

pub in_place : (cells now : List CellWork) (cell : CellWork) → AreInPlace cells → cell.place ≡ length cells → now ≡ cells ++ cell ∷ [] → AreInPlace now
in_place cells now cell places at is k x e =
    ⊎_elim (λ t. places k x t) (λ t. ap (λ (c : CellWork). c.place) (sym t.1) ∙ at ∙ sym t.0)
    (get_snoc cells cell k x (ap (λ (c : List CellWork). slice_get c k) (sym is) ∙ e))

pub over_set : (n : ℕ) (seats : List Seated) (i : ℕ) (y : Seated) (answer : Option ℕ) → i < length seats → IfNone answer (0 < late n y.drawn) → IfNone answer (0 < late n (drawn_by (set seats i y)))
over_set n seats i y None low h = late_set n seats i y low h
over_set n seats i y (Some k) low h = tt
