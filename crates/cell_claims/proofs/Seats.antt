-- A seat before and after a step.
use Rattle.std.proofs.Common.{◌≡◌, ℕ, ◌<◌, ◌≤◌, List, [], ◌∷◌, ◌++◌, length, Bool, true, false, true≢false, None, Some, refl, sym, ap, ◌∙◌, subst, arith}
use Rattle.std.proofs.lemmas.List.{map-append}
use Rattle.atomic_table.specs.Table.{Me}
use Rattle.atomic_table.specs.Seated.{TableId}
use Rattle.cell_claims.specs.declared.cell.CellWork.{CellWork}
use Rattle.cell_claims.specs.declared.cell.CellDone.{CellDone}
use Rattle.cell_claims.specs.declared.cell.Slot.{Slot}
use Rattle.cell_claims.specs.declared.cell.Slot.TheVariants.{Away}
use Rattle.cell_claims.specs.declared.rule.Hand.{Hand}
use Rattle.cell_claims.specs.Numbers.{times, late}
use Rattle.cell_claims.specs.Rule.{places, drawn_hand, given_hand, HasDrawn, MayDraw, MayGive}
use Rattle.cell_claims.specs.Kept.{seated, held_of, carried_of, IsKeptAs}
use Rattle.cell_claims.proofs.Sums.{times_append, late_append}
use Rattle.cell_claims.specs.Claims.{HasEnded, Seated}

off : false ≡ true → ⊥
off e = true≢false (sym e)

-- a seat that holds nothing has no slot
pub free_me : (id : TableId) (over : Bool) (me : Me Slot Hand) → IsKeptAs id over me → held_of me.1 ≡ None → me ≡ (me.0, [])
free_me id over me kept free = ap (λ (c : List (ℕ × Slot)). (me.0, c)) (kept.carried ∙ ap carried_of free)

pub held_me : (id : TableId) (over : Bool) (me : Me Slot Hand) (place : ℕ) → IsKeptAs id over me → held_of me.1 ≡ Some place → me ≡ (me.0, (place, Away) ∷ [])
held_me id over me place kept held = ap (λ (c : List (ℕ × Slot)). (me.0, c)) (kept.carried ∙ ap carried_of held)

-- ---- it draws a number

drew_none : (id now : TableId) (v : Hand) (number : ℕ) → IsKeptAs id false (v, []) → length v.cells ≤ number → IsKeptAs now true (drawn_hand v number, [])
drew_none id now v number kept high =
    let l = late_append (length v.cells) v.drawn (number ∷ []) in
    let e = kept.was_early refl in record {
      sound = record {
        shares = kept.sound.shares;
        held = tt;
        below = λ k within. (let t = times_append k v.drawn (number ∷ []) in let b = kept.sound.below k within in omega arith);
        late = omega arith;
      };
      carried = refl;
      was_late = λ _. omega arith;
      was_early = λ q. absurd (true≢false q);
    }

drew_some : (id now : TableId) (v : Hand) (number : ℕ) → IsKeptAs id false (v, []) → number < length v.cells → IsKeptAs now false (drawn_hand v number, (number, Away) ∷ [])
drew_some id now v number kept low =
    let l = late_append (length v.cells) v.drawn (number ∷ []) in
    let e = kept.was_early refl in record {
      sound = record {
        shares = kept.sound.shares;
        held = low;
        below = λ k within. (let t = times_append k v.drawn (number ∷ []) in let b = kept.sound.below k within in omega arith);
        late = omega arith;
      };
      carried = refl;
      was_late = λ q. absurd (off q);
      was_early = λ _. omega arith;
    }

as_false : (id : TableId) (over : Bool) (me : Me Slot Hand) → over ≡ false → IsKeptAs id over me → IsKeptAs id false me
as_false id over me e kept = subst (λ (b : Bool). IsKeptAs id b me) e kept

pub may_draw : (id : TableId) (over : Bool) (me : Me Slot Hand) (cells : List CellWork) → IsKeptAs id over me → over ≡ false → held_of me.1 ≡ None → me.0.cells ≡ cells → MayDraw cells me
may_draw id over me cells kept e free own = record {
  own = own;
  share = kept.sound.shares;
  none = kept.carried ∙ ap carried_of free;
  early = ap (λ (c : List CellWork). late (length c) me.0.drawn) (sym own) ∙ kept.was_early e;
}

pub kept_none : (id now : TableId) (over : Bool) (me after : Me Slot Hand) (number : ℕ) → IsKeptAs id over me → over ≡ false → held_of me.1 ≡ None
    → HasDrawn me number after → length me.0.cells ≤ number → IsKeptAs now true after
kept_none id now over me after number kept e free has high =
    let is : after ≡ (drawn_hand me.0 number, []) = λ i. (has.hand i, has.none high i) in
    let before : IsKeptAs id false (me.0, []) = subst (IsKeptAs id false) (free_me id over me kept free) (as_false id over me e kept) in
    subst (IsKeptAs now true) (sym is) (drew_none id now me.0 number before high)

pub kept_some : (id now : TableId) (over : Bool) (me after last : Me Slot Hand) (number : ℕ) → IsKeptAs id over me → over ≡ false → held_of me.1 ≡ None
    → HasDrawn me number after → number < length me.0.cells → last ≡ (after.0, (number, Away) ∷ []) → IsKeptAs now over last
kept_some id now over me after last number kept e free has low at_last =
    let is : last ≡ (drawn_hand me.0 number, (number, Away) ∷ []) = at_last ∙ ap (λ (v : Hand). (v, (number, Away) ∷ [])) has.hand in
    let before : IsKeptAs id false (me.0, []) = subst (IsKeptAs id false) (free_me id over me kept free) (as_false id over me e kept) in
    subst (λ (b : Bool). IsKeptAs now b last) (sym e) (subst (IsKeptAs now false) (sym is) (drew_some id now me.0 number before low))

-- ---- it gives a cell back

pub may_give : (id : TableId) (over : Bool) (me : Me Slot Hand) (cells : List CellWork) (place : ℕ) → IsKeptAs id over me → held_of me.1 ≡ Some place → me.0.cells ≡ cells → MayGive cells place me
may_give id over me cells place kept held own =
    let at = held_me id over me place kept held in
    let k : IsKeptAs id over (me.0, (place, Away) ∷ []) = subst (IsKeptAs id over) at kept in
    let within : place < length me.0.cells = k.sound.held in
    let n : length me.0.cells ≡ length cells = ap (λ (c : List CellWork). length c) own in record {
      own = own;
      share = kept.sound.shares;
      away = ap (λ (m : Me Slot Hand). m.1) at;
      within = omega arith;
      drew = λ j low. (let b = k.sound.below j (omega arith) in omega arith);
    }

gave_one : (id now : TableId) (over : Bool) (v : Hand) (done : CellDone) → IsKeptAs id over (v, (done.place, Away) ∷ []) → IsKeptAs now over (given_hand v done, [])
gave_one id now over v done kept = record {
  sound = record {
    shares = kept.sound.shares;
    held = tt;
    below = λ k within. (let b = kept.sound.below k within in let t = times_append k (places v.given) (done.place ∷ []) in let m : times k (places (v.given ++ done ∷ [])) ≡ times k (places v.given ++ done.place ∷ []) = ap (times k) (map-append (λ (d : CellDone). d.place) v.given (done ∷ [])) in omega arith);
    late = kept.sound.late;
  };
  carried = refl;
  was_late = kept.was_late;
  was_early = kept.was_early;
}

pub kept_given : (id now : TableId) (over : Bool) (me last : Me Slot Hand) (done : CellDone) → IsKeptAs id over me → held_of me.1 ≡ Some done.place
    → last ≡ (given_hand me.0 done, []) → IsKeptAs now over last
kept_given id now over me last done kept held is =
    subst (IsKeptAs now over) (sym is) (gave_one id now over me.0 done (subst (IsKeptAs id over) (held_me id over me done.place kept held) kept))

-- ---- it found no cell more

ended_at : (id now : TableId) (me : Me Slot Hand) (number : ℕ) → IsKeptAs id false me → length me.0.cells ≤ number → now ≡ id
    → HasEnded (seated id me) (seated now (drawn_hand me.0 number, []))
ended_at id now me number kept high same =
    let l = late_append (length me.0.cells) me.0.drawn (number ∷ []) in
    let e = kept.was_early refl in record {
      over = omega arith;
      again = λ p. absurd (omega arith);
      first = λ _. (number, high, ap (λ (t : TableId). seated t (drawn_hand me.0 number, [])) same);
    }

pub has_ended : (before : Seated) (id now : TableId) (over : Bool) (me after : Me Slot Hand) (number : ℕ) → seated id me ≡ before → IsKeptAs id over me → over ≡ false
    → HasDrawn me number after → length me.0.cells ≤ number → now ≡ id → HasEnded before (seated now after)
has_ended before id now over me after number at kept e has high same =
    let is : after ≡ (drawn_hand me.0 number, []) = λ i. (has.hand i, has.none high i) in
    let base = ended_at id now me number (as_false id over me e kept) high same in
    subst (λ (s : Seated). HasEnded s (seated now after)) at (subst (λ (m : Me Slot Hand). HasEnded (seated id me) (seated now m)) (sym is) base)
