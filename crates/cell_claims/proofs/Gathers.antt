-- Seats that are dealt out, and come together.
use Rattle.std.proofs.Common.{◌≡◌, ◌≢◌, ◌⊎◌, ℕ, zero, suc, ◌+◌, ◌-◌, ◌<◌, ◌≤◌, List, [], ◌∷◌, ◌++◌, length, Option, None, Some, refl, sym, ap, ◌∙◌, subst, ⊎_elim, inl, inr, arith, length-append, append_assoc, append-nil}
use Rattle.std.specs.Prelude.{slice_get, slice_index, slice_index_or, All, flat_map}
use Rattle.std.specs.List.{range_with_len}
use Rattle.std.proofs.lemmas.List.{map-append, get_or_append_left}
use Rattle.std.proofs.lemmas.List.Elements.{All-push}
use Rattle.std.proofs.Math.Seq.{get_or-append_seam}
use Rattle.std.proofs.lemmas.Grind.{flat_map-append}
use Rattle.std.proofs.lemmas.Option.{slice_get_cases, slice_get_within}
use Rattle.std.proofs.Common.{Bool, false, true, get_or, set}
use Rattle.std.proofs.lemmas.List.{get_or-set_same, get_or-set_other}
use native.Mathlib.Decide.{ℕ_discrete}
use mathlib.Core.Option.{some, some-injective, some-ne-none}
use lib.ListN.{get_elem?}
use Rattle.atomic_table.specs.Table.{Me, Final, Seen}
use Rattle.atomic_table.specs.Seated.{TableId}
use Rattle.cell_claims.specs.declared.cell.CellWork.{CellWork}
use Rattle.cell_claims.specs.declared.cell.CellDone.{CellDone}
use Rattle.cell_claims.specs.declared.cell.Slot.{Slot}
use Rattle.cell_claims.specs.declared.cell.Slot.TheVariants.{Done}
use Rattle.cell_claims.specs.declared.rule.Hand.{Hand}
use Rattle.cell_claims.specs.Numbers.{times, late, is_below}
use Rattle.cell_claims.specs.Rule.{hand, places, one_less, both_hands}
use Rattle.cell_claims.specs.Claims.{Known, Seated, IsSeat, IsSeatOf, IsFresh, fresh, AreNew, AreBack, AreDone, EachOnce, IsAmong, shares_of, drawn_by, given_by, list_of, places_of}
use Rattle.cell_claims.specs.Kept.{AreDealt, AreFree, IsGathered, hand_of, AreAllDone, AreTaken, HaveEnded}
use Rattle.cell_claims.proofs.Steps.{Ruled}
use Rattle.cell_claims.proofs.Sums.{some_from, total_snoc, total_two, total_one, times_append, late_one}

-- ---- lists

pub all_front : {A : Type 0} (P : A → Type 0) (xs ys : List A) → All P (xs ++ ys) → All P xs
all_front P xs ys all k d low = let l = length-append xs ys in subst P (get_or_append_left xs ys d k low) (all k d (omega arith))

pub all_last : {A : Type 0} (P : A → Type 0) (xs : List A) (y : A) → All P (xs ++ y ∷ []) → P y
all_last P xs y all = let l = length-append xs (y ∷ []) in subst P (get_or-append_seam xs y [] y) (all (length xs) y (omega arith))

-- ---- dealt out

pub deals_none : (claims : Known) → AreDealt claims 0 []
deals_none claims = record {
  len = refl;
  each = λ k d low. absurd (omega arith);
  fresh = λ k d low. absurd (omega arith);
  shares = refl;
}

pub split_me : (cells : List CellWork) (counter : ℕ) (me now : Me Slot Hand) → me ≡ (hand cells (65 - counter) [] [], [])
    → now ≡ (one_less me.0, me.1) → now ≡ (hand cells (65 - (counter + 1)) [] [], [])
split_me cells counter me now is split =
    let less : 65 - counter - 1 ≡ 65 - (counter + 1) = omega arith in
    split ∙ ap (λ (m : Me Slot Hand). (one_less m.0, m.1)) is ∙ ap (λ (n : ℕ). (hand cells n [] [], [])) less

pub fresh_as : (claims : Known) (id : TableId) (cells : List CellWork) (shares n : ℕ) (seat : Seated) → seat ≡ fresh id cells shares
    → id ≡ claims.id → cells ≡ claims.cells → shares ≡ n → seat ≡ fresh claims.id claims.cells n
fresh_as claims id cells shares n seat is p q r = is ∙ (λ i. fresh (p i) (q i) (r i))

deals_next : (claims : Known) (count shares : ℕ) (made : List Seated) → AreDealt claims count made
    → All (IsSeatOf claims) (made ++ fresh claims.id claims.cells shares ∷ [])
    × All IsFresh (made ++ fresh claims.id claims.cells shares ∷ [])
    × (shares_of (made ++ fresh claims.id claims.cells shares ∷ []) ≡ count + shares)
    × (length (made ++ fresh claims.id claims.cells shares ∷ []) ≡ count + 1)
deals_next claims count shares made h = (
  All-push (IsSeatOf claims) made _ h.each (refl, refl),
  All-push IsFresh made _ h.fresh (refl, refl, refl),
  (let t = total_snoc (λ (seat : Seated). seat.shares) made (fresh claims.id claims.cells shares) in let s = h.shares in omega arith),
  (let t = length-append made (fresh claims.id claims.cells shares ∷ []) in let l = h.len in omega arith),
)

pub deals_one : (claims : Known) (count next : ℕ) (made now : List Seated) (seat : Seated) → AreDealt claims count made
    → seat ≡ fresh claims.id claims.cells 1 → now ≡ made ++ seat ∷ [] → next ≡ count + 1 → AreDealt claims next now
deals_one claims count next made now seat h is at up =
    let d = deals_next claims count 1 made h in
    subst (AreDealt claims next) (sym (at ∙ ap (λ (x : Seated). made ++ x ∷ []) is))
    record { len = d.3 ∙ sym up; each = d.0; fresh = d.1; shares = d.2 ∙ sym up }

pub deals_all : (claims : Known) (count shares : ℕ) (made now : List Seated) (seat : Seated) → AreDealt claims count made
    → seat ≡ fresh claims.id claims.cells shares → now ≡ made ++ seat ∷ [] → count + shares ≡ 64 → AreNew claims now
deals_all claims count shares made now seat h is at all =
    let d = deals_next claims count shares made h in
    subst (AreNew claims) (sym (at ∙ ap (λ (x : Seated). made ++ x ∷ []) is))
    record { each = d.0; fresh = d.1; shares = d.2 ∙ all }

-- ---- together

flat_last : {B : Type 0} (f : Seated → List B) (rest : List Seated) (last : Seated) → flat_map f rest ++ f last ≡ flat_map f (rest ++ last ∷ [])
flat_last f rest last = sym (flat_map-append f rest (last ∷ []) ∙ ap (λ xs. flat_map f rest ++ xs) (append-nil (f last)))

next_last : {B : Type 0} (f : Seated → List B) (seats rest : List Seated) (x : Seated) (v whole : List B) → seats ≡ rest ++ x ∷ []
    → flat_map f seats ++ v ≡ whole → flat_map f rest ++ (f x ++ v) ≡ whole
next_last f seats rest x v whole is was =
    sym (append_assoc (flat_map f rest) (f x) v) ∙ ap (λ xs. xs ++ v) (flat_last f rest x ∙ ap (flat_map f) (sym is)) ∙ was

pub get_snoc_at : {A : Type 0} (xs : List A) (x : A) (j : ℕ) (y : A) → slice_get (xs ++ x ∷ []) j ≡ Some y → (slice_get xs j ≡ Some y) ⊎ ((j ≡ length xs) × (x ≡ y))
get_snoc_at [] x zero y e = inr (refl, some_from e)
get_snoc_at [] x (suc j) y e = absurd cc
get_snoc_at (z ∷ zs) x zero y e = inl e
get_snoc_at (z ∷ zs) x (suc j) y e = ⊎_elim (λ t. inl t) (λ t. inr (ap suc t.0, t.1)) (get_snoc_at zs x j y e)

pub gather_first : (claims : Known) (whole rest : List Seated) (last : Seated) → whole ≡ rest ++ last ∷ [] → AreBack claims whole → IsSeat last
    → IsGathered claims whole rest (hand_of last)
gather_first claims whole rest last is back sound =
    let all = subst (All (IsSeatOf claims)) is back.each in
    let mine = all_last (IsSeatOf claims) rest last all in
    let free = all_last (λ (seat : Seated). seat.held ≡ None) rest last (subst (All (λ (seat : Seated). seat.held ≡ None)) is back.free) in record {
      own = mine.1;
      some = sound.shares;
      shares = sym (total_snoc (λ (seat : Seated). seat.shares) rest last) ∙ ap shares_of (sym is);
      drawn = flat_last (λ (seat : Seated). seat.drawn) rest last ∙ ap drawn_by (sym is);
      given = flat_last (λ (seat : Seated). seat.given) rest last ∙ ap given_by (sym is);
      balanced = λ k low. balance k low mine.1 free;
    }
  where
    balance : (k : ℕ) → k < length claims.cells → last.cells ≡ claims.cells → last.held ≡ None → times k last.drawn ≡ times k (places last.given)
    balance k low own free =
        let n : length last.cells ≡ length claims.cells = ap (λ (c : List CellWork). length c) own in
        let b = sound.below k (omega arith) in
        let z : times k (list_of last.held) ≡ 0 = ap (λ (h : Option ℕ). times k (list_of h)) free in omega arith

pub free_front : (claims : Known) (seats rest : List Seated) (last : Seated) → seats ≡ rest ++ last ∷ [] → AreFree claims seats
    → AreFree claims rest × IsSeatOf claims last × (last.held ≡ None)
free_front claims seats rest last is free =
    let each = subst (All (IsSeatOf claims)) is free.each in
    let none = subst (All (λ (seat : Seated). seat.held ≡ None)) is free.free in (
      record {
        each = all_front (IsSeatOf claims) rest (last ∷ []) each;
        free = all_front (λ (seat : Seated). seat.held ≡ None) rest (last ∷ []) none;
      },
      all_last (IsSeatOf claims) rest last each,
      all_last (λ (seat : Seated). seat.held ≡ None) rest last none,
    )

pub gather_next : (claims : Known) (whole seats rest : List Seated) (v : Hand) (x : Seated) → IsGathered claims whole seats v → seats ≡ rest ++ x ∷ []
    → x.cells ≡ claims.cells → x.held ≡ None → IsSeat x → IsGathered claims whole rest (both_hands v (hand_of x))
gather_next claims whole seats rest v x h is own free sound = record {
  own = h.own;
  some = (let s = h.some in omega arith);
  shares = (let t : shares_of (rest ++ x ∷ []) ≡ shares_of rest + x.shares = total_snoc (λ (seat : Seated). seat.shares) rest x in let e : shares_of seats ≡ shares_of (rest ++ x ∷ []) = ap shares_of is in let s = h.shares in omega arith);
  drawn = next_last (λ (seat : Seated). seat.drawn) seats rest x v.drawn (drawn_by whole) is h.drawn;
  given = next_last (λ (seat : Seated). seat.given) seats rest x v.given (given_by whole) is h.given;
  balanced = λ k low. balance k low;
}
  where
    balance : (k : ℕ) → k < length claims.cells → times k (x.drawn ++ v.drawn) ≡ times k (places (x.given ++ v.given))
    balance k low =
        let n : length x.cells ≡ length claims.cells = ap (λ (c : List CellWork). length c) own in
        let b = sound.below k (omega arith) in
        let z : times k (list_of x.held) ≡ 0 = ap (λ (o : Option ℕ). times k (list_of o)) free in
        let a = h.balanced k low in
        let l = times_append k x.drawn v.drawn in
        let r = times_append k (places x.given) (places v.given) in
        let m : times k (places (x.given ++ v.given)) ≡ times k (places x.given ++ places v.given) = ap (times k) (map-append (λ (d : CellDone). d.place) x.given v.given) in omega arith

-- ---- the end

find_place : (given : List CellDone) (k : ℕ) → 0 < times k (places given) → (done : CellDone) × IsAmong given done × (done.place ≡ k)
find_place [] k h = absurd (omega arith)
find_place (x ∷ xs) k h = found (ℕ_discrete x.place k) (λ t. find_place xs k t)
  where
    found : Dec (x.place ≡ k) → (0 < times k (places xs) → (done : CellDone) × IsAmong xs done × (done.place ≡ k)) → (done : CellDone) × IsAmong (x ∷ xs) done × (done.place ≡ k)
    found (yes e) go = (x, (zero, refl), e)
    found (no n) go = let r = go (apart_times n) in (r.0, (suc r.1.0, r.1.1), r.2)
      where
        apart_times : x.place ≢ k → 0 < times k (places xs)
        apart_times n = omega arith

pub ends : (claims : Known) (whole : List Seated) (v : Hand) (id : ℕ) (ws : List ℕ) (xs : List Slot)
    → Final (Seen (Ruled claims.cells) id v) ws xs → IsGathered claims whole [] v → shares_of whole ≡ 64
    → 0 < late (length claims.cells) (drawn_by whole) → length xs ≡ length claims.cells
    → EachOnce (length claims.cells) (drawn_by whole) × HaveEnded (length claims.cells) (given_by whole) xs
ends claims whole v id ws xs final h all over len =
    let s = final.0 in
    let rule = final.1.0 in
    let at = final.1.1 in
    let at_xs = final.4 in
    let n = length claims.cells in
    let word = slice_index s.words 0 in
    let shares : v.shares ≡ 64 = (let e = h.shares in omega arith) in
    let idle : (j : ℕ) (u : Hand) → j ≢ id → get_elem? s.views j ≡ some u → u.drawn ≡ [] = λ j u apart e. (rule.each j u e).spent (let t = total_two (λ (w : Hand). w.shares) s.views j id u v apart e at in let q = rule.shares in omega arith) in
    let once : (k : ℕ) → times k v.drawn ≡ is_below k word = λ k. sym (total_one (λ (w : Hand). times k w.drawn) s.views id v at (λ j u apart e. ap (times k) (idle j u apart e))) ∙ rule.once k in
    let late_v : 0 < late n v.drawn = subst (λ (d : List ℕ). 0 < late n d) (sym h.drawn) over in
    let last = late_one n v.drawn late_v in
    let past : n < word = (let o = once last.0 in let l = last.1 in let m = last.2 in omega arith) in
    let lie = (rule.each id v at).given in
    let given_is : v.given ≡ given_by whole = h.given in
    let at_place : (done : CellDone) → IsAmong v.given done → get_elem? xs done.place ≡ some (Done done) = λ done among. at_xs done.place (Done done) (lie among.0 done among.1) in (
      record {
        end = word;
        all = past;
        once = λ k. ap (times k) (sym h.drawn) ∙ once k;
      },
      record {
        len = len;
        each = λ k low.
            let o = once k in
            let b = h.balanced k low in
            let f = find_place v.given k (omega arith) in
            (f.0, subst (λ (p : ℕ). get_elem? xs p ≡ some (Done f.0)) f.2 (at_place f.0 f.1), f.2, subst (λ (g : List CellDone). IsAmong g f.0) given_is f.1);
        all = λ done among. at_place done (subst (λ (g : List CellDone). IsAmong g done) (sym given_is) among);
      },
    )

-- ---- taken out

done_slot : (x y : CellDone) → Done x ≡ Done y → x ≡ y
done_slot x y e = cc

pub taken_none : (slots : List Slot) → AreTaken 0 slots []
taken_none slots = record { count = refl; each = λ k done e. absurd cc }

pub taken_next : (n : ℕ) (slots : List Slot) (dones now : List CellDone) (done : CellDone) → AreTaken n slots dones → get_elem? slots n ≡ some (Done done)
    → now ≡ dones ++ done ∷ [] → AreTaken (n + 1) slots now
taken_next n slots dones now done taken at is = subst (AreTaken (n + 1) slots) (sym is) record {
  count = (let l = length-append dones (done ∷ []) in let c = taken.count in omega arith);
  each = λ k d e. next_of k d e (get_snoc_at dones done k d e);
}
  where
    next_of : (k : ℕ) (d : CellDone) → slice_get (dones ++ done ∷ []) k ≡ Some d → (slice_get dones k ≡ Some d) ⊎ ((k ≡ length dones) × (done ≡ d)) → get_elem? slots k ≡ some (Done d)
    next_of k d e (inl was) = taken.each k d was
    next_of k d e (inr last) = subst (λ (p : ℕ × CellDone). get_elem? slots p.0 ≡ some (Done p.1)) (λ i. (sym (last.0 ∙ taken.count) i, last.1 i)) at

get_elem_within : {A : Type 0} (xs : List A) (k : ℕ) (x : A) → get_elem? xs k ≡ some x → k < length xs
get_elem_within [] k x e = absurd (some-ne-none x (sym e))
get_elem_within (y ∷ ys) zero x e = omega arith
get_elem_within (y ∷ ys) (suc k) x e = let t = get_elem_within ys k x e in omega arith

places_range : (dones : List CellDone) (low : ℕ) → ((k : ℕ) (done : CellDone) → slice_get dones k ≡ Some done → done.place ≡ low + k) → places_of dones ≡ range_with_len low (length dones)
places_range [] low h = refl
places_range (x ∷ xs) low h =
    let first : x.place ≡ low = (let e = h zero x refl in omega arith) in
    let rest = places_range xs (low + 1) (λ k done e. (let t = h (suc k) done e in omega arith)) in
    λ i. first i ∷ rest i

pub are_done : (n : ℕ) (given : List CellDone) (slots : List Slot) (dones : List CellDone) → HaveEnded n given slots → AreTaken n slots dones → AreDone n given dones
are_done n given slots dones ended taken =
    let place_at : (k : ℕ) (done : CellDone) → slice_get dones k ≡ Some done → (done.place ≡ k) × IsAmong given done = λ k done e.
    let low : k < n = (let l = slice_get_within dones k done e in let c = taken.count in omega arith) in
    let there = ended.each k low in
    let same : there.0 ≡ done = done_slot there.0 done (some-injective _ _ (sym there.1 ∙ taken.each k done e)) in
    (ap (λ (d : CellDone). d.place) (sym same) ∙ there.2, subst (IsAmong given) same there.3) in record {
      places = places_range dones 0 (λ k done e. (place_at k done e).0 ∙ sym-zero k) ∙ ap (range_with_len 0) taken.count;
      as_given = λ k done e. (place_at k done e).1;
      there = λ done among. there_at done (ended.all done among) (slice_get_cases dones done.place).1;
    }
  where
    sym-zero : (k : ℕ) → k ≡ 0 + k
    sym-zero k = omega arith

    there_at : (done : CellDone) → get_elem? slots done.place ≡ some (Done done)
        → ((x : CellDone) × (done.place < length dones) × (slice_get dones done.place ≡ Some x) × (slice_index_or dones done.place x ≡ x)) ⊎ ((length dones ≤ done.place) × (slice_get dones done.place ≡ None))
        → slice_get dones done.place ≡ Some done
    there_at done at (inl t) = t.2 ∙ ap Some (done_slot t.0 done (some-injective _ _ (sym (taken.each done.place t.0 t.2) ∙ at)))
    there_at done at (inr t) = absurd (let l = get_elem_within slots done.place (Done done) at in let c = taken.count in let e = ended.len in let h = t.0 in omega arith)

pub all_are_done : (n : ℕ) (given : List CellDone) (slots : List Slot) → HaveEnded n given slots → AreAllDone n slots
all_are_done n given slots ended k low = let e = ended.each k low in (e.0, e.1)

-- the same by the claims as they are kept
pub ends_as : (claims kept : Known) (whole : List Seated) (v : Hand) (id slots : ℕ) (ws : List ℕ) (xs : List Slot) → kept ≡ claims
    → Final (Seen (Ruled kept.cells) id v) ws xs → IsGathered claims whole [] v → shares_of whole ≡ 64
    → 0 < late (length claims.cells) (drawn_by whole) → slots ≡ length xs → slots ≡ length kept.cells
    → EachOnce (length claims.cells) (drawn_by whole) × HaveEnded slots (given_by whole) xs × (slots ≡ length claims.cells)
ends_as claims kept whole v id slots ws xs is final gathered all over len cells =
    let count : length kept.cells ≡ length claims.cells = ap (λ (k : Known). length k.cells) is in
    let final' : Final (Seen (Ruled claims.cells) id v) ws xs = subst (λ (k : Known). Final (Seen (Ruled k.cells) id v) ws xs) is final in
    let e = ends claims whole v id ws xs final' gathered all over (sym len ∙ cells ∙ count) in
    (e.0, subst (λ (n : ℕ). HaveEnded n (given_by whole) xs) (sym (cells ∙ count)) e.1, cells ∙ count)

pub emptied_more : (filled now : List Bool) (place len after : ℕ) → now ≡ set filled place false → after ≡ len
    → ((k : ℕ) → place ≤ k → k < len → get_or filled k false ≡ true)
    → (k : ℕ) → place + 1 ≤ k → k < after → get_or now k false ≡ true
emptied_more filled now place len after is same full k low high =
    ap (λ (xs : List Bool). get_or xs k false) is ∙ get_or-set_other filled place k false false (λ q. omega arith) ∙ full k (omega arith) (omega arith)

pub emptied_so_far : (filled now : List Bool) (place : ℕ) → place < length filled → now ≡ set filled place false
    → ((k : ℕ) → k < place → get_or filled k false ≡ false)
    → (k : ℕ) → k < place + 1 → get_or now k false ≡ false
emptied_so_far filled now place within is empty k low =
    ap (λ (xs : List Bool). get_or xs k false) is ∙ at_place (ℕ_discrete k place)
  where
    at_place : Dec (k ≡ place) → get_or (set filled place false) k false ≡ false
    at_place (yes e) = ap (λ (j : ℕ). get_or (set filled place false) j false) e ∙ get_or-set_same filled place false false within
    at_place (no n) = get_or-set_other filled place k false false n ∙ empty k (omega arith)
