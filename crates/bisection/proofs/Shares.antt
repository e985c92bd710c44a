-- Cells that are claimed, and seats that become desks and come back.
use Rattle.std.proofs.Common.{Vec, Global, set, ◌≢◌, length-set, ◌≡◌, ◌⊎◌, ℕ, zero, suc, ◌+◌, ◌<◌, ◌≤◌, List, [], ◌∷◌, ◌++◌, length, take, get_or, Bool, true, false, Some, None, ◌||◌, refl, sym, ap, ◌∙◌, subst, ⊎_elim, inl, inr, arith, length-append, All, append-nil}
use Rattle.std.specs.Prelude.{slice_get, flat_map}
use Rattle.std.specs.List.{AllZip, sum_by}
use Rattle.std.proofs.lemmas.List.{map-append, take-append-le, take_more, get_or_append_left}
use Rattle.std.proofs.lemmas.List.Elements.{All-push}
use Rattle.std.proofs.lemmas.List.Sums.{sum_by_push}
use Rattle.std.proofs.Math.Seq.{get_or-append_seam, take-append_seam}
use Rattle.std.proofs.lemmas.Grind.{flat_map-append}
use Rattle.std.proofs.lemmas.Option.{slice_get_within}
use Rattle.cell_claims.specs.declared.cell.CellWork.{CellWork}
use Rattle.cell_claims.specs.declared.cell.CellDone.{CellDone}
use Rattle.cell_claims.specs.Numbers.{total, late}
use Rattle.cell_claims.specs.Claims.{Known, Seated, IsSeatOf, IsFresh, shares_of, drawn_by, given_by}
use Rattle.bisection.specs.declared.options.Options.{Options}
use Rattle.bisection.specs.declared.cell.Part.{Part}
use Rattle.bisection.specs.declared.desk.Left.{Left}
use Rattle.bisection.specs.declared.desk.Desk.{Desk}
use Rattle.bisection.specs.Desks.{IsCellAt, AreCells, IsLeft, IsDesk, AreSeated, AreComing, IsAmong, HasEachPlace, ArePlacing, ArePlaced, seats_of}

some_from : {A : Type 0} {a b : A} → Some a ≡ Some b → a ≡ b
some_from e = cc

get_snoc : {A : Type 0} (xs : List A) (x : A) (j : ℕ) (y : A) → slice_get (xs ++ x ∷ []) j ≡ Some y → (slice_get xs j ≡ Some y) ⊎ ((j ≡ length xs) × (x ≡ y))
get_snoc [] x zero y e = inr (refl, some_from e)
get_snoc [] x (suc j) y e = absurd cc
get_snoc (z ∷ zs) x zero y e = inl e
get_snoc (z ∷ zs) x (suc j) y e = ⊎_elim (λ t. inl t) (λ t. inr (ap suc t.0, t.1)) (get_snoc zs x j y e)

all_front : {A : Type 0} (P : A → Type 0) (xs ys : List A) → All P (xs ++ ys) → All P xs
all_front P xs ys all k d low = let l = length-append xs ys in subst P (get_or_append_left xs ys d k low) (all k d (omega arith))

all_last : {A : Type 0} (P : A → Type 0) (xs : List A) (y : A) → All P (xs ++ y ∷ []) → P y
all_last P xs y all = let l = length-append xs (y ∷ []) in subst P (get_or-append_seam xs y [] y) (all (length xs) y (omega arith))

abbrev lens : List Part → ℕ
lens parts = sum_by (λ (p : Part). p.len) parts

-- ---- cells

pub no_cells : (level : ℕ) (docs : List ℕ) → AreCells level [] docs []
no_cells level docs = record { len = refl; each = λ k part cell at e. absurd cc }

cell_at : (level k : ℕ) (front : List Part) (last part : Part) (docs : List ℕ) (cell : CellWork) → k ≤ length front
    → IsCellAt level k (lens (take k front)) part docs cell → IsCellAt level k (lens (take k (front ++ last ∷ []))) part docs cell
cell_at level k front last part docs cell low is = subst (λ (ps : List Part). IsCellAt level k (lens ps) part docs cell) (sym (take-append-le k front (last ∷ []) low)) is

pub cells_push : (level : ℕ) (front : List Part) (part : Part) (docs : List ℕ) (cells : List CellWork) (cell : CellWork) → AreCells level front docs cells
    → IsCellAt level (length front) (lens front) part docs cell → AreCells level (front ++ part ∷ []) docs (cells ++ cell ∷ [])
cells_push level front part docs cells cell are one = record {
  len = (let a = length-append cells (cell ∷ []) in let b = length-append front (part ∷ []) in let l = are.len in omega arith);
  each = λ k p c at_p at_c. at k p c (get_snoc front part k p at_p) (get_snoc cells cell k c at_c);
}
  where
    at : (k : ℕ) (p : Part) (c : CellWork) → (slice_get front k ≡ Some p) ⊎ ((k ≡ length front) × (part ≡ p)) → (slice_get cells k ≡ Some c) ⊎ ((k ≡ length cells) × (cell ≡ c)) → IsCellAt level k (lens (take k (front ++ part ∷ []))) p docs c
    at k p c (inl a) (inl b) = let l = slice_get_within front k p a in cell_at level k front part p docs c (omega arith) (are.each k p c a b)
    at k p c (inl a) (inr b) = let l = slice_get_within front k p a in let n = are.len in let e = b.0 in absurd (omega arith)
    at k p c (inr a) (inl b) = let l = slice_get_within cells k c b in let n = are.len in let e = a.0 in absurd (omega arith)
    at k p c (inr a) (inr b) =
        subst (λ (x : ℕ × (Part × CellWork)). IsCellAt level x.0 (lens (take x.0 (front ++ part ∷ []))) x.1.0 docs x.1.1) (λ i. (sym a.0 i, (a.1 i, b.1 i)))
        (subst (λ (ps : List Part). IsCellAt level (length front) (lens ps) part docs cell) (sym (take-append_seam front (part ∷ []))) one)

pub cells_next : (level place : ℕ) (parts : List Part) (part : Part) (docs : List ℕ) (cells now : List CellWork) (cell : CellWork) (start : ℕ) → place < length parts → part ≡ get_or parts place part
    → start ≡ lens (take place parts) → AreCells level (take place parts) docs cells → now ≡ cells ++ cell ∷ [] → IsCellAt level (length (take place parts)) start part docs cell
    → (start + part.len ≡ lens (take (place + 1) parts)) × AreCells level (take (place + 1) parts) docs now
cells_next level place parts part docs cells now cell start low is at are pushed one =
    let more : take (place + 1) parts ≡ take place parts ++ part ∷ [] = take_more parts place part low ∙ ap (λ (p : Part). take place parts ++ p ∷ []) (sym is) in
    let base = cells_push level (take place parts) part docs cells cell are (subst (λ (s : ℕ). IsCellAt level (length (take place parts)) s part docs cell) at one) in (
      (let s = sum_by_push (λ (p : Part). p.len) (take place parts) part in let e : lens (take (place + 1) parts) ≡ lens (take place parts ++ part ∷ []) = ap lens more in omega arith),
      subst (λ (x : List Part × List CellWork). AreCells level x.0 docs x.1) (λ i. (sym more i, sym pushed i)) base,
    )

-- ---- desks

total_push : (f : Seated → ℕ) (xs : List Seated) (x : Seated) → total f (xs ++ x ∷ []) ≡ total f xs + f x
total_push f [] x = omega arith
total_push f (y ∷ ys) x = let s = total_push f ys x in omega arith

late_append : (n : ℕ) (xs ys : List ℕ) → late n (xs ++ ys) ≡ late n xs + late n ys
late_append n [] ys = omega arith
late_append n (x ∷ xs) ys = let s = late_append n xs ys in omega arith

shares_push : (desks : List Desk) (desk : Desk) → shares_of (seats_of (desks ++ desk ∷ [])) ≡ shares_of (seats_of desks) + desk.seat.shares
shares_push desks desk = ap shares_of (map-append (λ (d : Desk). d.seat) desks (desk ∷ [])) ∙ total_push (λ (s : Seated). s.shares) (seats_of desks) desk.seat

fresh_desk : (options : Options) (last : ℕ) (parts : List Part) (claims : Known) (desk : Desk) → IsSeatOf claims desk.seat → IsFresh desk.seat → desk.left.items ≡ [] → IsDesk options last parts claims desk
fresh_desk options last parts claims desk seat fresh none = record {
  seat = seat;
  free = fresh.1;
  left = λ f. subst (λ (x : List CellDone × List Left). AllZip (IsLeft options last parts claims.cells) x.0 x.1) (λ i. (sym fresh.2 i, sym none i)) tt;
}

pub seated_next : (options : Options) (last : ℕ) (parts : List Part) (claims : Known) (seats rest : List Seated) (desks now : List Desk) (desk : Desk) → AreSeated options last parts claims seats desks
    → seats ≡ rest ++ desk.seat ∷ [] → desk.left.items ≡ [] → now ≡ desks ++ desk ∷ [] → AreSeated options last parts claims rest now
seated_next options last parts claims seats rest desks now desk h is none pushed =
    let each = subst (All (IsSeatOf claims)) is h.each in
    let fresh = subst (All IsFresh) is h.fresh in
    let mine = fresh_desk options last parts claims desk (all_last (IsSeatOf claims) rest desk.seat each) (all_last IsFresh rest desk.seat fresh) none in
    subst (λ (ds : List Desk). AreSeated options last parts claims rest ds) (sym pushed) record {
      each = all_front (IsSeatOf claims) rest (desk.seat ∷ []) each;
      fresh = all_front IsFresh rest (desk.seat ∷ []) fresh;
      as_desks = All-push (IsDesk options last parts claims) desks desk h.as_desks mine;
      shares = (let a = shares_push desks desk in let b : shares_of seats ≡ shares_of rest + desk.seat.shares = ap shares_of is ∙ total_push (λ (s : Seated). s.shares) rest desk.seat in let c = h.shares in omega arith);
    }

-- ---- what comes back

zip_append : {A B : Type 0} (R : A → B → Type 0) (xs zs : List A) (ys ws : List B) → AllZip R xs ys → AllZip R zs ws → AllZip R (xs ++ zs) (ys ++ ws)
zip_append R [] zs [] ws one two = two
zip_append R [] zs (y ∷ ys) ws one two = absurd one
zip_append R (x ∷ xs) zs [] ws one two = absurd one
zip_append R (x ∷ xs) zs (y ∷ ys) ws one two = (one.0, zip_append R xs zs ys ws one.1 two)

flat_push : {B : Type 0} (f : Seated → List B) (xs : List Seated) (x : Seated) → flat_map f (xs ++ x ∷ []) ≡ flat_map f xs ++ f x
flat_push f xs x = flat_map-append f xs (x ∷ []) ∙ ap (λ ys. flat_map f xs ++ ys) (append-nil (f x))

or_false : (a b : Bool) → (a || b) ≡ false → (a ≡ false) × (b ≡ false)
or_false false b e = (refl, e)
or_false true b e = absurd cc

pub coming_next : (options : Options) (last : ℕ) (parts : List Part) (claims : Known) (desks rest : List Desk) (desk : Desk) (seats now : List Seated) (failed any : Bool) (lefts all : List Left) → AreComing options last parts claims desks seats failed lefts
    → desks ≡ rest ++ desk ∷ [] → now ≡ seats ++ desk.seat ∷ [] → all ≡ lefts ++ desk.left.items → any ≡ (failed || desk.failed) → AreComing options last parts claims rest now any all
coming_next options last parts claims desks rest desk seats now failed any lefts all h is pushed appended either =
    let as_desks = subst (All (IsDesk options last parts claims)) is h.desks_over.as_desks in
    let over = subst (All (λ (d : Desk). 0 < late (length claims.cells) d.seat.drawn)) is h.desks_over.over in
    let mine = all_last (IsDesk options last parts claims) rest desk as_desks in
    let ended = all_last (λ (d : Desk). 0 < late (length claims.cells) d.seat.drawn) rest desk over in
    let given_is : given_by (seats ++ desk.seat ∷ []) ≡ given_by seats ++ desk.seat.given = flat_push (λ (s : Seated). s.given) seats desk.seat in
    let drawn_is : drawn_by (seats ++ desk.seat ∷ []) ≡ drawn_by seats ++ desk.seat.drawn = flat_push (λ (s : Seated). s.drawn) seats desk.seat in
    subst (λ (x : List Seated × List Left). AreComing options last parts claims rest x.0 any x.1) (λ i. (sym pushed i, sym appended i)) record {
      desks_over = record {
        as_desks = all_front (IsDesk options last parts claims) rest (desk ∷ []) as_desks;
        over = all_front (λ (d : Desk). 0 < late (length claims.cells) d.seat.drawn) rest (desk ∷ []) over;
      };
      each = All-push (IsSeatOf claims) seats desk.seat h.each mine.seat;
      free = All-push (λ (seat : Seated). seat.held ≡ None) seats desk.seat h.free mine.free;
      shares = (let a : shares_of (seats_of desks) ≡ shares_of (seats_of rest) + desk.seat.shares = ap (λ (ds : List Desk). shares_of (seats_of ds)) is ∙ shares_push rest desk in let b = total_push (λ (s : Seated). s.shares) seats desk.seat in let c = h.shares in omega arith);
      over = λ _. (let a = late_append (length claims.cells) (drawn_by seats) desk.seat.drawn in let b : late (length claims.cells) (drawn_by (seats ++ desk.seat ∷ [])) ≡ late (length claims.cells) (drawn_by seats ++ desk.seat.drawn) = ap (late (length claims.cells)) drawn_is in omega arith);
      left = λ f.
          let e = or_false failed desk.failed (sym either ∙ f) in
          subst (λ (g : List CellDone). AllZip (IsLeft options last parts claims.cells) g (lefts ++ desk.left.items)) (sym given_is)
          (zip_append (IsLeft options last parts claims.cells) (given_by seats) desk.seat.given lefts desk.left.items (h.left e.0) (mine.left e.1));
    }

-- ---- by place

pub placing_none : (count : ℕ) (lefts : List Left) (table : List (Vec Part Global)) → length table ≡ count → All (λ (left : Left). left.place < count) lefts → HasEachPlace count lefts → ArePlacing count lefts lefts table
placing_none count lefts table len within cover = record {
  len = len;
  within = within;
  known = λ left among. among;
  each = λ k parts e. (let low = slice_get_within table k parts e in inl (cover k (omega arith)));
}

among_front : (rest : List Left) (last left : Left) → IsAmong rest left → IsAmong (rest ++ last ∷ []) left
among_front [] last left a = absurd cc
among_front (x ∷ xs) last left (zero, e) = (zero, e)
among_front (x ∷ xs) last left (suc j, e) = let t = among_front xs last left (j, e) in (suc t.0, t.1)

among_last : (rest : List Left) (last : Left) → IsAmong (rest ++ last ∷ []) last
among_last [] last = (zero, refl)
among_last (x ∷ xs) last = let t = among_last xs last in (suc t.0, t.1)

get_set : {A : Type 0} (xs : List A) (i k : ℕ) (v w : A) → slice_get (set xs i v) k ≡ Some w → ((k ≡ i) × (v ≡ w)) ⊎ ((k ≢ i) × (slice_get xs k ≡ Some w))
get_set [] i k v w e = absurd cc
get_set (x ∷ xs) zero zero v w e = inl (refl, some_from e)
get_set (x ∷ xs) zero (suc k) v w e = inr ((λ q. omega arith), e)
get_set (x ∷ xs) (suc i) zero v w e = inr ((λ q. omega arith), e)
get_set (x ∷ xs) (suc i) (suc k) v w e = ⊎_elim (λ t. inl (ap suc t.0, t.1)) (λ t. let n = t.0 in inr ((λ q. n (omega arith)), t.1)) (get_set xs i k v w e)

pub placing_next : (count : ℕ) (whole lefts rest : List Left) (last : Left) (table now : List (Vec Part Global)) → ArePlacing count whole lefts table → lefts ≡ rest ++ last ∷ [] → now ≡ set table last.place last.parts
    → ArePlacing count whole rest now
placing_next count whole lefts rest last table now h is changed = subst (ArePlacing count whole rest) (sym changed) record {
  len = length-set table last.place last.parts ∙ h.len;
  within = all_front (λ (left : Left). left.place < count) rest (last ∷ []) (subst (All (λ (left : Left). left.place < count)) is h.within);
  known = λ left among. h.known left (subst (λ (ls : List Left). IsAmong ls left) (sym is) (among_front rest last left among));
  each = λ k parts e. ⊎_elim
      (λ here. inr record {
        left = last;
        among = h.known last (subst (λ (ls : List Left). IsAmong ls last) (sym is) (among_last rest last));
        at = sym here.0;
        same = sym here.1;
      })
      (λ there. ⊎_elim (λ coming. inl (still k there.0 coming)) (λ placed. inr placed) (h.each k parts there.1))
      (get_set table last.place k last.parts parts e);
}
  where
    still : (k : ℕ) → k ≢ last.place → ((left : Left) × IsAmong lefts left × (left.place ≡ k)) → (left : Left) × IsAmong rest left × (left.place ≡ k)
    still k apart coming =
        let among = subst (λ (ls : List Left). IsAmong ls coming.0) is coming.1 in
        ⊎_elim (λ e. (coming.0, (among.0, e), coming.2)) (λ t. absurd (apart (sym coming.2 ∙ ap (λ (l : Left). l.place) (sym t.1)))) (get_snoc rest last among.0 coming.0 among.1)

pub placed_all : (count : ℕ) (whole rest : List Left) (table : List (Vec Part Global)) → ArePlacing count whole rest table → length rest ≡ 0 → ArePlaced count whole table
placed_all count whole [] table h none = record {
  len = h.len;
  each = λ k parts e. ⊎_elim (λ coming. absurd (cc_none coming.0 coming.1)) (λ placed. placed) (h.each k parts e);
}
  where
    cc_none : (left : Left) → IsAmong [] left → ⊥
    cc_none left a = let e = a.1 in cc
placed_all count whole (x ∷ xs) table h none = absurd (omega arith)

pub last_within : (count : ℕ) (lefts rest : List Left) (last : Left) → lefts ≡ rest ++ last ∷ [] → All (λ (left : Left). left.place < count) lefts → last.place < count
last_within count lefts rest last is within = all_last (λ (left : Left). left.place < count) rest last (subst (All (λ (left : Left). left.place < count)) is within)
