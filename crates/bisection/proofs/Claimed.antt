-- A slab over claimed cells: what can be claimed, and what all cells that came back make together.
use Rattle.std.proofs.Common.{Vec, Global, ◌≡◌, ℕ, zero, suc, ◌+◌, ◌<◌, ◌≤◌, List, [], ◌∷◌, length, take, drop, get_or, Some, refl, sym, ap, ◌∙◌, subst, arith, All}
use Rattle.std.specs.Prelude.{slice_get, slice_index_or}
use Rattle.std.specs.List.{AllZip, sum_by}
use Rattle.std.proofs.lemmas.List.{length-take-le, length-drop, length-map, get_or-map}
use Rattle.std.proofs.lemmas.List.FromFn.{length-range_with_len, get_or-range_with_len}
use Rattle.std.proofs.lemmas.List.Sums.{sum_by_more, sum_by-take-le}
use Rattle.std.proofs.lemmas.Option.{slice_get-get_or, slice_get_within}
use Rattle.cell_claims.specs.declared.cell.CellWork.{CellWork}
use Rattle.cell_claims.specs.declared.cell.CellDone.{CellDone}
use Rattle.cell_claims.specs.Claims.{Known, AreDone, places_of, shares_of}
use Rattle.bisection.specs.declared.options.Options.{Options}
use Rattle.bisection.specs.declared.cell.Part.{Part}
use Rattle.bisection.specs.declared.desk.Left.{Left}
use Rattle.bisection.specs.declared.desk.Desk.{Desk}
use Rattle.bisection.specs.Progress.{limits_of}
use Rattle.bisection.specs.Cells.{CanDescendAll, Descends, IsReady}
use Rattle.bisection.specs.Desks.{no_output, output, CanWork, AreCells, IsLeft, IsOver, HasEachPlace, ArePlaced, AreAllMade, seats_of}

some_from : {A : Type 0} {a b : A} → Some a ≡ Some b → a ≡ b
some_from e = cc

some_at : {A : Type 0} (xs : List A) (k : ℕ) → k < length xs → (x : A) × (slice_get xs k ≡ Some x)
some_at [] k low = absurd (omega arith)
some_at (x ∷ xs) zero low = (x, refl)
some_at (x ∷ xs) (suc k) low = some_at xs k (omega arith)

read_at : {A : Type 0} (xs : List A) (k : ℕ) (d x : A) → slice_get xs k ≡ Some x → get_or xs k d ≡ x
read_at xs k d x at = some_from (sym (slice_get-get_or xs k d (slice_get_within xs k x at)) ∙ at)

zip_left : {A B : Type 0} (R : A → B → Type 0) (xs : List A) (ys : List B) (k : ℕ) (x : A) → AllZip R xs ys → slice_get xs k ≡ Some x → (y : B) × (slice_get ys k ≡ Some y) × R x y
zip_left R [] ys k x all at = absurd cc
zip_left R (a ∷ xs) [] k x all at = absurd all
zip_left R (a ∷ xs) (b ∷ ys) zero x all at = (b, refl, subst (λ z. R z b) (some_from at) all.0)
zip_left R (a ∷ xs) (b ∷ ys) (suc k) x all at = zip_left R xs ys k x all.1 at

zip_right : {A B : Type 0} (R : A → B → Type 0) (xs : List A) (ys : List B) (k : ℕ) (y : B) → AllZip R xs ys → slice_get ys k ≡ Some y → (x : A) × (slice_get xs k ≡ Some x) × R x y
zip_right R xs [] k y all at = absurd cc
zip_right R [] (b ∷ ys) k y all at = absurd all
zip_right R (a ∷ xs) (b ∷ ys) zero y all at = (a, refl, subst (λ z. R a z) (some_from at) all.0)
zip_right R (a ∷ xs) (b ∷ ys) (suc k) y all at = zip_right R xs ys k y all.1 at

abbrev lens : List Part → ℕ
lens parts = sum_by (λ (p : Part). p.len) parts

-- ---- what can be claimed

part_beside : (level : ℕ) (parts : List Part) (docs : List ℕ) (cells : List CellWork) → AreCells level parts docs cells → (k : ℕ) (cell : CellWork) → slice_get cells k ≡ Some cell → (part : Part) × (slice_get parts k ≡ Some part)
part_beside level parts docs cells are k cell at =
    let low = slice_get_within cells k cell at in
    let n = are.len in some_at parts k (omega arith)

pub in_place : (level : ℕ) (parts : List Part) (docs : List ℕ) (cells : List CellWork) → AreCells level parts docs cells → (k : ℕ) (cell : CellWork) → slice_get cells k ≡ Some cell → cell.place ≡ k
in_place level parts docs cells are k cell at =
    let part = part_beside level parts docs cells are k cell at in
    (are.each k part.0 cell part.1 at).place

lens_within : (parts : List Part) (k : ℕ) (part : Part) → slice_get parts k ≡ Some part → lens (take k parts) + part.len ≤ lens parts
lens_within parts k part at =
    let low = slice_get_within parts k part at in
    let more = sum_by_more (λ (p : Part). p.len) parts k part low in
    let is : (get_or parts k part).len ≡ part.len = ap (λ (p : Part). p.len) (read_at parts k part part at) in
    let most = sum_by-take-le (λ (p : Part). p.len) parts (k + 1) in omega arith

cut_len : (docs : List ℕ) (start len : ℕ) → start + len ≤ length docs → length (take len (drop start docs)) ≡ len
cut_len docs start len low = let d = length-drop start docs in length-take-le len (drop start docs) (omega arith)

pub can_work : (options : Options) (top last level : ℕ) (parts : List Part) (docs : List ℕ) (cells : List CellWork) → CanDescendAll options top last level 0 parts docs → AreCells level parts docs cells → CanWork options top last parts cells
can_work options top last level parts docs cells can are = record {
  len = sym are.len;
  in_place = in_place level parts docs cells are;
  before = λ k cell at.
      let part = part_beside level parts docs cells are k cell at in
      let is = (are.each k part.0 cell part.1 at).level_is in
      let order = can.order in omega arith;
  can = λ k part cell at_part at_cell.
      let is = are.each k part cell at_part at_cell in
      let start = lens (take k parts) in
      let within = lens_within parts k part at_part in
      let all = can.len in
      let level_is = is.level_is in
      let start_is = is.start_is in
      let order = can.order in
      let logs = can.logs in
      let end = can.end in
      record {
        ranges = can.ranges;
        order = omega arith;
        within = can.within;
        len = ap (λ (xs : List ℕ). length xs) is.docs_are ∙ cut_len docs start part.len (omega arith);
        logs = omega arith;
        end = omega arith;
        ready = subst (IsReady (limits_of options)) (read_at parts k part part at_part) (can.ready k part (slice_get_within parts k part at_part));
      };
}

-- ---- desks that found no cell more

same_shares : (before after : List Desk) → length after ≡ length before → ((i : ℕ) (d : Desk) → i < length before → (slice_index_or after i d).seat.shares ≡ (slice_index_or before i d).seat.shares) → shares_of (seats_of after) ≡ shares_of (seats_of before)
same_shares [] [] len each = refl
same_shares [] (y ∷ ys) len each = absurd (omega arith)
same_shares (x ∷ xs) [] len each = absurd (omega arith)
same_shares (x ∷ xs) (y ∷ ys) len each =
    let one : y.seat.shares ≡ x.seat.shares = each 0 x (omega arith) in
    let rest = same_shares xs ys (omega arith) (λ i d low. each (suc i) d (omega arith)) in omega arith

pub over_shares : (options : Options) (last : ℕ) (parts : List Part) (claims : Known) (before after : List Desk) → length after ≡ length before → ((i : ℕ) (d : Desk) → i < length before → IsOver options last parts claims (slice_index_or before i d) (slice_index_or after i d))
    → shares_of (seats_of after) ≡ shares_of (seats_of before)
over_shares options last parts claims before after len each = same_shares before after len (λ i d low. (each i d low).shares)

-- ---- what came back

done_count : (n : ℕ) (given dones : List CellDone) → AreDone n given dones → length dones ≡ n
done_count n given dones h = sym (length-map dones (λ (d : CellDone). d.place)) ∙ ap (λ (xs : List ℕ). length xs) h.places ∙ length-range_with_len 0 n

done_at : (n : ℕ) (given dones : List CellDone) → AreDone n given dones → (k : ℕ) (done : CellDone) → slice_get dones k ≡ Some done → done.place ≡ k
done_at n given dones h k done at =
    let low = slice_get_within dones k done at in
    let count = done_count n given dones h in
    let mapped : get_or (places_of dones) k 0 ≡ (get_or dones k done).place = get_or-map (λ (d : CellDone). d.place) dones k done 0 low in
    let ranged : get_or (places_of dones) k 0 ≡ k = ap (λ (xs : List ℕ). get_or xs k 0) h.places ∙ get_or-range_with_len 0 n k 0 (omega arith) ∙ omega arith in
    ap (λ (d : CellDone). d.place) (sym (read_at dones k done done at)) ∙ sym mapped ∙ ranged

pub left_within : (options : Options) (last n count : ℕ) (parts : List Part) (claims : Known) (given dones : List CellDone) (lefts : List Left) → n ≡ count → AllZip (IsLeft options last parts claims.cells) given lefts → AreDone n given dones → All (λ (left : Left). left.place < count) lefts
left_within options last n count parts claims given dones lefts is zip h k d low =
    let left = some_at lefts k low in
    let back = zip_right (IsLeft options last parts claims.cells) given lefts k left.0 zip left.1 in
    let inside = slice_get_within dones back.0.place back.0 (h.there back.0 (k, back.1)) in
    let all = done_count n given dones h in
    let at = back.2.at in
    let same : (get_or lefts k d).place ≡ left.0.place = ap (λ (l : Left). l.place) (read_at lefts k d left.0 left.1) in omega arith

pub left_cover : (options : Options) (last n count : ℕ) (parts : List Part) (claims : Known) (given dones : List CellDone) (lefts : List Left) → n ≡ count → AllZip (IsLeft options last parts claims.cells) given lefts → AreDone n given dones → HasEachPlace count lefts
left_cover options last n count parts claims given dones lefts is zip h k low =
    let all = done_count n given dones h in
    let done = some_at dones k (omega arith) in
    let among = h.as_given k done.0 done.1 in
    let left = zip_left (IsLeft options last parts claims.cells) given lefts among.0 done.0 zip among.1 in
    (left.0, (among.0, left.1), left.2.at ∙ done_at n given dones h k done.0 done.1)

done_made : (options : Options) (level last n : ℕ) (parts : List Part) (docs : List ℕ) (claims : Known) (given dones : List CellDone) (lefts : List Left) (table : List (Vec Part Global)) → AreCells level parts docs claims.cells
    → AllZip (IsLeft options last parts claims.cells) given lefts → AreDone n given dones → ArePlaced (length parts) lefts table
    → (k : ℕ) (part : Part) (done : CellDone) (vec : Vec Part Global) → slice_get parts k ≡ Some part → slice_get dones k ≡ Some done → slice_get table k ≡ Some vec
    → Descends (limits_of options) options.depth level last (lens (take k parts)) part (take part.len (drop (lens (take k parts)) docs)) done.docs no_output (output vec.items done.kept)
done_made options level last n parts docs claims given dones lefts table are zip h placed k part done vec at_part at_done at_table =
    let this = placed.each k vec at_table in
    let left = this.left in
    let back = zip_right (IsLeft options last parts claims.cells) given lefts this.among.0 left zip this.among.1 in
    let place : back.0.place ≡ k = sym back.2.at ∙ this.at in
    let same : back.0 ≡ done = some_from (sym (h.there back.0 (this.among.0, back.1)) ∙ ap (λ (i : ℕ). slice_get dones i) place ∙ at_done) in
    let here : done.place ≡ k = done_at n given dones h k done at_done in
    let isleft : IsLeft options last parts claims.cells done left = subst (λ (d : CellDone). IsLeft options last parts claims.cells d left) same back.2 in
    let count = are.len in
    let low = slice_get_within parts k part at_part in
    let cell = some_at claims.cells k (omega arith) in
    let is = are.each k part cell.0 at_part cell.1 in
    let made = isleft.made part cell.0 (ap (λ (i : ℕ). slice_get parts i) here ∙ at_part) (ap (λ (i : ℕ). slice_get claims.cells i) here ∙ cell.1) in
    subst (λ (x : (ℕ × ℕ) × (List ℕ × List Part)). Descends (limits_of options) options.depth x.0.0 last x.0.1 part x.1.0 done.docs no_output (output x.1.1 done.kept))
    (λ i. ((is.level_is i, is.start_is i), (is.docs_are i, ap (λ (v : Vec Part Global). v.items) (sym this.same) i))) made

pub all_made : (options : Options) (level last n : ℕ) (parts : List Part) (docs : List ℕ) (claims : Known) (given dones : List CellDone) (lefts : List Left) (table : List (Vec Part Global)) → n ≡ length parts → length docs ≡ lens parts
    → AreCells level parts docs claims.cells → AllZip (IsLeft options last parts claims.cells) given lefts → AreDone n given dones → ArePlaced (length parts) lefts table → AreAllMade options level last parts docs dones table
all_made options level last n parts docs claims given dones lefts table is len are zip h placed = record {
  count = done_count n given dones h ∙ is;
  len = placed.len;
  documents = len;
  each = done_made options level last n parts docs claims given dones lefts table are zip h placed;
}
