-- Seats with their workers, and what they make of the cells that they claim.
use Rattle.std.proofs.Common.{◌≡◌, ℕ, ◌+◌, ◌-◌, ◌<◌, ◌≤◌, max, List, [], ◌∷◌, ◌++◌, length, get_or, Some, refl, sym, ap, ◌∙◌, subst, arith}
use Rattle.std.specs.Prelude.{slice_get}
use Rattle.std.specs.List.{AllZip}
use Rattle.std.proofs.lemmas.Option.{slice_get_read, slice_get_within}
use Rattle.cell_claims.specs.declared.trace.KeptRound.{KeptRound}
use Rattle.cell_claims.specs.declared.cell.CellWork.{CellWork}
use Rattle.cell_claims.specs.declared.cell.CellDone.{CellDone}
use Rattle.cell_claims.specs.Numbers.{times, is_same}
use Rattle.cell_claims.specs.Claims.{Known, Seated, IsSeatOf, HasClaimed, drew, gave}
use Rattle.bisection.specs.declared.options.Options.{Options}
use Rattle.bisection.specs.declared.cell.Part.{Part}
use Rattle.bisection.specs.declared.desk.Left.{Left}
use Rattle.bisection.specs.declared.desk.Desk.{Desk}
use Rattle.bisection.specs.Progress.{limits_of}
use Rattle.bisection.specs.Cells.{CanDescend, Descends}
use Rattle.bisection.specs.Desks.{no_output, output, CanWork, IsLeft, HasWorked, IsDesk, reach}

some_from : {A : Type 0} {a b : A} → Some a ≡ Some b → a ≡ b
some_from e = cc

pub zip_push : {A B : Type 0} (R : A → B → Type 0) (xs : List A) (ys : List B) (x : A) (y : B) → AllZip R xs ys → R x y → AllZip R (xs ++ x ∷ []) (ys ++ y ∷ [])
zip_push R [] [] x y all one = (one, tt)
zip_push R [] (b ∷ ys) x y all one = absurd all
zip_push R (a ∷ xs) [] x y all one = absurd all
zip_push R (a ∷ xs) (b ∷ ys) x y all one = (all.0, zip_push R xs ys x y all.1 one)

-- ---- one cell

pub part_at : (options : Options) (top last : ℕ) (parts : List Part) (cells : List CellWork) (cell : CellWork) (part : Part) → CanWork options top last parts cells
    → slice_get cells cell.place ≡ Some cell → part ≡ get_or parts cell.place part → slice_get parts cell.place ≡ Some part
part_at options top last parts cells cell part can at is =
    let low : cell.place < length parts = (let l = slice_get_within cells cell.place cell at in let n = can.len in omega arith) in
    slice_get_read parts (length parts) cell.place part refl low is

pub can_make : (options : Options) (top last : ℕ) (parts : List Part) (cells : List CellWork) (cell : CellWork) (part : Part) → CanWork options top last parts cells
    → slice_get cells cell.place ≡ Some cell → part ≡ get_or parts cell.place part → CanDescend options top last cell.level cell.start part cell.docs
can_make options top last parts cells cell part can at is = can.can cell.place part cell (part_at options top last parts cells cell part can at is) at

pub left_made : (options : Options) (top last : ℕ) (parts : List Part) (cells : List CellWork) (cell : CellWork) (part : Part) (docs : List ℕ) (kept : List KeptRound) (left : Left) → CanWork options top last parts cells
    → slice_get cells cell.place ≡ Some cell → part ≡ get_or parts cell.place part → left.place ≡ cell.place
    → Descends (limits_of options) options.depth cell.level last cell.start part cell.docs docs no_output (output left.parts.items kept)
    → IsLeft options last parts cells (record { place = cell.place; docs = docs; kept = kept }) left
left_made options top last parts cells cell part docs kept left can at is place descends = record {
  at = place;
  made = λ p c at_part at_cell.
      let same : part ≡ p = some_from (sym (part_at options top last parts cells cell part can at is) ∙ at_part) in
      let this : cell ≡ c = some_from (sym at ∙ at_cell) in
      subst (λ (x : Part × CellWork). Descends (limits_of options) options.depth x.1.level last x.1.start x.0 x.1.docs docs no_output (output left.parts.items kept)) (λ i. (same i, this i)) descends;
}

-- ---- one claim

reach_push : (xs : List ℕ) (n : ℕ) → reach (xs ++ n ∷ []) ≡ max (reach xs) (n + 1)
reach_push [] n = omega arith
reach_push (x ∷ xs) n = let t = reach_push xs n in omega arith

reach_below : (xs : List ℕ) (n : ℕ) → ((k : ℕ) → 0 < times k xs → k < n) → reach xs ≤ n
reach_below [] n h = omega arith
reach_below (x ∷ xs) n h =
    let here : is_same x x ≡ 1 = omega arith in
    let first : x < n = h x (omega arith) in
    let t = reach_below xs n (λ k low. h k (omega arith)) in omega arith

pub nearer : (n : ℕ) (before after : Seated) (cell : CellWork) → HasClaimed before after cell → length before.cells ≡ n → n - reach after.drawn < n - reach before.drawn
nearer n before after cell claimed len =
    let number = claimed.number in
    let low = slice_get_within before.cells number cell claimed.cell in
    let top = reach_below before.drawn number claimed.more in
    let drawn : reach after.drawn ≡ max (reach before.drawn) (number + 1) = ap (λ (s : Seated). reach s.drawn) claimed.holds ∙ reach_push before.drawn number in omega arith

pub nearer_still : (n : ℕ) (before after now : Seated) (cell : CellWork) (done : CellDone) → HasClaimed before after cell → length before.cells ≡ n → now ≡ gave after done → n - reach now.drawn < n - reach before.drawn
nearer_still n before after now cell done claimed len given =
    let same : reach now.drawn ≡ reach after.drawn = ap (λ (s : Seated). reach s.drawn) given in
    let t = nearer n before after cell claimed len in omega arith

pub claimed_at : (claims : Known) (before after : Seated) (cell : CellWork) → ((k : ℕ) (c : CellWork) → slice_get claims.cells k ≡ Some c → c.place ≡ k) → IsSeatOf claims before → HasClaimed before after cell
    → (slice_get claims.cells cell.place ≡ Some cell) × IsSeatOf claims after × (after.held ≡ Some cell.place)
claimed_at claims before after cell places seat claimed =
    let at : slice_get claims.cells claimed.number ≡ Some cell = ap (λ (c : List CellWork). slice_get c claimed.number) (sym seat.1) ∙ claimed.cell in
    let place : cell.place ≡ claimed.number = places claimed.number cell at in (
      ap (slice_get claims.cells) place ∙ at,
      (ap (λ (s : Seated). s.id) claimed.holds ∙ seat.0, ap (λ (s : Seated). s.cells) claimed.holds ∙ seat.1),
      ap (λ (s : Seated). s.held) claimed.holds ∙ ap Some (sym place),
    )

pub desk_next : (options : Options) (last : ℕ) (parts : List Part) (claims : Known) (before now : Desk) (after : Seated) (cell : CellWork) (done : CellDone)
    → IsDesk options last parts claims before → HasClaimed before.seat after cell
    → HasWorked options last parts claims.cells cell.place done before.failed now.failed before.left.items now.left.items
    → now.seat ≡ gave after done → IsDesk options last parts claims now × (now.seat.shares ≡ before.seat.shares)
desk_next options last parts claims before now after cell done desk claimed worked given =
    let is : now.seat ≡ gave (drew before.seat claimed.number (Some claimed.number)) done = given ∙ ap (λ (s : Seated). gave s done) claimed.holds in (
      record {
        seat = (ap (λ (s : Seated). s.id) is ∙ desk.seat.0, ap (λ (s : Seated). s.cells) is ∙ desk.seat.1);
        free = ap (λ (s : Seated). s.held) is;
        left = λ f.
            let w = worked.made f in
            let were = desk.left (worked.still f) in
            let push = zip_push (IsLeft options last parts claims.cells) before.seat.given before.left.items done w.0 were w.2 in
            subst (λ (x : List CellDone × List Left). AllZip (IsLeft options last parts claims.cells) x.0 x.1) (λ i. (ap (λ (s : Seated). s.given) (sym is) i, sym w.1 i)) push;
      },
      ap (λ (s : Seated). s.shares) is,
    )
