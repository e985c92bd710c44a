-- The rule that threads keep when they claim cells, as plain data: a word that counts the numbers
-- that were drawn, a slot for each cell, and what each seat knows.
use Rattle.std.specs.Prelude.{◌≡◌, ℕ, ◌+◌, ◌-◌, ◌<◌, ◌≤◌, List, [], ◌∷◌, ◌++◌, length, map, slice_get, slice_index, Some}
use mathlib.Core.Option.{Option, some}
use lib.ListN.{get_elem?}
use Rattle.atomic_table.specs.Table.{Me}
use Rattle.cell_claims.specs.declared.cell.CellWork.{CellWork}
use Rattle.cell_claims.specs.declared.cell.CellDone.{CellDone}
use Rattle.cell_claims.specs.declared.cell.Slot.{Slot}
use Rattle.cell_claims.specs.declared.cell.Slot.TheVariants.{Ready, Away, Done}
use Rattle.cell_claims.specs.declared.rule.Hand.{Hand}
use Rattle.cell_claims.specs.Numbers.{total, times, late, is_below, is_same}

abbrev pub hand : List CellWork → ℕ → List ℕ → List CellDone → Hand
hand cells shares drawn given =
    record { cells = cells; shares = shares; drawn = drawn; given = given }

-- the places of cells that were given back
abbrev pub places : List CellDone → List ℕ
places given = map (λ (done : CellDone). done.place) given

-- the cell that was given back lies in its slot, which no seat has
abbrev pub LiesIn : List (Option Slot) → CellDone → Type 0
LiesIn homes done = get_elem? homes done.place ≡ some (some (Done done))

abbrev pub AllLieIn : List (Option Slot) → List CellDone → Type 0
AllLieIn homes given = (j : ℕ) (done : CellDone) → slice_get given j ≡ Some done → LiesIn homes done

-- What a seat knows fits the cells and the slots. From the number of cells on it drew at most as
-- many numbers as it has shares. It gave back no cell that it didn't draw, and none twice that it
-- drew once.
pub record Fits (cells : List CellWork) (homes : List (Option Slot)) (v : Hand) : Type 0 where
  pub own : 0 < v.shares → v.cells ≡ cells
  pub late : late (length cells) v.drawn ≤ v.shares
  pub spent : v.shares ≡ 0 → v.drawn ≡ []
  pub drawn : (k : ℕ) → times k (places v.given) ≤ times k v.drawn
  pub given : AllLieIn homes v.given

-- There are 64 shares. The seats drew each number below the word once, and no other, so the word
-- is at most 64 more than the number of cells. A cell whose number wasn't drawn lies in its slot.
pub record IsRuled (cells : List CellWork) (words : List ℕ) (homes : List (Option Slot))
    (views : List Hand) : Type 0 where
  pub one : words ≡ slice_index words 0 ∷ []
  pub few : length cells < 9223372036854775808
  pub shares : total (λ (v : Hand). v.shares) views ≡ 64
  pub most : slice_index words 0 ≤ length cells
      + total (λ (v : Hand). late (length cells) v.drawn) views
  pub once : (k : ℕ) → total (λ (v : Hand). times k v.drawn) views ≡ is_below k (slice_index words 0)
  pub ready : (k : ℕ) (cell : CellWork) → slice_index words 0 ≤ k
      → slice_get cells k ≡ Some cell → get_elem? homes k ≡ some (some (Ready cell))
  pub each : (id : ℕ) (v : Hand) → get_elem? views id ≡ some v → Fits cells homes v

-- ---- hands

-- the first seat has all shares
abbrev pub first_hand : List CellWork → Hand
first_hand cells = hand cells 64 [] []

-- a seat without a share
abbrev pub empty_hand : Hand
empty_hand = hand [] 0 [] []

abbrev pub one_less : Hand → Hand
one_less v = hand v.cells (v.shares - 1) v.drawn v.given

abbrev pub one_share : Hand → Hand
one_share v = hand v.cells 1 [] []

-- the other's numbers and cells come first
abbrev pub both_hands : Hand → Hand → Hand
both_hands v w = hand v.cells (v.shares + w.shares) (w.drawn ++ v.drawn) (w.given ++ v.given)

-- ---- what steps tell

-- the seat drew this number
abbrev pub drawn_hand : Hand → ℕ → Hand
drawn_hand v number = hand v.cells v.shares (v.drawn ++ number ∷ []) v.given

-- the cell went out to the seat
pub record IsOut (v : Hand) (number : ℕ) (carried : List (ℕ × Slot)) : Type 0 where
  pub cell : CellWork
  pub found : slice_get v.cells number ≡ Some cell
  pub goes : carried ≡ (number, Ready cell) ∷ []

-- The seat drew a number that is more than all that it had drawn. If there is a cell with this
-- number, it went out to the seat.
pub record HasDrawn (before : Me Slot Hand) (number : ℕ) (after : Me Slot Hand) : Type 0 where
  pub hand : after.0 ≡ drawn_hand before.0 number
  pub more : (k : ℕ) → 0 < times k before.0.drawn → k < number
  pub out : number < length before.0.cells → IsOut before.0 number after.1
  pub none : length before.0.cells ≤ number → after.1 ≡ []

abbrev pub given_hand : Hand → CellDone → Hand
given_hand v done = hand v.cells v.shares v.drawn (v.given ++ done ∷ [])

-- the seat gave back the cell whose slot it had
abbrev pub HasReturned : Me Slot Hand → Me Slot Hand → Type 0
HasReturned before after = (done : CellDone) → before.1 ≡ (done.place, Done done) ∷ []
    → after ≡ (given_hand before.0 done, [])

-- ---- what steps ask

-- the seat may draw: it has a share, no slot, and drew no number from the number of cells on
pub record MayDraw (cells : List CellWork) (me : Me Slot Hand) : Type 0 where
  pub own : me.0.cells ≡ cells
  pub share : 0 < me.0.shares
  pub none : me.1 ≡ []
  pub early : late (length cells) me.0.drawn ≡ 0

-- the seat may give back the cell of this place: its slot is out with the seat, and of the numbers
-- below the number of cells it drew this one and those of the cells that it gave back
pub record MayGive (cells : List CellWork) (place : ℕ) (me : Me Slot Hand) : Type 0 where
  pub own : me.0.cells ≡ cells
  pub share : 0 < me.0.shares
  pub away : me.1 ≡ (place, Away) ∷ []
  pub within : place < length cells
  pub drew : (k : ℕ) → k < length cells → times k me.0.drawn
      ≡ times k (places me.0.given) + is_same k place
