-- Seats with their workers, and what they make of the cells that they claim.
use Rattle.std.specs.Prelude.{◌≡◌, ◌⊎◌, ℕ, ◌+◌, ◌<◌, ◌≤◌, max, List, [], ◌∷◌, ◌++◌, length, map, take, drop, slice_get, All, Bool, false, Some, None}
use Rattle.std.proofs.Common.{Vec, Global}
use Rattle.std.specs.List.{AllZip, sum_by}
use Rattle.cell_claims.specs.declared.trace.KeptRound.{KeptRound}
use Rattle.cell_claims.specs.declared.cell.CellWork.{CellWork}
use Rattle.cell_claims.specs.declared.cell.CellDone.{CellDone}
use Rattle.cell_claims.specs.Numbers.{late}
use Rattle.cell_claims.specs.Claims.{Known, Seated, IsSeatOf, IsFresh, shares_of, drawn_by, given_by}
use Rattle.bisection.specs.declared.options.Options.{Options}
use Rattle.bisection.specs.declared.cell.Part.{Part}
use Rattle.bisection.specs.declared.desk.Left.{Left}
use Rattle.bisection.specs.declared.desk.Desk.{Desk}
use Rattle.bisection.specs.Progress.{limits_of}
use Rattle.bisection.specs.Cells.{CanDescend, Descends, DescendsAll, Output}

abbrev pub no_output : Output
no_output = record { parts = []; trace = [] }

abbrev pub output : List Part → List KeptRound → Output
output parts trace = record { parts = parts; trace = trace }

-- the parts have the cells that are claimed, one for one, and each can be worked on
pub record CanWork (options : Options) (top last : ℕ) (parts : List Part) (cells : List CellWork)
    : Type 0 where
  pub len : length parts ≡ length cells
  pub in_place : (k : ℕ) (cell : CellWork) → slice_get cells k ≡ Some cell → cell.place ≡ k
  pub before : (k : ℕ) (cell : CellWork) → slice_get cells k ≡ Some cell → cell.level < last
  pub can : (k : ℕ) (part : Part) (cell : CellWork) → slice_get parts k ≡ Some part
      → slice_get cells k ≡ Some cell
      → CanDescend options top last cell.level cell.start part cell.docs

-- what was made of a cell: the levels of the slab, of which these parts are left
pub record IsLeft (options : Options) (last : ℕ) (parts : List Part) (cells : List CellWork)
    (done : CellDone) (left : Left) : Type 0 where
  pub at : left.place ≡ done.place
  pub made : (part : Part) (cell : CellWork) → slice_get parts done.place ≡ Some part
      → slice_get cells done.place ≡ Some cell
      → Descends (limits_of options) options.depth cell.level last cell.start part cell.docs
      done.docs no_output (output left.parts.items done.kept)

-- A cell was worked on, or given back as it was after want of memory: then the seat failed.
pub record HasWorked (options : Options) (last : ℕ) (parts : List Part) (cells : List CellWork)
    (place : ℕ) (done : CellDone) (failed_before failed : Bool) (before after : List Left)
    : Type 0 where
  pub at : done.place ≡ place
  pub still : failed ≡ false → failed_before ≡ false
  pub made : failed ≡ false → (left : Left) × (after ≡ before ++ left ∷ [])
      × IsLeft options last parts cells done left

-- A seat of the claims holds no cell. Unless it failed, it made what it should of each cell that it
-- gave back.
pub record IsDesk (options : Options) (last : ℕ) (parts : List Part) (claims : Known) (desk : Desk)
    : Type 0 where
  pub seat : IsSeatOf claims desk.seat
  pub free : desk.seat.held ≡ None
  pub left : desk.failed ≡ false
      → AllZip (IsLeft options last parts claims.cells) desk.seat.given desk.left.items

-- one more than the highest number of the list
abbrev pub reach : List ℕ → ℕ
reach [] = 0
reach (x ∷ xs) = max (x + 1) (reach xs)

-- what becomes of a desk: it found no cell more, and has its shares
pub record IsOver (options : Options) (last : ℕ) (parts : List Part) (claims : Known)
    (before after : Desk) : Type 0 where
  pub desk : IsDesk options last parts claims after
  pub shares : after.seat.shares ≡ before.seat.shares
  pub over : 0 < late (length claims.cells) after.seat.drawn

abbrev pub AreDesks : Options → ℕ → List Part → Known → List Desk → Type 0
AreDesks options last parts claims desks = All (IsDesk options last parts claims) desks

abbrev pub seats_of : List Desk → List Seated
seats_of desks = map (λ (desk : Desk). desk.seat) desks

pub record IsCellAt (level k start : ℕ) (part : Part) (docs : List ℕ) (cell : CellWork)
    : Type 0 where
  pub place : cell.place ≡ k
  pub level_is : cell.level ≡ level
  pub start_is : cell.start ≡ start
  pub docs_are : cell.docs ≡ take part.len (drop start docs)

-- the documents of each part as a cell of this level, in order
pub record AreCells (level : ℕ) (parts : List Part) (docs : List ℕ) (cells : List CellWork)
    : Type 0 where
  pub len : length cells ≡ length parts
  pub each : (k : ℕ) (part : Part) (cell : CellWork) → slice_get parts k ≡ Some part
      → slice_get cells k ≡ Some cell → IsCellAt level k (sum_by (λ (p : Part). p.len) (take k parts)) part docs cell

-- seats that drew nothing, and desks with their seats: all shares together
pub record AreSeated (options : Options) (last : ℕ) (parts : List Part) (claims : Known)
    (seats : List Seated) (desks : List Desk) : Type 0 where
  pub each : All (IsSeatOf claims) seats
  pub fresh : All IsFresh seats
  pub as_desks : AreDesks options last parts claims desks
  pub shares : shares_of seats + shares_of (seats_of desks) ≡ 64

-- desks that found no cell more
pub record AreOver (options : Options) (last : ℕ) (parts : List Part) (claims : Known)
    (desks : List Desk) : Type 0 where
  pub as_desks : AreDesks options last parts claims desks
  pub over : All (λ (desk : Desk). 0 < late (length claims.cells) desk.seat.drawn) desks

-- desks that are over, and the seats and lefts of others
pub record AreComing (options : Options) (last : ℕ) (parts : List Part) (claims : Known)
    (desks : List Desk) (seats : List Seated) (failed : Bool) (lefts : List Left) : Type 0 where
  pub desks_over : AreOver options last parts claims desks
  pub each : All (IsSeatOf claims) seats
  pub free : All (λ (seat : Seated). seat.held ≡ None) seats
  pub shares : shares_of (seats_of desks) + shares_of seats ≡ 64
  pub over : 0 < length seats → 0 < late (length claims.cells) (drawn_by seats)
  pub left : failed ≡ false → AllZip (IsLeft options last parts claims.cells) (given_by seats) lefts

-- ---- the cells that are left, by their places

abbrev pub IsAmong : List Left → Left → Type 0
IsAmong lefts left = (j : ℕ) × (slice_get lefts j ≡ Some left)

-- what is left of the cell of a place
pub record IsPlaced (lefts : List Left) (place : ℕ) (parts : Vec Part Global) : Type 0 where
  pub left : Left
  pub among : IsAmong lefts left
  pub at : left.place ≡ place
  pub same : parts ≡ left.parts

-- each place has a left of its own
abbrev pub HasEachPlace : ℕ → List Left → Type 0
HasEachPlace count lefts = (k : ℕ) → k < count
    → (left : Left) × IsAmong lefts left × (left.place ≡ k)

-- each place has its parts, or they are still to come
pub record ArePlacing (count : ℕ) (whole rest : List Left) (table : List (Vec Part Global)) : Type 0 where
  pub len : length table ≡ count
  pub within : All (λ (left : Left). left.place < count) rest
  pub known : (left : Left) → IsAmong rest left → IsAmong whole left
  pub each : (k : ℕ) (parts : Vec Part Global) → slice_get table k ≡ Some parts
      → ((left : Left) × IsAmong rest left × (left.place ≡ k)) ⊎ IsPlaced whole k parts

pub record ArePlaced (count : ℕ) (lefts : List Left) (table : List (Vec Part Global)) : Type 0 where
  pub len : length table ≡ count
  pub each : (k : ℕ) (parts : Vec Part Global) → slice_get table k ≡ Some parts → IsPlaced lefts k parts

-- ---- cells that are done, one behind the other

-- the levels were made over the cell of each part, whose documents stand one behind the other
pub record AreAllMade (options : Options) (level last : ℕ) (parts : List Part) (docs : List ℕ)
    (dones : List CellDone) (table : List (Vec Part Global)) : Type 0 where
  pub count : length dones ≡ length parts
  pub len : length table ≡ length parts
  pub documents : length docs ≡ sum_by (λ (p : Part). p.len) parts
  pub each : (k : ℕ) (part : Part) (done : CellDone) (left : Vec Part Global)
      → slice_get parts k ≡ Some part → slice_get dones k ≡ Some done
      → slice_get table k ≡ Some left
      → (let start = sum_by (λ (p : Part). p.len) (take k parts) in
      Descends (limits_of options) options.depth level last start part
      (take part.len (drop start docs)) done.docs no_output (output left.items done.kept))

-- so many of them stand in the order
pub record AreJoined (options : Options) (level last count : ℕ) (parts : List Part)
    (docs order : List ℕ) (before after : Output) (whole table : List (Vec Part Global))
    : Type 0 where
  pub descends : DescendsAll (limits_of options) options.depth level last 0 (take count parts)
      (take (sum_by (λ (p : Part). p.len) (take count parts)) docs) order before after
  pub len : length table ≡ length whole
  pub rest : (k : ℕ) → count ≤ k → slice_get table k ≡ slice_get whole k
