-- What claims and their seats are seen as.
use Rattle.std.specs.Prelude.{◌≡◌, ℕ, ◌+◌, ◌<◌, ◌≤◌, List, [], ◌∷◌, ◌++◌, length, map, flat_map, slice_get, All, Option, Some, None, IfSome}
use Rattle.std.specs.List.{range_with_len}
use Rattle.atomic_table.specs.Seated.{TableId}
use Rattle.cell_claims.specs.declared.cell.CellWork.{CellWork}
use Rattle.cell_claims.specs.declared.cell.CellDone.{CellDone}
use Rattle.cell_claims.specs.Numbers.{total, times, late, is_below}

-- which claims they are, and their cells
pub record Known : Type 0 where
  pub id : TableId
  pub cells : List CellWork

-- A seat of the claims with this id and these cells: its shares of all 64, the numbers that it
-- drew, in order, the place of the cell that it holds, and the cells that it gave back.
pub record Seated : Type 0 where
  pub id : TableId
  pub cells : List CellWork
  pub shares : ℕ
  pub drawn : List ℕ
  pub held : Option ℕ
  pub given : List CellDone

abbrev pub IsSeatOf : Known → Seated → Type 0
IsSeatOf claims seat = (seat.id ≡ claims.id) × (seat.cells ≡ claims.cells)

-- the numbers of the cells are 0, 1, 2 and so on
abbrev pub AreInPlace : List CellWork → Type 0
AreInPlace cells = (k : ℕ) (cell : CellWork) → slice_get cells k ≡ Some cell → cell.place ≡ k

-- ---- a seat

abbrev pub places_of : List CellDone → List ℕ
places_of given = map (λ (done : CellDone). done.place) given

abbrev pub list_of : Option ℕ → List ℕ
list_of None = []
list_of (Some k) = k ∷ []

-- Of the numbers below the number of cells the seat drew those that it gave back and the one that it
-- holds. It drew at most one other.
pub record IsSeat (seat : Seated) : Type 0 where
  pub shares : 0 < seat.shares
  pub held : IfSome seat.held (λ place. place < length seat.cells)
  pub below : (k : ℕ) → k < length seat.cells → times k seat.drawn
      ≡ times k (places_of seat.given) + times k (list_of seat.held)
  pub late : late (length seat.cells) seat.drawn ≤ 1

-- a seat that drew nothing
abbrev pub fresh : TableId → List CellWork → ℕ → Seated
fresh id cells shares = record {
  id = id;
  cells = cells;
  shares = shares;
  drawn = [];
  held = None;
  given = [];
}

abbrev pub IsFresh : Seated → Type 0
IsFresh seat = (seat.drawn ≡ []) × (seat.held ≡ None) × (seat.given ≡ [])

-- the seat as it is once it drew a number
abbrev pub drew : Seated → ℕ → Option ℕ → Seated
drew seat number held = record {
  id = seat.id;
  cells = seat.cells;
  shares = seat.shares;
  drawn = seat.drawn ++ number ∷ [];
  held = held;
  given = seat.given;
}

-- The seat drew the number of this cell, which is more than all that it had drawn, and holds the
-- cell.
pub record HasClaimed (before after : Seated) (work : CellWork) : Type 0 where
  pub number : ℕ
  pub more : (k : ℕ) → 0 < times k before.drawn → k < number
  pub cell : slice_get before.cells number ≡ Some work
  pub holds : after ≡ drew before number (Some number)

-- The seat drew a number for which there is no cell. It did so in this call only if it hadn't
-- before.
pub record HasEnded (before after : Seated) : Type 0 where
  pub over : 0 < late (length before.cells) after.drawn
  pub again : 0 < late (length before.cells) before.drawn → after ≡ before
  pub first : late (length before.cells) before.drawn ≡ 0
      → (number : ℕ) × (length before.cells ≤ number) × (after ≡ drew before number None)

-- the seat as it is once it gave back its cell
abbrev pub gave : Seated → CellDone → Seated
gave seat done = record {
  id = seat.id;
  cells = seat.cells;
  shares = seat.shares;
  drawn = seat.drawn;
  held = None;
  given = seat.given ++ done ∷ [];
}

-- ---- all seats

abbrev pub shares_of : List Seated → ℕ
shares_of seats = total (λ (seat : Seated). seat.shares) seats

abbrev pub drawn_by : List Seated → List ℕ
drawn_by seats = flat_map (λ (seat : Seated). seat.drawn) seats

abbrev pub given_by : List Seated → List CellDone
given_by seats = flat_map (λ (seat : Seated). seat.given) seats

-- all seats of the claims, of which none drew anything
pub record AreNew (claims : Known) (seats : List Seated) : Type 0 where
  pub each : All (IsSeatOf claims) seats
  pub fresh : All IsFresh seats
  pub shares : shares_of seats ≡ 64

-- all seats of the claims, of which none holds a cell
pub record AreBack (claims : Known) (seats : List Seated) : Type 0 where
  pub each : All (IsSeatOf claims) seats
  pub free : All (λ (seat : Seated). seat.held ≡ None) seats
  pub shares : shares_of seats ≡ 64

-- the seats drew each number up to some last one once, among them those of all cells
pub record EachOnce (cells : ℕ) (drawn : List ℕ) : Type 0 where
  pub end : ℕ
  pub all : cells < end
  pub once : (k : ℕ) → times k drawn ≡ is_below k end

abbrev pub IsAmong : List CellDone → CellDone → Type 0
IsAmong given done = (k : ℕ) × (slice_get given k ≡ Some done)

-- Each place has its cell, in order, as a seat gave it back. What a seat gave back stands at its
-- place.
pub record AreDone (cells : ℕ) (given dones : List CellDone) : Type 0 where
  pub places : places_of dones ≡ range_with_len 0 cells
  pub as_given : (k : ℕ) (done : CellDone) → slice_get dones k ≡ Some done → IsAmong given done
  pub there : (done : CellDone) → IsAmong given done → slice_get dones done.place ≡ Some done
