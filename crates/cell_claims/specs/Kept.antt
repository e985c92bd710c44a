-- How claims and their seats keep what they are seen as.
use Rattle.std.specs.Prelude.{◌≡◌, ℕ, ◌+◌, ◌<◌, List, [], ◌∷◌, ◌++◌, length, slice_get, All, Bool, true, false, Option, Some, None}
use mathlib.Core.Option.{some}
use lib.ListN.{get_elem?}
use Rattle.cell_claims.specs.declared.cell.CellDone.{CellDone}
use Rattle.cell_claims.specs.declared.cell.Slot.{Slot}
use Rattle.cell_claims.specs.declared.cell.Slot.TheVariants.{Away, Done}
use Rattle.cell_claims.specs.declared.rule.Hand.{Hand}
use Rattle.cell_claims.specs.declared.claims.Claims.TheInside as claims
use Rattle.cell_claims.specs.declared.seat.ClaimSeat.TheInside as seat
use Rattle.cell_claims.specs.Numbers.{times, late}
use Rattle.atomic_table.specs.Table.{Me}
use Rattle.atomic_table.specs.Seated.{TableId}
use Rattle.cell_claims.specs.Claims.{Known, Seated, IsSeat, IsSeatOf, IsFresh, shares_of, drawn_by, given_by, IsAmong}
use Rattle.cell_claims.specs.Rule.{hand, places}

abbrev pub known_in : claims.Inside → Known
known_in inside = record {
  id = inside.table.shared.table_id;
  cells = inside.table.shared.key.value.items;
}

-- one word, and a slot for each cell
pub record AreClaims (inside : claims.Inside) : Type 0 where
  pub words : inside.table.shared.table_id.words ≡ 1
  pub slots : inside.table.shared.table_id.slots ≡ length inside.table.shared.key.value.items

-- the place whose slot the seat has
abbrev pub held_of : List (ℕ × Slot) → Option ℕ
held_of [] = None
held_of (x ∷ xs) = Some x.0

-- such a slot says that its cell is away
abbrev pub carried_of : Option ℕ → List (ℕ × Slot)
carried_of None = []
carried_of (Some place) = (place, Away) ∷ []

-- a seat by what its token of the table knows and has
abbrev pub seated : TableId → Me Slot Hand → Seated
seated id me = record {
  id = id;
  cells = me.0.cells;
  shares = me.0.shares;
  drawn = me.0.drawn;
  held = held_of me.1;
  given = me.0.given;
}

-- The seat remembers whether it drew a number for which there is no cell.
pub record IsKeptAs (id : TableId) (over : Bool) (me : Me Slot Hand) : Type 0 where
  pub sound : IsSeat (seated id me)
  pub carried : me.1 ≡ carried_of (held_of me.1)
  pub was_late : over ≡ true → 0 < late (length me.0.cells) me.0.drawn
  pub was_early : over ≡ false → late (length me.0.cells) me.0.drawn ≡ 0

abbrev pub seated_in : seat.Inside → Seated
seated_in inside = seated inside.seat.table_id inside.seat.me

abbrev pub IsKept : seat.Inside → Type 0
IsKept inside = IsKeptAs inside.seat.table_id inside.over inside.seat.me

-- ---- seats that are dealt out

-- so many seats, each with one share
pub record AreDealt (claims : Known) (count : ℕ) (made : List Seated) : Type 0 where
  pub len : length made ≡ count
  pub each : All (IsSeatOf claims) made
  pub fresh : All IsFresh made
  pub shares : shares_of made ≡ count

-- ---- seats that come together

-- none of the seats holds a cell
pub record AreFree (claims : Known) (seats : List Seated) : Type 0 where
  pub each : All (IsSeatOf claims) seats
  pub free : All (λ (seat : Seated). seat.held ≡ None) seats

-- What is known of some seats stands in one hand, and of the others, the rest, by themselves. Of the
-- numbers below the number of cells, the seats in the hand drew those that they gave back.
pub record IsGathered (claims : Known) (whole rest : List Seated) (v : Hand) : Type 0 where
  pub own : v.cells ≡ claims.cells
  pub some : 0 < v.shares
  pub shares : shares_of rest + v.shares ≡ shares_of whole
  pub drawn : drawn_by rest ++ v.drawn ≡ drawn_by whole
  pub given : given_by rest ++ v.given ≡ given_by whole
  pub balanced : (k : ℕ) → k < length claims.cells → times k v.drawn ≡ times k (places v.given)

-- a seat as a hand
abbrev pub hand_of : Seated → Hand
hand_of seat = hand seat.cells seat.shares seat.drawn seat.given

-- ---- slots that are emptied

-- in the slot of each place lies a cell that is done
abbrev pub AreAllDone : ℕ → List Slot → Type 0
AreAllDone n slots = (k : ℕ) → k < n → (done : CellDone) × (get_elem? slots k ≡ some (Done done))

-- these are the cells of the slots
pub record AreTaken (n : ℕ) (slots : List Slot) (dones : List CellDone) : Type 0 where
  pub count : length dones ≡ n
  pub each : (k : ℕ) (done : CellDone) → slice_get dones k ≡ Some done
      → get_elem? slots k ≡ some (Done done)

-- what the slots have once all seats came together: the cells that were given back, each at its
-- place
pub record HaveEnded (n : ℕ) (given : List CellDone) (slots : List Slot) : Type 0 where
  pub len : length slots ≡ n
  pub each : (k : ℕ) → k < n → (done : CellDone) × (get_elem? slots k ≡ some (Done done))
      × (done.place ≡ k) × IsAmong given done
  pub all : (done : CellDone) → IsAmong given done → get_elem? slots done.place ≡ some (Done done)
