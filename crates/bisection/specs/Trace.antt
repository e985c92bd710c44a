-- The records of kept rounds that a recursion leaves.
use Rattle.std.specs.Prelude.{◌≡◌, ◌⊎◌, ℕ, ◌+◌, ◌<◌, ◌<ℤ◌, List, map, All, AllPairs}
use Rattle.exchange.specs.declared.round.Kept.{Kept}
use Rattle.cell_claims.specs.declared.trace.KeptRound.{KeptRound}

-- the kept rounds of a cell of so many documents, which has the level 0 and begins at 0
abbrev pub own_round : ℕ → Kept → KeptRound
own_round size round = record {
  level = 0;
  start = 0;
  size = size;
  before = round.before;
  after = round.after;
  pairs = round.pairs;
}

abbrev pub own_rounds : ℕ → List Kept → List KeptRound
own_rounds size records = map (own_round size) records

-- the records of a cell that has this level and begins at this place
abbrev pub round_at : ℕ → ℕ → KeptRound → KeptRound
round_at level start round =
    record round { level = round.level + level; start = round.start + start }

abbrev pub moved_to : ℕ → ℕ → List KeptRound → List KeptRound
moved_to level start trace = map (round_at level start) trace

-- by start, then by level, and rounds of one cell in the order in which they were made: each begins
-- at a lower cost
abbrev pub StandsBefore : KeptRound → KeptRound → Type 0
StandsBefore x y = (x.start < y.start)
    ⊎ ((x.start ≡ y.start) × ((x.level < y.level)
    ⊎ ((x.level ≡ y.level) × (y.before <ℤ x.before))))

-- each kept round costs less after than before, and all stand in order
pub record IsTrace (trace : List KeptRound) : Type 0 where
  pub less : All (λ r. r.after <ℤ r.before) trace
  pub ordered : AllPairs StandsBefore trace
