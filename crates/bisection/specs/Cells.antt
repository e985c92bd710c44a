-- What functions of this crate hand to one another: cells with their own rows, and what some levels
-- make of them.
use Rattle.std.specs.Prelude.{◌≡◌, ◌⊎◌, ℕ, ◌+◌, ◌-◌, ◌^◌, ◌<◌, ◌≤◌, List, [], ◌∷◌, ◌++◌, length, map, slice_index, All, IfSome, MatchOption}
use Rattle.std.specs.List.{AllZip, sum_by}
use Rattle.std.specs.List.Sorted.{IsStrictlyIncreasing}
use Rattle.forward_index.specs.Forward.{ForwardIndex, IsForward}
use Rattle.forward_index.specs.Cell.{IsCellOf}
use Rattle.forward_index.specs.Laws.{CellOfACell}
use Rattle.exchange.specs.Halving.{half_a, half_b, halves_of, AreHalves}
use Rattle.exchange.specs.Laws.{HalvesKeepDocuments}
use Rattle.bisection.specs.declared.options.Options.{Options}
use Rattle.cell_claims.specs.declared.trace.KeptRound.{KeptRound}
use Rattle.bisection.specs.declared.cell.Part.{Part}
use Rattle.bisection.specs.declared.cell.Made.{Made}
use Rattle.bisection.specs.declared.cell.Split.{Split}
use Rattle.bisection.specs.Trace.{moved_to}
use Rattle.bisection.specs.Recursion.{Limits, IsBisected, order_of, all_places}
use Rattle.bisection.specs.Progress.{AreOptions, limits_of, depth_after}
use Rattle.bisection.specs.Laws.{EachDocumentOnce, RoundsStandInOrder, BisectionOverTheCell, AreBisected, LevelsAddUp, SlabsAreOneRecursion}

-- the laws on which the recursion's proof stands
pub record AreLaws : Type 0 where
  pub keep : HalvesKeepDocuments
  pub inner : CellOfACell
  pub over : BisectionOverTheCell
  pub once : EachDocumentOnce
  pub stand : RoundsStandInOrder
  pub add : LevelsAddUp
  pub slabs : SlabsAreOneRecursion

-- the places are some of the forward index, in start order
pub record IsCellIn (whole : ForwardIndex) (cell : List ℕ) : Type 0 where
  pub rising : IsStrictlyIncreasing cell
  pub below : All (λ k. k < length whole.rows) cell

-- the levels from this one on to the depth leave the cell as it is
abbrev pub IsDone : Limits → ℕ → ℕ → List ℕ → Type 0
IsDone limits depth level cell = (length cell ≤ limits.leaf) ⊎ (depth ≤ level)

-- the cell is halved further, over rows of its own
pub record HasRows (whole : ForwardIndex) (limits : Limits) (depth level : ℕ) (cell : List ℕ)
    (rows : ForwardIndex) : Type 0 where
  pub more : level < depth
  pub large : limits.leaf < length cell
  pub sound : IsForward rows
  pub is_cell : IsCellOf whole cell rows

-- the part is the cell's, with its rows where it is halved further
pub record IsPartOf (whole : ForwardIndex) (limits : Limits) (depth level : ℕ) (cell : List ℕ)
    (part : Part) : Type 0 where
  pub len : part.len ≡ length cell
  pub rows : MatchOption part.rows (IsDone limits depth level cell)
      (HasRows whole limits depth level cell)

-- the part's rows are those of a cell that is large enough to be halved
pub record IsLarge (limits : Limits) (part : Part) (rows : ForwardIndex) : Type 0 where
  pub len : length rows.rows ≡ part.len
  pub large : limits.leaf < part.len

abbrev pub IsReady : Limits → Part → Type 0
IsReady limits part = IfSome part.rows (IsLarge limits part)

abbrev pub ArePartsOf : ForwardIndex → Limits → ℕ → ℕ → List (List ℕ) → List Part → Type 0
ArePartsOf whole limits depth level cells parts =
    AllZip (IsPartOf whole limits depth level) cells parts

-- a cell over its own rows is halved: its documents stand in the order of both halves, of which
-- these are the parts
pub record IsSplit (own : ForwardIndex) (limits : Limits) (depth level : ℕ) (document : ℕ → ℕ)
    (docs : List ℕ) (split : Split) : Type 0 where
  pub places : List ℕ
  pub are_halves : AreHalves own (all_places own) limits.rounds (halves_of places) split.kept
  pub in_order : docs ≡ map document places
  pub part_a : IsPartOf own limits depth level (half_a places) split.a
  pub part_b : IsPartOf own limits depth level (half_b places) split.b

-- the cells and kept rounds that were made
pub record Output : Type 0 where
  pub parts : List Part
  pub trace : List KeptRound

abbrev pub output_of : Made → Output
output_of made = record { parts = made.parts.items; trace = made.trace.items }

-- The levels from one on to the last leave these documents of a cell in order, whose parts and kept
-- rounds stand behind the others. The cell begins at the start.
pub record IsMade (whole : ForwardIndex) (limits : Limits) (depth level last start : ℕ)
    (cell : List ℕ) (document : ℕ → ℕ) (docs : List ℕ) (old new : Output) : Type 0 where
  pub cells : List (List ℕ)
  pub trace : List KeptRound
  pub parts : List Part
  pub is_bisected : IsBisected whole limits (last - level) cell cells trace
  pub are_parts : ArePartsOf whole limits depth last cells parts
  pub in_order : docs ≡ map document (order_of cells)
  pub parts_behind : new.parts ≡ old.parts ++ parts
  pub trace_behind : new.trace ≡ old.trace ++ moved_to level start trace

-- the same of cells one after another, the first of which begins at the start
pub record AreMade (whole : ForwardIndex) (limits : Limits) (depth level last start : ℕ)
    (cells : List (List ℕ)) (document : ℕ → ℕ) (docs : List ℕ) (old new : Output) : Type 0 where
  pub into : List (List ℕ)
  pub trace : List KeptRound
  pub parts : List Part
  pub are_bisected : AreBisected whole limits (last - level) level start cells into trace
  pub are_parts : ArePartsOf whole limits depth last into parts
  pub in_order : docs ≡ map document (order_of into)
  pub parts_behind : new.parts ≡ old.parts ++ parts
  pub trace_behind : new.trace ≡ old.trace ++ trace

-- ---- what calls of the recursion ask

-- the part and its documents are there for a call, with logarithms up to the top
pub record CanDescend (options : Options) (top last level start : ℕ) (part : Part)
    (docs : List ℕ) : Type 0 where
  pub ranges : AreOptions options
  pub order : level ≤ last
  pub within : last ≤ options.depth
  pub len : length docs ≡ part.len
  pub logs : part.len < top
  pub end : start + part.len < 2 ^ 31
  pub ready : IsReady (limits_of options) part

-- the same of parts one after another
pub record CanDescendAll (options : Options) (top last level start : ℕ) (parts : List Part)
    (docs : List ℕ) : Type 0 where
  pub ranges : AreOptions options
  pub order : level < last
  pub within : last ≤ options.depth
  pub len : length docs ≡ sum_by (λ part. part.len) parts
  pub logs : length docs < top
  pub end : start + length docs < 2 ^ 31
  pub ready : All (IsReady (limits_of options)) parts

-- ---- what calls of the recursion say of any forward index of which their parts are cells

-- the levels were made over the part
pub record Descends (limits : Limits) (depth level last start : ℕ) (part : Part)
    (docs docs_new : List ℕ) (old new : Output) : Type 0 where
  pub over : (whole : ForwardIndex) (cell : List ℕ) (document : ℕ → ℕ)
      → IsForward whole → IsCellIn whole cell → IsPartOf whole limits depth level cell part
      → docs ≡ map document cell
      → IsMade whole limits depth level last start cell document docs_new old new

-- over both parts of a cell
pub record DescendsBoth (limits : Limits) (depth level last start : ℕ) (a b : Part)
    (docs docs_new : List ℕ) (old new : Output) : Type 0 where
  pub over : (whole : ForwardIndex) (cell_a cell_b : List ℕ) (document : ℕ → ℕ)
      → IsForward whole → IsCellIn whole cell_a → IsCellIn whole cell_b
      → IsPartOf whole limits depth level cell_a a → IsPartOf whole limits depth level cell_b b
      → docs ≡ map document (cell_a ++ cell_b)
      → AreMade whole limits depth level last start (cell_a ∷ cell_b ∷ []) document docs_new old new

-- over the parts of cells one after another
pub record DescendsAll (limits : Limits) (depth level last start : ℕ) (parts : List Part)
    (docs docs_new : List ℕ) (old new : Output) : Type 0 where
  pub over : (whole : ForwardIndex) (cells : List (List ℕ)) (document : ℕ → ℕ)
      → IsForward whole → All (IsCellIn whole) cells
      → ArePartsOf whole limits depth level cells parts → docs ≡ map document (order_of cells)
      → AreMade whole limits depth level last start cells document docs_new old new

-- over a cell with rows of its own that was halved once
pub record GoesOn (limits : Limits) (depth level last start : ℕ) (split : Split)
    (docs docs_new : List ℕ) (old new : Output) : Type 0 where
  pub over : (own : ForwardIndex) (document : ℕ → ℕ)
      → IsForward own → limits.leaf < length own.rows
      → IsSplit own limits depth (level + 1) document docs split
      → IsMade own limits depth level last start (all_places own) document docs_new old new

-- ---- slabs

-- the rounds don't have one place in the order
abbrev pub AreApart : KeptRound → KeptRound → Type 0
AreApart x y = x.start ≡ y.start → x.level ≡ y.level → x.before ≡ y.before → ⊥

-- The levels of a slab were made over the cells of the slab before: all places, or those of the
-- parts. The documents stand in the order of these cells.
pub record RunsFrom (forward : ForwardIndex) (limits : Limits) (depth level last : ℕ)
    (parts : List Part) (docs docs_new : List ℕ) (old new : Output) : Type 0 where
  pub over : (cells : List (List ℕ))
      → (level ≡ 0 → cells ≡ all_places forward ∷ [])
      → (0 < level → ArePartsOf forward limits depth level cells parts)
      → All (IsCellIn forward) cells
      → docs ≡ map (slice_index forward.documents) (order_of cells)
      → AreMade forward limits depth level last 0 cells (slice_index forward.documents) docs_new
      old new

-- how the cells stand after so many slabs, with their parts once there is one
pub record IsStanding (forward : ForwardIndex) (options : Options) (done : ℕ)
    (numbering : List ℕ) (parts : List Part) (trace : List KeptRound) : Type 0 where
  pub cells : List (List ℕ)
  pub is_bisected : IsBisected forward (limits_of options) (depth_after options done)
      (all_places forward) cells trace
  pub in_order : numbering ≡ map (slice_index forward.documents) (order_of cells)
  pub are_parts : 0 < depth_after options done → ArePartsOf forward (limits_of options)
      options.depth (depth_after options done) cells parts
