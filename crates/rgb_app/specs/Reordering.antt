-- What a reordering makes of an index.
use Rattle.std.specs.Prelude.{◌≡◌, ℕ, Bool, true, false, List, length}
use Rattle.std.specs.List.{range_with_len}
use Rattle.rgb_base.specs.Parts.{IndexParts}
use Rattle.forward_index.specs.Forward.{ForwardIndex, IsForward, IsForwardOf}
use Rattle.forward_index.specs.Start.{IsStartByName}
use Rattle.bisection.specs.declared.options.Options.{Options}
use Rattle.cell_claims.specs.declared.trace.KeptRound.{KeptRound}
use Rattle.bisection.specs.Recursion.{Limits}
use Rattle.bisection.specs.Progress.{IsNumberingOf}
use Rattle.postings_rewrite.specs.Renumbering.{IsRenumbered}
use Rattle.command_words.specs.declared.reordering.Reordering.{Reordering}

-- the documents in the order in which they stand at the start: by their names or by their numbers
abbrev pub IsStart : Bool → IndexParts → List ℕ → Type 0
IsStart true index start = IsStartByName index start
IsStart false index start = start ≡ range_with_len 0 (length index.documents)

abbrev pub limits_of : Reordering → Limits
limits_of options = record { rounds = options.rounds; leaf = options.leaf }

-- the options have this numbering of the index's documents, and these kept rounds
pub record IsNumberingBy (options : Reordering) (index : IndexParts) (numbering : List ℕ)
    (trace : List KeptRound) : Type 0 where
  pub start : List ℕ
  pub is_start : IsStart options.by_name index start
  pub is_numbering : IsNumberingOf index options.min_df start (limits_of options) options.depth
      numbering trace

-- the new index is the old one with the numbers that the options give to its documents
pub record IsReordered (options : Reordering) (index new : IndexParts) (trace : List KeptRound)
    : Type 0 where
  pub numbering : List ℕ
  pub is_numbering : IsNumberingBy options index numbering trace
  pub is_renumbered : IsRenumbered index numbering new

-- the forward index is that of the index over the start order of the options
pub record IsForwardBy (options : Reordering) (index : IndexParts) (forward : ForwardIndex)
    : Type 0 where
  pub start : List ℕ
  pub is_start : IsStart options.by_name index start
  pub len : length start ≡ length index.documents
  pub sound : IsForward forward
  pub is_forward : IsForwardOf index options.min_df start forward

-- the options as the recursion takes them
abbrev pub options_of : Reordering → Options
options_of options = record {
  depth = options.depth;
  rounds = options.rounds;
  leaf = options.leaf;
  workers = options.workers;
  step = options.step;
}
