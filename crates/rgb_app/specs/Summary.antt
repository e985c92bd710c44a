-- What a reordering of an index in memory comes to.
use Rattle.std.specs.Prelude.{◌≡◌, ℕ, List}
use Rattle.rgb_base.specs.Parts.{IndexParts}
use Rattle.cell_claims.specs.declared.trace.KeptRound.{KeptRound}
use Rattle.command_words.specs.declared.reordering.Reordering.{Reordering}
use Rattle.rgb_app.specs.Text.{make_text}
use Rattle.rgb_app.specs.Reordering.{IsReordered}

-- the text tells how many rounds were kept, and what the index and the new one cost
pub record IsSummary (options : Reordering) (index : IndexParts) (text : List ℕ) : Type 0 where
  pub new : IndexParts
  pub trace : List KeptRound
  pub is_reordered : IsReordered options index new trace
  pub is_text : text ≡ make_text index new trace
