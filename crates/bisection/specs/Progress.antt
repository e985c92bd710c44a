-- How far a recursion that is made slab by slab has come, and what it makes of an index.
use Rattle.std.specs.Prelude.{◌≡◌, ℕ, ◌+◌, ◌-◌, ◌*◌, ◌/◌, ◌^◌, ◌<◌, ◌≤◌, List, length, min}
use Rattle.rgb_base.specs.Parts.{IndexParts}
use Rattle.forward_index.specs.Forward.{ForwardIndex, IsForward, IsForwardOf}
use Rattle.bisection.specs.declared.options.Options.{Options}
use Rattle.cell_claims.specs.declared.trace.KeptRound.{KeptRound}
use Rattle.bisection.specs.Recursion.{Limits, IsNumbered}

-- the ranges of the options
pub record AreOptions (options : Options) : Type 0 where
  pub depth : options.depth ≤ 31
  pub rounds : options.rounds ≤ 100
  pub some_leaf : 0 < options.leaf
  pub leaf : options.leaf < 2 ^ 31
  pub some_workers : 0 < options.workers
  pub workers : options.workers ≤ 64
  pub some_step : 0 < options.step
  pub step : options.step ≤ 31

abbrev pub limits_of : Options → Limits
limits_of options = record { rounds = options.rounds; leaf = options.leaf }

-- how many slabs there are
abbrev pub slabs_of : Options → ℕ
slabs_of options = (options.depth + options.step - 1) / options.step

-- how many levels so many slabs have
abbrev pub depth_after : Options → ℕ → ℕ
depth_after options slabs = min (slabs * options.step) options.depth

-- what a recursion stands on, how many slabs are done, and what they left
pub record Progress : Type 0 where
  pub forward : ForwardIndex
  pub options : Options
  pub done : ℕ
  pub numbering : List ℕ
  pub trace : List KeptRound

-- the numbering and the trace are those of the levels that are done
pub record IsProgress (progress : Progress) : Type 0 where
  pub options : AreOptions progress.options
  pub sound : IsForward progress.forward
  pub most : progress.done ≤ slabs_of progress.options
  pub numbered : IsNumbered progress.forward (limits_of progress.options)
      (depth_after progress.options progress.done) progress.numbering progress.trace

-- the index has this numbering and this trace, over the terms of at least so many postings and the
-- documents in this start order
pub record IsNumberingOf (index : IndexParts) (min_df : ℕ) (start : List ℕ) (limits : Limits)
    (depth : ℕ) (numbering : List ℕ) (trace : List KeptRound) : Type 0 where
  pub len : length start ≡ length index.documents
  pub forward : ForwardIndex
  pub sound : IsForward forward
  pub is_forward : IsForwardOf index min_df start forward
  pub is_numbered : IsNumbered forward limits depth numbering trace
