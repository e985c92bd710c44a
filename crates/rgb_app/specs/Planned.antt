-- The plan of a live index whose versions are the numberings of a reordering.
use Rattle.std.specs.Prelude.{◌≡◌, ℕ, ◌+◌, List, if◌then◌else◌}
use Rattle.rgb_base.specs.Parts.{IndexParts}
use Rattle.bisection.specs.Progress.{Progress, IsProgress}
use Rattle.live_index.specs.declared.history.History.{History}
use Rattle.command_words.specs.declared.reordering.Reordering.{Reordering}
use Rattle.rgb_app.specs.Live.{IsVersion, last_of}
use Rattle.rgb_app.specs.Reordering.{options_of, IsForwardBy}
use Rattle.rgb_app.specs.declared.plan.SlabPlan.{SlabPlan}

-- no version follows the last
abbrev pub planned_versions : SlabPlan → IndexParts → ℕ
planned_versions plan index = last_of plan.options + 1

abbrev pub is_planned : SlabPlan → IndexParts → ℕ → List ℕ → Type 0
is_planned plan index version numbering = IsVersion plan.options index version numbering

-- what was published is what the recursion has come to: a version for each slab that is done, and before
-- them the start order, where that is by name
pub record IsAbreast (options : Reordering) (history : History SlabPlan) (progress : Progress)
    : Type 0 where
  pub plan : history.plan.options ≡ options
  pub forward : IsForwardBy options history.base progress.forward
  pub recursion : progress.options ≡ options_of options
  pub sound : IsProgress progress
  pub length : history.length ≡ progress.done + (if options.by_name then 1 else 0) + 1
