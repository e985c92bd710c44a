-- What holds of generated indexes, the contract of a call.
use Rattle.std.specs.Prelude.{ℕ, ◌≤◌}
use Rattle.rgb_base.specs.Parts.{IsIndex}
use Rattle.generated_index.specs.Generated.{generated}

-- the generated index of at most a million documents is an index
abbrev pub GeneratedIsIndex : Type 0
GeneratedIsIndex =
    (number documents : ℕ) → documents ≤ 1000000 → IsIndex (generated number documents)
