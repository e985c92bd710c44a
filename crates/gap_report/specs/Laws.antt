-- What holds of the codes' parts, each the contract of a call of its own.
use Rattle.std.specs.Prelude.{ℕ, ◌+◌, ◌^◌, ◌<◌, ◌≤◌}
use Rattle.gap_report.specs.Codes.{floor_log}

-- the greatest power of two that is not above the number has this exponent
abbrev pub FloorLogIsGreatest : Type 0
FloorLogIsGreatest = (number : ℕ) → 0 < number → number < 2 ^ 64 →
    (2 ^ floor_log number ≤ number) × (number < 2 ^ (floor_log number + 1))
