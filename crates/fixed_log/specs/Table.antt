-- A table of the logarithms of the numbers from 1 on, and of the growths of the counts from 0 on.
use Rattle.std.specs.Prelude.{◌≡◌, ℕ, ◌+◌, ◌^◌, ◌<◌, ◌≤◌, ℤ, List, length, slice_index, EachIndex}
use Rattle.fixed_log.specs.Log.{lg}
use Rattle.fixed_log.specs.Growth.{AreGrowths}

-- the entry at place i is the logarithm of i + 1
pub record IsTable (logs : List ℕ) : Type 0 where
  pub some : 0 < length logs
  pub most : length logs ≤ 2 ^ 31
  pub entries : EachIndex logs (λ i. slice_index logs i ≡ lg (i + 1))

-- there are growths up to the largest number with a logarithm
pub record HaveGrowths (logs : List ℕ) (growths : List ℤ) : Type 0 where
  pub len : length growths ≡ length logs + 1
  pub entries : AreGrowths growths
