-- The bits so far, with those that are to come, are the logarithm.
use Rattle.std.proofs.Common.{◌≡◌, ◌+◌, ◌^◌, ◌<◌, ◌≤◌}
use Rattle.fixed_log.specs.Log.{fraction, lg}
use Rattle.fixed_log.proofs.log.lg.Given as goal

abbrev pub invariant-loop-place : goal.invariant-loop-place
invariant-loop-place l = record { low : 2 ^ 62 ≤ l.unit; high : l.unit < 2 ^ 63; bits : l.log + fraction l.place l.unit ≡ lg l.x }
