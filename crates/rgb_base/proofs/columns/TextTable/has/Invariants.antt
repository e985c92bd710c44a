use Rattle.std.proofs.Common.{◌≡◌, take, All}
use Rattle.rgb_base.proofs.columns.TextTable.has.Given as goal

abbrev pub invariant-loop-place : goal.invariant-loop-place
invariant-loop-place l = All (λ other. ¬ (other ≡ l.text)) (take l.place l.self)
