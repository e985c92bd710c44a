use Rattle.std.proofs.Common.{ℕ, ◌*◌, ◌%◌, ◌^◌, ap}
use Rattle.std.specs.Prelude.{bit_xor}
use Rattle.rgb_base.specs.Marks.{mark_after}
use Rattle.rgb_base.proofs.marks.mark_after.Goals as goal

pub returns : goal.returns
unfolding mark_after
returns c = record { same = ap (λ (byte : ℕ). (bit_xor c.args.mark byte * 1099511628211) % 2 ^ 64) c.from.ensures }
