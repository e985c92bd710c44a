-- Products and sums of whole numbers that may be negative.
use Rattle.std.proofs.Common.{◌≡◌, ℕ, zero, suc, ◌*◌, ◌∙◌, arith}
use Rattle.std.proofs.Math.IntN.{pos, ◌+ℤ◌, ◌-ℤ◌, ◌*ℤ◌, suc_ℤ-*ℤ, zero-*ℤ}
use Rattle.std.proofs.Math.Nat.{suc-mul, zero-mul}
use Rattle.std.proofs.lemmas.Int.{ints}

pub times_apart : (d x y : ℕ) → pos d *ℤ (pos x -ℤ pos y) ≡ pos (d * x) -ℤ pos (d * y)
times_apart zero x y =
    let none : pos 0 *ℤ (pos x -ℤ pos y) ≡ pos 0 = zero-*ℤ (pos x -ℤ pos y) in
    omega (arith, ints, none, zero-mul x, zero-mul y)
times_apart (suc d) x y =
    let rest : pos d *ℤ (pos x -ℤ pos y) ≡ pos (d * x) -ℤ pos (d * y) = times_apart d x y in
    let step : pos (suc d) *ℤ (pos x -ℤ pos y) ≡ pos d *ℤ (pos x -ℤ pos y) +ℤ (pos x -ℤ pos y) = suc_ℤ-*ℤ (pos d) (pos x -ℤ pos y) in
    step ∙ omega (arith, ints, rest, suc-mul d x, suc-mul d y)
