use Rattle.std.proofs.Common.{◌≡◌, ℕ, ℤ, pos, ◌+◌, ◌*◌, ◌^◌, ◌<◌, ◌≤◌, ◌-ℤ◌, ◌*ℤ◌, w64, to_z, of_z, sym, ap, ◌∙◌, arith}
use Rattle.std.proofs.Math.Nat.{mul-le-mul_left}
use Rattle.std.proofs.lemmas.Int.{ints}
use Rattle.fixed_log.specs.Log.{lg}
use Rattle.degrees.specs.Cost.{part}
use Rattle.degrees.proofs.Whole.{times_apart}
use Rattle.degrees.proofs.counts.part.Goals as goal

abbrev value : goal.After-from-3 → ℤ
value c = to_z w64 (of_z w64 (to_z w64 (of_z w64 c.from-3.result) *ℤ to_z w64 (of_z w64 (to_z w64 (of_z w64 c.from.result) -ℤ to_z w64 (of_z w64 c.from-2.result)))))

small : (c : goal.After-from-3) → lg (c.args.count + 1) < 2 ^ 22
small c = c.requires.known (c.args.count + 1) (omega arith) (omega (arith, c.requires.few))

high : (c : goal.After-from-3) → c.args.count * c.args.log ≤ c.args.count * 2 ^ 22
high c = mul-le-mul_left c.args.count (omega (arith, c.requires.small))

low : (c : goal.After-from-3) → c.args.count * lg (c.args.count + 1) ≤ c.args.count * 2 ^ 22
low c = mul-le-mul_left c.args.count (omega (arith, small c))

is : (c : goal.After-from-3) → value c ≡ pos (c.args.count * c.args.log) -ℤ pos (c.args.count * lg (c.args.count + 1))
is c =
    let count = c.args.count in
    let log = c.args.log in
    let other = lg (count + 1) in
    let first : to_z w64 (of_z w64 c.from-3.result) ≡ pos count = omega (arith, ints, c.from-3.ensures, c.requires.few) in
    let apart : to_z w64 (of_z w64 (to_z w64 (of_z w64 c.from.result) -ℤ to_z w64 (of_z w64 c.from-2.result))) ≡ pos log -ℤ pos other =
    omega (arith, ints, c.from.ensures, c.from-2.ensures, c.lg.ensures.same, small c, c.requires.small) in
    let product : to_z w64 (of_z w64 c.from-3.result) *ℤ to_z w64 (of_z w64 (to_z w64 (of_z w64 c.from.result) -ℤ to_z w64 (of_z w64 c.from-2.result)))
    ≡ pos (count * log) -ℤ pos (count * other) =
    ap (λ (z : ℤ). z *ℤ to_z w64 (of_z w64 (to_z w64 (of_z w64 c.from.result) -ℤ to_z w64 (of_z w64 c.from-2.result)))) first
    ∙ ap (λ (z : ℤ). pos count *ℤ z) apart ∙ times_apart count log other in
    ap (λ (z : ℤ). to_z w64 (of_z w64 z)) product
    ∙ omega (arith, ints, high c, low c, c.requires.few)

pub returns-clause-same : goal.returns-clause-same
unfolding part
returns-clause-same c n log =
    is c ∙ sym (times_apart c.args.count c.args.log (lg (c.args.count + 1)))
    ∙ ap (λ (l : ℕ). pos c.args.count *ℤ (pos l -ℤ pos (lg (c.args.count + 1)))) (sym log)

pub returns-clause-high : goal.returns-clause-high
returns-clause-high c = omega (arith, ints, is c, high c)

pub returns-clause-low : goal.returns-clause-low
returns-clause-low c = omega (arith, ints, is c, low c)
