use Rattle.std.proofs.Common.{◌≡◌, pos, ℤ, ◌*ℤ◌, to_z, of_z, w64, ap, ◌∙◌, arith}
use Rattle.std.proofs.Math.IntN.{pos-*ℤ-pos}
use Rattle.std.proofs.lemmas.Int.{ints}
use Rattle.fixed_log.specs.Growth.{log_product}
use Rattle.fixed_log.proofs.Growths.{log_product-by_log, log_product_small}
use Rattle.fixed_log.proofs.table.log_product.Goals as goal

pub returns-clause-same : goal.returns-clause-same
returns-clause-same c =
    let count = c.args.count in
    let small = log_product_small count c.requires.most in
    let first : to_z w64 (of_z w64 c.from.result) ≡ pos count = omega (arith, ints) in
    let second : to_z w64 (of_z w64 c.from-2.result) ≡ pos c.args.log = omega (arith, ints) in
    let product : to_z w64 (of_z w64 c.from.result) *ℤ to_z w64 (of_z w64 c.from-2.result) ≡ pos (log_product count) =
    ap (λ (z : ℤ). z *ℤ to_z w64 (of_z w64 c.from-2.result)) first ∙ ap (λ (z : ℤ). pos count *ℤ z) second
    ∙ pos-*ℤ-pos count c.args.log ∙ ap pos (log_product-by_log count c.args.log c.requires.log) in
    ap (λ (z : ℤ). to_z w64 (of_z w64 z)) product ∙ omega (arith, ints)

pub returns-clause-small : goal.returns-clause-small
returns-clause-small c = log_product_small c.args.count c.requires.most
