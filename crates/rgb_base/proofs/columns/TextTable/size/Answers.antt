use Rattle.std.proofs.Common.{◌≡◌, ℕ, List, length, sum_by, sym, ap, ◌∙◌, arith, string_bytes}
use Rattle.rgb_base.proofs.Cuts.{sum_by-pieces}
use Rattle.rgb_base.proofs.columns.TextTable.size.Goals as goal

pub returns : goal.returns
returns c =
    let ends = c.self.inside.ends.items in
    let bytes = string_bytes c.self.inside.text in
    let sum = sum_by-pieces 0 ends bytes c.self.invariant.cuts in
    let whole = c.self.invariant.whole in
    let held : sum_by (λ (text : List ℕ). length text) c.args.self.now ≡ length bytes = ap (sum_by (λ (text : List ℕ). length text)) (sym c.self.view_is) ∙ omega (arith, sum, whole) in
    record { same = omega (arith, held, ap length c.as_str.ensures.value) }
