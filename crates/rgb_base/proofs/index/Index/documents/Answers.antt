use Rattle.std.proofs.Common.{◌≡◌, length, sym, ap, ◌∙◌, arith}
use Rattle.rgb_base.specs.Parts.{IndexParts}
use Rattle.rgb_base.proofs.Rows.{length-records_of}
use Rattle.rgb_base.proofs.index.Index.documents.Goals as goal

pub overflow_cast-result : goal.overflow_cast-result
overflow_cast-result c =
    let t = c.self.inside in
    let h = c.self.invariant in
    let count : length c.args.self.now.documents ≡ length t.sizes.items = ap (λ (v : IndexParts). length v.documents) (sym c.self.view_is) ∙ length-records_of t.names t.sizes.items h.records in
    let small = h.index.counted.documents in
    omega (arith, c.len.ensures.same, h.records, small, length-records_of t.names t.sizes.items h.records)

pub returns : goal.returns
returns c =
    let t = c.self.inside in
    let h = c.self.invariant in
    let count : length c.args.self.now.documents ≡ length t.sizes.items = ap (λ (v : IndexParts). length v.documents) (sym c.self.view_is) ∙ length-records_of t.names t.sizes.items h.records in
    record { same = omega (arith, c.len.ensures.same, h.records, count) }
