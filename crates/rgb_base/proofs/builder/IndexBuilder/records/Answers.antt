use Rattle.std.proofs.Common.{length, ap, arith}
use Rattle.rgb_base.specs.Building.{Building}
use Rattle.rgb_base.proofs.Rows.{length-records_of}
use Rattle.rgb_base.proofs.builder.IndexBuilder.records.Goals as goal

pub overflow_cast-result : goal.overflow_cast-result
overflow_cast-result c =
    let t = c.self.inside in
    let h = c.self.invariant in
    let built = length-records_of t.names t.sizes.items h.records in
    let few = h.building.few_records in
    let all = h.building.few_documents in
    omega (arith, c.len.ensures.same, built, few, all, h.records)

pub returns : goal.returns
returns c =
    let t = c.self.inside in
    let h = c.self.invariant in
    let built = length-records_of t.names t.sizes.items h.records in
    record { same = omega (arith, c.len.ensures.same, built, h.records, ap (λ (v : Building). length v.records) c.self.view_is) }
