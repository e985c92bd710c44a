use Rattle.std.proofs.Common.{length, ap, arith}
use Rattle.rgb_base.specs.Building.{Building}
use Rattle.rgb_base.proofs.Rows.{length-lists_of}
use Rattle.rgb_base.proofs.builder.IndexBuilder.lists.Goals as goal

pub overflow_cast-result : goal.overflow_cast-result
overflow_cast-result c =
    let t = c.self.inside in
    let h = c.self.invariant in
    let built = length-lists_of t.terms t.counts.items t.postings.closed h.lists.terms_len h.lists.parts_len in
    let few = h.building.few_lists in
    omega (arith, c.len.ensures.same, built, few, h.lists.terms_len)

pub returns : goal.returns
returns c =
    let t = c.self.inside in
    let h = c.self.invariant in
    let built = length-lists_of t.terms t.counts.items t.postings.closed h.lists.terms_len h.lists.parts_len in
    record { same = omega (arith, c.len.ensures.same, built, h.lists.terms_len, ap (λ (v : Building). length v.lists) c.self.view_is) }
