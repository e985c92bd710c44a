use Rattle.std.proofs.Common.{length, ap, arith}
use Rattle.rgb_base.specs.Parts.{text_size}
use Rattle.rgb_base.specs.Building.{Building, parts_of}
use Rattle.rgb_base.proofs.Rows.{terms_bytes, names_bytes}
use Rattle.rgb_base.proofs.builder.IndexBuilder.text.Goals as goal

pub overflow_add-result : goal.overflow_add-result
overflow_add-result c =
    let t = c.self.inside in
    let h = c.self.invariant in
    let terms = terms_bytes t.terms t.counts.items t.postings.closed h.lists.terms_len h.lists.parts_len in
    let names = names_bytes t.names t.sizes.items h.records in
    let little = h.building.little_text in
    omega (arith, little, terms, names, ap length c.as_str.ensures.same, c.size.ensures.same)

pub overflow_add-result-2 : goal.overflow_add-result-2
overflow_add-result-2 c =
    let t = c.self.inside in
    let h = c.self.invariant in
    let terms = terms_bytes t.terms t.counts.items t.postings.closed h.lists.terms_len h.lists.parts_len in
    let names = names_bytes t.names t.sizes.items h.records in
    let little = h.building.little_text in
    omega (arith, little, terms, names, ap length c.as_str.ensures.same, c.size.ensures.same, c.size-2.ensures.same)

pub returns : goal.returns
returns c =
    let t = c.self.inside in
    let h = c.self.invariant in
    let terms = terms_bytes t.terms t.counts.items t.postings.closed h.lists.terms_len h.lists.parts_len in
    let names = names_bytes t.names t.sizes.items h.records in
    let little = h.building.little_text in
    record { same = omega (arith, terms, names, ap length c.as_str.ensures.same, c.size.ensures.same, c.size-2.ensures.same, ap (λ (v : Building). text_size (parts_of v)) c.self.view_is) }
