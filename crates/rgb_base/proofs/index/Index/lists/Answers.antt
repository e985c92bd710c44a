use Rattle.std.proofs.Common.{◌≡◌, length, sym, ap, ◌∙◌, arith}
use Rattle.rgb_base.specs.Parts.{IndexParts}
use Rattle.rgb_base.proofs.Rows.{length-lists_of}
use Rattle.rgb_base.proofs.index.Index.lists.Goals as goal

pub overflow_cast-result : goal.overflow_cast-result
overflow_cast-result c =
    let t = c.self.inside in
    let h = c.self.invariant in
    let count : length c.args.self.now.lists ≡ length t.counts.items = ap (λ (v : IndexParts). length v.lists) (sym c.self.view_is) ∙ length-lists_of t.terms t.counts.items t.postings.closed h.lists.terms_len h.lists.parts_len in
    let small = h.index.counted.lists in
    omega (arith, c.len.ensures.same, h.lists.terms_len, small, length-lists_of t.terms t.counts.items t.postings.closed h.lists.terms_len h.lists.parts_len)

pub returns : goal.returns
returns c =
    let t = c.self.inside in
    let h = c.self.invariant in
    let count : length c.args.self.now.lists ≡ length t.counts.items = ap (λ (v : IndexParts). length v.lists) (sym c.self.view_is) ∙ length-lists_of t.terms t.counts.items t.postings.closed h.lists.terms_len h.lists.parts_len in
    record { same = omega (arith, c.len.ensures.same, h.lists.terms_len, count) }
