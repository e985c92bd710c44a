use Rattle.std.proofs.Common.{◌≡◌, length, sym, ap, subst, ◌∙◌, arith}
use Rattle.std.specs.Prelude.{slice_get, option_map, Some}
use Rattle.rgb_base.specs.declared.parts.TermList.{TermList}
use Rattle.rgb_base.specs.Parts.{IndexParts}
use Rattle.rgb_base.specs.Flat.{lists_of}
use Rattle.rgb_base.proofs.Rows.{length-lists_of, terms_in, list_has}
use Rattle.rgb_base.proofs.index.Index.term.Goals as goal

pub at-requires : goal.at-requires
at-requires c =
    let t = c.self.inside in
    let h = c.self.invariant in
    let count : length c.args.self.now.lists ≡ length t.counts.items = ap (λ (v : IndexParts). length v.lists) (sym c.self.view_is) ∙ length-lists_of t.terms t.counts.items t.postings.closed h.lists.terms_len h.lists.parts_len in
    omega (arith, c.requires, count, h.lists.terms_len)

pub returns : goal.returns
returns c =
    let t = c.self.inside in
    let h = c.self.invariant in
    let lists = lists_of t.terms t.counts.items t.postings.closed in
    let here = list_has (λ (l : TermList). l.term) lists t.terms c.args.list _ (terms_in t.terms t.counts.items t.postings.closed h.lists.terms_len h.lists.parts_len) c.at.ensures.same in
    record { same = subst (λ (v : IndexParts). option_map (λ (l : TermList). l.term) (slice_get v.lists c.args.list) ≡ Some c.at.result.now) c.self.view_is here }
