use Rattle.std.proofs.Common.{◌≡◌, length, sym, ap, subst, ◌∙◌, arith}
use Rattle.std.specs.Prelude.{slice_get, option_map, Some}
use Rattle.rgb_base.specs.declared.parts.TermList.{TermList}
use Rattle.rgb_base.specs.Parts.{IndexParts, IsPostings}
use Rattle.rgb_base.specs.Kept.{parts_in}
use Rattle.rgb_base.specs.Flat.{lists_of}
use Rattle.rgb_base.proofs.Rows.{length-lists_of, parts_of_lists, list_has, list_keeps}
use Rattle.rgb_base.proofs.index.Index.postings.Goals as goal

pub part-requires : goal.part-requires
part-requires c =
    let t = c.self.inside in
    let h = c.self.invariant in
    let count : length c.args.self.now.lists ≡ length t.counts.items = ap (λ (v : IndexParts). length v.lists) (sym c.self.view_is) ∙ length-lists_of t.terms t.counts.items t.postings.closed h.lists.terms_len h.lists.parts_len in
    omega (arith, c.requires, count, h.lists.parts_len)

here : (c : goal.After-part) → option_map (λ (l : TermList). l.postings) (slice_get (parts_in c.self.inside).lists c.args.list) ≡ Some c.part.result.now
here c =
    let t = c.self.inside in
    let h = c.self.invariant in
    list_has (λ (l : TermList). l.postings) (lists_of t.terms t.counts.items t.postings.closed) t.postings.closed c.args.list _ (parts_of_lists t.terms t.counts.items t.postings.closed h.lists.terms_len h.lists.parts_len) c.part.ensures.same

pub returns-clause-same : goal.returns-clause-same
returns-clause-same c = subst (λ (v : IndexParts). option_map (λ (l : TermList). l.postings) (slice_get v.lists c.args.list) ≡ Some c.part.result.now) c.self.view_is (here c)

pub returns-clause-rising : goal.returns-clause-rising
returns-clause-rising c =
    let parts = parts_in c.self.inside in
    subst (λ (v : IndexParts). IsPostings (length v.documents) c.part.result.now) c.self.view_is
    (list_keeps (λ (l : TermList). l.postings) (IsPostings (length parts.documents)) parts.lists c.args.list _ c.self.invariant.index.ordered (here c))
