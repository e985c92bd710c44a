use Rattle.std.proofs.Common.{◌≡◌, List, length, sum_by, sym, ap, ◌∙◌, arith}
use Rattle.rgb_base.specs.declared.parts.Posting.{Posting}
use Rattle.rgb_base.specs.declared.parts.TermList.{TermList}
use Rattle.rgb_base.specs.Parts.{IndexParts, posting_count}
use Rattle.rgb_base.specs.Flat.{lists_of}
use Rattle.rgb_base.proofs.Rows.{parts_of_lists, sum_by-mapped}
use Rattle.rgb_base.proofs.index.Index.total_postings.Goals as goal

pub returns : goal.returns
returns c =
    let t = c.self.inside in
    let h = c.self.invariant in
    let lists = lists_of t.terms t.counts.items t.postings.closed in
    let parts = parts_of_lists t.terms t.counts.items t.postings.closed h.lists.terms_len h.lists.parts_len in
    let sum : sum_by (λ (part : List Posting). length part) t.postings.closed ≡ posting_count lists = ap (sum_by (λ (part : List Posting). length part)) (sym parts) ∙ sum_by-mapped (λ (part : List Posting). length part) (λ (l : TermList). l.postings) lists in
    let held : c.len.result ≡ posting_count lists = omega (arith, c.len.ensures.same, sum, ap length h.none_pending) in
    record { same = held ∙ ap (λ (v : IndexParts). posting_count v.lists) c.self.view_is }
