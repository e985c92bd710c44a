use Rattle.std.proofs.Common.{◌+◌, List, length, take, sum_by, sym, ap, subst, ◌∙◌, arith}
use Rattle.rgb_base.specs.declared.parts.Posting.{Posting}
use Rattle.rgb_base.specs.declared.parts.TermList.{TermList}
use Rattle.rgb_base.specs.Parts.{IndexParts}
use Rattle.rgb_base.specs.Flat.{lists_of}
use Rattle.rgb_base.proofs.Rows.{length-lists_of, parts_of_lists, sum_by-mapped}
use Rattle.rgb_base.proofs.index.Index.ends.Goals as goal
use Rattle.std.proofs.lemmas.List.{take-map}
use Rattle.rgb_base.specs.Table.{AreEnds}

pub returns : goal.returns
returns c =
    let t = c.self.inside in
    let h = c.self.invariant in
    let lists = lists_of t.terms t.counts.items t.postings.closed in
    let count = length-lists_of t.terms t.counts.items t.postings.closed h.lists.terms_len h.lists.parts_len in
    let parts = parts_of_lists t.terms t.counts.items t.postings.closed h.lists.terms_len h.lists.parts_len in
    let totals = c.ends.ensures.same in
    let held : AreEnds lists c.ends.result.now = record {
      len = omega (arith, totals.len, count, h.lists.parts_len);
      each = λ k lt. totals.each k (omega (arith, lt, count, h.lists.parts_len))
          ∙ ap (λ (ps : List (List Posting)). sum_by (λ (part : List Posting). length part) (take (k + 1) ps)) (sym parts)
          ∙ ap (sum_by (λ (part : List Posting). length part)) (take-map (λ (l : TermList). l.postings) (k + 1) lists)
          ∙ sum_by-mapped (λ (part : List Posting). length part) (λ (l : TermList). l.postings) (take (k + 1) lists);
    } in
    record { same = subst (λ (v : IndexParts). AreEnds v.lists c.ends.result.now) c.self.view_is held }
