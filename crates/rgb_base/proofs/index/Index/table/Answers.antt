use Rattle.std.proofs.Common.{◌≡◌, List, ◌++◌, sym, ap, ◌∙◌}
use Rattle.rgb_base.specs.declared.parts.Posting.{Posting}
use Rattle.rgb_base.specs.declared.parts.TermList.{TermList}
use Rattle.rgb_base.specs.Parts.{IndexParts}
use Rattle.rgb_base.specs.Flat.{lists_of}
use Rattle.rgb_base.proofs.Rows.{parts_of_lists}
use Rattle.rgb_base.proofs.index.Index.table.Goals as goal
use Rattle.std.specs.List.{flat_map}
use Rattle.std.proofs.lemmas.List.{append-nil}
use Rattle.std.proofs.lemmas.List.Folds.{flat_map-map}
use Rattle.rgb_base.specs.Table.{all_postings}

pub returns : goal.returns
returns c =
    let t = c.self.inside in
    let h = c.self.invariant in
    let lists = lists_of t.terms t.counts.items t.postings.closed in
    let parts = parts_of_lists t.terms t.counts.items t.postings.closed h.lists.terms_len h.lists.parts_len in
    let flat : List (List Posting) → List Posting = flat_map (λ (part : List Posting). part) in
    let held : c.table.result.now ≡ all_postings lists = c.table.ensures.same ∙ ap (λ (behind : List Posting). flat t.postings.closed ++ behind) h.none_pending ∙ append-nil (flat t.postings.closed)
    ∙ ap flat (sym parts) ∙ flat_map-map (λ (part : List Posting). part) (λ (l : TermList). l.postings) lists in
    record { same = held ∙ ap (λ (v : IndexParts). all_postings v.lists) c.self.view_is }
