use Rattle.std.proofs.Common.{◌≡◌, ℕ, ℤ, pos, ◌<◌, List, [], length, get_or, map, sum_by, All, sym, ap, subst, ◌∙◌, arith}
use Rattle.rgb_base.specs.declared.parts.Posting.{Posting}
use Rattle.rgb_base.specs.declared.parts.TermList.{TermList}
use Rattle.rgb_base.specs.Parts.{IndexParts, IsIndex, posting_count}
use Rattle.rgb_base.specs.Flat.{lists_of}
use Rattle.rgb_base.proofs.index.Index.with_table.Goals as goal
use Rattle.rgb_base.specs.Table.{with_table}
use Rattle.rgb_base.proofs.Rows.{length-records_of, parts_of_lists, sum_by-mapped, length-cut_like}
use Rattle.std.specs.Prelude.{FitsSigned}
use Rattle.std.specs.Int.{w32}
use Rattle.rgb_base.proofs.Moved.{IsIndex-moved, columns, moved_parts}
use Rattle.std.proofs.lemmas.List.{length-map, nil_from_length}

pub with-requires : goal.with-requires
with-requires c =
    let t = c.self.inside in
    let h = c.self.invariant in
    let lists = lists_of t.terms t.counts.items t.postings.closed in
    let parts = parts_of_lists t.terms t.counts.items t.postings.closed h.lists.terms_len h.lists.parts_len in
    let sum : sum_by (λ (part : List Posting). length part) t.postings.closed ≡ posting_count lists = ap (sum_by (λ (part : List Posting). length part)) (sym parts) ∙ sum_by-mapped (λ (part : List Posting). length part) (λ (l : TermList). l.postings) lists in
    let len = c.requires.len ∙ ap (λ (v : IndexParts). posting_count v.lists) (sym c.self.view_is) in
    omega (arith, len, sum, ap length h.none_pending)

pub names_in_order-requires : goal.names_in_order-requires
names_in_order-requires c =
    let t = c.self.inside in
    let h = c.self.invariant in
    let count : length c.args.self.now.documents ≡ length t.sizes.items = ap (λ (v : IndexParts). length v.documents) (sym c.self.view_is) ∙ length-records_of t.names t.sizes.items h.records in
    omega (arith, c.requires.documents, count, h.records)

pub sizes_in_order-requires : goal.sizes_in_order-requires
sizes_in_order-requires c =
    let t = c.self.inside in
    let h = c.self.invariant in
    let count : length c.args.self.now.documents ≡ length t.sizes.items = ap (λ (v : IndexParts). length v.documents) (sym c.self.view_is) ∙ length-records_of t.names t.sizes.items h.records in
    omega (arith, c.requires.documents, count, ap length c.deref-3.ensures.value)

same : (c : goal.In_ok-sizes) → columns c.in_ok-header.header c.in_ok-terms.terms c.in_ok-counts.counts.items c.in_ok-postings.postings.closed c.in_ok-names.names c.in_ok-sizes.sizes.items
    ≡ with_table c.args.self.now c.args.table.items c.args.order.now
same c =
    let t = c.self.inside in
    let h = c.self.invariant in
    let count : length c.args.self.now.documents ≡ length t.sizes.items = ap (λ (v : IndexParts). length v.documents) (sym c.self.view_is) ∙ length-records_of t.names t.sizes.items h.records in
    let below : All (λ (old : ℕ). old < length t.names) c.args.order.now = λ i d lt. omega (arith, c.is_sound.ensures.sound.numbers.below i d lt, c.requires.documents, count, h.records) in
    let sizes : c.in_ok-sizes.sizes.items ≡ map (λ (old : ℕ). get_or t.sizes.items old (pos 0)) c.args.order.now = c.in_ok-sizes.ensures ∙ ap (λ (ss : List ℤ). map (λ (old : ℕ). get_or ss old (pos 0)) c.args.order.now) c.deref-3.ensures.value in
    moved_parts t.header _ t.terms _ t.counts.items _ t.postings.closed _ t.names _ t.sizes.items _ c.args.table.items c.args.order.now
    c.in_ok-header.ensures c.in_ok-terms.ensures.ok (c.in_ok-counts.ensures.items ∙ c.deref.ensures.value) c.in_ok-postings.ensures.closed c.in_ok-names.ensures sizes h.records below
    ∙ ap (λ (v : IndexParts). with_table v c.args.table.items c.args.order.now) c.self.view_is

sound : (c : goal.In_ok-sizes) → IsIndex (with_table c.args.self.now c.args.table.items c.args.order.now)
sound c =
    let index = subst IsIndex c.self.view_is c.self.invariant.index in
    let values : All (λ (posting : Posting). FitsSigned w32 posting.tf) c.args.table.items = subst (All (λ (posting : Posting). FitsSigned w32 posting.tf)) c.deref-2.ensures.value c.values_fit.ensures in
    IsIndex-moved c.args.self.now c.args.table.items c.args.order.now index c.is_sound.ensures.sound c.requires.documents c.requires.len c.requires.rising values

pub invariant_of-result : goal.invariant_of-result
invariant_of-result c =
    let t = c.self.inside in
    let h = c.self.invariant in
    let terms = ap length c.in_ok-terms.ensures.ok in
    let counts = ap length (c.in_ok-counts.ensures.items ∙ c.deref.ensures.value) in
    let parts = ap length c.in_ok-postings.ensures.closed ∙ length-cut_like t.postings.closed c.args.table.items in
    let names = ap length c.in_ok-names.ensures ∙ length-map c.args.order.now (λ (old : ℕ). get_or t.names old []) in
    let sizes = ap length c.in_ok-sizes.ensures ∙ length-map c.args.order.now (λ (old : ℕ). get_or c.deref-3.result.now old (pos 0)) in
    let none : length c.in_ok-postings.postings.pending ≡ 0 = c.in_ok-postings.ensures.pending ∙ ap length h.none_pending in
    record {
      index = subst IsIndex (sym (same c)) (sound c);
      lists = record { terms_len = terms ∙ h.lists.terms_len ∙ sym counts; parts_len = parts ∙ h.lists.parts_len ∙ sym counts };
      records = names ∙ sym sizes;
      none_pending = nil_from_length c.in_ok-postings.postings.pending none;
    }

pub returns-clause-ok : goal.returns-clause-ok
returns-clause-ok c = same c

pub returns-clause-sound : goal.returns-clause-sound
returns-clause-sound c = subst IsIndex (sym (same c)) (sound c)
