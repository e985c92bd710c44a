use Rattle.std.proofs.Common.{◌≡◌, ℕ, List, length, All, sym, ap, subst, ◌∙◌, arith}
use Rattle.std.specs.Prelude.{FitsSigned}
use Rattle.std.specs.Int.{w32}
use Rattle.rgb_base.specs.declared.parts.Posting.{Posting}
use Rattle.rgb_base.specs.declared.parts.TermList.{TermList}
use Rattle.rgb_base.specs.Parts.{IndexParts, IsIndex}
use Rattle.rgb_base.specs.Flat.{pieces, lists_of, records_of}
use Rattle.rgb_base.specs.Table.{cut_at, with_postings}
use Rattle.rgb_base.proofs.Refilled.{cut_at-lists_of, IsIndex-refilled}
use Rattle.rgb_base.proofs.Rows.{length-lists_of}
use Rattle.rgb_base.proofs.Cuts.{length-pieces}
use Rattle.rgb_base.proofs.index.Index.with_postings.Goals as goal

pub returns-clause-same : goal.returns-clause-same
returns-clause-same c =
    let t = c.self.inside in
    let h = c.self.invariant in
    let parts : List TermList → IndexParts = λ lists. record { header = t.header; lists = lists; documents = records_of t.names t.sizes.items } in
    ap (λ (closed : List (List Posting)). parts (lists_of t.terms t.counts.items closed)) c.of.ensures.closed
    ∙ ap parts (sym (cut_at-lists_of 0 c.args.ends.items t.terms t.counts.items t.postings.closed c.args.table.items h.lists.terms_len h.lists.parts_len))
    ∙ ap (λ (v : IndexParts). with_postings v c.args.table.items c.args.ends.items) c.self.view_is

pub returns-clause-sound : goal.returns-clause-sound
returns-clause-sound c =
    let index = subst IsIndex c.self.view_is c.self.invariant.index in
    let values : All (λ (posting : Posting). FitsSigned w32 posting.tf) c.args.table.items = subst (All (λ (posting : Posting). FitsSigned w32 posting.tf)) c.deref.ensures.value c.values_fit.ensures in
    subst IsIndex (sym (returns-clause-same c)) (IsIndex-refilled c.args.self c.args.table.items c.args.ends.items index c.requires.len c.requires.splits c.requires.few c.requires.rising values)

pub invariant_of-result : goal.invariant_of-result
invariant_of-result c =
    let t = c.self.inside in
    let h = c.self.invariant in
    let count : length c.args.self.lists ≡ length t.counts.items = ap (λ (v : IndexParts). length v.lists) (sym c.self.view_is) ∙ length-lists_of t.terms t.counts.items t.postings.closed h.lists.terms_len h.lists.parts_len in
    record {
      index = returns-clause-sound c;
      lists = record { terms_len = h.lists.terms_len; parts_len = ap length c.of.ensures.closed ∙ length-pieces 0 c.args.ends.items c.args.table.items ∙ c.requires.len ∙ count };
      records = h.records;
      none_pending = c.of.ensures.pending;
    }
