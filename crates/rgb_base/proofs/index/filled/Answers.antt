use Rattle.std.proofs.Common.{List, length, sym, ap, subst, ◌∙◌}
use Rattle.rgb_base.specs.declared.parts.TermList.{TermList}
use Rattle.rgb_base.specs.declared.parts.DocRecord.{DocRecord}
use Rattle.rgb_base.specs.declared.columns.Counts.{Counts}
use Rattle.rgb_base.specs.Parts.{IndexParts, IsIndex}
use Rattle.rgb_base.specs.Flat.{records_of}
use Rattle.rgb_base.proofs.index.filled.Goals as goal
use Rattle.std.proofs.lemmas.List.{length-map}
use Rattle.rgb_base.proofs.Rows.{lists_from_columns, records_from_columns}

pub returns : goal.returns
returns c =
    let lists = lists_from_columns c.args.lists.now c.in_ok-terms.terms c.in_ok-counts.counts.items c.in_ok-postings.postings.closed c.in_ok-terms.ensures c.in_ok-counts.ensures c.in_ok-postings.ensures.closed in
    let records = records_from_columns c.args.documents.now c.in_ok-names.names c.in_ok-sizes.sizes.items c.in_ok-names.ensures c.in_ok-sizes.ensures in
    ap (λ (ls : List TermList). let parts : IndexParts = record { header = c.args.header; lists = ls; documents = records_of c.in_ok-names.names c.in_ok-sizes.sizes.items } in parts) lists
    ∙ ap (λ (ds : List DocRecord). let parts : IndexParts = record { header = c.args.header; lists = c.args.lists.now; documents = ds } in parts) records

pub invariant_of-result : goal.invariant_of-result
invariant_of-result c =
    let terms = ap length c.in_ok-terms.ensures ∙ length-map c.args.lists.now (λ (list : TermList). list.term) in
    let counts = ap length c.in_ok-counts.ensures ∙ length-map c.args.lists.now (λ (list : TermList). let count : Counts = record { df = list.df; cf = list.cf } in count) in
    let parts = ap length c.in_ok-postings.ensures.closed ∙ length-map c.args.lists.now (λ (list : TermList). list.postings) in
    let names = ap length c.in_ok-names.ensures ∙ length-map c.args.documents.now (λ (document : DocRecord). document.name) in
    let sizes = ap length c.in_ok-sizes.ensures ∙ length-map c.args.documents.now (λ (document : DocRecord). document.length) in
    record {
      index = subst IsIndex (sym (returns c)) c.requires.sound;
      lists = record { terms_len = terms ∙ sym counts; parts_len = parts ∙ sym counts };
      records = names ∙ sym sizes;
      none_pending = c.in_ok-postings.ensures.pending;
    }
