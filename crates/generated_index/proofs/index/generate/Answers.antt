use Rattle.std.proofs.Common.{◌≡◌, ℕ, ◌+◌, ◌^◌, ◌<◌, ◌≤◌, List, length, map, take, drop, refl, sym, ap, subst, ◌∙◌, arith}
use Rattle.std.specs.List.{range_with_len}
use Rattle.std.proofs.lemmas.List.{length-map}
use Rattle.std.proofs.lemmas.List.FromFn.{length-map-range_with_len}
use Rattle.rgb_base.specs.declared.parts.Posting.{Posting}
use Rattle.rgb_base.specs.declared.parts.TermList.{TermList}
use Rattle.rgb_base.specs.Parts.{IndexParts, AreOrdered}
use Rattle.rgb_base.specs.Table.{AreSplits, cut_at, with_postings}
use Rattle.generated_index.specs.Generated.{generated, list_of, record_of, terms_drawn, all_terms}
use Rattle.generated_index.specs.Steps.{AreFilled, begins, bare_list, bare_index, ends_of}
use Rattle.generated_index.proofs.Steps.{begins_none, filled_all}
use Rattle.generated_index.proofs.Counting.{all_terms_are, begins_small}
use Rattle.generated_index.proofs.Lists.{cut_all, splits_all, lists_are}
use Rattle.generated_index.proofs.index.generate.Goals as goal

-- the table, cut at the ends
cut : (number documents : ℕ) (table : List Posting) → AreFilled number documents 0 documents table
    → cut_at 0 (ends_of number documents (terms_drawn number documents)) (map (bare_list number documents) (terms_drawn number documents)) table
    ≡ map (list_of number documents) (terms_drawn number documents)
cut number documents table filled =
    let terms = terms_drawn number documents in
    subst (λ (from : ℕ). cut_at from (ends_of number documents terms) (map (bare_list number documents) terms) table ≡ map (list_of number documents) terms) (begins_none number documents)
    (cut_all number documents table (λ term small. filled_all number documents term table filled small))

-- the bare index with its postings is the generated one
whole : (number documents : ℕ) (table : List Posting) → AreFilled number documents 0 documents table → with_postings (bare_index number documents) table (ends_of number documents (terms_drawn number documents)) ≡ generated number documents
unfolding generated
whole number documents table filled =
    ap (λ (lists : List TermList). let parts : IndexParts = record (generated number documents) { lists = lists } in parts) (cut number documents table filled)

both : (number documents : ℕ) (index : IndexParts) (ends : List ℕ) (table : List Posting) → index ≡ bare_index number documents → ends ≡ ends_of number documents (terms_drawn number documents) → AreFilled number documents 0 documents table
    → with_postings index table ends ≡ generated number documents
both number documents index ends table is_index are_ends filled =
    ap (λ (v : IndexParts). with_postings v table ends) is_index ∙ ap (with_postings (bare_index number documents) table) are_ends ∙ whole number documents table filled

ordered : (number documents : ℕ) → AreOrdered (length (generated number documents).documents) (generated number documents).lists
unfolding generated
ordered number documents =
    let count : documents ≡ length (map record_of (range_with_len 0 documents)) = sym (length-map-range_with_len record_of 0 documents) in
    subst (λ (n : ℕ). AreOrdered n (map (list_of number documents) (terms_drawn number documents))) count (lists_are number documents (terms_drawn number documents))

pub with_postings-requires-clause-len : goal.with_postings-requires-clause-len
with_postings-requires-clause-len c =
    let number = c.args.number in
    let documents = c.args.documents in
    let terms = terms_drawn number documents in
    ap (λ (es : List ℕ). length es) c.in_ok-ends.ensures.ends ∙ length-map terms (λ (t : ℕ). begins number documents (t + 1)) ∙ sym (length-map terms (bare_list number documents))
    ∙ sym (ap (λ (v : IndexParts). length v.lists) c.in_ok-index.ensures.ok)

pub with_postings-requires-clause-splits : goal.with_postings-requires-clause-splits
with_postings-requires-clause-splits c =
    let number = c.args.number in
    let documents = c.args.documents in
    let table = c.in_ok-table.table.items in
    let from = subst (λ (n : ℕ). AreSplits n (ends_of number documents (terms_drawn number documents)) (begins number documents all_terms)) (begins_none number documents) (splits_all number documents) in
    let size = subst (λ (n : ℕ). AreSplits 0 (ends_of number documents (terms_drawn number documents)) n) (sym c.in_ok-table.ensures.filled.len) from in
    subst (λ (es : List ℕ). AreSplits 0 es (length table)) (sym c.in_ok-ends.ensures.ends) size

pub with_postings-requires-clause-few : goal.with_postings-requires-clause-few
with_postings-requires-clause-few c =
    omega (arith, c.in_ok-table.ensures.filled.len, begins_small c.args.number c.args.documents all_terms c.requires (omega (arith, all_terms_are)))

pub with_postings-requires-clause-rising : goal.with_postings-requires-clause-rising
with_postings-requires-clause-rising c =
    let number = c.args.number in
    let documents = c.args.documents in
    let index = c.in_ok-index.index in
    let table = c.in_ok-table.table.items in
    let ends = c.in_ok-ends.ends.items in
    let is = both number documents index ends table c.in_ok-index.ensures.ok c.in_ok-ends.ensures.ends c.in_ok-table.ensures.filled in
    subst (λ (v : IndexParts). AreOrdered (length v.documents) v.lists) (sym is) (ordered number documents)

pub returns-clause-ok : goal.returns-clause-ok
returns-clause-ok c =
    c.with_postings.ensures.same ∙ both c.args.number c.args.documents c.in_ok-index.index c.in_ok-ends.ends.items c.in_ok-table.table.items c.in_ok-index.ensures.ok c.in_ok-ends.ensures.ends c.in_ok-table.ensures.filled
