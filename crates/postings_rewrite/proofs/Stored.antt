-- What is stored of the table of an index, and of one that was renumbered.
use Rattle.std.proofs.Common.{◌≡◌, ℕ, zero, suc, ◌+◌, ◌-◌, ◌<◌, ◌≤◌, ◌^◌, List, [], ◌∷◌, ◌++◌, length, get_or, take, drop, map, refl, sym, ap, subst, ◌∙◌, All, arith, length-append}
use Rattle.std.specs.Prelude.{slice_index, flat_map, sum_by}
use Rattle.std.specs.List.{AllZip}
use Rattle.std.proofs.lemmas.List.{length-map, map-append, take-append-drop, length-take-le, length-drop, nil_from_length}
use Rattle.std.proofs.lemmas.List.Elements.{All-map, All-tail}
use Rattle.std.proofs.lemmas.List.Sums.{sum_by-cons}
use Rattle.rgb_base.specs.declared.parts.Posting.{Posting}
use Rattle.rgb_base.specs.declared.parts.TermList.{TermList}
use Rattle.rgb_base.specs.Parts.{IndexParts, IsIndex, IsPostings, AreOrdered, posting_count}
use Rattle.rgb_base.specs.Order.{IsOrder}
use Rattle.rgb_base.specs.Laws.{NumbersUndoTheOrder}
use Rattle.rgb_base.specs.Table.{all_postings, cut_anew, with_table, AreEnds}
use Rattle.postings_rewrite.specs.Renumbering.{IsRenumbered}
use Rattle.postings_rewrite.specs.Tables.{IsTableRenumbered}
use Rattle.postings_rewrite.specs.Stores.{StoredLists, AreDocuments, IsStore, stored_of, IsStoredRenumbered}
use Rattle.postings_rewrite.specs.Pieces.{pieces, AreCuts, stored_in, IsStorable, AreListsRenumbered}
use Rattle.postings_rewrite.proofs.Pieces.{ends_from, total, length-ends_from, AreCuts-of, pieces-of}
use Rattle.postings_rewrite.proofs.Rising.{docs_of}
use Rattle.postings_rewrite.proofs.Indexes.{renumbered_ordered, IsRenumbered-with_table}

abbrev documents_in : List TermList → List (List ℕ)
documents_in lists = map (λ list. docs_of list.postings) lists

abbrev doc_of : Posting → ℕ
doc_of posting = posting.doc

abbrev count_in : TermList → ℕ
count_in list = length list.postings

total-documents : (lists : List TermList) → total (documents_in lists) ≡ posting_count lists
total-documents [] = refl
total-documents (list ∷ lists) =
    let rest = total-documents lists in
    omega (
      arith,
      rest,
      sum_by-cons (λ (part : List ℕ). length part) (docs_of list.postings) (documents_in lists),
      sum_by-cons count_in list lists,
      length-map list.postings doc_of,
    )

-- the documents of the table are those of the lists, one list behind another
documents_of_all : (lists : List TermList) → docs_of (all_postings lists) ≡ flat_map (λ part. part) (documents_in lists)
documents_of_all [] = refl
documents_of_all (list ∷ lists) = map-append doc_of list.postings (all_postings lists) ∙ ap (λ rest. docs_of list.postings ++ rest) (documents_of_all lists)

-- the ends of the lists are those of their documents
ends_are : (from : ℕ) (lists : List TermList) (ends : List ℕ) → length ends ≡ length lists
    → ((k : ℕ) → k < length lists → slice_index ends k ≡ from + posting_count (take (suc k) lists))
    → ends ≡ ends_from from (documents_in lists)
ends_are from [] [] len each = refl
ends_are from [] (end ∷ ends) len each = absurd (omega (arith, len))
ends_are from (list ∷ lists) [] len each = absurd (omega (arith, len))
ends_are from (list ∷ lists) (end ∷ ends) len each =
    let size = length-map list.postings doc_of in
    let next = from + length (docs_of list.postings) in
    let first : end ≡ next = omega (arith, each 0 (omega arith), sum_by-cons count_in list [], size) in
    let rest : ends ≡ ends_from next (documents_in lists) = ends_are next lists ends (omega (arith, len)) (λ k within.
    omega (arith, each (suc k) (omega arith), sum_by-cons count_in list (take (suc k) lists), size)) in
    ap (λ n. n ∷ ends) first ∙ ap (λ ns. next ∷ ns) rest

ends_same : (lists : List TermList) (ends : List ℕ) → AreEnds lists ends → ends ≡ ends_from 0 (documents_in lists)
ends_same lists ends are =
    ends_are 0 lists ends are.len (λ k within.
    let next : k + 1 ≡ suc k = omega arith in
    omega (arith, are.each k within, ap (λ (n : ℕ). posting_count (take n lists)) next))

pub stored_same : (lists : List TermList) (ends : List ℕ) (documents : ℕ) → AreEnds lists ends
    → stored_in documents ends (all_postings lists) ≡ record { lists = documents_in lists; documents = documents }
stored_same lists ends documents are =
    let parts : pieces 0 ends (docs_of (all_postings lists)) ≡ documents_in lists =
    ap (λ (es : List ℕ). pieces 0 es (docs_of (all_postings lists))) (ends_same lists ends are)
    ∙ (ap (pieces 0 (ends_from 0 (documents_in lists))) (documents_of_all lists) ∙ pieces-of 0 (documents_in lists) [] refl) in
    ap (λ (ls : List (List ℕ)). let s : StoredLists = record { lists = ls; documents = documents } in s) parts

pub ordered_store : (lists : List TermList) (documents : ℕ) → AreOrdered documents lists → IsStore (record { lists = documents_in lists; documents = documents })
ordered_store lists documents ordered =
    All-map (AreDocuments documents) (λ (list : TermList). docs_of list.postings) lists (λ k d within.
    let is = ordered k d within in
    record { rising = is.rising; below = All-map (λ (doc : ℕ). doc < documents) doc_of (get_or lists k d).postings is.below })

count_of_all : (lists : List TermList) → length (all_postings lists) ≡ posting_count lists
count_of_all [] = refl
count_of_all (list ∷ lists) = let rest = count_of_all lists in omega (arith, rest, length-append list.postings (all_postings lists), sum_by-cons count_in list lists)

pub storable : (lists : List TermList) (ends : List ℕ) (documents : ℕ) → length lists < 2 ^ 31 → posting_count lists < 2 ^ 32 → AreOrdered documents lists → AreEnds lists ends
    → IsStorable documents ends (all_postings lists)
storable lists ends documents few small ordered are =
    let size : 0 + total (documents_in lists) ≤ length (all_postings lists) = omega (arith, total-documents lists, count_of_all lists) in
    record {
      few = omega (arith, few, are.len);
      small = omega (arith, small, count_of_all lists);
      cuts = subst (λ (es : List ℕ). AreCuts 0 es (length (all_postings lists))) (sym (ends_same lists ends are)) (AreCuts-of 0 (documents_in lists) (length (all_postings lists)) size);
      sound = subst IsStore (sym (stored_same lists ends documents are)) (ordered_store lists documents ordered);
    }

-- ---- cut anew from a table, the lists have that table and the same ends

cut_lists : (lists : List TermList) (table : List Posting) → length (cut_anew lists table) ≡ length lists
unfolding cut_anew
cut_lists [] table = refl
cut_lists (list ∷ lists) table = ap suc (cut_lists lists (drop (length list.postings) table))

cut_table : (lists : List TermList) (table : List Posting) → length table ≡ posting_count lists → all_postings (cut_anew lists table) ≡ table
unfolding cut_anew
cut_table [] table len = sym (nil_from_length table len)
cut_table (list ∷ lists) table len =
    let n = length list.postings in
    let rest : all_postings (cut_anew lists (drop n table)) ≡ drop n table = cut_table lists (drop n table) (omega (arith, len, sum_by-cons count_in list lists, length-drop n table)) in
    ap (λ ps. take n table ++ ps) rest ∙ take-append-drop n table

cut_count : (lists : List TermList) (table : List Posting) (k : ℕ) → length table ≡ posting_count lists → posting_count (take k (cut_anew lists table)) ≡ posting_count (take k lists)
unfolding cut_anew
cut_count [] table zero len = refl
cut_count [] table (suc k) len = refl
cut_count (list ∷ lists) table zero len = refl
cut_count (list ∷ lists) table (suc k) len =
    let n = length list.postings in
    let cut : TermList = record list { postings = take n table } in
    let sum = sum_by-cons count_in list lists in
    let rest = cut_count lists (drop n table) k (omega (arith, len, sum, length-drop n table)) in
    let size : length (take n table) ≡ n = length-take-le n table (omega (arith, len, sum)) in
    omega (arith, rest, size, sum_by-cons count_in cut (take k (cut_anew lists (drop n table))), sum_by-cons count_in list (take k lists))

cut_ends : (lists : List TermList) (table : List Posting) (ends : List ℕ) → length table ≡ posting_count lists → AreEnds lists ends → AreEnds (cut_anew lists table) ends
cut_ends lists table ends len are = record {
  len = omega (arith, are.len, cut_lists lists table);
  each = λ k within. omega (arith, are.each k (omega (arith, within, cut_lists lists table)), cut_count lists table (k + 1) len);
}

pub lists_renumbered : (index : IndexParts) (order : List ℕ) (ends : List ℕ) (table : List Posting) → NumbersUndoTheOrder → IsIndex index → IsOrder order → length order ≡ length index.documents
    → IsTableRenumbered order index.lists table → AreEnds index.lists ends → AreListsRenumbered index order ends table
lists_renumbered index order ends table undo sound ordered len whole are =
    let documents = length index.documents in
    let lists = cut_anew index.lists table in
    let back : all_postings lists ≡ table = cut_table index.lists table whole.len in
    let anew : AreEnds lists ends = cut_ends index.lists table ends whole.len are in
    let is : IsRenumbered index order (with_table index table order) = IsRenumbered-with_table index order table ordered len whole in
    let old : AreOrdered (length order) index.lists = subst (λ (n : ℕ). AreOrdered n index.lists) (sym len) sound.ordered in
    let rising : AreOrdered documents lists = subst (λ (n : ℕ). AreOrdered n lists) len (renumbered_ordered order index.lists lists undo ordered old whole.parts) in
    let same : stored_in documents ends table ≡ record { lists = documents_in lists; documents = documents } =
    subst (λ (t : List Posting). stored_in documents ends t ≡ record { lists = documents_in lists; documents = documents }) back (stored_same lists ends documents anew) in
    record {
      storable = subst (λ (t : List Posting). IsStorable documents ends t) back (storable lists ends documents (omega (arith, sound.counted.lists, cut_lists index.lists table)) (omega (arith, sound.sized.postings, whole.len, count_of_all lists, ap length back)) rising anew);
      stored = record {
        new = with_table index table order;
        renumbered = is;
        same = same ∙ ap (λ (n : ℕ). let s : StoredLists = record { lists = documents_in lists; documents = n } in s) (sym is.records.len);
      };
    }
