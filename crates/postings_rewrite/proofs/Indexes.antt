-- A whole index renumbered.
use Rattle.std.proofs.Common.{◌≡◌, ℕ, zero, suc, ◌<◌, List, [], ◌∷◌, ◌++◌, length, take, drop, get_or, refl, sym, subst, ap, ◌∙◌, All, arith, drop-cons}
use Rattle.std.specs.Prelude.{pos, slice_get, slice_range}
use Rattle.std.specs.List.{AllZip}
use Rattle.std.proofs.lemmas.List.{take_all, drop_all, append-nil}
use Rattle.std.proofs.lemmas.List.Elements.{All-cons, All-tail, All-nil}
use Rattle.std.proofs.lemmas.Option.{slice_get-get_or}
use Rattle.rgb_base.specs.declared.parts.Posting.{Posting}
use Rattle.rgb_base.specs.declared.parts.TermList.{TermList}
use Rattle.rgb_base.specs.declared.parts.DocRecord.{DocRecord}
use Rattle.rgb_base.specs.Parts.{IndexParts, IsPostings, AreOrdered}
use Rattle.rgb_base.specs.Order.{IsOrder}
use Rattle.rgb_base.specs.Laws.{NumbersUndoTheOrder}
use Rattle.rgb_base.specs.Table.{taken_at, with_table}
use Rattle.postings_rewrite.specs.Renumbering.{IsListRenumbered, AreRecordsRenumbered, IsRenumbered}
use Rattle.postings_rewrite.specs.Tables.{IsTableRenumbered}
use Rattle.postings_rewrite.proofs.Rising.{renumbered_below}
use Rattle.postings_rewrite.proofs.Lists.{range_all}

pub renumbered_ordered : (order : List ℕ) (old new : List TermList) → NumbersUndoTheOrder → IsOrder order → AreOrdered (length order) old → AllZip (IsListRenumbered order) old new → AreOrdered (length order) new
renumbered_ordered order [] [] undo ordered is lists = All-nil (λ (list : TermList). IsPostings (length order) list.postings)
renumbered_ordered order [] (y ∷ ys) undo ordered is lists = absurd lists
renumbered_ordered order (x ∷ xs) [] undo ordered is lists = absurd lists
renumbered_ordered order (x ∷ xs) (y ∷ ys) undo ordered is lists =
    let P : TermList → Type 0 = λ list. IsPostings (length order) list.postings in
    All-cons P y ys (renumbered_below order x.postings y.postings undo ordered (is 0 x (omega arith)) lists.0.postings) (renumbered_ordered order xs ys undo ordered (All-tail P x xs is) lists.1)

abbrev pub no_record : DocRecord
no_record = record { name = []; length = pos 0 }

one_taken : (number : ℕ) (documents : List DocRecord) → number < length documents → take 1 (drop number documents) ≡ get_or documents number no_record ∷ []
one_taken number documents within = ap (take 1) (drop-cons documents number no_record within)

taken-cons : (number : ℕ) (numbers : List ℕ) (documents : List DocRecord) → number < length documents → taken_at (number ∷ numbers) documents ≡ get_or documents number no_record ∷ taken_at numbers documents
taken-cons number numbers documents within = ap (λ (front : List DocRecord). front ++ taken_at numbers documents) (one_taken number documents within)

length-taken : (numbers : List ℕ) (documents : List DocRecord) → All (λ number. number < length documents) numbers → length (taken_at numbers documents) ≡ length numbers
length-taken [] documents low = refl
length-taken (number ∷ numbers) documents low =
    ap length (taken-cons number numbers documents (low 0 0 (omega arith))) ∙ ap suc (length-taken numbers documents (All-tail (λ (n : ℕ). n < length documents) number numbers low))

taken-at : (numbers : List ℕ) (documents : List DocRecord) (i : ℕ) → All (λ number. number < length documents) numbers → i < length numbers → slice_get (taken_at numbers documents) i ≡ slice_get documents (get_or numbers i 0)
taken-at [] documents i low within = absurd (omega (arith, within))
taken-at (number ∷ numbers) documents zero low within =
    let here : number < length documents = low 0 0 (omega arith) in
    ap (λ (records : List DocRecord). slice_get records 0) (taken-cons number numbers documents here) ∙ sym (slice_get-get_or documents number no_record here)
taken-at (number ∷ numbers) documents (suc i) low within =
    ap (λ (records : List DocRecord). slice_get records (suc i)) (taken-cons number numbers documents (low 0 0 (omega arith)))
    ∙ taken-at numbers documents i (All-tail (λ (n : ℕ). n < length documents) number numbers low) (omega arith)

pub AreRecordsRenumbered-taken : (order : List ℕ) (documents : List DocRecord) → IsOrder order → length order ≡ length documents → AreRecordsRenumbered order documents (taken_at order documents)
AreRecordsRenumbered-taken order documents ordered len =
    let low : All (λ number. number < length documents) order = λ k d within. omega (arith, ordered.numbers.below k d within) in
    record { len = length-taken order documents low ∙ len; each = λ number within. taken-at order documents number low within }

pub IsRenumbered-with_table : (index : IndexParts) (order : List ℕ) (table : List Posting) → IsOrder order → length order ≡ length index.documents → IsTableRenumbered order index.lists table → IsRenumbered index order (with_table index table order)
IsRenumbered-with_table index order table ordered len is = record { header = refl; lists = is.parts; records = AreRecordsRenumbered-taken order index.documents ordered len }

-- ---- the table as a vector gives it back

pub given_back : (old new : List Posting) (len : ℕ) → length new ≡ length old → len ≡ length old → take len (new ++ drop (length new) old) ≡ new
given_back old new len same whole =
    ap (λ (rest : List Posting). take len (new ++ rest)) (drop_all (length new) old (omega arith)) ∙ ap (take len) (append-nil new) ∙ take_all len new (omega arith)

pub whole_table : (order : List ℕ) (lists : List TermList) (n : ℕ) (table : List Posting) → n ≡ length lists → IsTableRenumbered order (slice_range lists 0 n) table → IsTableRenumbered order lists table
whole_table order lists n table same is =
    subst (λ (xs : List TermList). IsTableRenumbered order xs table) (ap (slice_range lists 0) same ∙ range_all lists) is
