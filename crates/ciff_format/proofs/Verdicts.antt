-- A file has one index, or one refusal, and never both.
use Rattle.std.proofs.Common.{◌≡◌, ℕ, ◌<◌, List, length, get_or, refl, sym, ap, subst, ◌∙◌, arith}
use Rattle.std.specs.List.{All, Contains}
use Rattle.std.proofs.lemmas.List.{length-map, get_or-map, same_lists}
use Rattle.std.proofs.lemmas.List.Elements.{All-map}
use Rattle.std.proofs.lemmas.Option.{get_or_from_slice_get}
use Rattle.rgb_base.specs.declared.parts.TermList.{TermList}
use Rattle.rgb_base.specs.declared.parts.DocRecord.{DocRecord}
use Rattle.rgb_base.specs.declared.parts.Header.{Header}
use Rattle.rgb_base.specs.Parts.{IndexParts}
use Rattle.ciff_format.specs.declared.cause.Cause.{Cause}
use Rattle.ciff_format.specs.declared.cause.Cause.TheVariants.{Trailing}
use Rattle.ciff_format.specs.Messages.{Numbered, RecordAt}
use Rattle.ciff_format.specs.Accepted.{Front, parts_so_far, numbers_of, ExpectsList, ExpectsRecord, ExpectsNothing, Good, HasRecord, Accepted}
use Rattle.ciff_format.specs.Growing.{front_of}
use Rattle.ciff_format.specs.Refused.{IsFaultAt, IsHeaderFault, IsListFault, IsRecordFault, Refused, at_header, at_list, at_record, at_end}
use Rattle.ciff_format.specs.Laws.{FileIsOneIndex, RefusalIsOne, NeverBoth}
use Rattle.ciff_format.proofs.Once.{Wire}
use Rattle.ciff_format.proofs.Lists.{all_numbers, row_all}
use Rattle.ciff_format.proofs.Compare.{Next, a_list, a_record, Compared, same, goes_on, stops, compare, smaller}
use Rattle.ciff_format.proofs.Refusals.{header_once_wrong, header_not_wrong, list_once_wrong, list_not_wrong, record_once_wrong, record_not_wrong}

-- ---- behind good messages

-- something is wrong behind the front
data Stuck (bytes : List ℕ) (place : ℕ) (front : Front) (cause : Cause) : Type 0 where
  in_list : ExpectsList front → IsFaultAt (IsListFault front) bytes place cause → Stuck bytes place front cause
  in_record : ExpectsRecord front → IsFaultAt (IsRecordFault front) bytes place cause → Stuck bytes place front cause
  behind_all : ExpectsNothing front → place < length bytes → cause ≡ Trailing → Stuck bytes place front cause

stuck_once : Wire → (bytes : List ℕ) (place : ℕ) (front : Front) (c d : Cause) → Stuck bytes place front c → Stuck bytes place front d → c ≡ d
stuck_once wire bytes place front c d (in_list e p) (in_list f q) = list_once_wrong wire front bytes place c d p q
stuck_once wire bytes place front c d (in_list e p) (in_record f q) = absurd (omega (arith, e, f.0))
stuck_once wire bytes place front c d (in_list e p) (behind_all f lt q) = absurd (omega (arith, e, f.0))
stuck_once wire bytes place front c d (in_record e p) (in_list f q) = absurd (omega (arith, f, e.0))
stuck_once wire bytes place front c d (in_record e p) (in_record f q) = record_once_wrong wire front bytes place c d p q
stuck_once wire bytes place front c d (in_record e p) (behind_all f lt q) = absurd (omega (arith, e.1, f.1))
stuck_once wire bytes place front c d (behind_all e lt p) (in_list f q) = absurd (omega (arith, f, e.0))
stuck_once wire bytes place front c d (behind_all e lt p) (in_record f q) = absurd (omega (arith, f.1, e.1))
stuck_once wire bytes place front c d (behind_all e lt p) (behind_all f also q) = p ∙ sym q

stuck_not_next : Wire → (bytes : List ℕ) (place : ℕ) (front : Front) (c : Cause) → Stuck bytes place front c → Next bytes place front → ⊥
stuck_not_next wire bytes place front c (in_list e p) (a_list list next is) = list_not_wrong wire bytes place front list next is c p
stuck_not_next wire bytes place front c (in_list e p) (a_record one next is) = omega (arith, e, is.expected.0)
stuck_not_next wire bytes place front c (in_record e p) (a_list list next is) = omega (arith, is.expected, e.0)
stuck_not_next wire bytes place front c (in_record e p) (a_record one next is) = record_not_wrong wire bytes place front one next is c p
stuck_not_next wire bytes place front c (behind_all e lt p) (a_list list next is) = omega (arith, is.expected, e.0)
stuck_not_next wire bytes place front c (behind_all e lt p) (a_record one next is) = omega (arith, is.expected.1, e.1)

-- nothing is expected behind the last message
end_not_next : (bytes : List ℕ) (place : ℕ) (front : Front) → ExpectsNothing front → Next bytes place front → ⊥
end_not_next bytes place front whole (a_list list next is) = omega (arith, is.expected, whole.0)
end_not_next bytes place front whole (a_record one next is) = omega (arith, is.expected.1, whole.1)

-- ---- refusals

-- the header is wrong, or something behind good messages
data Wrong (bytes : List ℕ) (place : ℕ) (cause : Cause) : Type 0 where
  header_wrong : place ≡ 0 → IsFaultAt IsHeaderFault bytes place cause → Wrong bytes place cause
  behind_wrong : (front : Front) → Good bytes place front → Stuck bytes place front cause → Wrong bytes place cause

wrong_of : (bytes : List ℕ) (place : ℕ) (cause : Cause) → Refused bytes place cause → Wrong bytes place cause
wrong_of bytes place cause (at_header e p) = header_wrong e p
wrong_of bytes place cause (at_list front good e p) = behind_wrong front good (in_list e p)
wrong_of bytes place cause (at_record front good e p) = behind_wrong front good (in_record e p)
wrong_of bytes place cause (at_end front good e lt p) = behind_wrong front good (behind_all e lt p)

good_header : Wire → (bytes : List ℕ) (place p : ℕ) (cause : Cause) (front : Front) → place ≡ 0 → Good bytes p front → IsFaultAt IsHeaderFault bytes place cause → ⊥
good_header wire bytes place p cause front e good wrong =
    let sized = smaller (parts_so_far (front_of front.header front.list_count front.document_count)) (parts_so_far front) refl (omega arith) (omega arith) (omega arith) good.rules.sized in
    header_not_wrong wire bytes front.header front.list_count front.document_count good.lists_begin good.header sized cause (subst (λ k. IsFaultAt IsHeaderFault bytes k cause) e wrong)

stuck_at_one : Wire → (bytes : List ℕ) (p q : ℕ) (c d : Cause) (f g : Front) → Stuck bytes p f c → Stuck bytes q g d → Compared bytes p q f g → (p ≡ q) × (c ≡ d)
stuck_at_one wire bytes p q c d f g x y (same e h) =
    (e, stuck_once wire bytes q g c d (subst (λ (k : Front). Stuck bytes q k c) h (subst (λ k. Stuck bytes k f c) e x)) y)
stuck_at_one wire bytes p q c d f g x y (goes_on next) = absurd (stuck_not_next wire bytes p f c x next)
stuck_at_one wire bytes p q c d f g x y (stops next) = absurd (stuck_not_next wire bytes q g d y next)

wrong_once : Wire → (bytes : List ℕ) (p q : ℕ) (c d : Cause) → Wrong bytes p c → Wrong bytes q d → (p ≡ q) × (c ≡ d)
wrong_once wire bytes p q c d (header_wrong e x) (header_wrong f y) =
    let at : p ≡ q = e ∙ sym f in
    (at, header_once_wrong wire bytes q c d (subst (λ k. IsFaultAt IsHeaderFault bytes k c) at x) y)
wrong_once wire bytes p q c d (header_wrong e x) (behind_wrong g good y) = absurd (good_header wire bytes p q c g e good x)
wrong_once wire bytes p q c d (behind_wrong f good x) (header_wrong e y) = absurd (good_header wire bytes q p d f e good y)
wrong_once wire bytes p q c d (behind_wrong f good x) (behind_wrong g fine y) =
    stuck_at_one wire bytes p q c d f g x y (compare wire bytes p q f g good fine)

pub refusal_is_one : Wire → RefusalIsOne
refusal_is_one wire bytes p q c d x y = wrong_once wire bytes p q c d (wrong_of bytes p c x) (wrong_of bytes q d y)

-- ---- never both

stuck_not_whole : Wire → (bytes : List ℕ) (p : ℕ) (c : Cause) (f g : Front) → Stuck bytes p f c → ExpectsNothing g → Compared bytes p (length bytes) f g → ⊥
stuck_not_whole wire bytes p c f g x whole (goes_on next) = stuck_not_next wire bytes p f c x next
stuck_not_whole wire bytes p c f g x whole (stops next) = end_not_next bytes (length bytes) g whole next
stuck_not_whole wire bytes p c f g x whole (same e h) = at_the_end (subst (λ (k : Front). Stuck bytes p k c) h x)
  where
    at_the_end : Stuck bytes p g c → ⊥
    at_the_end (in_list expected w) = omega (arith, expected, whole.0)
    at_the_end (in_record expected w) = omega (arith, expected.1, whole.1)
    at_the_end (behind_all expected lt w) = omega (arith, lt, e)

not_both : Wire → (bytes : List ℕ) (index : IndexParts) (p : ℕ) (c : Cause) → Accepted bytes index → Wrong bytes p c → ⊥
not_both wire bytes index p c is (header_wrong e x) = good_header wire bytes p (length bytes) c is.front e is.good x
not_both wire bytes index p c is (behind_wrong f good x) =
    stuck_not_whole wire bytes p c f is.front x is.whole (compare wire bytes p (length bytes) f is.front good is.good)

pub never_both : Wire → NeverBoth
never_both wire bytes index p c is x = not_both wire bytes index p c is (wrong_of bytes p c x)

-- ---- one index

same_front : (bytes : List ℕ) (f g : Front) → ExpectsNothing f → ExpectsNothing g → Compared bytes (length bytes) (length bytes) f g → f ≡ g
same_front bytes f g whole all (same e h) = h
same_front bytes f g whole all (goes_on next) = absurd (end_not_next bytes (length bytes) f whole next)
same_front bytes f g whole all (stops next) = absurd (end_not_next bytes (length bytes) g all next)

-- each document below their number has a record
pub has_number : (bytes : List ℕ) (place : ℕ) (front : Front) → Good bytes place front → ExpectsNothing front → (n : ℕ) → n < front.document_count → Contains (numbers_of front.records) n
has_number bytes place front good whole n lt =
    let number = λ (r : Numbered). r.number in
    let below : All (λ k. k < front.document_count) (numbers_of front.records) = All-map (λ k. k < front.document_count) number front.records
    (row_all (RecordAt bytes front.document_count) (λ (r : Numbered). r.number < front.document_count) (λ at r next stands. stands.below) good.records_begin place front.records good.records) in
    all_numbers (numbers_of front.records) front.document_count n good.rules.numbers below (omega (arith, whole.1, length-map front.records number)) lt

-- two lists of documents that have these records are equal there
same_document : (f : Front) (i j : IndexParts) → All (HasRecord i) f.records → All (HasRecord j) f.records → (n : ℕ) (d : DocRecord) → Contains (numbers_of f.records) n → get_or i.documents n d ≡ get_or j.documents n d
same_document f i j has too n d found =
    let number = λ (r : Numbered). r.number in
    let within : found.0 < length f.records = omega (arith, found.1, length-map f.records number) in
    let none : Numbered = record { number = n; document = d } in
    let one = get_or f.records found.0 none in
    let at : one.number ≡ n = sym (get_or-map number f.records found.0 none n within) ∙ found.2 in
    let left : get_or i.documents one.number d ≡ one.document = get_or_from_slice_get i.documents one.number one.document d (has found.0 none within) in
    let right : get_or j.documents one.number d ≡ one.document = get_or_from_slice_get j.documents one.number one.document d (too found.0 none within) in
    sym (ap (λ k. get_or i.documents k d) at) ∙ left ∙ sym right ∙ ap (λ k. get_or j.documents k d) at

same_documents : (bytes : List ℕ) (f : Front) (i j : IndexParts) → Good bytes (length bytes) f → ExpectsNothing f → length i.documents ≡ f.document_count → length j.documents ≡ f.document_count → All (HasRecord i) f.records → All (HasRecord j) f.records → i.documents ≡ j.documents
same_documents bytes f i j good whole count also has too =
    same_lists i.documents j.documents (count ∙ sym also) (λ k d lt. same_document f i j has too k d (has_number bytes (length bytes) f good whole k (omega (arith, lt, count))))

abbrev parts_with : Header → List TermList → List DocRecord → IndexParts
parts_with header lists documents = record { header = header; lists = lists; documents = documents }

pub same_parts : (i j : IndexParts) → i.header ≡ j.header → i.lists ≡ j.lists → i.documents ≡ j.documents → i ≡ j
same_parts i j a b c =
    ap (λ (h : Header). parts_with h i.lists i.documents) a
    ∙ ap (λ (ls : List TermList). parts_with j.header ls i.documents) b
    ∙ ap (parts_with j.header j.lists) c

pub file_is_one_index : Wire → FileIsOneIndex
file_is_one_index wire bytes i j x y =
    let front : x.front ≡ y.front = same_front bytes x.front y.front x.whole y.whole (compare wire bytes (length bytes) (length bytes) x.front y.front x.good y.good) in
    let header = ap (λ (f : Front). f.header) front in
    let lists = ap (λ (f : Front). f.lists) front in
    let count = ap (λ (f : Front). f.document_count) front in
    same_parts i j (x.header ∙ header ∙ sym y.header) (x.lists ∙ lists ∙ sym y.lists)
    (same_documents bytes x.front i j x.good x.whole x.count (y.count ∙ sym count) x.documents (subst (λ (f : Front). All (HasRecord j) f.records) (sym front) y.documents))
