-- What is wrong where a message is expected has one cause, and excludes a good message there.
use Rattle.std.proofs.Common.{◌≡◌, ℕ, ◌<◌, pos, List, [], length, drop, map, get_or, refl, sym, subst, ◌∙◌, arith, inl, inr}
use Rattle.std.specs.Prelude.{◌≤ℤ◌}
use Rattle.std.specs.List.{Contains}
use Rattle.std.proofs.lemmas.Int.{ints}
use Rattle.std.proofs.lemmas.List.{length-map, get_or-map}
use Rattle.ciff_wire.specs.declared.varint.Varint.TheVariants.{Done, Short, Long}
use Rattle.ciff_wire.specs.Varint.{EndsEarly, RunsOn, Reads}
use Rattle.ciff_wire.specs.Field.{Entry}
use Rattle.rgb_base.specs.declared.parts.TermList.{TermList}
use Rattle.rgb_base.specs.declared.parts.DocRecord.{DocRecord}
use Rattle.rgb_base.specs.declared.parts.Header.{Header}
use Rattle.rgb_base.specs.Parts.{terms_of, AreSized}
use Rattle.ciff_format.specs.declared.cause.Cause.{Cause}
use Rattle.ciff_format.specs.declared.cause.Cause.TheVariants.{CutShort, BadLength, BadField, BadText, BadCount, BadGap, SameTerm, BadDoc, Trailing, TooMuch}
use Rattle.ciff_format.specs.Fields.{header_table, list_table, record_table, HasFields, AreTexts, int32_at, text_at}
use Rattle.ciff_format.specs.Messages.{MessageAt, header_of, AreCounts, HeaderAt, PostingRows, HasListFields, gaps_in, AreGaps, IsListOf, Numbered, document_of}
use Rattle.ciff_format.specs.Accepted.{Front, with_list, with_document, parts_so_far, numbers_of}
use Rattle.ciff_format.specs.Growing.{front_of, NextList, NextRecord}
use Rattle.ciff_format.specs.Refused.{IsCutShort, IsTooLong, IsFaultAt, HeaderFault, IsHeaderFault, ListFault, IsListFault, IsBadNumber, RecordFault, IsRecordFault}
use Rattle.ciff_format.proofs.Once.{Wire, message_once, length_once, lengths_once, fields_once, list_fields_once, says_once}

-- ---- the place of a message

-- one reading excludes the others
early_not_read : Wire → (bytes : List ℕ) (value used : ℕ) → EndsEarly bytes → Reads bytes value used → ⊥
early_not_read wire bytes value used early reads = let same = wire.read_is_one bytes Short (Done value used) early reads in cc

long_not_read : Wire → (bytes : List ℕ) (value used : ℕ) → RunsOn bytes → Reads bytes value used → ⊥
long_not_read wire bytes value used on reads = let same = wire.read_is_one bytes Long (Done value used) on reads in cc

not_cut : Wire → (bytes : List ℕ) (place : ℕ) (m : List ℕ) (next : ℕ) → MessageAt bytes place m next → IsCutShort bytes place → ⊥
not_cut wire bytes place m next is (inl early) = early_not_read wire (drop place bytes) (length m) is.used early is.reads
not_cut wire bytes place m next is (inr cut) =
    let same = length_once wire bytes place m next cut.0 is cut.1 in
    omega (arith, same, is.within, cut.3)

not_long : Wire → (bytes : List ℕ) (place : ℕ) (m : List ℕ) (next : ℕ) → MessageAt bytes place m next → IsTooLong bytes place → ⊥
not_long wire bytes place m next is (inl on) = long_not_read wire (drop place bytes) (length m) is.used on is.reads
not_long wire bytes place m next is (inr far) =
    let same = length_once wire bytes place m next far.0 is far.1 in
    omega (arith, same, is.near, far.2)

cut_not_long : Wire → (bytes : List ℕ) (place : ℕ) → IsCutShort bytes place → IsTooLong bytes place → ⊥
cut_not_long wire bytes place (inl early) (inl on) = omega (arith, early.few, on.many)
cut_not_long wire bytes place (inl early) (inr far) = early_not_read wire (drop place bytes) far.1.size far.1.used early far.1.reads
cut_not_long wire bytes place (inr cut) (inl on) = long_not_read wire (drop place bytes) cut.1.size cut.1.used on cut.1.reads
cut_not_long wire bytes place (inr cut) (inr far) =
    let same = lengths_once wire bytes place cut.0 far.0 cut.1 far.1 in
    omega (arith, same, cut.2, far.2)

-- what is wrong where a message is expected, in three cases
pub data Placed (IsWrong : List ℕ → Cause → Type 0) (bytes : List ℕ) (place : ℕ) (cause : Cause) : Type 0 where
  cut : cause ≡ CutShort → IsCutShort bytes place → Placed IsWrong bytes place cause
  too_long : cause ≡ BadLength → IsTooLong bytes place → Placed IsWrong bytes place cause
  wrong : (m : List ℕ) (next : ℕ) → MessageAt bytes place m next → IsWrong m cause → Placed IsWrong bytes place cause

pub placed : (IsWrong : List ℕ → Cause → Type 0) (bytes : List ℕ) (place : ℕ) (cause : Cause) → IsFaultAt IsWrong bytes place cause → Placed IsWrong bytes place cause
placed IsWrong bytes place CutShort p = cut refl p
placed IsWrong bytes place BadLength p = too_long refl p
placed IsWrong bytes place BadField p = wrong p.0 p.1 p.2 p.3
placed IsWrong bytes place BadText p = wrong p.0 p.1 p.2 p.3
placed IsWrong bytes place BadCount p = wrong p.0 p.1 p.2 p.3
placed IsWrong bytes place BadGap p = wrong p.0 p.1 p.2 p.3
placed IsWrong bytes place SameTerm p = wrong p.0 p.1 p.2 p.3
placed IsWrong bytes place BadDoc p = wrong p.0 p.1 p.2 p.3
placed IsWrong bytes place Trailing p = wrong p.0 p.1 p.2 p.3
placed IsWrong bytes place TooMuch p = wrong p.0 p.1 p.2 p.3

-- one message is wrong in one way
abbrev IsOneFault : (List ℕ → Cause → Type 0) → Type 0
IsOneFault IsWrong = (m : List ℕ) (c d : Cause) → IsWrong m c → IsWrong m d → c ≡ d

placed_once : Wire → (IsWrong : List ℕ → Cause → Type 0) → IsOneFault IsWrong → (bytes : List ℕ) (place : ℕ) (c d : Cause) → Placed IsWrong bytes place c → Placed IsWrong bytes place d → c ≡ d
placed_once wire W one bytes place c d (cut e p) (cut f q) = e ∙ sym f
placed_once wire W one bytes place c d (cut e p) (too_long f q) = absurd (cut_not_long wire bytes place p q)
placed_once wire W one bytes place c d (cut e p) (wrong m next is w) = absurd (not_cut wire bytes place m next is p)
placed_once wire W one bytes place c d (too_long e p) (cut f q) = absurd (cut_not_long wire bytes place q p)
placed_once wire W one bytes place c d (too_long e p) (too_long f q) = e ∙ sym f
placed_once wire W one bytes place c d (too_long e p) (wrong m next is w) = absurd (not_long wire bytes place m next is p)
placed_once wire W one bytes place c d (wrong m next is w) (cut f q) = absurd (not_cut wire bytes place m next is q)
placed_once wire W one bytes place c d (wrong m next is w) (too_long f q) = absurd (not_long wire bytes place m next is q)
placed_once wire W one bytes place c d (wrong m next is w) (wrong n behind also v) =
    let same = message_once wire bytes place m n next behind is also in
    one n c d (subst (λ (t : List ℕ). W t c) same.0 w) v

-- and a good message is not wrong
not_placed : Wire → (IsWrong : List ℕ → Cause → Type 0) (bytes : List ℕ) (place : ℕ) (m : List ℕ) (next : ℕ) (c : Cause) → MessageAt bytes place m next → ¬ IsWrong m c → Placed IsWrong bytes place c → ⊥
not_placed wire W bytes place m next c is fine (cut e p) = not_cut wire bytes place m next is p
not_placed wire W bytes place m next c is fine (too_long e p) = not_long wire bytes place m next is p
not_placed wire W bytes place m next c is fine (wrong n behind also w) =
    let same = message_once wire bytes place n m behind next also is in
    fine (subst (λ (t : List ℕ). W t c) same.0 w)

-- ---- the first of four rules that is broken

data Broken (A B C D : Type 0) (w x y z cause : Cause) : Type 0 where
  first : ¬ A → cause ≡ w → Broken A B C D w x y z cause
  second : A → ¬ B → cause ≡ x → Broken A B C D w x y z cause
  third : A → B → ¬ C → cause ≡ y → Broken A B C D w x y z cause
  fourth : A → B → C → ¬ D → cause ≡ z → Broken A B C D w x y z cause

broken_once : (A B C D : Type 0) (w x y z c d : Cause) → Broken A B C D w x y z c → Broken A B C D w x y z d → c ≡ d
broken_once A B C D w x y z c d (first a e) (first b f) = e ∙ sym f
broken_once A B C D w x y z c d (first a e) (second p b f) = absurd (a p)
broken_once A B C D w x y z c d (first a e) (third p q b f) = absurd (a p)
broken_once A B C D w x y z c d (first a e) (fourth p q r b f) = absurd (a p)
broken_once A B C D w x y z c d (second p a e) (first b f) = absurd (b p)
broken_once A B C D w x y z c d (second p a e) (second q b f) = e ∙ sym f
broken_once A B C D w x y z c d (second p a e) (third q r b f) = absurd (a r)
broken_once A B C D w x y z c d (second p a e) (fourth q r s b f) = absurd (a r)
broken_once A B C D w x y z c d (third p q a e) (first b f) = absurd (b p)
broken_once A B C D w x y z c d (third p q a e) (second r b f) = absurd (b q)
broken_once A B C D w x y z c d (third p q a e) (third r s b f) = e ∙ sym f
broken_once A B C D w x y z c d (third p q a e) (fourth r s t b f) = absurd (a t)
broken_once A B C D w x y z c d (fourth p q r a e) (first b f) = absurd (b p)
broken_once A B C D w x y z c d (fourth p q r a e) (second s b f) = absurd (b q)
broken_once A B C D w x y z c d (fourth p q r a e) (third s t b f) = absurd (b r)
broken_once A B C D w x y z c d (fourth p q r a e) (fourth s t u b f) = e ∙ sym f

not_broken : (A B C D : Type 0) (w x y z c : Cause) → A → B → C → D → Broken A B C D w x y z c → ⊥
not_broken A B C D w x y z c p q r s (first a e) = a p
not_broken A B C D w x y z c p q r s (second t a e) = a q
not_broken A B C D w x y z c p q r s (third t u a e) = a r
not_broken A B C D w x y z c p q r s (fourth t u v a e) = a s

-- ---- the header

abbrev HeaderBroken : List Entry → Cause → Type 0
HeaderBroken fields cause =
    Broken (AreTexts header_table fields) (AreCounts fields) (Unit {0}) (AreSized (record { header = header_of fields; lists = []; documents = [] })) BadText BadCount BadCount TooMuch cause

header_broken : (fields : List Entry) (cause : Cause) → HeaderFault fields cause → HeaderBroken fields cause
header_broken fields BadText p = first p refl
header_broken fields BadCount p = second p.0 p.1 refl
header_broken fields TooMuch p = fourth p.0 p.1 tt p.2 refl
header_broken fields CutShort p = absurd p
header_broken fields BadLength p = absurd p
header_broken fields BadField p = absurd p
header_broken fields BadGap p = absurd p
header_broken fields SameTerm p = absurd p
header_broken fields BadDoc p = absurd p
header_broken fields Trailing p = absurd p

data HeaderCase (m : List ℕ) (cause : Cause) : Type 0 where
  no_fields : cause ≡ BadField → ((fields : List Entry) → ¬ HasFields header_table m fields) → HeaderCase m cause
  of_fields : (fields : List Entry) → HasFields header_table m fields → HeaderBroken fields cause → HeaderCase m cause

header_case : (m : List ℕ) (cause : Cause) → IsHeaderFault m cause → HeaderCase m cause
header_case m BadField p = no_fields refl p
header_case m CutShort p = absurd p.2
header_case m BadLength p = absurd p.2
header_case m BadText p = of_fields p.0 p.1 (header_broken p.0 BadText p.2)
header_case m BadCount p = of_fields p.0 p.1 (header_broken p.0 BadCount p.2)
header_case m TooMuch p = of_fields p.0 p.1 (header_broken p.0 TooMuch p.2)
header_case m BadGap p = absurd p.2
header_case m SameTerm p = absurd p.2
header_case m BadDoc p = absurd p.2
header_case m Trailing p = absurd p.2

header_cases_once : Wire → (m : List ℕ) (c d : Cause) → HeaderCase m c → HeaderCase m d → c ≡ d
header_cases_once wire m c d (no_fields e p) (no_fields f q) = e ∙ sym f
header_cases_once wire m c d (no_fields e p) (of_fields fields read broken) = absurd (p fields read)
header_cases_once wire m c d (of_fields fields read broken) (no_fields f q) = absurd (q fields read)
header_cases_once wire m c d (of_fields fields read broken) (of_fields others also worse) =
    let same = fields_once wire header_table m m fields others refl read also in
    broken_once (AreTexts header_table others) (AreCounts others) (Unit {0}) (AreSized (record { header = header_of others; lists = []; documents = [] })) BadText BadCount BadCount TooMuch c d
    (subst (λ (fs : List Entry). HeaderBroken fs c) same broken) worse

header_fault_once : Wire → (m : List ℕ) (c d : Cause) → IsHeaderFault m c → IsHeaderFault m d → c ≡ d
header_fault_once wire m c d p q = header_cases_once wire m c d (header_case m c p) (header_case m d q)

pub header_once_wrong : Wire → (bytes : List ℕ) (place : ℕ) (c d : Cause) → IsFaultAt IsHeaderFault bytes place c → IsFaultAt IsHeaderFault bytes place d → c ≡ d
header_once_wrong wire bytes place c d p q =
    placed_once wire IsHeaderFault (header_fault_once wire) bytes place c d (placed IsHeaderFault bytes place c p) (placed IsHeaderFault bytes place d q)

good_counts : (fields : List Entry) (lists documents : ℕ) → int32_at 2 fields ≡ pos lists → int32_at 3 fields ≡ pos documents → AreCounts fields
good_counts fields lists documents e f = record {
  lists = subst (λ z. pos 0 ≤ℤ z) (sym e) (omega (arith, ints));
  documents = subst (λ z. pos 0 ≤ℤ z) (sym f) (omega (arith, ints));
}

fine_header : Wire → (bytes : List ℕ) (header : Header) (lists documents next : ℕ) (is : HeaderAt bytes header lists documents next) → AreSized (parts_so_far (front_of header lists documents))
    → (c : Cause) → HeaderCase is.message c → ⊥
fine_header wire bytes header lists documents next is sized c (no_fields e none) = none is.fields is.read
fine_header wire bytes header lists documents next is sized c (of_fields fields read broken) =
    let same = fields_once wire header_table is.message is.message fields is.fields refl read is.read in
    not_broken (AreTexts header_table is.fields) (AreCounts is.fields) (Unit {0}) (AreSized (record { header = header_of is.fields; lists = []; documents = [] })) BadText BadCount BadCount TooMuch c
    is.texts (good_counts is.fields lists documents is.lists_are is.documents_are) tt
    (subst (λ (h : Header). AreSized (record { header = h; lists = []; documents = [] })) is.header_is sized)
    (subst (λ (fs : List Entry). HeaderBroken fs c) same broken)

pub header_not_wrong : Wire → (bytes : List ℕ) (header : Header) (lists documents next : ℕ) → HeaderAt bytes header lists documents next → AreSized (parts_so_far (front_of header lists documents))
    → (c : Cause) → IsFaultAt IsHeaderFault bytes 0 c → ⊥
header_not_wrong wire bytes header lists documents next is sized c p =
    not_placed wire IsHeaderFault bytes 0 is.message next c is.stands (λ w. fine_header wire bytes header lists documents next is sized c (header_case is.message c w)) (placed IsHeaderFault bytes 0 c p)

-- ---- a list

-- however the list is made of the fields, it is not too much
abbrev IsListSized : Front → List Entry → PostingRows → Type 0
IsListSized front fields rows = (list : TermList) → IsListOf fields rows list → AreSized (parts_so_far (with_list front list))

abbrev ListBroken : Front → List Entry → PostingRows → Cause → Type 0
ListBroken front fields rows cause =
    Broken (AreTexts list_table fields) (AreGaps front.document_count (gaps_in rows)) (¬ Contains (terms_of front.lists) (text_at 1 fields)) (IsListSized front fields rows) BadText BadGap SameTerm TooMuch cause

list_broken : (front : Front) (fields : List Entry) (rows : PostingRows) (cause : Cause) → ListFault front fields rows cause → ListBroken front fields rows cause
list_broken front fields rows BadText p = first p refl
list_broken front fields rows BadGap p = second p.0 p.1 refl
list_broken front fields rows SameTerm p = third p.0 p.1 (λ new. new p.2) refl
list_broken front fields rows TooMuch p = fourth p.0 p.1 p.2 (λ all. p.3.2 (all p.3.0 p.3.1)) refl
list_broken front fields rows CutShort p = absurd p
list_broken front fields rows BadLength p = absurd p
list_broken front fields rows BadField p = absurd p
list_broken front fields rows BadCount p = absurd p
list_broken front fields rows BadDoc p = absurd p
list_broken front fields rows Trailing p = absurd p

data ListCase (front : Front) (m : List ℕ) (cause : Cause) : Type 0 where
  no_list_fields : cause ≡ BadField → ((fields : List Entry) (rows : PostingRows) → ¬ HasListFields m fields rows) → ListCase front m cause
  of_list_fields : (fields : List Entry) (rows : PostingRows) → HasListFields m fields rows → ListBroken front fields rows cause → ListCase front m cause

list_case : (front : Front) (m : List ℕ) (cause : Cause) → IsListFault front m cause → ListCase front m cause
list_case front m BadField p = no_list_fields refl p
list_case front m BadText p = of_list_fields p.0 p.1 p.2 (list_broken front p.0 p.1 BadText p.3)
list_case front m BadGap p = of_list_fields p.0 p.1 p.2 (list_broken front p.0 p.1 BadGap p.3)
list_case front m SameTerm p = of_list_fields p.0 p.1 p.2 (list_broken front p.0 p.1 SameTerm p.3)
list_case front m TooMuch p = of_list_fields p.0 p.1 p.2 (list_broken front p.0 p.1 TooMuch p.3)
list_case front m CutShort p = absurd p.3
list_case front m BadLength p = absurd p.3
list_case front m BadCount p = absurd p.3
list_case front m BadDoc p = absurd p.3
list_case front m Trailing p = absurd p.3

list_cases_once : Wire → (front : Front) (m : List ℕ) (c d : Cause) → ListCase front m c → ListCase front m d → c ≡ d
list_cases_once wire front m c d (no_list_fields e p) (no_list_fields f q) = e ∙ sym f
list_cases_once wire front m c d (no_list_fields e p) (of_list_fields fields rows read broken) = absurd (p fields rows read)
list_cases_once wire front m c d (of_list_fields fields rows read broken) (no_list_fields f q) = absurd (q fields rows read)
list_cases_once wire front m c d (of_list_fields fields rows read broken) (of_list_fields others more also worse) =
    let same = list_fields_once wire m m fields others rows more refl read also in
    broken_once (AreTexts list_table others) (AreGaps front.document_count (gaps_in more)) (¬ Contains (terms_of front.lists) (text_at 1 others)) (IsListSized front others more) BadText BadGap SameTerm TooMuch c d
    (subst (λ (rs : PostingRows). ListBroken front others rs c) same.1 (subst (λ (fs : List Entry). ListBroken front fs rows c) same.0 broken)) worse

list_fault_once : Wire → (front : Front) (m : List ℕ) (c d : Cause) → IsListFault front m c → IsListFault front m d → c ≡ d
list_fault_once wire front m c d p q = list_cases_once wire front m c d (list_case front m c p) (list_case front m d q)

pub list_once_wrong : Wire → (front : Front) (bytes : List ℕ) (place : ℕ) (c d : Cause) → IsFaultAt (IsListFault front) bytes place c → IsFaultAt (IsListFault front) bytes place d → c ≡ d
list_once_wrong wire front bytes place c d p q =
    placed_once wire (IsListFault front) (list_fault_once wire front) bytes place c d (placed (IsListFault front) bytes place c p) (placed (IsListFault front) bytes place d q)

fine_list : Wire → (bytes : List ℕ) (place : ℕ) (front : Front) (list : TermList) (next : ℕ) (is : NextList bytes place front list next) → (c : Cause) → ListCase front is.stands.message c → ⊥
fine_list wire bytes place front list next is c (no_list_fields e none) = none is.stands.fields is.stands.postings is.stands.read
fine_list wire bytes place front list next is c (of_list_fields fields rows read broken) =
    let at = is.stands in
    let same = list_fields_once wire at.message at.message fields at.fields rows at.postings refl read at.read in
    not_broken (AreTexts list_table at.fields) (AreGaps front.document_count (gaps_in at.postings)) (¬ Contains (terms_of front.lists) (text_at 1 at.fields)) (IsListSized front at.fields at.postings) BadText BadGap SameTerm TooMuch c
    at.texts at.gaps
    (subst (λ (t : List ℕ). ¬ Contains (terms_of front.lists) t) at.says.term is.new_term)
    (λ other says. subst (λ (l : TermList). AreSized (parts_so_far (with_list front l))) (says_once at.fields at.fields at.postings at.postings list other refl refl at.says says) is.sized)
    (subst (λ (rs : PostingRows). ListBroken front at.fields rs c) same.1 (subst (λ (fs : List Entry). ListBroken front fs rows c) same.0 broken))

pub list_not_wrong : Wire → (bytes : List ℕ) (place : ℕ) (front : Front) (list : TermList) (next : ℕ) → NextList bytes place front list next → (c : Cause) → IsFaultAt (IsListFault front) bytes place c → ⊥
list_not_wrong wire bytes place front list next is c p =
    not_placed wire (IsListFault front) bytes place is.stands.message next c is.stands.stands
    (λ w. fine_list wire bytes place front list next is c (list_case front is.stands.message c w)) (placed (IsListFault front) bytes place c p)

-- ---- a record

abbrev RecordBroken : Front → List Entry → Cause → Type 0
RecordBroken front fields cause =
    Broken (AreTexts record_table fields) (¬ IsBadNumber front (int32_at 1 fields)) (Unit {0}) (AreSized (with_document (parts_so_far front) (document_of fields))) BadText BadDoc BadDoc TooMuch cause

record_broken : (front : Front) (fields : List Entry) (cause : Cause) → RecordFault front fields cause → RecordBroken front fields cause
record_broken front fields BadText p = first p refl
record_broken front fields BadDoc p = second p.0 (λ fine. fine p.1) refl
record_broken front fields TooMuch p = fourth p.0 p.1 tt p.2 refl
record_broken front fields CutShort p = absurd p
record_broken front fields BadLength p = absurd p
record_broken front fields BadField p = absurd p
record_broken front fields BadCount p = absurd p
record_broken front fields BadGap p = absurd p
record_broken front fields SameTerm p = absurd p
record_broken front fields Trailing p = absurd p

data RecordCase (front : Front) (m : List ℕ) (cause : Cause) : Type 0 where
  no_record_fields : cause ≡ BadField → ((fields : List Entry) → ¬ HasFields record_table m fields) → RecordCase front m cause
  of_record_fields : (fields : List Entry) → HasFields record_table m fields → RecordBroken front fields cause → RecordCase front m cause

record_case : (front : Front) (m : List ℕ) (cause : Cause) → IsRecordFault front m cause → RecordCase front m cause
record_case front m BadField p = no_record_fields refl p
record_case front m BadText p = of_record_fields p.0 p.1 (record_broken front p.0 BadText p.2)
record_case front m BadDoc p = of_record_fields p.0 p.1 (record_broken front p.0 BadDoc p.2)
record_case front m TooMuch p = of_record_fields p.0 p.1 (record_broken front p.0 TooMuch p.2)
record_case front m CutShort p = absurd p.2
record_case front m BadLength p = absurd p.2
record_case front m BadCount p = absurd p.2
record_case front m BadGap p = absurd p.2
record_case front m SameTerm p = absurd p.2
record_case front m Trailing p = absurd p.2

record_cases_once : Wire → (front : Front) (m : List ℕ) (c d : Cause) → RecordCase front m c → RecordCase front m d → c ≡ d
record_cases_once wire front m c d (no_record_fields e p) (no_record_fields f q) = e ∙ sym f
record_cases_once wire front m c d (no_record_fields e p) (of_record_fields fields read broken) = absurd (p fields read)
record_cases_once wire front m c d (of_record_fields fields read broken) (no_record_fields f q) = absurd (q fields read)
record_cases_once wire front m c d (of_record_fields fields read broken) (of_record_fields others also worse) =
    let same = fields_once wire record_table m m fields others refl read also in
    broken_once (AreTexts record_table others) (¬ IsBadNumber front (int32_at 1 others)) (Unit {0}) (AreSized (with_document (parts_so_far front) (document_of others))) BadText BadDoc BadDoc TooMuch c d
    (subst (λ (fs : List Entry). RecordBroken front fs c) same broken) worse

record_fault_once : Wire → (front : Front) (m : List ℕ) (c d : Cause) → IsRecordFault front m c → IsRecordFault front m d → c ≡ d
record_fault_once wire front m c d p q = record_cases_once wire front m c d (record_case front m c p) (record_case front m d q)

pub record_once_wrong : Wire → (front : Front) (bytes : List ℕ) (place : ℕ) (c d : Cause) → IsFaultAt (IsRecordFault front) bytes place c → IsFaultAt (IsRecordFault front) bytes place d → c ≡ d
record_once_wrong wire front bytes place c d p q =
    placed_once wire (IsRecordFault front) (record_fault_once wire front) bytes place c d (placed (IsRecordFault front) bytes place c p) (placed (IsRecordFault front) bytes place d q)

-- a number among the records' numbers, seen as whole numbers
pub among_numbers : (records : List Numbered) (one : Numbered) → Contains (map (λ (r : Numbered). pos r.number) records) (pos one.number) → Contains (numbers_of records) one.number
among_numbers records one found =
    let number = λ (r : Numbered). r.number in
    let signed = λ (r : Numbered). pos r.number in
    let within : found.0 < length records = omega (arith, found.1, length-map records signed) in
    let at : pos (get_or records found.0 one).number ≡ pos one.number = sym (get_or-map signed records found.0 one (pos one.number) within) ∙ found.2 in
    let same : (get_or records found.0 one).number ≡ one.number = cc in
    (found.0, omega (arith, within, length-map records number), get_or-map number records found.0 one one.number within ∙ same)

good_number : (front : Front) (one : Numbered) (fields : List Entry) → int32_at 1 fields ≡ pos one.number → one.number < front.document_count → ¬ Contains (numbers_of front.records) one.number → ¬ IsBadNumber front (int32_at 1 fields)
good_number front one fields is below new = λ bad. absurd_number (subst (IsBadNumber front) is bad)
  where
    absurd_number : IsBadNumber front (pos one.number) → ⊥
    absurd_number (inl negative) = omega (arith, ints, negative)
    absurd_number (inr (inl large)) = omega (arith, ints, large, below)
    absurd_number (inr (inr found)) = new (among_numbers front.records one found)

fine_record : Wire → (bytes : List ℕ) (place : ℕ) (front : Front) (one : Numbered) (next : ℕ) (is : NextRecord bytes place front one next) → (c : Cause) → RecordCase front is.stands.message c → ⊥
fine_record wire bytes place front one next is c (no_record_fields e none) = none is.stands.fields is.stands.read
fine_record wire bytes place front one next is c (of_record_fields fields read broken) =
    let at = is.stands in
    let same = fields_once wire record_table at.message at.message fields at.fields refl read at.read in
    not_broken (AreTexts record_table at.fields) (¬ IsBadNumber front (int32_at 1 at.fields)) (Unit {0}) (AreSized (with_document (parts_so_far front) (document_of at.fields))) BadText BadDoc BadDoc TooMuch c
    at.texts (good_number front one at.fields at.number_is at.below is.new_number) tt
    (subst (λ (d : DocRecord). AreSized (with_document (parts_so_far front) d)) at.document_is is.sized)
    (subst (λ (fs : List Entry). RecordBroken front fs c) same broken)

pub record_not_wrong : Wire → (bytes : List ℕ) (place : ℕ) (front : Front) (one : Numbered) (next : ℕ) → NextRecord bytes place front one next → (c : Cause) → IsFaultAt (IsRecordFault front) bytes place c → ⊥
record_not_wrong wire bytes place front one next is c p =
    not_placed wire (IsRecordFault front) bytes place is.stands.message next c is.stands.stands
    (λ w. fine_record wire bytes place front one next is c (record_case front is.stands.message c w)) (placed (IsRecordFault front) bytes place c p)
