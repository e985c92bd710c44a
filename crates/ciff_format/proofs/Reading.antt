-- Each file is read: behind good messages the next one is good, or is wrong, or none is expected.
use Rattle.std.proofs.Common.{◌≡◌, ◌≢◌, ◌⊎◌, ℕ, zero, suc, ◌+◌, ◌^◌, ◌<◌, ◌≤◌, ℤ, pos, negsuc, List, [], ◌∷◌, length, take, drop, map, get_or, set, replicate, Some, refl, sym, ap, subst, ◌∙◌, arith, inl, inr}
use Rattle.std.specs.Prelude.{◌≤ℤ◌, ◌+ℤ◌}
use Rattle.std.specs.List.{All, AllPairs, Contains}
use Rattle.std.proofs.lemmas.Bool.{cases_lt}
use Rattle.std.proofs.lemmas.Int.{ints}
use Rattle.std.proofs.lemmas.Option.{slice_get-get_or}
use Rattle.std.proofs.lemmas.List.{length-take, length-drop, length-set, length-map, length-replicate, get_or-set_same, get_or-set_other, get_or-map}
use Rattle.std.proofs.lemmas.List.Elements.{All-cons, All-nil, All-head, All-tail, All-weaker, All-take, All-drop}
use Rattle.ciff_wire.specs.declared.varint.Varint.{Varint}
use Rattle.ciff_wire.specs.declared.varint.Varint.TheVariants.{Done, Short, Long}
use Rattle.ciff_wire.specs.Varint.{IsRead, Reads}
use Rattle.ciff_wire.specs.Field.{Entry}
use Rattle.ciff_wire.specs.Laws.{AreBytes}
use Rattle.rgb_base.specs.declared.parts.Posting.{Posting}
use Rattle.rgb_base.specs.declared.parts.TermList.{TermList}
use Rattle.rgb_base.specs.declared.parts.DocRecord.{DocRecord}
use Rattle.rgb_base.specs.Parts.{IndexParts, terms_of}
use Rattle.ciff_format.specs.declared.cause.Cause.{Cause}
use Rattle.ciff_format.specs.declared.cause.Cause.TheVariants.{CutShort, BadLength, BadField, BadText, BadCount, BadGap, SameTerm, BadDoc, Trailing, TooMuch}
use Rattle.ciff_format.specs.Fields.{header_table, list_table, record_table, int32_at, int64_at, text_at}
use Rattle.ciff_format.specs.Messages.{LengthAt, MessageAt, header_of, PostingRows, gaps_in, sums_from, AreGaps, IsListOf, Numbered, document_of, RecordAt}
use Rattle.ciff_format.specs.Accepted.{Front, with_list, with_record, with_document, parts_so_far, numbers_of, HasLists, ExpectsList, ExpectsRecord, ExpectsNothing, Good, Accepted}
use Rattle.ciff_format.specs.Growing.{front_of}
use Rattle.ciff_format.specs.Refused.{IsCutShort, IsTooLong, IsBadNumber, Refused, at_header, at_list, at_record, at_end}
use Rattle.ciff_format.specs.Laws.{EveryFileIsRead}
use Rattle.ciff_format.proofs.Lists.{decide_contains, decide_text, decide_number, row_all}
use Rattle.ciff_format.proofs.Growth.{header_is_good, list_is_added, record_is_added}
use Rattle.ciff_format.proofs.Refusals.{among_numbers}
use Rattle.ciff_format.proofs.Deciding.{Reading, decide_texts, decide_counts, decide_gaps, decide_sized, decide_fields, decide_list_fields}

-- ---- the place of a message

data Located (bytes : List ℕ) (place : ℕ) : Type 0 where
  found : (m : List ℕ) (next : ℕ) → MessageAt bytes place m next → Located bytes place
  cut : IsCutShort bytes place → Located bytes place
  long : IsTooLong bytes place → Located bytes place

at_length : (bytes : List ℕ) (place size used : ℕ) → Reads (drop place bytes) size used → Located bytes place
at_length bytes place size used reads =
    let next = place + used + size in
    let is : LengthAt bytes place next = record { size = size; used = used; reads = reads; ends = refl } in
    elim (cases_lt (2 ^ 41) next) [
      | inl far ↦ long (inr (next, is, far))
      | inr near ↦ elim (cases_lt (length bytes) next) [
        | inl short ↦ cut (inr (next, is, near, short))
        | inr within ↦
            let m = take size (drop (place + used) bytes) in
            let n : length m ≡ size = omega (arith, length-take size (drop (place + used) bytes), length-drop (place + used) bytes, within) in
            found m next (record {
              used = used;
              reads = subst (λ k. Reads (drop place bytes) k used) (sym n) reads;
              stands = ap (λ k. take k (drop (place + used) bytes)) n;
              ends = omega (arith, n);
              within = within;
              near = near;
            })
      ]
    ]

at_reading : (bytes : List ℕ) (place : ℕ) (read : Varint) → IsRead (drop place bytes) read → Located bytes place
at_reading bytes place (Done size used) is = at_length bytes place size used is
at_reading bytes place Short is = cut (inl is)
at_reading bytes place Long is = long (inl is)

locate : Reading → (bytes : List ℕ) → AreBytes bytes → (place : ℕ) → Located bytes place
locate wire bytes octets place =
    let read = wire.reads (drop place bytes) (All-drop (λ b. b < 256) place bytes octets) in
    at_reading bytes place read.0 read.1

message_bytes : (bytes : List ℕ) → AreBytes bytes → (place : ℕ) (m : List ℕ) (next : ℕ) → MessageAt bytes place m next → AreBytes m
message_bytes bytes octets place m next is =
    subst AreBytes is.stands (All-take (λ b. b < 256) (length m) (drop (place + is.used) bytes) (All-drop (λ b. b < 256) (place + is.used) bytes octets))

-- a message takes a byte at least
goes_on : (bytes : List ℕ) (place : ℕ) (m : List ℕ) (next : ℕ) → MessageAt bytes place m next → place < next
goes_on bytes place m next is = omega (arith, is.ends, is.reads.spells.spelling.some, length-take is.used (drop place bytes))

-- ---- what a step comes to

data Step (bytes : List ℕ) (place : ℕ) : Type 0 where
  refuse : (cause : Cause) → Refused bytes place cause → Step bytes place
  more : (front : Front) (next : ℕ) → Good bytes next front → place < next → next ≤ length bytes → Step bytes place

-- ---- the header

-- numbers that aren't negative
natural : (z : ℤ) → pos 0 ≤ℤ z → (n : ℕ) × (z ≡ pos n)
natural (pos n) h = (n, refl)
natural (negsuc n) h = absurd (omega (arith, ints, h))

header_step : Reading → (bytes : List ℕ) → AreBytes bytes → Step bytes 0
header_step wire bytes octets =
    elim (locate wire bytes octets 0) [
      | cut is ↦ refuse CutShort (at_header refl is)
      | long is ↦ refuse BadLength (at_header refl is)
      | found m next stands ↦ elim (decide_fields wire header_table m (message_bytes bytes octets 0 m next stands)) [
        | inr none ↦ refuse BadField (at_header refl (m, next, stands, none))
        | inl is ↦ elim (decide_texts header_table is.0) [
          | inr bad ↦ refuse BadText (at_header refl (m, next, stands, (is.0, is.1, bad)))
          | inl texts ↦ elim (decide_counts is.0) [
            | inr bad ↦ refuse BadCount (at_header refl (m, next, stands, (is.0, is.1, (texts, bad))))
            | inl counts ↦ elim (decide_sized (record { header = header_of is.0; lists = []; documents = [] })) [
              | inr bad ↦ refuse TooMuch (at_header refl (m, next, stands, (is.0, is.1, (texts, counts, bad))))
              | inl sized ↦
                  let lists = natural (int32_at 2 is.0) counts.lists in
                  let documents = natural (int32_at 3 is.0) counts.documents in
                  more (front_of (header_of is.0) lists.0 documents.0) next
                  (header_is_good bytes (header_of is.0) lists.0 documents.0 next (record {
                    message = m;
                    fields = is.0;
                    stands = stands;
                    read = is.1;
                    texts = texts;
                    header_is = refl;
                    lists_are = lists.1;
                    documents_are = documents.1;
                  }) sized)
                  (goes_on bytes 0 m next stands) stands.within
            ]
          ]
        ]
      ]
    ]

-- ---- a list

-- the postings whose documents are the partial sums
record Summed (before : ℕ) (rows : PostingRows) : Type 0 where
  postings : List Posting
  documents : map (λ (p : Posting). pos p.doc) postings ≡ sums_from (pos before) (gaps_in rows)
  frequencies : map (λ (p : Posting). p.tf) postings ≡ map (int32_at 2) rows

summed : (before : ℕ) (rows : PostingRows) → All (λ gap. pos 0 ≤ℤ gap) (gaps_in rows) → Summed before rows
unfolding sums_from
summed before [] all = record { postings = []; documents = refl; frequencies = refl }
summed before (fields ∷ rows) all =
    let gap = natural (int32_at 1 fields) (All-head (λ gap. pos 0 ≤ℤ gap) (int32_at 1 fields) (gaps_in rows) all) in
    let sum : pos before +ℤ int32_at 1 fields ≡ pos (before + gap.0) = ap (λ z. pos before +ℤ z) gap.1 in
    let rest = summed (before + gap.0) rows (All-tail (λ gap. pos 0 ≤ℤ gap) (int32_at 1 fields) (gaps_in rows) all) in
    record {
      postings = record { doc = before + gap.0; tf = int32_at 2 fields } ∷ rest.postings;
      documents = ap (λ (zs : List ℤ). pos (before + gap.0) ∷ zs) rest.documents ∙ ap (λ z. z ∷ sums_from z (gaps_in rows)) (sym sum);
      frequencies = ap (λ (zs : List ℤ). int32_at 2 fields ∷ zs) rest.frequencies;
    }

not_negative : (gaps : List ℤ) → All (λ gap. pos 0 ≤ℤ gap) (take 1 gaps) → All (λ gap. pos 1 ≤ℤ gap) (drop 1 gaps) → All (λ gap. pos 0 ≤ℤ gap) gaps
not_negative [] first later = All-nil (λ gap. pos 0 ≤ℤ gap)
not_negative (gap ∷ gaps) first later =
    All-cons (λ g. pos 0 ≤ℤ g) gap gaps (All-head (λ g. pos 0 ≤ℤ g) gap [] first) (All-weaker (λ g. pos 1 ≤ℤ g) (λ g. pos 0 ≤ℤ g) (λ g h. omega (arith, ints, h)) gaps later)

-- good gaps make a list
made : (count : ℕ) (fields : List Entry) (rows : PostingRows) → AreGaps count (gaps_in rows) → (list : TermList) × IsListOf fields rows list
made count fields rows gaps =
    let s = summed 0 rows (not_negative (gaps_in rows) gaps.first gaps.later) in (
      record { term = text_at 1 fields; df = int64_at 2 fields; cf = int64_at 3 fields; postings = s.postings },
      record { term = refl; df = refl; cf = refl; documents = s.documents; frequencies = s.frequencies },
    )

list_step : Reading → (bytes : List ℕ) → AreBytes bytes → (place : ℕ) (front : Front) → Good bytes place front → ExpectsList front → Step bytes place
list_step wire bytes octets place front good expected =
    elim (locate wire bytes octets place) [
      | cut is ↦ refuse CutShort (at_list front good expected is)
      | long is ↦ refuse BadLength (at_list front good expected is)
      | found m next stands ↦ elim (decide_list_fields wire m (message_bytes bytes octets place m next stands)) [
        | inr none ↦ refuse BadField (at_list front good expected (m, next, stands, none))
        | inl is ↦ elim (decide_texts list_table is.0) [
          | inr bad ↦ refuse BadText (at_list front good expected (m, next, stands, (is.0, is.1, is.2, bad)))
          | inl texts ↦ elim (decide_gaps front.document_count (gaps_in is.1)) [
            | inr bad ↦ refuse BadGap (at_list front good expected (m, next, stands, (is.0, is.1, is.2, (texts, bad))))
            | inl gaps ↦ elim (decide_contains decide_text (terms_of front.lists) (text_at 1 is.0)) [
              | inl bad ↦ refuse SameTerm (at_list front good expected (m, next, stands, (is.0, is.1, is.2, (texts, gaps, bad))))
              | inr new ↦
                  let list = made front.document_count is.0 is.1 gaps in
                  elim (decide_sized (parts_so_far (with_list front list.0))) [
                    | inr bad ↦ refuse TooMuch (at_list front good expected (m, next, stands, (is.0, is.1, is.2, (texts, gaps, new, (list.0, list.1, bad)))))
                    | inl sized ↦
                        more (with_list front list.0) next
                        (list_is_added bytes place next front list.0 good (record {
                          expected = expected;
                          stands = record { message = m; fields = is.0; postings = is.1; stands = stands; read = is.2; texts = texts; gaps = gaps; says = list.1 };
                          new_term = subst (λ (t : List ℕ). ¬ Contains (terms_of front.lists) t) (sym list.1.term) new;
                          sized = sized;
                        }))
                        (goes_on bytes place m next stands) stands.within
                  ]
            ]
          ]
        ]
      ]
    ]

-- ---- a record

-- a number is bad, or that of a document without a record
data NumberCase (front : Front) (z : ℤ) : Type 0 where
  bad_number : IsBadNumber front z → NumberCase front z
  free : (n : ℕ) → z ≡ pos n → n < front.document_count → ¬ Contains (numbers_of front.records) n → NumberCase front z

taken : (records : List Numbered) (n : ℕ) → Contains (numbers_of records) n → Contains (map (λ (r : Numbered). pos r.number) records) (pos n)
taken records n is =
    let number = λ (r : Numbered). r.number in
    let signed = λ (r : Numbered). pos r.number in
    let within : is.0 < length records = omega (arith, is.1, length-map records number) in
    let none : Numbered = record { number = n; document = record { name = []; length = pos 0 } } in
    let at : (get_or records is.0 none).number ≡ n = sym (get_or-map number records is.0 none n within) ∙ is.2 in
    (is.0, omega (arith, within, length-map records signed), get_or-map signed records is.0 none (pos n) within ∙ ap pos at)

number_case : (front : Front) (z : ℤ) → NumberCase front z
number_case front (negsuc n) = bad_number (inl (omega (arith, ints)))
number_case front (pos n) =
    elim (cases_lt n front.document_count) [
      | inr large ↦ bad_number (inr (inl (omega (arith, ints, large))))
      | inl small ↦ elim (decide_contains decide_number (numbers_of front.records) n) [
        | inl is ↦ bad_number (inr (inr (taken front.records n is)))
        | inr new ↦ free n refl small new
      ]
    ]

not_bad : (front : Front) (n : ℕ) → n < front.document_count → ¬ Contains (numbers_of front.records) n → IsBadNumber front (pos n) → ⊥
not_bad front n small new (inl negative) = omega (arith, ints, negative)
not_bad front n small new (inr (inl large)) = omega (arith, ints, large, small)
not_bad front n small new (inr (inr is)) = new (among_numbers front.records (record { number = n; document = record { name = []; length = pos 0 } }) is)

record_step : Reading → (bytes : List ℕ) → AreBytes bytes → (place : ℕ) (front : Front) → Good bytes place front → ExpectsRecord front → Step bytes place
record_step wire bytes octets place front good expected =
    elim (locate wire bytes octets place) [
      | cut is ↦ refuse CutShort (at_record front good expected is)
      | long is ↦ refuse BadLength (at_record front good expected is)
      | found m next stands ↦ elim (decide_fields wire record_table m (message_bytes bytes octets place m next stands)) [
        | inr none ↦ refuse BadField (at_record front good expected (m, next, stands, none))
        | inl is ↦ elim (decide_texts record_table is.0) [
          | inr bad ↦ refuse BadText (at_record front good expected (m, next, stands, (is.0, is.1, bad)))
          | inl texts ↦ elim (number_case front (int32_at 1 is.0)) [
            | bad_number bad ↦ refuse BadDoc (at_record front good expected (m, next, stands, (is.0, is.1, (texts, bad))))
            | free n same small new ↦
                let fine : ¬ IsBadNumber front (int32_at 1 is.0) = λ bad. not_bad front n small new (subst (IsBadNumber front) same bad) in
                elim (decide_sized (with_document (parts_so_far front) (document_of is.0))) [
                  | inr bad ↦ refuse TooMuch (at_record front good expected (m, next, stands, (is.0, is.1, (texts, fine, bad))))
                  | inl sized ↦
                      let one : Numbered = record { number = n; document = document_of is.0 } in
                      more (with_record front one) next
                      (record_is_added bytes place next front one good (record {
                        expected = expected;
                        stands = record { message = m; fields = is.0; stands = stands; read = is.1; texts = texts; number_is = same; below = small; document_is = refl };
                        new_number = new;
                        sized = sized;
                      }))
                      (goes_on bytes place m next stands) stands.within
                ]
          ]
        ]
      ]
    ]

-- ---- the documents

-- records put at their numbers
unfoldable pub placed : List Numbered → List DocRecord → List DocRecord
placed [] base = base
placed (one ∷ records) base = set (placed records base) one.number one.document

pub length-placed : (records : List Numbered) (base : List DocRecord) → length (placed records base) ≡ length base
unfolding placed
length-placed [] base = refl
length-placed (one ∷ records) base = length-set (placed records base) one.number one.document ∙ length-placed records base

abbrev IsPut : List DocRecord → Numbered → Type 0
IsPut documents one = get_or documents one.number one.document ≡ one.document

-- the numbers differ, by recursion
abbrev Differ : List Numbered → Type 0
Differ [] = Unit {0}
Differ (one ∷ records) = All (λ (r : Numbered). one.number ≢ r.number) records × Differ records

differ : (records : List Numbered) → AllPairs (λ a b. a ≢ b) (numbers_of records) → Differ records
differ [] apart = tt
differ (one ∷ records) apart = (
  λ k d within. let n = length-map records (λ (r : Numbered). r.number) in
      λ same. apart 0 (suc k) d.number (omega arith) (omega (arith, within, n)) (same ∙ sym (get_or-map (λ (r : Numbered). r.number) records k d d.number within)),
  differ records (λ i j d less within. apart (suc i) (suc j) d (omega (arith, less)) (omega (arith, within))),
)

puts : (records : List Numbered) (base : List DocRecord) → Differ records → All (λ (r : Numbered). r.number < length base) records → All (IsPut (placed records base)) records
unfolding placed
puts [] base apart below = All-nil (IsPut base)
puts (one ∷ records) base apart below =
    let documents = placed records base in
    let within : one.number < length documents = omega (arith, All-head (λ (r : Numbered). r.number < length base) one records below, length-placed records base) in
    let rest = puts records base apart.1 (All-tail (λ (r : Numbered). r.number < length base) one records below) in
    All-cons (IsPut (set documents one.number one.document)) one records
    (get_or-set_same documents one.number one.document one.document within)
    (λ k d lt.
    let r = get_or records k d in
    let other : r.number ≢ one.number = λ same. apart.0 k d lt (sym same) in
    get_or-set_other documents one.number r.number one.document r.document other ∙ rest k d lt)

-- the index of a whole file: each record put at its number
abbrev pub put_parts : Front → IndexParts
put_parts front = record {
  header = front.header;
  lists = front.lists;
  documents = placed front.records (replicate front.document_count (record { name = []; length = pos 0 }));
}

pub put_accepted : (bytes : List ℕ) (front : Front) → Good bytes (length bytes) front → ExpectsNothing front → Accepted bytes (put_parts front)
put_accepted bytes front good whole =
    let empty : DocRecord = record { name = []; length = pos 0 } in
    let base = replicate front.document_count empty in
    let documents = placed front.records base in
    let n : length base ≡ front.document_count = length-replicate front.document_count empty in
    let count : length documents ≡ front.document_count = length-placed front.records base ∙ n in
    let below : All (λ (r : Numbered). r.number < length base) front.records =
    row_all (RecordAt bytes front.document_count) (λ (r : Numbered). r.number < length base) (λ at r next stands. omega (arith, n, stands.below)) good.records_begin (length bytes) front.records good.records in
    let put = puts front.records base (differ front.records good.rules.numbers) below in
    record {
      front = front;
      good = good;
      whole = whole;
      header = refl;
      lists = refl;
      count = count;
      documents = λ k d lt.
          let r = get_or front.records k d in
          slice_get-get_or documents r.number r.document (omega (arith, below k d lt, n, count)) ∙ ap (λ (e : DocRecord). Some e) (put k d lt);
    }

-- ---- the file

abbrev Verdict : List ℕ → Type 0
Verdict bytes = ((index : IndexParts) × Accepted bytes index) ⊎ ((place : ℕ) × (cause : Cause) × Refused bytes place cause)

-- behind good messages
data Behind (bytes : List ℕ) (place : ℕ) : Type 0 where
  done : Verdict bytes → Behind bytes place
  on : (front : Front) (next : ℕ) → Good bytes next front → place < next → next ≤ length bytes → Behind bytes place

behind_step : (bytes : List ℕ) (place : ℕ) → Step bytes place → Behind bytes place
behind_step bytes place (refuse cause is) = done (inr (place, cause, is))
behind_step bytes place (more front next good less within) = on front next good less within

behind_good : Reading → (bytes : List ℕ) → AreBytes bytes → (place : ℕ) (front : Front) → Good bytes place front → place ≤ length bytes → Behind bytes place
behind_good wire bytes octets place front good within =
    elim (cases_lt (length front.lists) front.list_count) [
      | inl expected ↦ behind_step bytes place (list_step wire bytes octets place front good expected)
      | inr all ↦
          let lists : HasLists front = omega (arith, all, good.rules.lists) in
          elim (cases_lt (length front.records) front.document_count) [
            | inl fewer ↦ behind_step bytes place (record_step wire bytes octets place front good (lists, fewer))
            | inr full ↦
                let whole : ExpectsNothing front = (lists, omega (arith, full, good.rules.records)) in
                elim (cases_lt place (length bytes)) [
                  | inl trailing ↦ done (inr (place, Trailing, at_end front good whole trailing refl))
                  | inr end ↦ done (inl (put_parts front, put_accepted bytes front (subst (λ k. Good bytes k front) (omega (arith, end, within)) good) whole))
                ]
          ]
    ]

read_on : Reading → (bytes : List ℕ) → AreBytes bytes → (room place : ℕ) (front : Front) → Good bytes place front → place ≤ length bytes → length bytes ≤ place + room → Verdict bytes
read_on wire bytes octets zero place front good within few =
    elim (behind_good wire bytes octets place front good within) [ done verdict ↦ verdict | on after next fine less inside ↦ absurd (omega (arith, few, less, inside)) ]
read_on wire bytes octets (suc room) place front good within few =
    elim (behind_good wire bytes octets place front good within) [
      | done verdict ↦ verdict
      | on after next fine less inside ↦ read_on wire bytes octets room next after fine inside (omega (arith, few, less))
    ]

pub every_file_is_read : Reading → EveryFileIsRead
every_file_is_read wire bytes octets =
    elim (header_step wire bytes octets) [
      | refuse cause is ↦ inr (0, cause, is)
      | more front next good less within ↦ read_on wire bytes octets (length bytes) next front good within (omega arith)
    ]
