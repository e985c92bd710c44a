-- The canonical file of an index is accepted as that index.
use Rattle.std.proofs.Common.{◌≡◌, ◌≢◌, ℕ, zero, suc, ◌+◌, ◌*◌, ◌%◌, ◌^◌, ◌<◌, ◌≤◌, List, [], ◌∷◌, ◌++◌, length, take, drop, map, get_or, flat_map, FitsSigned, Some, refl, sym, ap, subst, ◌∙◌, arith, inr, append_assoc}
use native.Mathlib.Numerals.{unary_clauses}
use Rattle.std.specs.Int.{w32}
use Rattle.std.specs.List.{All, AllPairs, sum_by}
use Rattle.std.specs.List.Sorted.{IsStrictlyIncreasing}
use Rattle.std.proofs.lemmas.Option.{slice_get-get_or}
use Rattle.std.proofs.lemmas.List.{length-append, length-drop, take_at, drop_at, drop-drop, get_or_at}
use Rattle.std.proofs.lemmas.List.Sums.{sum_by-cons, get_or-le-sum_by}
use Rattle.std.proofs.lemmas.List.Elements.{All-cons, All-nil, All-head, All-tail}
use Rattle.ciff_wire.specs.Varint.{varint, Spells}
use Rattle.ciff_wire.specs.Canonical.{message_of}
use Rattle.ciff_wire.specs.Laws.{VarintIsShortest, CanonicalIsMessage}
use Rattle.rgb_base.specs.declared.parts.Posting.{Posting}
use Rattle.rgb_base.specs.declared.parts.TermList.{TermList}
use Rattle.rgb_base.specs.declared.parts.DocRecord.{DocRecord}
use Rattle.rgb_base.specs.Parts.{IndexParts, IsIndex, IsPostings, AreSized, FitsList, FitsRecord, posting_count, text_size}
use Rattle.ciff_format.specs.Fields.{header_table, list_table, record_table}
use Rattle.ciff_format.specs.Messages.{MessageAt, InARow, ListAt, Numbered, RecordAt}
use Rattle.ciff_format.specs.Accepted.{Front, numbers_of, Good, HasRecord, Accepted}
use Rattle.ciff_format.specs.Canonical.{header_fields, list_fields, record_fields, framed, records_from, bytes_of}
use Rattle.ciff_format.specs.Laws.{CanonicalIsAccepted, CanonicalIsOnly, FileTellsIndex}
use Rattle.ciff_format.proofs.Once.{Wire}
use Rattle.ciff_format.proofs.Verdicts.{file_is_one_index}
use Rattle.ciff_format.proofs.CanonicalFields.{varint_most}
use Rattle.ciff_format.proofs.CanonicalMessages.{has_fields, are_texts, fine_header, header_says, header_lists, header_documents, header_most, fine_record, record_says, record_number, record_most, Rises, posting_rows, GoodList, fine_list, has_list_fields, list_gaps, list_says, list_most}

-- the laws of the wire that this rests on
pub record Writing : Type 0 where
  pub shortest : VarintIsShortest
  pub message : CanonicalIsMessage

-- ---- a message at its place

framed_most : (m : List ℕ) → length (framed m) ≤ 10 + length m
unfolding framed
framed_most m = omega (arith, length-append (varint (length m)) m, varint_most (length m))

low_64 : (v : ℕ) → v < 2 ^ 64 → v % 2 ^ 64 ≡ v
low_64 v fits = omega (arith, fits)

framed_at : VarintIsShortest → (bytes before m after : List ℕ) (place next : ℕ) → bytes ≡ before ++ (framed m ++ after) → place ≡ length before → next ≡ place + length (framed m) → length bytes ≤ 2 ^ 41 → MessageAt bytes place m next
unfolding framed
framed_at shortest bytes before m after place next same at ends near =
    let len = varint (length m) in
    let whole : length bytes ≡ length before + (length (framed m) + length after) = ap length same ∙ omega (arith, length-append before (framed m ++ after), length-append (framed m) after) in
    let parts : length (framed m) ≡ length len + length m = length-append len m in
    let small : length m < 2 ^ 64 = omega (arith, whole, parts, near) in
    let least = shortest (length m) small in
    let rest : drop place bytes ≡ len ++ (m ++ after) = ap (drop place) same ∙ drop_at before (framed m ++ after) place (sym at) ∙ append_assoc len m after in
    let front : take (length len) (drop place bytes) ≡ len = ap (take (length len)) rest ∙ take_at len (m ++ after) (length len) refl in
    let behind : drop (place + length len) bytes ≡ m ++ after =
    sym (drop-drop (length len) place bytes) ∙ ap (drop (length len)) rest ∙ drop_at len (m ++ after) (length len) refl in
    record {
      used = length len;
      reads = record {
        within = omega (arith, length-drop place bytes, whole, parts, at);
        spells = subst (λ (t : List ℕ). Spells t (length m)) (sym front) (record { spelling = least.0; sum = ap (λ v. v % 2 ^ 64) least.1 ∙ low_64 (length m) small });
      };
      stands = ap (take (length m)) behind ∙ take_at m after (length m) refl;
      ends = omega (arith, ends, parts);
      within = omega (arith, whole, ends, at);
      near = omega (arith, whole, ends, at, near);
    }

-- ---- postings that rise

rising_tail : (x : ℕ) (xs : List ℕ) → IsStrictlyIncreasing (x ∷ xs) → IsStrictlyIncreasing xs
rising_tail x xs h = λ k lt. simp unary_clauses (simp unary_clauses at (h (suc k) (omega (arith, lt))))

abbrev IsFrom : ℕ → List Posting → Type 0
IsFrom least [] = Unit {0}
IsFrom least (p ∷ ps) = least ≤ p.doc

from_first : (p : Posting) (ps : List Posting) → IsStrictlyIncreasing (map (λ (q : Posting). q.doc) (p ∷ ps)) → IsFrom (suc p.doc) ps
from_first p [] rising = tt
from_first p (q ∷ ps) rising = omega (arith, rising 0 (omega arith))

rises : (count least : ℕ) (ps : List Posting) → IsFrom least ps → IsStrictlyIncreasing (map (λ (p : Posting). p.doc) ps) → All (λ (p : Posting). p.doc < count) ps → All (λ (p : Posting). FitsSigned w32 p.tf) ps → Rises count least ps
rises count least [] from rising below fits = tt
rises count least (p ∷ ps) from rising below fits = (
  from,
  All-head (λ (q : Posting). q.doc < count) p ps below,
  All-head (λ (q : Posting). FitsSigned w32 q.tf) p ps fits,
  rises count (suc p.doc) ps (from_first p ps rising) (rising_tail p.doc (map (λ (q : Posting). q.doc) ps) rising) (All-tail (λ (q : Posting). q.doc < count) p ps below) (All-tail (λ (q : Posting). FitsSigned w32 q.tf) p ps fits),
)

from_none : (ps : List Posting) → IsFrom 0 ps
from_none [] = tt
from_none (p ∷ ps) = omega arith

good_list : (count : ℕ) (list : TermList) → count < 2 ^ 31 → IsPostings count list.postings → FitsList list → length list.term ≤ 2 ^ 40 → GoodList count list
good_list count list small is fits short = record {
  small = small;
  rises = rises count 0 list.postings (from_none list.postings) is.rising is.below fits.postings;
  fits = fits;
  short = short;
}

-- each list of an index
good_lists : (index : IndexParts) → IsIndex index → All (GoodList (length index.documents)) index.lists
good_lists index is k d lt =
    let list = get_or index.lists k d in
    let most : length list.term ≤ sum_by (λ (l : TermList). length l.term) index.lists = get_or-le-sum_by (λ (l : TermList). length l.term) index.lists k d lt in
    let all : sum_by (λ (l : TermList). length l.term) index.lists ≤ text_size index = omega arith in
    good_list (length index.documents) list is.counted.documents (is.ordered k d lt) (is.lists k d lt) (omega (arith, most, all, is.sized.text))

short_names : (index : IndexParts) → IsIndex index → All (λ (d : DocRecord). length d.name ≤ 2 ^ 40) index.documents
short_names index is k d lt =
    let document = get_or index.documents k d in
    let most : length document.name ≤ sum_by (λ (e : DocRecord). length e.name) index.documents = get_or-le-sum_by (λ (e : DocRecord). length e.name) index.documents k d lt in
    let all : sum_by (λ (e : DocRecord). length e.name) index.documents ≤ text_size index = omega arith in
    omega (arith, most, all, is.sized.text)

-- ---- how long the file is at most

abbrev list_bytes : TermList → List ℕ
list_bytes list = framed (message_of (list_fields list))

lists_most : (lists : List TermList) → length (flat_map list_bytes lists) ≤ 70 * length lists + sum_by (λ (l : TermList). length l.term) lists + 60 * posting_count lists
lists_most [] = omega arith
lists_most (l ∷ ls) =
    omega (
      arith,
      length-append (list_bytes l) (flat_map list_bytes ls),
      framed_most (message_of (list_fields l)),
      list_most l,
      lists_most ls,
      sum_by-cons (λ (k : TermList). length k.term) l ls,
      sum_by-cons (λ (k : TermList). length k.postings) l ls,
    )

records_most : (doc : ℕ) (ds : List DocRecord) → length (records_from doc ds) ≤ 70 * length ds + sum_by (λ (d : DocRecord). length d.name) ds
unfolding records_from
records_most doc [] = omega arith
records_most doc (d ∷ ds) =
    omega (
      arith,
      length-append (framed (message_of (record_fields doc d))) (records_from (doc + 1) ds),
      framed_most (message_of (record_fields doc d)),
      record_most doc d,
      records_most (doc + 1) ds,
      sum_by-cons (λ (e : DocRecord). length e.name) d ds,
    )

file_is : (index : IndexParts) → bytes_of index ≡ framed (message_of (header_fields index)) ++ (flat_map list_bytes index.lists ++ records_from 0 index.documents)
unfolding bytes_of
file_is index = refl

file_most : (index : IndexParts) → IsIndex index → length (bytes_of index) ≤ 2 ^ 41
file_most index is =
    let header = framed (message_of (header_fields index)) in
    let lists = flat_map list_bytes index.lists in
    let records = records_from 0 index.documents in
    let n : length (bytes_of index) ≡ length header + (length lists + length records) = ap length (file_is index) ∙ omega (arith, length-append header (lists ++ records), length-append lists records) in
    let text : length index.header.description + sum_by (λ (l : TermList). length l.term) index.lists + sum_by (λ (d : DocRecord). length d.name) index.documents ≤ 2 ^ 40 = is.sized.text in
    let postings : posting_count index.lists < 2 ^ 32 = is.sized.postings in
    omega (arith, n, framed_most (message_of (header_fields index)), header_most index, lists_most index.lists, records_most 0 index.documents, text, postings, is.counted.lists, is.counted.documents)

-- ---- the messages in a row

lists_row : Writing → (count : ℕ) (bytes before : List ℕ) (lists : List TermList) (after : List ℕ) (place next : ℕ) → All (GoodList count) lists → length bytes ≤ 2 ^ 41 → bytes ≡ before ++ (flat_map list_bytes lists ++ after) → place ≡ length before → next ≡ place + length (flat_map list_bytes lists)
    → InARow (ListAt bytes count) place lists next
lists_row wire count bytes before [] after place next good near same at ends = omega (arith, ends)
lists_row wire count bytes before (l ∷ ls) after place next good near same at ends =
    let own = list_bytes l in
    let others = flat_map list_bytes ls in
    let one = All-head (GoodList count) l ls good in
    let parts : bytes ≡ before ++ (own ++ (others ++ after)) = same ∙ ap (λ (t : List ℕ). before ++ t) (append_assoc own others after) in
    let moved : bytes ≡ (before ++ own) ++ (others ++ after) = parts ∙ sym (append_assoc before own (others ++ after)) in (
      place + length own,
      record {
        message = message_of (list_fields l);
        fields = list_fields l;
        postings = posting_rows 0 l.postings;
        stands = framed_at wire.shortest bytes before (message_of (list_fields l)) (others ++ after) place (place + length own) parts at refl near;
        read = has_list_fields wire.message count l one;
        texts = are_texts list_table (list_fields l) (fine_list count l one);
        gaps = list_gaps count l one;
        says = list_says count l one;
      },
      lists_row wire count bytes (before ++ own) ls after (place + length own) next (All-tail (GoodList count) l ls good) near moved
          (omega (arith, length-append before own, at)) (omega (arith, ends, length-append own others)),
    )

-- the records with their numbers
abbrev numbered : ℕ → List DocRecord → List Numbered
numbered doc [] = []
numbered doc (d ∷ ds) = record { number = doc; document = d } ∷ numbered (doc + 1) ds

-- a record that can be written
record GoodRecord (d : DocRecord) : Type 0 where
  fits : FitsRecord d
  short : length d.name ≤ 2 ^ 40

records_row : Writing → (count : ℕ) (bytes before : List ℕ) (doc : ℕ) (ds : List DocRecord) (place next : ℕ) → count < 2 ^ 31 → doc + length ds ≤ count → All GoodRecord ds → length bytes ≤ 2 ^ 41 → bytes ≡ before ++ records_from doc ds → place ≡ length before → next ≡ place + length (records_from doc ds)
    → InARow (RecordAt bytes count) place (numbered doc ds) next
unfolding records_from
records_row wire count bytes before doc [] place next small few good near same at ends = omega (arith, ends)
records_row wire count bytes before doc (d ∷ ds) place next small few good near same at ends =
    let m = message_of (record_fields doc d) in
    let own = framed m in
    let others = records_from (doc + 1) ds in
    let one = All-head GoodRecord d ds good in
    let less : doc < count = omega (arith, few) in
    let fine = fine_record doc d (omega (arith, less, small)) one.short one.fits in
    let moved : bytes ≡ (before ++ own) ++ others = same ∙ sym (append_assoc before own others) in (
      place + length own,
      record {
        message = m;
        fields = record_fields doc d;
        stands = framed_at wire.shortest bytes before m others place (place + length own) same at refl near;
        read = has_fields wire.message record_table (record_fields doc d) fine;
        texts = are_texts record_table (record_fields doc d) fine;
        number_is = record_number doc d (omega (arith, less, small));
        below = less;
        document_is = record_says doc d one.fits;
      },
      records_row wire count bytes (before ++ own) (doc + 1) ds (place + length own) next small (omega (arith, few)) (All-tail GoodRecord d ds good) near moved
          (omega (arith, length-append before own, at)) (omega (arith, ends, length-append own others)),
    )

-- ---- the numbers and records

length-numbered : (doc : ℕ) (ds : List DocRecord) → length (numbered doc ds) ≡ length ds
length-numbered doc [] = refl
length-numbered doc (d ∷ ds) = ap suc (length-numbered (doc + 1) ds)

documents-numbered : (doc : ℕ) (ds : List DocRecord) → map (λ (r : Numbered). r.document) (numbered doc ds) ≡ ds
documents-numbered doc [] = refl
documents-numbered doc (d ∷ ds) = ap (λ (es : List DocRecord). d ∷ es) (documents-numbered (doc + 1) ds)

-- the k-th number
number-numbered : (doc : ℕ) (ds : List DocRecord) (k e : ℕ) → k < length (numbers_of (numbered doc ds)) → get_or (numbers_of (numbered doc ds)) k e ≡ doc + k
number-numbered doc [] k e lt = absurd (omega (arith, lt))
number-numbered doc (d ∷ ds) zero e lt = omega arith
number-numbered doc (d ∷ ds) (suc k) e lt = omega (arith, number-numbered (doc + 1) ds k e (omega (arith, lt)))

numbers_differ : (ds : List DocRecord) → AllPairs (λ a b. a ≢ b) (numbers_of (numbered 0 ds))
numbers_differ ds i j e less within = λ same. omega (arith, less, same, number-numbered 0 ds i e (omega (arith, less, within)), number-numbered 0 ds j e within)

-- each record stands at its number
each_record : (index : IndexParts) (before ds : List DocRecord) (doc : ℕ) → index.documents ≡ before ++ ds → doc ≡ length before → All (HasRecord index) (numbered doc ds)
each_record index before [] doc same at = All-nil (HasRecord index)
each_record index before (d ∷ ds) doc same at =
    let within : doc < length index.documents = omega (arith, ap length same, length-append before (d ∷ ds), at) in
    let read : get_or index.documents doc d ≡ d = ap (λ (es : List DocRecord). get_or es doc d) same ∙ get_or_at before d ds d doc (sym at) in
    All-cons (HasRecord index) (record { number = doc; document = d }) (numbered (doc + 1) ds)
    (slice_get-get_or index.documents doc d within ∙ ap (λ (e : DocRecord). Some e) read)
    (each_record index (before ++ d ∷ []) ds (doc + 1) (same ∙ sym (append_assoc before (d ∷ []) ds)) (omega (arith, at, length-append before (d ∷ []))))

-- ---- the file

abbrev front_of_index : IndexParts → Front
front_of_index index = record {
  header = index.header;
  list_count = length index.lists;
  document_count = length index.documents;
  lists = index.lists;
  records = numbered 0 index.documents;
}

good_records : (index : IndexParts) → IsIndex index → All GoodRecord index.documents
good_records index is k d lt = record { fits = is.documents k d lt; short = short_names index is k d lt }

good_file : Writing → (index : IndexParts) → IsIndex index → Good (bytes_of index) (length (bytes_of index)) (front_of_index index)
good_file wire index is =
    let bytes = bytes_of index in
    let count = length index.documents in
    let near = file_most index is in
    let m = message_of (header_fields index) in
    let header = framed m in
    let lists = flat_map list_bytes index.lists in
    let records = records_from 0 index.documents in
    let same = file_is index in
    let moved : bytes ≡ (header ++ lists) ++ records = same ∙ sym (append_assoc header lists records) in
    let fine = fine_header index is in
    record {
      lists_begin = length header;
      records_begin = length header + length lists;
      header = record {
        message = m;
        fields = header_fields index;
        stands = framed_at wire.shortest bytes [] m (lists ++ records) 0 (length header) same refl (omega arith) near;
        read = has_fields wire.message header_table (header_fields index) fine;
        texts = are_texts header_table (header_fields index) fine;
        header_is = header_says index is;
        lists_are = header_lists index is;
        documents_are = header_documents index is;
      };
      lists = lists_row wire count bytes header index.lists records (length header) (length header + length lists) (good_lists index is) near same refl refl;
      records = records_row wire count bytes (header ++ lists) 0 index.documents (length header + length lists) (length bytes) is.counted.documents (omega arith) (good_records index is) near moved
          (sym (length-append header lists)) (ap length moved ∙ omega (arith, length-append (header ++ lists) records, length-append header lists));
      rules = record {
        lists = omega arith;
        records = omega (arith, length-numbered 0 index.documents);
        order = inr refl;
        terms = is.different;
        numbers = numbers_differ index.documents;
        sized = subst (λ (ds : List DocRecord). AreSized (record { header = index.header; lists = index.lists; documents = ds })) (sym (documents-numbered 0 index.documents)) is.sized;
      };
    }

pub canonical_is_accepted : Writing → CanonicalIsAccepted
canonical_is_accepted wire index is = record {
  front = front_of_index index;
  good = good_file wire index is;
  whole = (refl, length-numbered 0 index.documents);
  header = refl;
  lists = refl;
  count = refl;
  documents = each_record index [] index.documents 0 refl refl;
}

pub canonical_is_only : Wire → Writing → CanonicalIsOnly
canonical_is_only once wire index other is also = file_is_one_index once (bytes_of index) other index also (canonical_is_accepted wire index is)

pub file_tells_index : Wire → Writing → FileTellsIndex
file_tells_index once wire i j p q same =
    file_is_one_index once (bytes_of i) i j (canonical_is_accepted wire i p)
    (subst (λ (bytes : List ℕ). Accepted bytes j) (sym same) (canonical_is_accepted wire j q))
