-- What a file is accepted as is an index: its numbers fit, its texts are UTF-8, and its postings rise.
use Rattle.std.proofs.Common.{◌≡◌, ℕ, zero, suc, ◌+◌, ◌^◌, ◌<◌, ◌≤◌, ◌==◌, if◌then◌else◌, Bool, true, false, cond, eqb, ℤ, pos, List, [], ◌∷◌, length, drop, map, get_or, replicate, FitsSigned, Option, Some, None, refl, sym, ap, subst, ◌∙◌, arith}
use native.Mathlib.Numerals.{unary_clauses}
use Rattle.std.specs.Prelude.{◌+ℤ◌, ◌≤ℤ◌, ◌<ℤ◌, IsUtf8}
use Rattle.std.specs.Int.{w32, w64}
use Rattle.std.specs.Option.{option_or}
use Rattle.std.specs.List.{All, sum_by}
use Rattle.std.specs.List.Sorted.{IsStrictlyIncreasing}
use Rattle.std.proofs.Math.Facts.{sfits_to_z}
use Rattle.std.proofs.lemmas.Int.{ints}
use Rattle.std.proofs.lemmas.Bool.{eqb-true}
use Rattle.std.proofs.lemmas.Str.{IsUtf8-nil}
use Rattle.std.proofs.lemmas.Option.{get_or_from_slice_get}
use Rattle.std.proofs.lemmas.List.{length-map, get_or-map, length-replicate}
use Rattle.std.proofs.lemmas.List.Elements.{All-cons, All-nil, All-head, All-tail}
use Rattle.std.proofs.lemmas.List.Sums.{sum_by-set, sum_by-cons}
use Rattle.ciff_wire.specs.Varint.{Spells}
use Rattle.ciff_wire.specs.Field.{Held, Entry, as_number, as_eight, as_bytes, as_four, Holds, IsMessage}
use Rattle.rgb_base.specs.declared.parts.Posting.{Posting}
use Rattle.rgb_base.specs.declared.parts.TermList.{TermList}
use Rattle.rgb_base.specs.declared.parts.DocRecord.{DocRecord}
use Rattle.rgb_base.specs.Parts.{IndexParts, IsPostings, AreOrdered, AreDifferent, AreSized, FitsHeader, FitsList, FitsRecord, terms_of}
use Rattle.ciff_format.specs.Fields.{header_table, HasFields, AreTexts, held_at, number_or_zero, eight_or_zero, bytes_or_none, int32_at, int64_at, text_at}
use Rattle.ciff_format.specs.Messages.{PostingRows, gaps_in, sums_from, ListAt, Numbered, RecordAt, header_of}
use Rattle.ciff_format.specs.Accepted.{Front, Good, Accepted}
use Rattle.ciff_format.specs.Laws.{AcceptedIsIndex}
use Rattle.ciff_format.proofs.Once.{Wire}
use Rattle.ciff_format.proofs.Lists.{row_all}
use Rattle.ciff_format.proofs.Verdicts.{has_number, file_is_one_index}
use Rattle.ciff_format.proofs.Reading.{placed, length-placed, put_parts, put_accepted}

-- ---- what the last field holds

held_by_test : (P : Held → Type 0) (number : ℕ) (entry : Entry) → (entry.number ≡ number → P entry.held) → (t : Bool) → eqb entry.number number ≡ t → (h : Held) → cond t (Some entry.held) None ≡ Some h → P h
held_by_test P number entry all true e h same = let is : entry.held ≡ h = cc in subst P is (all (eqb-true entry.number number e))
held_by_test P number entry all false e h same = let none : None ≡ Some h = same in absurd (cc none)

held_or : (P : Held → Type 0) (first : Option Held) (second : Option Held) → ((h : Held) → first ≡ Some h → P h) → ((h : Held) → second ≡ Some h → P h) → (h : Held) → option_or first second ≡ Some h → P h
held_or P None second p q h same = q h same
held_or P (Some x) second p q h same = p h same

held_all : (P : Held → Type 0) (number : ℕ) (fields : List Entry) → All (λ (entry : Entry). entry.number ≡ number → P entry.held) fields → (h : Held) → held_at number fields ≡ Some h → P h
unfolding held_at
held_all P number [] all h same = let none : None ≡ Some h = same in absurd (cc none)
held_all P number (entry ∷ fields) all h same =
    held_or P (held_at number fields) (if entry.number == number then Some entry.held else None)
    (held_all P number fields (All-tail (λ (e : Entry). e.number ≡ number → P e.held) entry fields all))
    (held_by_test P number entry (All-head (λ (e : Entry). e.number ≡ number → P e.held) entry fields all) (eqb entry.number number) refl) h same

-- each field of a message holds a number of 64 bits at most
IsSmall : Held → Type 0
IsSmall held = (number_or_zero (Some held) < 2 ^ 64) × (eight_or_zero (Some held) < 2 ^ 64)

spells_small : (content : List ℕ) (v : ℕ) → Spells content v → v < 2 ^ 64
spells_small content v spells = omega (arith, spells.sum)

small_held : (content : List ℕ) (held : Held) → Holds content held → IsSmall held
unfolding IsSmall
small_held content (as_number v) holds = (spells_small content v holds, omega arith)
small_held content (as_eight v) holds = (omega arith, holds.0)
small_held content (as_bytes bs) holds = (omega arith, omega arith)
small_held content (as_four v) holds = (omega arith, omega arith)

small_fields : (m : List ℕ) (fields : List Entry) → IsMessage m fields → All (λ (entry : Entry). IsSmall entry.held) fields
small_fields m [] is = All-nil (λ (entry : Entry). IsSmall entry.held)
small_fields m (entry ∷ fields) is =
    All-cons (λ (e : Entry). IsSmall e.held) entry fields (small_held is.2.content entry.held is.2.spells_content) (small_fields is.1 fields is.3)

-- of an option of a field
held_small : (o : Option Held) → ((h : Held) → o ≡ Some h → IsSmall h) → (number_or_zero o < 2 ^ 64) × (eight_or_zero o < 2 ^ 64)
unfolding IsSmall
held_small None small = (omega arith, omega arith)
held_small (Some h) small = small h refl

at_small : (m : List ℕ) (n : ℕ) (fields : List Entry) → IsMessage m fields → (number_or_zero (held_at n fields) < 2 ^ 64) × (eight_or_zero (held_at n fields) < 2 ^ 64)
at_small m n fields is = held_small (held_at n fields) (held_all IsSmall n fields (λ k d lt e. small_fields m fields is k d lt))

int32_fits : (n : ℕ) (fields : List Entry) → FitsSigned w32 (int32_at n fields)
int32_fits n fields = sfits_to_z {w = w32} (record { fits = omega arith })

int64_fits : (m : List ℕ) (n : ℕ) (fields : List Entry) → IsMessage m fields → FitsSigned w64 (int64_at n fields)
int64_fits m n fields is = let small = at_small m n fields is in sfits_to_z {w = w64} (record { fits = omega (arith, small.0) })

-- texts
held_utf8 : (o : Option Held) → ((h : Held) → o ≡ Some h → ∥ IsUtf8 (bytes_or_none (Some h)) ∥₁) → ∥ IsUtf8 (bytes_or_none o) ∥₁
held_utf8 None all = ∣ IsUtf8-nil ∣₁
held_utf8 (Some h) all = all h refl

text_utf8 : (n : ℕ) (fields : List Entry) → All (λ (entry : Entry). entry.number ≡ n → ∥ IsUtf8 (bytes_or_none (Some entry.held)) ∥₁) fields → ∥ IsUtf8 (text_at n fields) ∥₁
text_utf8 n fields all = held_utf8 (held_at n fields) (held_all (λ h. ∥ IsUtf8 (bytes_or_none (Some h)) ∥₁) n fields all)

-- ---- the header

-- a count that an int32 says
small_count : (z : ℤ) (n : ℕ) → FitsSigned w32 z → z ≡ pos n → n < 2 ^ 31
small_count z n fits same = let f : FitsSigned w32 (pos n) = subst (FitsSigned w32) same fits in f.sfits

header_fits : (m : List ℕ) (fields : List Entry) → HasFields header_table m fields → AreTexts header_table fields → FitsHeader (header_of fields)
header_fits m fields read texts =
    let bits = at_small m 7 fields read.spelt in
    record {
      version = int32_fits 1 fields;
      total_lists = int32_fits 4 fields;
      total_docs = int32_fits 5 fields;
      total_terms = int64_fits m 6 fields read.spelt;
      average_bits = bits.1;
      description = text_utf8 8 fields (λ k d lt e. (texts k d lt).1.1.1.1.1.1.1.0 (sym e));
    }

-- ---- lists

each_tf : (ps : List Posting) (rows : PostingRows) → map (λ (p : Posting). p.tf) ps ≡ map (int32_at 2) rows → All (λ (p : Posting). FitsSigned w32 p.tf) ps
each_tf [] rows same = All-nil (λ (p : Posting). FitsSigned w32 p.tf)
each_tf (p ∷ ps) [] same = absurd (omega (arith, ap length same))
each_tf (p ∷ ps) (row ∷ rows) same =
    let tf : p.tf ≡ int32_at 2 row = cc in
    let rest : map (λ (q : Posting). q.tf) ps ≡ map (int32_at 2) rows = cc in
    All-cons (λ (q : Posting). FitsSigned w32 q.tf) p ps (subst (FitsSigned w32) (sym tf) (int32_fits 2 row)) (each_tf ps rows rest)

list_fits : (bytes : List ℕ) (count place : ℕ) (list : TermList) (next : ℕ) → ListAt bytes count place list next → FitsList list
list_fits bytes count place list next is =
    let fields = is.fields in
    let spelt = is.read.own.spelt in
    record {
      term = subst (λ (t : List ℕ). ∥ IsUtf8 t ∥₁) (sym is.says.term) (text_utf8 1 fields (λ k d lt e. (is.texts k d lt).0 (sym e)));
      df = subst (FitsSigned w64) (sym is.says.df) (int64_fits is.message 2 fields spelt);
      cf = subst (FitsSigned w64) (sym is.says.cf) (int64_fits is.message 3 fields spelt);
      postings = each_tf list.postings is.postings is.says.frequencies;
    }

-- documents below their number
below_count : (count : ℕ) (ps : List Posting) → All (λ z. z <ℤ pos count) (map (λ (p : Posting). pos p.doc) ps) → All (λ (p : Posting). p.doc < count) ps
below_count count [] all = All-nil (λ (p : Posting). p.doc < count)
below_count count (p ∷ ps) all =
    All-cons (λ (q : Posting). q.doc < count) p ps
    (let lt = All-head (λ z. z <ℤ pos count) (pos p.doc) (map (λ (q : Posting). pos q.doc) ps) all in omega (arith, ints, lt))
    (below_count count ps (All-tail (λ z. z <ℤ pos count) (pos p.doc) (map (λ (q : Posting). pos q.doc) ps) all))

rising_one : (x : ℕ) → IsStrictlyIncreasing (x ∷ [])
rising_one x k lt = absurd (omega (arith, lt))

rising_cons : (x y : ℕ) (ys : List ℕ) → x < y → IsStrictlyIncreasing (y ∷ ys) → IsStrictlyIncreasing (x ∷ y ∷ ys)
rising_cons x y ys less rest zero lt = less
rising_cons x y ys less rest (suc k) lt = simp unary_clauses (simp unary_clauses at (rest k (omega (arith, lt))))

-- documents that are the partial sums of gaps of 1 at least rise
sums_rise : (before : ℕ) (p : Posting) (ps : List Posting) (gaps : List ℤ) → map (λ (q : Posting). pos q.doc) ps ≡ sums_from (pos p.doc) gaps → All (λ z. pos 1 ≤ℤ z) gaps → IsStrictlyIncreasing (map (λ (q : Posting). q.doc) (p ∷ ps))
unfolding sums_from
sums_rise before p [] gaps same later = rising_one p.doc
sums_rise before p (q ∷ ps) [] same later = absurd (omega (arith, ap length same))
sums_rise before p (q ∷ ps) (gap ∷ gaps) same later =
    let sum : pos q.doc ≡ pos p.doc +ℤ gap = cc in
    let rest : map (λ (r : Posting). pos r.doc) ps ≡ sums_from (pos p.doc +ℤ gap) gaps = cc in
    let one = All-head (λ z. pos 1 ≤ℤ z) gap gaps later in
    rising_cons p.doc q.doc (map (λ (r : Posting). r.doc) ps) (omega (arith, ints, sum, one))
    (sums_rise p.doc q ps gaps (rest ∙ ap (λ z. sums_from z gaps) (sym sum)) (All-tail (λ z. pos 1 ≤ℤ z) gap gaps later))

list_rises : (ps : List Posting) (gaps : List ℤ) → map (λ (q : Posting). pos q.doc) ps ≡ sums_from (pos 0) gaps → All (λ z. pos 1 ≤ℤ z) (drop 1 gaps) → IsStrictlyIncreasing (map (λ (q : Posting). q.doc) ps)
unfolding sums_from
list_rises [] gaps same later = λ k lt. absurd (omega (arith, lt))
list_rises (p ∷ ps) [] same later = absurd (omega (arith, ap length same))
list_rises (p ∷ ps) (gap ∷ gaps) same later =
    let sum : pos p.doc ≡ pos 0 +ℤ gap = cc in
    let rest : map (λ (r : Posting). pos r.doc) ps ≡ sums_from (pos 0 +ℤ gap) gaps = cc in
    sums_rise 0 p ps gaps (rest ∙ ap (λ z. sums_from z gaps) (sym sum)) later

list_ordered : (bytes : List ℕ) (count place : ℕ) (list : TermList) (next : ℕ) → ListAt bytes count place list next → IsPostings count list.postings
list_ordered bytes count place list next is = record {
  rising = list_rises list.postings (gaps_in is.postings) is.says.documents is.gaps.later;
  below = below_count count list.postings (subst (λ (zs : List ℤ). All (λ z. z <ℤ pos count) zs) (sym is.says.documents) is.gaps.below);
}

-- ---- records

record_fits : (bytes : List ℕ) (count place : ℕ) (one : Numbered) (next : ℕ) → RecordAt bytes count place one next → FitsRecord one.document
record_fits bytes count place one next is =
    subst FitsRecord (sym is.document_is) (record {
      name = text_utf8 2 is.fields (λ k d lt e. (is.texts k d lt).1.0 (sym e));
      length = int32_fits 3 is.fields;
    })

-- the names of documents put at their places are no longer together
name_size : List DocRecord → ℕ
name_size documents = sum_by (λ document. length document.name) documents

placed_size : (records : List Numbered) (base : List DocRecord) → All (λ (r : Numbered). r.number < length base) records → name_size (placed records base) ≤ name_size base + name_size (map (λ (r : Numbered). r.document) records)
unfolding name_size placed
placed_size [] base below = omega arith
placed_size (one ∷ records) base below =
    let documents = placed records base in
    let within : one.number < length documents = omega (arith, All-head (λ (r : Numbered). r.number < length base) one records below, length-placed records base) in
    let size = λ (d : DocRecord). length d.name in
    omega (
      arith,
      sum_by-set size documents one.number one.document one.document within,
      sum_by-cons size one.document (map (λ (r : Numbered). r.document) records),
      placed_size records base (All-tail (λ (r : Numbered). r.number < length base) one records below),
    )

bare_size : (n : ℕ) → name_size (replicate n (record { name = []; length = pos 0 })) ≡ 0
unfolding name_size
bare_size zero = refl
bare_size (suc n) = omega (arith, sum_by-cons (λ (d : DocRecord). length d.name) (record { name = []; length = pos 0 }) (replicate n (record { name = []; length = pos 0 })), bare_size n)

-- ---- the index

document_fits : (bytes : List ℕ) (index : IndexParts) (is : Accepted bytes index) → All FitsRecord index.documents
document_fits bytes index is k d lt =
    let number = λ (r : Numbered). r.number in
    let records = is.front.records in
    let found = has_number bytes (length bytes) is.front is.good is.whole k (omega (arith, lt, is.count)) in
    let within : found.0 < length records = omega (arith, found.1, length-map records number) in
    let none : Numbered = record { number = k; document = d } in
    let one = get_or records found.0 none in
    let at : one.number ≡ k = sym (get_or-map number records found.0 none k within) ∙ found.2 in
    let read : get_or index.documents one.number d ≡ one.document = get_or_from_slice_get index.documents one.number one.document d (is.documents found.0 none within) in
    let fits = row_all (RecordAt bytes is.front.document_count) (λ (r : Numbered). FitsRecord r.document) (λ place r next stands. record_fits bytes is.front.document_count place r next stands) is.good.records_begin (length bytes) records is.good.records found.0 none within in
    subst FitsRecord (sym read ∙ ap (λ n. get_or index.documents n d) at) fits

sized_text : (f : Front) (base : List DocRecord) → name_size (placed f.records base) ≤ name_size base + name_size (map (λ (r : Numbered). r.document) f.records) → name_size base ≡ 0
    → length f.header.description + sum_by (λ (l : TermList). length l.term) f.lists + name_size (map (λ (r : Numbered). r.document) f.records) ≤ 2 ^ 40
    → length f.header.description + sum_by (λ (l : TermList). length l.term) f.lists + name_size (placed f.records base) ≤ 2 ^ 40
sized_text f base names none size = omega (arith, names, none, size)

put_sized : (bytes : List ℕ) (f : Front) → Good bytes (length bytes) f → AreSized (put_parts f)
unfolding name_size
put_sized bytes f good =
    let base = replicate f.document_count (record { name = []; length = pos 0 }) in
    let n : length base ≡ f.document_count = length-replicate f.document_count (record { name = []; length = pos 0 }) in
    let below : All (λ (r : Numbered). r.number < length base) f.records =
    row_all (RecordAt bytes f.document_count) (λ (r : Numbered). r.number < length base) (λ at r next stands. omega (arith, n, stands.below)) good.records_begin (length bytes) f.records good.records in
    record { postings = good.rules.sized.postings; text = sized_text f base (placed_size f.records base below) (bare_size f.document_count) good.rules.sized.text }

accepted_sized : Wire → (bytes : List ℕ) (index : IndexParts) → Accepted bytes index → AreSized index
accepted_sized wire bytes index is =
    let made = put_accepted bytes is.front is.good is.whole in
    subst AreSized (file_is_one_index wire bytes (put_parts is.front) index made is) (put_sized bytes is.front is.good)

pub accepted_is_index : Wire → AcceptedIsIndex
accepted_is_index wire bytes index is =
    let good = is.good in
    let front = is.front in
    let header = good.header in
    let lists : front.list_count < 2 ^ 31 = small_count (int32_at 2 header.fields) front.list_count (int32_fits 2 header.fields) header.lists_are in
    let documents : front.document_count < 2 ^ 31 = small_count (int32_at 3 header.fields) front.document_count (int32_fits 3 header.fields) header.documents_are in
    let count = is.count in
    record {
      counted = record { lists = omega (arith, lists, ap length is.lists, is.whole.0); documents = omega (arith, documents, count) };
      ordered = subst (λ (ls : List TermList). AreOrdered (length index.documents) ls) (sym is.lists) (subst (λ n. AreOrdered n front.lists) (sym count)
          (row_all (ListAt bytes front.document_count) (λ (l : TermList). IsPostings front.document_count l.postings) (list_ordered bytes front.document_count) good.lists_begin good.records_begin front.lists good.lists));
      different = subst (λ (ls : List TermList). AreDifferent (terms_of ls)) (sym is.lists) good.rules.terms;
      sized = accepted_sized wire bytes index is;
      header = subst FitsHeader (sym header.header_is ∙ sym is.header) (header_fits header.message header.fields header.read header.texts);
      lists = subst (λ (ls : List TermList). All FitsList ls) (sym is.lists)
          (row_all (ListAt bytes front.document_count) FitsList (list_fits bytes front.document_count) good.lists_begin good.records_begin front.lists good.lists);
      documents = document_fits bytes index is;
    }
