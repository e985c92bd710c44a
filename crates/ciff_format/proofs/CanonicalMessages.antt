-- What the canonical messages of an index say: its header, its lists and its records.
use Rattle.std.proofs.Common.{◌≡◌, ℕ, suc, ◌+◌, ◌-◌, ◌*◌, ◌^◌, ◌<◌, ◌≤◌, Bool, true, false, cond, ℤ, pos, List, [], ◌∷◌, length, take, drop, map, FitsSigned, refl, sym, ap, subst, ◌∙◌, arith}
use Rattle.std.specs.Prelude.{◌≤ℤ◌, ◌<ℤ◌, ◌+ℤ◌}
use Rattle.std.specs.Int.{w32}
use Rattle.std.specs.List.{All, AllZip}
use Rattle.std.proofs.lemmas.Int.{ints}
use Rattle.std.proofs.lemmas.List.{length-append}
use Rattle.std.proofs.lemmas.List.Elements.{All-from_recursion, All-cons, All-nil}
use Rattle.ciff_wire.specs.Field.{Entry, as_bytes}
use Rattle.ciff_wire.specs.Canonical.{spelling_of, message_of}
use Rattle.ciff_wire.specs.Laws.{CanonicalIsMessage}
use Rattle.rgb_base.specs.declared.parts.Posting.{Posting}
use Rattle.rgb_base.specs.declared.parts.TermList.{TermList}
use Rattle.rgb_base.specs.declared.parts.DocRecord.{DocRecord}
use Rattle.rgb_base.specs.declared.parts.Header.{Header}
use Rattle.rgb_base.specs.Parts.{IndexParts, IsIndex, FitsList, FitsRecord}
use Rattle.ciff_format.specs.Fields.{Known, header_table, list_table, posting_table, record_table, HasItsType, HasText, HasFields, AreTexts, held_at, int32_at, each_at}
use Rattle.ciff_format.specs.Messages.{header_of, PostingRows, HasListFields, gaps_in, sums_from, AreGaps, IsListOf, document_of}
use Rattle.ciff_format.specs.Canonical.{header_fields, posting_fields, postings_fields, list_fields, record_fields}
use Rattle.ciff_format.proofs.CanonicalFields.{fits_more, Slot, slot_entry, slot_fields, number_slot, eight_slot, text_slot, row_fields, AtLeast, first_at, held_slot, held_row, int32_has, int64_has, double_has, text_has, Fine, fine_none, fine_cons, fine_row, fine_last, fine_number, fine_eight, fine_text, each_row, spelling_most, message_most, last_most}

-- a message of fine fields has them
pub has_fields : CanonicalIsMessage → (table : List Known) (fields : List Entry) → Fine table fields → HasFields table (message_of fields) fields
has_fields law table fields fine = record { spelt = law fields fine.fits; types = All-from_recursion (HasItsType table) fields fine.types }

pub are_texts : (table : List Known) (fields : List Entry) → Fine table fields → AreTexts table fields
are_texts table fields fine = All-from_recursion (HasText table) fields fine.texts

-- a count of lists or documents
pub count_fits : (n : ℕ) → n < 2 ^ 31 → FitsSigned w32 (pos n)
count_fits n small = record { sfits = small }

last_at_least : (slot : Slot) (m : ℕ) → m ≤ slot.number → AtLeast m (slot_fields slot)
last_at_least slot m least = by_test slot.absent
  where
    by_test : (b : Bool) → AtLeast m (cond b [] (slot_entry slot ∷ []))
    by_test true = tt
    by_test false = (least, tt)

-- ---- the header

abbrev header_slots : IndexParts → List Slot
header_slots index =
    number_slot 1 index.header.version
    ∷ number_slot 2 (pos (length index.lists))
    ∷ number_slot 3 (pos (length index.documents))
    ∷ number_slot 4 index.header.total_lists
    ∷ number_slot 5 index.header.total_docs
    ∷ number_slot 6 index.header.total_terms
    ∷ eight_slot 7 index.header.average_bits ∷ []

abbrev header_last : IndexParts → Slot
header_last index = text_slot 8 index.header.description

header_is_row : (index : IndexParts) → header_fields index ≡ row_fields (header_slots index) (slot_fields (header_last index))
unfolding header_fields
header_is_row index = refl

header_held : (index : IndexParts) (n : ℕ) → held_at n (header_fields index) ≡ first_at n (header_slots index) (held_at n (slot_fields (header_last index)))
header_held index n =
    ap (held_at n) (header_is_row index)
    ∙ held_row n 8 (header_slots index) (slot_fields (header_last index)) (omega arith) (last_at_least (header_last index) 8 (omega arith))

pub fine_header : (index : IndexParts) → IsIndex index → Fine header_table (header_fields index)
fine_header index is =
    let h = index.header in
    let f = is.header in
    subst (Fine header_table) (sym (header_is_row index))
    (fine_row header_table (header_slots index) (slot_fields (header_last index)) (
      fine_number header_table 1 h.version (omega arith) (fits_more h.version f.version) (omega arith),
      (
        fine_number header_table 2 (pos (length index.lists)) (omega arith) (fits_more (pos (length index.lists)) (count_fits (length index.lists) is.counted.lists)) (omega arith),
        (
          fine_number header_table 3 (pos (length index.documents)) (omega arith) (fits_more (pos (length index.documents)) (count_fits (length index.documents) is.counted.documents)) (omega arith),
          (
            fine_number header_table 4 h.total_lists (omega arith) (fits_more h.total_lists f.total_lists) (omega arith),
            (
              fine_number header_table 5 h.total_docs (omega arith) (fits_more h.total_docs f.total_docs) (omega arith),
              (
                fine_number header_table 6 h.total_terms (omega arith) f.total_terms (omega arith),
                (fine_eight header_table 7 h.average_bits (omega arith) f.average_bits (omega arith), tt),
              ),
            ),
          ),
        ),
      ),
    )
    (fine_last header_table (header_last index) (fine_text header_table 8 h.description (omega arith) (omega (arith, is.sized.text)) f.description (omega arith))))

-- a header from its parts
abbrev header_with : ℤ → ℤ → ℤ → ℤ → ℕ → List ℕ → Header
header_with version lists docs terms average description =
    record { version = version; total_lists = lists; total_docs = docs; total_terms = terms; average_bits = average; description = description }

same_header : (g h : Header) → g.version ≡ h.version → g.total_lists ≡ h.total_lists → g.total_docs ≡ h.total_docs → g.total_terms ≡ h.total_terms → g.average_bits ≡ h.average_bits → g.description ≡ h.description → g ≡ h
same_header g h a b c d e f =
    ap (λ (z : ℤ). header_with z g.total_lists g.total_docs g.total_terms g.average_bits g.description) a
    ∙ ap (λ (z : ℤ). header_with h.version z g.total_docs g.total_terms g.average_bits g.description) b
    ∙ ap (λ (z : ℤ). header_with h.version h.total_lists z g.total_terms g.average_bits g.description) c
    ∙ ap (λ (z : ℤ). header_with h.version h.total_lists h.total_docs z g.average_bits g.description) d
    ∙ ap (λ (n : ℕ). header_with h.version h.total_lists h.total_docs h.total_terms n g.description) e
    ∙ ap (λ (t : List ℕ). header_with h.version h.total_lists h.total_docs h.total_terms h.average_bits t) f

pub header_says : (index : IndexParts) → IsIndex index → index.header ≡ header_of (header_fields index)
header_says index is =
    let h = index.header in
    let f = is.header in
    let fields = header_fields index in
    sym (same_header (header_of fields) h
    (int32_has 1 fields h.version f.version (record { at = header_held index 1 }))
    (int32_has 4 fields h.total_lists f.total_lists (record { at = header_held index 4 }))
    (int32_has 5 fields h.total_docs f.total_docs (record { at = header_held index 5 }))
    (int64_has 6 fields h.total_terms f.total_terms (record { at = header_held index 6 }))
    (double_has 7 fields h.average_bits (record { at = header_held index 7 }))
    (text_has 8 fields h.description (record { at = header_held index 8 ∙ held_slot (header_last index) })))

pub header_lists : (index : IndexParts) → IsIndex index → int32_at 2 (header_fields index) ≡ pos (length index.lists)
header_lists index is = int32_has 2 (header_fields index) (pos (length index.lists)) (count_fits (length index.lists) is.counted.lists) (record { at = header_held index 2 })

pub header_documents : (index : IndexParts) → IsIndex index → int32_at 3 (header_fields index) ≡ pos (length index.documents)
header_documents index is = int32_has 3 (header_fields index) (pos (length index.documents)) (count_fits (length index.documents) is.counted.documents) (record { at = header_held index 3 })

pub header_most : (index : IndexParts) → length (message_of (header_fields index)) ≤ 200 + length index.header.description
header_most index =
    let slots = header_slots index in
    let tail = slot_fields (header_last index) in
    omega (arith, ap (λ (fs : List Entry). length (message_of fs)) (header_is_row index), message_most slots tail, last_most (header_last index))

-- ---- records

abbrev record_slots : ℕ → DocRecord → List Slot
record_slots doc document = number_slot 1 (pos doc) ∷ text_slot 2 document.name ∷ []

abbrev record_last : DocRecord → Slot
record_last document = number_slot 3 document.length

record_is_row : (doc : ℕ) (document : DocRecord) → record_fields doc document ≡ row_fields (record_slots doc document) (slot_fields (record_last document))
unfolding record_fields
record_is_row doc document = refl

record_held : (doc : ℕ) (document : DocRecord) (n : ℕ) → held_at n (record_fields doc document) ≡ first_at n (record_slots doc document) (held_at n (slot_fields (record_last document)))
record_held doc document n =
    ap (held_at n) (record_is_row doc document)
    ∙ held_row n 3 (record_slots doc document) (slot_fields (record_last document)) (omega arith) (last_at_least (record_last document) 3 (omega arith))

pub fine_record : (doc : ℕ) (document : DocRecord) → doc < 2 ^ 31 → length document.name ≤ 2 ^ 40 → FitsRecord document → Fine record_table (record_fields doc document)
fine_record doc document small short fits =
    subst (Fine record_table) (sym (record_is_row doc document))
    (fine_row record_table (record_slots doc document) (slot_fields (record_last document)) (
      fine_number record_table 1 (pos doc) (omega arith) (fits_more (pos doc) (count_fits doc small)) (omega arith),
      (fine_text record_table 2 document.name (omega arith) (omega (arith, short)) fits.name (omega arith), tt),
    )
    (fine_last record_table (record_last document) (fine_number record_table 3 document.length (omega arith) (fits_more document.length fits.length) (omega arith))))

abbrev record_with : List ℕ → ℤ → DocRecord
record_with name size = record { name = name; length = size }

pub record_says : (doc : ℕ) (document : DocRecord) → FitsRecord document → document ≡ document_of (record_fields doc document)
record_says doc document fits =
    let fields = record_fields doc document in
    sym (ap (λ (t : List ℕ). record_with t (int32_at 3 fields)) (text_has 2 fields document.name (record { at = record_held doc document 2 }))
    ∙ ap (record_with document.name) (int32_has 3 fields document.length fits.length (record { at = record_held doc document 3 ∙ held_slot (record_last document) })))

pub record_number : (doc : ℕ) (document : DocRecord) → doc < 2 ^ 31 → int32_at 1 (record_fields doc document) ≡ pos doc
record_number doc document small = int32_has 1 (record_fields doc document) (pos doc) (count_fits doc small) (record { at = record_held doc document 1 })

pub record_most : (doc : ℕ) (document : DocRecord) → length (message_of (record_fields doc document)) ≤ 60 + length document.name
record_most doc document =
    omega (arith, ap (λ (fs : List Entry). length (message_of fs)) (record_is_row doc document), message_most (record_slots doc document) (slot_fields (record_last document)), last_most (record_last document))

-- ---- postings

abbrev posting_slots : ℕ → List Slot
posting_slots gap = number_slot 1 (pos gap) ∷ []

posting_is_row : (gap : ℕ) (tf : ℤ) → posting_fields gap tf ≡ row_fields (posting_slots gap) (slot_fields (number_slot 2 tf))
unfolding posting_fields
posting_is_row gap tf = refl

posting_held : (gap : ℕ) (tf : ℤ) (n : ℕ) → held_at n (posting_fields gap tf) ≡ first_at n (posting_slots gap) (held_at n (slot_fields (number_slot 2 tf)))
posting_held gap tf n =
    ap (held_at n) (posting_is_row gap tf)
    ∙ held_row n 2 (posting_slots gap) (slot_fields (number_slot 2 tf)) (omega arith) (last_at_least (number_slot 2 tf) 2 (omega arith))

fine_posting : (gap : ℕ) (tf : ℤ) → gap < 2 ^ 31 → FitsSigned w32 tf → Fine posting_table (posting_fields gap tf)
fine_posting gap tf small fits =
    subst (Fine posting_table) (sym (posting_is_row gap tf))
    (fine_row posting_table (posting_slots gap) (slot_fields (number_slot 2 tf))
    (fine_number posting_table 1 (pos gap) (omega arith) (fits_more (pos gap) (count_fits gap small)) (omega arith), tt)
    (fine_last posting_table (number_slot 2 tf) (fine_number posting_table 2 tf (omega arith) (fits_more tf fits) (omega arith))))

posting_gap : (gap : ℕ) (tf : ℤ) → gap < 2 ^ 31 → int32_at 1 (posting_fields gap tf) ≡ pos gap
posting_gap gap tf small = int32_has 1 (posting_fields gap tf) (pos gap) (count_fits gap small) (record { at = posting_held gap tf 1 })

posting_tf : (gap : ℕ) (tf : ℤ) → FitsSigned w32 tf → int32_at 2 (posting_fields gap tf) ≡ tf
posting_tf gap tf fits = int32_has 2 (posting_fields gap tf) tf fits (record { at = posting_held gap tf 2 ∙ held_slot (number_slot 2 tf) })

posting_most : (gap : ℕ) (tf : ℤ) → length (message_of (posting_fields gap tf)) ≤ 40
posting_most gap tf =
    omega (arith, ap (λ (fs : List Entry). length (message_of fs)) (posting_is_row gap tf), message_most (posting_slots gap) (slot_fields (number_slot 2 tf)), last_most (number_slot 2 tf))

-- rising documents below their number, each behind one of this number or at it
abbrev pub Rises : ℕ → ℕ → List Posting → Type 0
Rises count least [] = Unit {0}
Rises count least (p ∷ ps) = (least ≤ p.doc) × (p.doc < count) × FitsSigned w32 p.tf × Rises count (suc p.doc) ps

-- the messages of postings, and their fields
abbrev posting_messages : ℕ → List Posting → List (List ℕ)
posting_messages before [] = []
posting_messages before (p ∷ ps) = message_of (posting_fields (p.doc - before) p.tf) ∷ posting_messages p.doc ps

abbrev pub posting_rows : ℕ → List Posting → PostingRows
posting_rows before [] = []
posting_rows before (p ∷ ps) = posting_fields (p.doc - before) p.tf ∷ posting_rows p.doc ps

postings_each : (before : ℕ) (ps : List Posting) → each_at 4 (postings_fields before ps) ≡ posting_messages before ps
unfolding each_at postings_fields
postings_each before [] = refl
postings_each before (p ∷ ps) = ap (λ (ms : List (List ℕ)). message_of (posting_fields (p.doc - before) p.tf) ∷ ms) (postings_each p.doc ps)

postings_zip : CanonicalIsMessage → (count before least : ℕ) (ps : List Posting) → count < 2 ^ 31 → Rises count least ps → AllZip (HasFields posting_table) (posting_messages before ps) (posting_rows before ps)
postings_zip law count before least [] small rises = tt
postings_zip law count before least (p ∷ ps) small rises =
    (has_fields law posting_table (posting_fields (p.doc - before) p.tf) (fine_posting (p.doc - before) p.tf (omega (arith, small, rises.1)) rises.2), postings_zip law count p.doc (suc p.doc) ps small rises.3)

postings_fine : (count before least : ℕ) (ps : List Posting) → Rises count least ps → Fine list_table (postings_fields before ps)
unfolding postings_fields
postings_fine count before least [] rises = fine_none list_table
postings_fine count before least (p ∷ ps) rises =
    let bytes = message_of (posting_fields (p.doc - before) p.tf) in
    fine_cons list_table (record { number = 4; held = as_bytes bytes }) (postings_fields p.doc ps)
    (record {
      fits = (omega arith, omega (arith, posting_most (p.doc - before) p.tf));
      type_is = omega arith;
      text_is = (λ e. absurd (omega (arith, e)), (λ e. tt, (λ e. tt, (λ e. tt, tt))));
    })
    (postings_fine count p.doc (suc p.doc) ps rises.3)

postings_at_least : (before : ℕ) (ps : List Posting) → AtLeast 4 (postings_fields before ps)
unfolding postings_fields
postings_at_least before [] = tt
postings_at_least before (p ∷ ps) = (omega arith, postings_at_least p.doc ps)

postings_most : (before : ℕ) (ps : List Posting) → length (message_of (postings_fields before ps)) ≤ 60 * length ps
unfolding postings_fields message_of
postings_most before [] = omega arith
postings_most before (p ∷ ps) =
    let entry : Entry = record { number = 4; held = as_bytes (message_of (posting_fields (p.doc - before) p.tf)) } in
    omega (arith, spelling_most entry, posting_most (p.doc - before) p.tf, length-append (spelling_of entry) (message_of (postings_fields p.doc ps)), postings_most p.doc ps)

-- the partial sums of the gaps are the documents
postings_sums : (count before least : ℕ) (ps : List Posting) → count < 2 ^ 31 → before ≤ least → Rises count least ps → map (λ (p : Posting). pos p.doc) ps ≡ sums_from (pos before) (gaps_in (posting_rows before ps))
unfolding sums_from
postings_sums count before least [] small le rises = refl
postings_sums count before least (p ∷ ps) small le rises =
    let gap = p.doc - before in
    let n : before + gap ≡ p.doc = omega (arith, le, rises.0) in
    let sum : pos before +ℤ int32_at 1 (posting_fields gap p.tf) ≡ pos p.doc = ap (λ z. pos before +ℤ z) (posting_gap gap p.tf (omega (arith, small, rises.1))) ∙ ap pos n in
    ap (λ (zs : List ℤ). pos p.doc ∷ zs) (postings_sums count p.doc (suc p.doc) ps small (omega arith) rises.3)
    ∙ ap (λ z. z ∷ sums_from z (gaps_in (posting_rows p.doc ps))) (sym sum)

postings_tfs : (count before least : ℕ) (ps : List Posting) → Rises count least ps → map (λ (p : Posting). p.tf) ps ≡ map (int32_at 2) (posting_rows before ps)
postings_tfs count before least [] rises = refl
postings_tfs count before least (p ∷ ps) rises =
    ap (λ (zs : List ℤ). p.tf ∷ zs) (postings_tfs count p.doc (suc p.doc) ps rises.3)
    ∙ ap (λ z. z ∷ map (int32_at 2) (posting_rows p.doc ps)) (sym (posting_tf (p.doc - before) p.tf rises.2))

postings_below : (count least : ℕ) (ps : List Posting) → Rises count least ps → All (λ z. z <ℤ pos count) (map (λ (p : Posting). pos p.doc) ps)
postings_below count least [] rises = All-nil (λ z. z <ℤ pos count)
postings_below count least (p ∷ ps) rises =
    All-cons (λ z. z <ℤ pos count) (pos p.doc) (map (λ (q : Posting). pos q.doc) ps) (omega (arith, ints, rises.1)) (postings_below count (suc p.doc) ps rises.3)

-- behind a posting each gap is 1 at least
later_gaps : (count before : ℕ) (ps : List Posting) → count < 2 ^ 31 → Rises count (suc before) ps → All (λ z. pos 1 ≤ℤ z) (gaps_in (posting_rows before ps))
later_gaps count before [] small rises = All-nil (λ z. pos 1 ≤ℤ z)
later_gaps count before (p ∷ ps) small rises =
    let gap = posting_gap (p.doc - before) p.tf (omega (arith, small, rises.1)) in
    let one : pos 1 ≤ℤ pos (p.doc - before) = omega (arith, ints, rises.0) in
    All-cons (λ z. pos 1 ≤ℤ z) (int32_at 1 (posting_fields (p.doc - before) p.tf)) (gaps_in (posting_rows p.doc ps))
    (subst (λ z. pos 1 ≤ℤ z) (sym gap) one) (later_gaps count p.doc ps small rises.3)

first_gap : (count : ℕ) (ps : List Posting) → count < 2 ^ 31 → Rises count 0 ps → All (λ z. pos 0 ≤ℤ z) (take 1 (gaps_in (posting_rows 0 ps)))
first_gap count [] small rises = All-nil (λ z. pos 0 ≤ℤ z)
first_gap count (p ∷ ps) small rises =
    let gap = posting_gap (p.doc - 0) p.tf (omega (arith, small, rises.1)) in
    let none : pos 0 ≤ℤ pos (p.doc - 0) = omega (arith, ints) in
    All-cons (λ z. pos 0 ≤ℤ z) (int32_at 1 (posting_fields (p.doc - 0) p.tf)) [] (subst (λ z. pos 0 ≤ℤ z) (sym gap) none) (All-nil (λ z. pos 0 ≤ℤ z))

other_gaps : (count : ℕ) (ps : List Posting) → count < 2 ^ 31 → Rises count 0 ps → All (λ z. pos 1 ≤ℤ z) (drop 1 (gaps_in (posting_rows 0 ps)))
other_gaps count [] small rises = All-nil (λ z. pos 1 ≤ℤ z)
other_gaps count (p ∷ ps) small rises = later_gaps count p.doc ps small rises.3

good_gaps : (count : ℕ) (ps : List Posting) → count < 2 ^ 31 → Rises count 0 ps → AreGaps count (gaps_in (posting_rows 0 ps))
good_gaps count ps small rises = record {
  first = first_gap count ps small rises;
  later = other_gaps count ps small rises;
  below = subst (λ (zs : List ℤ). All (λ z. z <ℤ pos count) zs) (postings_sums count 0 0 ps small (omega arith) rises) (postings_below count 0 ps rises);
}

-- ---- lists

abbrev list_slots : TermList → List Slot
list_slots list = text_slot 1 list.term ∷ number_slot 2 list.df ∷ number_slot 3 list.cf ∷ []

list_is_row : (list : TermList) → list_fields list ≡ row_fields (list_slots list) (postings_fields 0 list.postings)
unfolding list_fields
list_is_row list = refl

list_held : (list : TermList) (n : ℕ) → held_at n (list_fields list) ≡ first_at n (list_slots list) (held_at n (postings_fields 0 list.postings))
list_held list n =
    ap (held_at n) (list_is_row list)
    ∙ held_row n 4 (list_slots list) (postings_fields 0 list.postings) (omega arith) (postings_at_least 0 list.postings)

-- an index's list
pub record GoodList (count : ℕ) (list : TermList) : Type 0 where
  pub small : count < 2 ^ 31
  pub rises : Rises count 0 list.postings
  pub fits : FitsList list
  pub short : length list.term ≤ 2 ^ 40

pub fine_list : (count : ℕ) (list : TermList) → GoodList count list → Fine list_table (list_fields list)
fine_list count list good =
    let f = good.fits in
    subst (Fine list_table) (sym (list_is_row list))
    (fine_row list_table (list_slots list) (postings_fields 0 list.postings) (
      fine_text list_table 1 list.term (omega arith) (omega (arith, good.short)) f.term (omega arith),
      (
        fine_number list_table 2 list.df (omega arith) f.df (omega arith),
        (fine_number list_table 3 list.cf (omega arith) f.cf (omega arith), tt),
      ),
    )
    (postings_fine count 0 0 list.postings good.rises))

list_each : (list : TermList) → each_at 4 (list_fields list) ≡ posting_messages 0 list.postings
list_each list =
    ap (each_at 4) (list_is_row list) ∙ each_row 4 (list_slots list) (postings_fields 0 list.postings) (refl, (refl, (refl, tt))) ∙ postings_each 0 list.postings

pub has_list_fields : CanonicalIsMessage → (count : ℕ) (list : TermList) → GoodList count list → HasListFields (message_of (list_fields list)) (list_fields list) (posting_rows 0 list.postings)
has_list_fields law count list good = record {
  own = has_fields law list_table (list_fields list) (fine_list count list good);
  each = subst (λ (ms : List (List ℕ)). AllZip (HasFields posting_table) ms (posting_rows 0 list.postings)) (sym (list_each list)) (postings_zip law count 0 0 list.postings good.small good.rises);
}

pub list_gaps : (count : ℕ) (list : TermList) → GoodList count list → AreGaps count (gaps_in (posting_rows 0 list.postings))
list_gaps count list good = good_gaps count list.postings good.small good.rises

pub list_says : (count : ℕ) (list : TermList) → GoodList count list → IsListOf (list_fields list) (posting_rows 0 list.postings) list
list_says count list good =
    let fields = list_fields list in
    record {
      term = sym (text_has 1 fields list.term (record { at = list_held list 1 }));
      df = sym (int64_has 2 fields list.df good.fits.df (record { at = list_held list 2 }));
      cf = sym (int64_has 3 fields list.cf good.fits.cf (record { at = list_held list 3 }));
      documents = postings_sums count 0 0 list.postings good.small (omega arith) good.rises;
      frequencies = postings_tfs count 0 0 list.postings good.rises;
    }

pub list_most : (list : TermList) → length (message_of (list_fields list)) ≤ 60 + length list.term + 60 * length list.postings
list_most list =
    omega (arith, ap (λ (fs : List Entry). length (message_of fs)) (list_is_row list), message_most (list_slots list) (postings_fields 0 list.postings), postings_most 0 list.postings)
