-- The messages of an index, field by field, and what its calls tell of their parts.
use Rattle.std.proofs.Common.{◌≡◌, ℕ, ◌+◌, ◌^◌, ◌<◌, ◌≤◌, ℤ, pos, to_z, of_z, List, [], ◌++◌, length, get_or, map, drop, Option, Some, option_map, IfSome, slice_get, refl, sym, ap, subst, ◌∙◌, append_assoc, length-append, arith}
use mir.Val.{SFits}
use Rattle.std.specs.Int.{w32}
use Rattle.std.proofs.lemmas.Int.{to_z-of_z}
use Rattle.std.specs.List.Sorted.{IsStrictlyIncreasing}
use Rattle.std.proofs.lemmas.Option.{slice_get-get_or}
use Rattle.std.proofs.lemmas.List.{drop_more, drop_all}
use Rattle.std.proofs.lemmas.List.Elements.{All-get_or}
use Rattle.std.proofs.lemmas.List.Sums.{get_or-le-sum_by}
use Rattle.ciff_wire.specs.Varint.{varint}
use Rattle.ciff_wire.specs.Canonical.{message_of, number_field}
use Rattle.ciff_format.specs.Canonical.{bytes_of, framed, text_field, eight_field, header_fields, postings_fields, list_fields, record_fields, records_from}
use Rattle.rgb_base.specs.declared.parts.Posting.{Posting}
use Rattle.rgb_base.specs.declared.parts.TermList.{TermList}
use Rattle.rgb_base.specs.declared.parts.DocRecord.{DocRecord}
use Rattle.rgb_base.specs.declared.parts.Header.{Header}
use Rattle.rgb_base.specs.Parts.{IndexParts, IsPostings, AreOrdered, posting_count, text_size}
use Rattle.ciff_writer.specs.Pieces.{header_bytes, list_bytes, record_bytes, lists_bytes}
use Rattle.ciff_writer.proofs.Fields.{message-append, length-message-append}

-- what stands at a place past the end
abbrev pub no_list : TermList
no_list = record { term = []; df = pos 0; cf = pos 0; postings = [] }

abbrev pub no_record : DocRecord
no_record = record { name = []; length = pos 0 }

-- what a call says of the element at a place
pub told : {X Y : Type 0} (f : X → Y) (xs : List X) (i : ℕ) (d : X) (y : Y) → i < length xs → option_map f (slice_get xs i) ≡ Some y → f (get_or xs i d) ≡ y
told f xs i d y inside e =
    let found : option_map f (Some (get_or xs i d)) ≡ Some y = ap (option_map f) (sym (slice_get-get_or xs i d inside)) ∙ e in
    cc

-- a clause on the element at a place, and back
pub here : {X : Type 0} (P : X → Type 0) (xs : List X) (i : ℕ) (d : X) → i < length xs → P (get_or xs i d) → IfSome (slice_get xs i) P
here {X} P xs i d inside p = subst (λ (o : Option X). IfSome o P) (sym (slice_get-get_or xs i d inside)) p

pub its : {X : Type 0} (P : X → Type 0) (xs : List X) (i : ℕ) (d : X) → i < length xs → IfSome (slice_get xs i) P → P (get_or xs i d)
its {X} P xs i d inside p = subst (λ (o : Option X). IfSome o P) (slice_get-get_or xs i d inside) p

-- the postings of a list of an index rise
pub rising-of : (documents : ℕ) (lists : List TermList) (i : ℕ) (postings : List Posting) → AreOrdered documents lists → i < length lists
    → option_map (λ l. l.postings) (slice_get lists i) ≡ Some postings → IsStrictlyIncreasing (map (λ posting. posting.doc) postings)
rising-of documents lists i postings ordered inside e =
    let at : IsPostings documents (get_or lists i no_list).postings = All-get_or (λ list. IsPostings documents list.postings) lists i no_list inside ordered in
    subst (λ (ps : List Posting). IsStrictlyIncreasing (map (λ posting. posting.doc) ps)) (told (λ (l : TermList). l.postings) lists i no_list postings inside e) at.rising

-- and are not too many
pub few-of : (lists : List TermList) (i : ℕ) (postings : List Posting) → posting_count lists < 2 ^ 32 → i < length lists → option_map (λ l. l.postings) (slice_get lists i) ≡ Some postings → length postings < 2 ^ 32
few-of lists i postings few inside e =
    let within = get_or-le-sum_by (λ (l : TermList). length l.postings) lists i no_list inside in
    omega (arith, within, ap length (told (λ (l : TermList). l.postings) lists i no_list postings inside e))

-- nor is a term too long
pub short-term : (parts : IndexParts) (i : ℕ) (term : List ℕ) → text_size parts ≤ 2 ^ 40 → i < length parts.lists → option_map (λ l. l.term) (slice_get parts.lists i) ≡ Some term → length term ≤ 2 ^ 40
short-term parts i term short inside e =
    let within = get_or-le-sum_by (λ (l : TermList). length l.term) parts.lists i no_list inside in
    omega (arith, within, ap length (told (λ (l : TermList). l.term) parts.lists i no_list term inside e))

-- or a name
pub short-name : (parts : IndexParts) (i : ℕ) (name : List ℕ) → text_size parts ≤ 2 ^ 40 → i < length parts.documents → option_map (λ d. d.name) (slice_get parts.documents i) ≡ Some name → length name ≤ 2 ^ 40
short-name parts i name short inside e =
    let within = get_or-le-sum_by (λ (d : DocRecord). length d.name) parts.documents i no_record inside in
    omega (arith, within, ap length (told (λ (d : DocRecord). d.name) parts.documents i no_record name inside e))

-- ---- the lengths of messages, field by field

pub length-header : (index : IndexParts) → length (header_bytes index)
    ≡ length (message_of (number_field 1 index.header.version))
    + length (message_of (number_field 2 (pos (length index.lists))))
    + length (message_of (number_field 3 (pos (length index.documents))))
    + length (message_of (number_field 4 index.header.total_lists))
    + length (message_of (number_field 5 index.header.total_docs))
    + length (message_of (number_field 6 index.header.total_terms))
    + length (message_of (eight_field 7 index.header.average_bits))
    + length (message_of (text_field 8 index.header.description))
unfolding header_fields
length-header index = rw (length-message-append, length-message-append, length-message-append, length-message-append, length-message-append, length-message-append, length-message-append) (omega arith)

pub length-list : (l : TermList) → length (list_bytes l)
    ≡ length (message_of (text_field 1 l.term)) + length (message_of (number_field 2 l.df)) + length (message_of (number_field 3 l.cf)) + length (message_of (postings_fields 0 l.postings))
unfolding list_fields
length-list l = rw (length-message-append, length-message-append, length-message-append) (omega arith)

pub length-record : (doc : ℕ) (d : DocRecord) → length (record_bytes doc d)
    ≡ length (message_of (number_field 1 (pos doc))) + length (message_of (text_field 2 d.name)) + length (message_of (number_field 3 d.length))
unfolding record_fields
length-record doc d = rw (length-message-append, length-message-append) (omega arith)

-- ---- the messages, field by field

pub header-parts : (index : IndexParts) (size : ℕ) → size ≡ length (header_bytes index) → framed (header_bytes index)
    ≡ varint size ++ (message_of (number_field 1 index.header.version)
    ++ (message_of (number_field 2 (pos (length index.lists)))
    ++ (message_of (number_field 3 (pos (length index.documents)))
    ++ (message_of (number_field 4 index.header.total_lists)
    ++ (message_of (number_field 5 index.header.total_docs)
    ++ (message_of (number_field 6 index.header.total_terms)
    ++ (message_of (eight_field 7 index.header.average_bits)
    ++ message_of (text_field 8 index.header.description))))))))
unfolding framed header_fields
header-parts index size len = rw (len, message-append, message-append, message-append, message-append, message-append, message-append, message-append) refl

pub list-parts : (l : TermList) (size : ℕ) → size ≡ length (list_bytes l) → framed (list_bytes l)
    ≡ varint size ++ (message_of (text_field 1 l.term) ++ (message_of (number_field 2 l.df) ++ (message_of (number_field 3 l.cf) ++ message_of (postings_fields 0 l.postings))))
unfolding framed list_fields
list-parts l size len = rw (len, message-append, message-append, message-append) refl

pub record-parts : (doc : ℕ) (d : DocRecord) (size : ℕ) → size ≡ length (record_bytes doc d) → framed (record_bytes doc d)
    ≡ varint size ++ (message_of (number_field 1 (pos doc)) ++ (message_of (text_field 2 d.name) ++ message_of (number_field 3 d.length)))
unfolding framed record_fields
record-parts doc d size len = rw (len, message-append, message-append) refl

-- the header's length and fields up to the description, one behind the other
pub header-front : (index : IndexParts) (size : ℕ) (p a b c d e f g q : List ℕ) → size ≡ length (header_bytes index)
    → a ≡ p ++ varint size
    → b ≡ a ++ message_of (number_field 1 index.header.version)
    → c ≡ b ++ message_of (number_field 2 (pos (length index.lists)))
    → d ≡ c ++ message_of (number_field 3 (pos (length index.documents)))
    → e ≡ d ++ message_of (number_field 4 index.header.total_lists)
    → f ≡ e ++ message_of (number_field 5 index.header.total_docs)
    → g ≡ f ++ message_of (number_field 6 index.header.total_terms)
    → q ≡ g ++ message_of (eight_field 7 index.header.average_bits)
    → q ++ message_of (text_field 8 index.header.description) ≡ p ++ framed (header_bytes index)
header-front index size p a b c d e f g q len p0 p1 p2 p3 p4 p5 p6 p7 =
    rw (p7, p6, p5, p4, p3, p2, p1, p0, header-parts index size len) (joined p _ _ _ _ _ _ _ _ _)
  where
    joined : (p a b c d e f g h i : List ℕ) → ((((((((p ++ a) ++ b) ++ c) ++ d) ++ e) ++ f) ++ g) ++ h) ++ i ≡ p ++ (a ++ (b ++ (c ++ (d ++ (e ++ (f ++ (g ++ (h ++ i))))))))
    joined p a b c d e f g h i = simp append_assoc

-- a field of the header, as it was read and widened
pub header-number : (f : Header → ℤ) (z : ℤ) (seen header : Header) → z ≡ to_z w32 (of_z w32 (f seen)) → seen ≡ header → SFits w32 (f header) → z ≡ f header
header-number f z seen header e same fits = e ∙ ap (λ (h : Header). to_z w32 (of_z w32 (f h))) same ∙ to_z-of_z w32 (f header) fits

-- ---- the pieces one after another

pub lists-next : (lists : List TermList) (i : ℕ) → i < length lists → lists_bytes (drop i lists) ≡ framed (list_bytes (get_or lists i no_list)) ++ lists_bytes (drop (i + 1) lists)
lists-next lists i inside = ap lists_bytes (drop_more lists i no_list inside)

pub length-lists-next : (lists : List TermList) (i : ℕ) → i < length lists → length (lists_bytes (drop i lists)) ≡ length (framed (list_bytes (get_or lists i no_list))) + length (lists_bytes (drop (i + 1) lists))
length-lists-next lists i inside = ap length (lists-next lists i inside) ∙ length-append (framed (list_bytes (get_or lists i no_list))) (lists_bytes (drop (i + 1) lists))

pub records-next : (documents : List DocRecord) (i : ℕ) → i < length documents → records_from i (drop i documents) ≡ framed (record_bytes i (get_or documents i no_record)) ++ records_from (i + 1) (drop (i + 1) documents)
unfolding records_from
records-next documents i inside = ap (records_from i) (drop_more documents i no_record inside)

pub length-records-next : (documents : List DocRecord) (i : ℕ) → i < length documents → length (records_from i (drop i documents)) ≡ length (framed (record_bytes i (get_or documents i no_record))) + length (records_from (i + 1) (drop (i + 1) documents))
length-records-next documents i inside = ap length (records-next documents i inside) ∙ length-append (framed (record_bytes i (get_or documents i no_record))) (records_from (i + 1) (drop (i + 1) documents))

pub records-end : (documents : List DocRecord) (i : ℕ) → length documents ≤ i → records_from i (drop i documents) ≡ []
unfolding records_from
records-end documents i past = ap (records_from i) (drop_all i documents past)

pub file-parts : (index : IndexParts) → bytes_of index ≡ framed (header_bytes index) ++ (lists_bytes index.lists ++ records_from 0 index.documents)
unfolding bytes_of
file-parts index = refl
