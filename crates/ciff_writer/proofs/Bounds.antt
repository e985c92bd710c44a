-- How long a canonical file can be at most, so that its length is a number of 64 bits.
use Rattle.std.proofs.Common.{◌≡◌, ℕ, ◌+◌, ◌-◌, ◌*◌, ◌^◌, ◌<◌, ◌≤◌, ℤ, pos, List, [], ◌∷◌, ◌++◌, length, sum_by, refl, sym, ap, ◌∙◌, arith, inl, inr, length-append}
use Rattle.std.specs.Int.{w64, cast_unsigned}
use Rattle.std.proofs.lemmas.Bool.{cases_lt}
use Rattle.std.proofs.lemmas.List.Sums.{sum_by-cons}
use Rattle.ciff_wire.specs.Varint.{varint}
use Rattle.ciff_wire.specs.Canonical.{message_of, number_field}
use Rattle.ciff_format.specs.Canonical.{bytes_of, framed, text_field, bytes_field, eight_field, posting_fields, postings_fields, records_from}
use Rattle.rgb_base.specs.declared.parts.Posting.{Posting}
use Rattle.rgb_base.specs.declared.parts.TermList.{TermList}
use Rattle.rgb_base.specs.declared.parts.DocRecord.{DocRecord}
use Rattle.rgb_base.specs.Parts.{IndexParts, IsIndex, posting_count}
use Rattle.ciff_writer.specs.Pieces.{header_bytes, list_bytes, record_bytes, lists_bytes}
use Rattle.ciff_writer.proofs.Fields.{length-varint, number-none, number-some, eight-none, length-eight, text-none, length-text, posting-bytes, length-posting, length-message-append}
use Rattle.ciff_writer.proofs.Parts.{length-header, length-list, length-record}

number-most : (n : ℕ) (z : ℤ) → n < 16 → length (message_of (number_field n z)) ≤ 11
number-most n z small =
    let v = cast_unsigned w64 z in
    elim (cases_lt v 1) [
      | inl none ↦ omega (arith, ap length (number-none n z (omega arith)))
      | inr some ↦ omega (arith, ap length (number-some n z small (λ none. omega (arith, none, some))), length-varint v)
    ]

eight-most : (n bits : ℕ) → n < 16 → length (message_of (eight_field n bits)) ≤ 9
eight-most n bits small =
    elim (cases_lt bits 1) [
      | inl none ↦ omega (arith, ap length (eight-none n bits (omega arith)))
      | inr some ↦ omega (arith, length-eight n bits small (λ none. omega (arith, none, some)))
    ]

text-most : (n : ℕ) (text : List ℕ) → n < 16 → length (message_of (text_field n text)) ≤ 11 + length text
text-most n text small =
    elim (cases_lt (length text) 1) [
      | inl none ↦ omega (arith, ap length (text-none n text (omega arith)))
      | inr some ↦ omega (arith, length-text n text small (λ none. omega (arith, none, some)), length-varint (length text))
    ]

postings-most : (before : ℕ) (ps : List Posting) → length (message_of (postings_fields before ps)) ≤ 24 * length ps
unfolding postings_fields message_of
postings-most before [] = omega arith
postings-most before (p ∷ ps) =
    let m = message_of (posting_fields (p.doc - before) p.tf) in
    let one = number-most 1 (pos (p.doc - before)) (omega arith) in
    let two = number-most 2 p.tf (omega arith) in
    let size = length-posting (p.doc - before) p.tf in
    let bytes = ap length (posting-bytes m (omega arith)) in
    omega (arith, postings-most p.doc ps, length-message-append (bytes_field 4 m) (postings_fields p.doc ps))

framed-most : (m : List ℕ) → length (framed m) ≤ 10 + length m
unfolding framed
framed-most m = omega (arith, length-append (varint (length m)) m, length-varint (length m))

-- how long a message behind its length is
pub length-framed : (m : List ℕ) (size : ℕ) → size ≡ length m → length (framed m) ≡ length (varint size) + size
unfolding framed
length-framed m size len = length-append (varint (length m)) m ∙ ap (λ (n : ℕ). length (varint n) + n) (sym len)

pub header-most : (index : IndexParts) → length (framed (header_bytes index)) ≤ 128 + length index.header.description
header-most index =
    let one = number-most 1 index.header.version (omega arith) in
    let two = number-most 2 (pos (length index.lists)) (omega arith) in
    let three = number-most 3 (pos (length index.documents)) (omega arith) in
    let four = number-most 4 index.header.total_lists (omega arith) in
    let five = number-most 5 index.header.total_docs (omega arith) in
    let six = number-most 6 index.header.total_terms (omega arith) in
    let seven = eight-most 7 index.header.average_bits (omega arith) in
    let eight = text-most 8 index.header.description (omega arith) in
    omega (arith, framed-most (header_bytes index), length-header index)

pub list-most : (l : TermList) → length (framed (list_bytes l)) ≤ 64 + length l.term + 24 * length l.postings
list-most l =
    let one = text-most 1 l.term (omega arith) in
    let two = number-most 2 l.df (omega arith) in
    let three = number-most 3 l.cf (omega arith) in
    omega (arith, framed-most (list_bytes l), length-list l, postings-most 0 l.postings)

pub record-most : (doc : ℕ) (d : DocRecord) → length (framed (record_bytes doc d)) ≤ 64 + length d.name
record-most doc d =
    let one = number-most 1 (pos doc) (omega arith) in
    let two = text-most 2 d.name (omega arith) in
    let three = number-most 3 d.length (omega arith) in
    omega (arith, framed-most (record_bytes doc d), length-record doc d)

lists-most : (ls : List TermList) → length (lists_bytes ls) ≤ 64 * length ls + sum_by (λ l. length l.term) ls + 24 * posting_count ls
lists-most [] = omega arith
lists-most (l ∷ ls) =
    let whole : length (lists_bytes (l ∷ ls)) ≡ length (framed (list_bytes l) ++ lists_bytes ls) = refl in
    let terms = sum_by-cons (λ (m : TermList). length m.term) l ls in
    let postings = sum_by-cons (λ (m : TermList). length m.postings) l ls in
    omega (arith, list-most l, lists-most ls, length-append (framed (list_bytes l)) (lists_bytes ls))

records-most : (doc : ℕ) (ds : List DocRecord) → length (records_from doc ds) ≤ 64 * length ds + sum_by (λ d. length d.name) ds
unfolding records_from
records-most doc [] = omega arith
records-most doc (d ∷ ds) =
    let names = sum_by-cons (λ (e : DocRecord). length e.name) d ds in
    omega (arith, record-most doc d, records-most (doc + 1) ds, length-append (framed (record_bytes doc d)) (records_from (doc + 1) ds))

pub length-file : (index : IndexParts) → length (bytes_of index) ≡ length (framed (header_bytes index)) + length (lists_bytes index.lists) + length (records_from 0 index.documents)
unfolding bytes_of
length-file index =
    omega (arith, length-append (framed (header_bytes index)) (lists_bytes index.lists ++ records_from 0 index.documents), length-append (lists_bytes index.lists) (records_from 0 index.documents))

-- the file is short
pub file-most : (index : IndexParts) → IsIndex index → length (bytes_of index) < 2 ^ 48
file-most index is =
    let header = header-most index in
    let lists = lists-most index.lists in
    let records = records-most 0 index.documents in
    let counted = is.counted in
    let sized = is.sized in
    omega (arith, length-file index)
