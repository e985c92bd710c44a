-- The postings of a list one after another, each with its gap to the document before it.
use Rattle.std.proofs.Common.{◌≡◌, ℕ, ◌+◌, ◌-◌, ◌<◌, ◌≤◌, ◌⊎◌, pos, List, [], ◌++◌, length, get_or, map, drop, ap, ◌∙◌, inl, inr, arith}
use Rattle.std.specs.List.Sorted.{IsStrictlyIncreasing}
use Rattle.std.proofs.lemmas.List.{drop_more, drop_all, length-map, length-append}
use Rattle.std.proofs.Math.ListN.{get_or-map}
use Rattle.ciff_wire.specs.Canonical.{message_of}
use Rattle.ciff_format.specs.Canonical.{bytes_field, posting_fields, postings_fields}
use Rattle.rgb_base.specs.declared.parts.Posting.{Posting}
use Rattle.ciff_writer.proofs.Fields.{message-append, posting-bytes}

-- what stands at a place past the end
abbrev pub no_posting : Posting
no_posting = record { doc = 0; tf = pos 0 }

-- the document of posting k
abbrev pub doc_at : List Posting → ℕ → ℕ
doc_at postings k = get_or (map (λ posting. posting.doc) postings) k 0

doc_read : (postings : List Posting) (k : ℕ) → doc_at postings k ≡ (get_or postings k no_posting).doc
doc_read postings k = get_or-map (λ (posting : Posting). posting.doc) postings k no_posting

-- the document of the posting before the i-th, or 0
abbrev pub IsBefore : List Posting → ℕ → ℕ → Type 0
IsBefore postings i before = (before ≡ 0) ⊎ ((0 < i) × (doc_at postings (i - 1) ≡ before))

pub before-below : (postings : List Posting) (i before : ℕ) → IsStrictlyIncreasing (map (λ posting. posting.doc) postings) → IsBefore postings i before → i < length postings
    → before ≤ (get_or postings i no_posting).doc
before-below postings i before rising (inl zero_is) inside = omega arith
before-below postings i before rising (inr h) inside =
    let whole = length-map postings (λ posting. posting.doc) in
    let up : doc_at postings (i - 1) < doc_at postings (i - 1 + 1) = rising (i - 1) (omega arith) in
    let same : i - 1 + 1 ≡ i = omega arith in
    let read : doc_at postings (i - 1 + 1) ≡ (get_or postings i no_posting).doc = ap (doc_at postings) same ∙ doc_read postings i in
    omega arith

pub before-more : (postings : List Posting) (i : ℕ) → IsBefore postings (i + 1) (get_or postings i no_posting).doc
before-more postings i =
    let same : i + 1 - 1 ≡ i = omega arith in
    inr (omega arith, ap (doc_at postings) same ∙ doc_read postings i)

-- the first of the postings that are left, and the others
pub postings-next : (postings : List Posting) (i before : ℕ) → i < length postings → message_of (postings_fields before (drop i postings))
    ≡ message_of (bytes_field 4 (message_of (posting_fields ((get_or postings i no_posting).doc - before) (get_or postings i no_posting).tf))) ++ message_of (postings_fields (get_or postings i no_posting).doc (drop (i + 1) postings))
unfolding postings_fields
postings-next postings i before inside =
    let p = get_or postings i no_posting in
    ap (λ (ps : List Posting). message_of (postings_fields before ps)) (drop_more postings i no_posting inside)
    ∙ message-append (bytes_field 4 (message_of (posting_fields (p.doc - before) p.tf))) (postings_fields p.doc (drop (i + 1) postings))

pub postings-end : (postings : List Posting) (i before : ℕ) → length postings ≤ i → message_of (postings_fields before (drop i postings)) ≡ []
unfolding postings_fields message_of
postings-end postings i before past = ap (λ (ps : List Posting). message_of (postings_fields before ps)) (drop_all i postings past)

-- how long the first of them is
pub length-next : (postings : List Posting) (i before : ℕ) → i < length postings → (size : ℕ) → size ≡ length (message_of (posting_fields ((get_or postings i no_posting).doc - before) (get_or postings i no_posting).tf)) → size ≤ 22
    → length (message_of (postings_fields before (drop i postings))) ≡ 2 + size + length (message_of (postings_fields (get_or postings i no_posting).doc (drop (i + 1) postings)))
length-next postings i before inside size len most =
    let p = get_or postings i no_posting in
    let m = message_of (posting_fields (p.doc - before) p.tf) in
    let rest = message_of (postings_fields p.doc (drop (i + 1) postings)) in
    let bytes = ap length (posting-bytes m (omega (arith, len))) in
    ap length (postings-next postings i before inside) ∙ omega (arith, length-append (message_of (bytes_field 4 m)) rest, bytes, len)
