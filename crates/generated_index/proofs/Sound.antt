-- The generated index is an index.
use Rattle.std.proofs.Common.{◌≡◌, ◌≢◌, ℕ, zero, suc, pos, ◌+◌, ◌*◌, ◌/◌, ◌%◌, ◌^◌, ◌<◌, ◌≤◌, Bool, List, [], ◌∷◌, ◌++◌, length, get_or, take, drop, map, sum_by, All, nat_lt, codes, lit<, refl, sym, ap, subst, ◌∙◌, arith, length-append}
use Rattle.std.specs.Prelude.{FitsSigned, IsUtf8}
use Rattle.std.specs.Int.{w32, w64}
use Rattle.std.specs.Str.{IsAscii}
use Rattle.std.specs.List.{range_with_len, filter, AllPairs}
use Rattle.std.proofs.lemmas.Str.{IsUtf8-from_ascii}
use Rattle.std.proofs.lemmas.Str.Ascii.{IsAscii-nil, IsAscii-cons, IsAscii-push}
use Rattle.std.proofs.lemmas.List.{length-map, get_or-map}
use Rattle.std.proofs.lemmas.List.Elements.{All-filter, All-map}
use Rattle.std.proofs.lemmas.List.Kept.{AllPairs-filter}
use Rattle.std.proofs.lemmas.List.Sums.{sum_by-le}
use Rattle.std.proofs.lemmas.List.FromFn.{length-range_with_len, get_or-range_with_len, length-map-range_with_len}
use Rattle.std.proofs.Math.Seq.{take-append_seam, get_or-append_seam}
use Rattle.std.proofs.Math.Nat.{pow-suc}
use Rattle.rgb_base.specs.declared.parts.Posting.{Posting}
use Rattle.rgb_base.specs.declared.parts.TermList.{TermList}
use Rattle.rgb_base.specs.declared.parts.DocRecord.{DocRecord}
use Rattle.rgb_base.specs.Parts.{IsIndex, FitsHeader, FitsList, FitsRecord, AreDifferent, AreOrdered, terms_of, posting_count}
use Rattle.generated_index.specs.Generated.{digits, tf_of, postings_of, total_drawn, list_of, is_drawn, all_terms, terms_drawn, record_of, header_of, generated}
use Rattle.generated_index.proofs.Steps.{tf_le, postings_le, total_le}
use Rattle.generated_index.proofs.Counting.{all_terms_are}
use Rattle.generated_index.proofs.Lists.{terms_few, range_below, lists_are}

-- ---- labels

digits_ascii : (count n : ℕ) → IsAscii (digits count n)
unfolding digits
digits_ascii zero n = IsAscii-nil
digits_ascii (suc count) n =
    let small : 48 + n % 10 < 128 = omega arith in
    IsAscii-push (digits count (n / 10)) (48 + n % 10) (digits_ascii count (n / 10)) small

pub length-digits : (count n : ℕ) → length (digits count n) ≡ count
unfolding digits
length-digits zero n = refl
length-digits (suc count) n = omega (arith, length-append (digits count (n / 10)) ((48 + n % 10) ∷ []), length-digits count (n / 10))

label_utf8 : (letter count n : ℕ) → letter < 128 → ∥ IsUtf8 (letter ∷ digits count n) ∥₁
label_utf8 letter count n small = ∣ IsUtf8-from_ascii (letter ∷ digits count n) (IsAscii-cons letter (digits count n) small (digits_ascii count n)) ∣₁

-- numbers of so many digits have digits of their own
pub digits_differ : (count a b : ℕ) → a < 10 ^ count → b < 10 ^ count → digits count a ≡ digits count b → a ≡ b
unfolding digits
digits_differ zero a b low high same = omega (arith, low, high)
digits_differ (suc count) a b low high same =
    let xs = digits count (a / 10) in
    let ys = digits count (b / 10) in
    let x = 48 + a % 10 in
    let y = 48 + b % 10 in
    let len : length xs ≡ length ys = length-digits count (a / 10) ∙ sym (length-digits count (b / 10)) in
    let front : xs ≡ ys = sym (take-append_seam xs (x ∷ [])) ∙ ap (take (length xs)) same ∙ ap (λ (n : ℕ). take n (ys ++ y ∷ [])) len ∙ take-append_seam ys (y ∷ []) in
    let last : x ≡ y = sym (get_or-append_seam xs x [] 0) ∙ ap (λ (zs : List ℕ). get_or zs (length xs) 0) same ∙ ap (λ (n : ℕ). get_or (ys ++ y ∷ []) n 0) len ∙ get_or-append_seam ys y [] 0 in
    let power = pow-suc 10 count in
    let rest : a / 10 ≡ b / 10 = digits_differ count (a / 10) (b / 10) (omega (arith, low, power)) (omega (arith, high, power)) front in
    omega (arith, rest, last)

-- ---- terms

range_pairs : (n : ℕ) → AllPairs (λ a b. a < b) (range_with_len 0 n)
range_pairs n i j d lt within =
    let len = length-range_with_len 0 n in
    omega (arith, lt, get_or-range_with_len 0 n i d (omega (arith, lt, within, len)), get_or-range_with_len 0 n j d (omega (arith, within, len)))

terms_rise : (number documents : ℕ) → AllPairs (λ a b. a < b) (terms_drawn number documents)
unfolding terms_drawn
terms_rise number documents = AllPairs-filter (λ (a : ℕ) (b : ℕ). a < b) (is_drawn number documents) (range_with_len 0 all_terms) (range_pairs all_terms)

terms_below : (number documents : ℕ) → All (λ t. t < all_terms) (terms_drawn number documents)
unfolding terms_drawn
terms_below number documents = All-filter (is_drawn number documents) (λ (t : ℕ). t < all_terms) (range_with_len 0 all_terms) (range_below all_terms)

abbrev label : ℕ → List ℕ
label term = codes "w" ++ digits 4 term

labels_of : (number documents : ℕ) (terms : List ℕ) → terms_of (map (list_of number documents) terms) ≡ map label terms
labels_of number documents [] = refl
labels_of number documents (term ∷ terms) = ap (λ (rest : List (List ℕ)). label term ∷ rest) (labels_of number documents terms)

labels_differ : (terms : List ℕ) → AllPairs (λ a b. a < b) terms → All (λ t. t < 10000) terms → AreDifferent (map label terms)
labels_differ terms rise low i j d lt within same =
    let len = length-map terms label in
    let a = get_or terms i 0 in
    let b = get_or terms j 0 in
    let first : i < length terms = omega (arith, lt, within, len) in
    let second : j < length terms = omega (arith, within, len) in
    let labels : label a ≡ label b = sym (get_or-map label terms i 0 d first) ∙ same ∙ get_or-map label terms j 0 d second in
    let one : a ≡ b = digits_differ 4 a b (low i 0 first) (low j 0 second) (ap (drop 1) labels) in
    omega (arith, one, rise i j 0 lt second)

different : (number documents : ℕ) → AreDifferent (terms_of (map (list_of number documents) (terms_drawn number documents)))
different number documents =
    let terms = terms_drawn number documents in
    subst AreDifferent (sym (labels_of number documents terms))
    (labels_differ terms (terms_rise number documents) (λ i d lt. omega (arith, terms_below number documents i d lt, all_terms_are)))

-- ---- values

fits_32 : (n : ℕ) → n < 2 ^ 31 → FitsSigned w32 (pos n)
fits_32 n small = record { sfits = small }

fits_64 : (n : ℕ) → n < 2 ^ 63 → FitsSigned w64 (pos n)
fits_64 n small = record { sfits = small }

-- each byte is ASCII, by cases
abbrev AreAscii : List ℕ → Type 0
AreAscii [] = Unit {0}
AreAscii (byte ∷ bytes) = (byte < 128) × AreAscii bytes

ascii_all : (bytes : List ℕ) → AreAscii bytes → IsAscii bytes
ascii_all [] all = IsAscii-nil
ascii_all (byte ∷ bytes) all = IsAscii-cons byte bytes all.0 (ascii_all bytes all.1)

description_ascii : IsAscii (codes "made by rgb")
description_ascii = ascii_all (codes "made by rgb") (lit< tt, (lit< tt, (lit< tt, (lit< tt, (lit< tt, (lit< tt, (lit< tt, (lit< tt, (lit< tt, (lit< tt, (lit< tt, tt)))))))))))

header_fits : (number documents : ℕ) → documents ≤ 1000000 → FitsHeader (header_of number documents)
header_fits number documents few = record {
  version = fits_32 1 (omega arith);
  total_lists = fits_32 (length (terms_drawn number documents)) (omega (arith, terms_few number documents));
  total_docs = fits_32 documents (omega (arith, few));
  total_terms = fits_64 (20 * documents) (omega (arith, few));
  average_bits = omega arith;
  description = ∣ IsUtf8-from_ascii (codes "made by rgb") description_ascii ∣₁;
}

postings_fit : (number documents term : ℕ) → All (λ posting. FitsSigned w32 posting.tf) (postings_of number documents term)
unfolding postings_of
postings_fit number documents term =
    let f : ℕ → Posting = λ document. record { doc = document; tf = pos (tf_of number term document) } in
    let kept = filter (λ (document : ℕ). nat_lt 0 (tf_of number term document)) (range_with_len 0 documents) in
    All-map (λ (posting : Posting). FitsSigned w32 posting.tf) f kept
    (λ i d lt. fits_32 (tf_of number term (get_or kept i d)) (omega (arith, tf_le number term (get_or kept i d))))

list_fits : (number documents term : ℕ) → documents ≤ 1000000 → FitsList (list_of number documents term)
list_fits number documents term few = record {
  term = label_utf8 119 4 term (omega arith);
  df = fits_64 (length (postings_of number documents term)) (omega (arith, few, postings_le number documents term));
  cf = fits_64 (total_drawn number documents term) (omega (arith, few, total_le number documents term));
  postings = postings_fit number documents term;
}

record_fits : (document : ℕ) → FitsRecord (record_of document)
record_fits document = record { name = label_utf8 68 7 document (omega arith); length = fits_32 20 (omega arith) }

-- ---- sizes

few_postings : (number documents : ℕ) (terms : List ℕ) → documents ≤ 1000000 → posting_count (map (list_of number documents) terms) ≤ length terms * 1000000
few_postings number documents terms few =
    let size : TermList → ℕ = λ list. length list.postings in
    let lists = map (list_of number documents) terms in
    let each : All (λ list. size list ≤ 1000000) lists = All-map (λ (list : TermList). size list ≤ 1000000) (list_of number documents) terms
    (λ i d lt. omega (arith, few, postings_le number documents (get_or terms i d))) in
    omega (arith, sum_by-le size 1000000 lists each, length-map terms (list_of number documents))

little_terms : (number documents : ℕ) (terms : List ℕ) → sum_by (λ list. length list.term) (map (list_of number documents) terms) ≤ length terms * 5
little_terms number documents terms =
    let size : TermList → ℕ = λ list. length list.term in
    let lists = map (list_of number documents) terms in
    let each : All (λ list. size list ≤ 5) lists = All-map (λ (list : TermList). size list ≤ 5) (list_of number documents) terms
    (λ i d lt. omega (arith, length-digits 4 (get_or terms i d))) in
    omega (arith, sum_by-le size 5 lists each, length-map terms (list_of number documents))

little_names : (documents : List ℕ) → sum_by (λ document. length document.name) (map record_of documents) ≤ length documents * 8
little_names documents =
    let size : DocRecord → ℕ = λ document. length document.name in
    let records = map record_of documents in
    let each : All (λ document. size document ≤ 8) records = All-map (λ (document : DocRecord). size document ≤ 8) record_of documents
    (λ i d lt. omega (arith, length-digits 7 (get_or documents i d))) in
    omega (arith, sum_by-le size 8 records each, length-map documents record_of)

-- ---- the index

pub generated_sound : (number documents : ℕ) → documents ≤ 1000000 → IsIndex (generated number documents)
unfolding generated
generated_sound number documents few =
    let terms = terms_drawn number documents in
    let names = range_with_len 0 documents in
    let lists_len = length-map terms (list_of number documents) in
    let records_len : length (map record_of names) ≡ documents = length-map-range_with_len record_of 0 documents in
    record {
      counted = record { lists = omega (arith, lists_len, terms_few number documents); documents = omega (arith, records_len, few) };
      ordered = subst (λ (n : ℕ). AreOrdered n (map (list_of number documents) terms)) (sym records_len) (lists_are number documents terms);
      different = different number documents;
      sized = record {
        postings = omega (arith, few_postings number documents terms few, terms_few number documents);
        text = omega (arith, little_terms number documents terms, terms_few number documents, little_names names, length-range_with_len 0 documents, few);
      };
      header = header_fits number documents few;
      lists = All-map FitsList (list_of number documents) terms (λ i d lt. list_fits number documents (get_or terms i d) few);
      documents = All-map FitsRecord record_of names (λ i d lt. record_fits (get_or names i d));
    }
