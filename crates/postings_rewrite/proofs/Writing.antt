-- The tables of a block store as lists are appended to them.
use Rattle.std.proofs.Common.{◌≡◌, ◌⊎◌, ℕ, zero, suc, ◌+◌, ◌-◌, ◌*◌, ◌/◌, ◌%◌, ◌^◌, ◌<◌, ◌≤◌, List, [], ◌∷◌, ◌++◌, length, get_or, take, drop, map, refl, sym, ap, subst, ◌∙◌, inl, inr, All, arith, length-append, append_assoc}
use Rattle.std.specs.Prelude.{slice_range, slice_index_or}
use Rattle.std.proofs.lemmas.Bool.{cases_lt}
use Rattle.std.proofs.lemmas.List.{append-nil, drop_at, take_all, get_or_at, get_or_append_left, length-map, get_or-map, take_at}
use Rattle.ciff_wire.specs.Varint.{varint}
use Rattle.rgb_base.specs.declared.parts.Posting.{Posting}
use Rattle.postings_rewrite.specs.declared.block_tables.Tables.{Tables}
use Rattle.postings_rewrite.specs.declared.store.Place.{Place}
use Rattle.postings_rewrite.specs.Stores.{AreDocuments}
use Rattle.postings_rewrite.specs.Blocks.{least, gaps, place_before, skips, skip_count, skip_head, before_of, bytes_of}
use Rattle.postings_rewrite.specs.BlockTables.{IsWritten, AreTables, IsAppended, IsSkipped}
use Rattle.postings_rewrite.proofs.Gapped.{least-next, least-low, gaps-more, skips-more, length-skips}

-- the first n entries are put behind what stood in the tables
pub record IsPut (list bytes_old befores_old offsets_old : List ℕ) (n before : ℕ) (bytes befores offsets : List ℕ) : Type 0 where
  pub before_is : before ≡ least 0 list n
  pub bytes_are : bytes ≡ bytes_old ++ gaps 0 (take n list)
  pub befores_are : befores ≡ befores_old ++ skips before_of list (skip_count n)
  pub offsets_are : offsets ≡ offsets_old ++ skips bytes_of list (skip_count n)

-- the skip entries of one entry more
skipped : (part : Place → ℕ) (list old now more : List ℕ) (n number : ℕ) → now ≡ old ++ skips part list (skip_count n) → IsSkipped n number now more → number ≡ part (place_before list n)
    → more ≡ old ++ skips part list (skip_count (n + 1))
skipped part list old now more n number are skip same =
    elim (cases_lt 0 n) [
      | inl some ↦
          elim (cases_lt 0 (n % 128)) [
            | inl rest ↦
                let count : skip_count n ≡ skip_count (n + 1) = omega (arith, some, rest) in
                skip.kept (inr rest) ∙ (are ∙ ap (λ (k : ℕ). old ++ skips part list k) count)
            | inr none ↦
                let begins : n % 128 ≡ 0 = omega (arith, none) in
                let count : skip_count (n + 1) ≡ skip_count n + 1 = omega (arith, some, begins) in
                let at : n ≡ 128 * (skip_count n + 1) = omega (arith, some, begins) in
                let last : number ∷ [] ≡ part (place_before list (128 * (skip_count n + 1))) ∷ [] = ap (λ (v : ℕ). v ∷ []) (same ∙ ap (λ (k : ℕ). part (place_before list k)) at) in
                let added : skips part list (skip_count n) ++ number ∷ [] ≡ skips part list (skip_count (n + 1)) =
                ap (λ (v : List ℕ). skips part list (skip_count n) ++ v) last ∙ (sym (skips-more part list (skip_count n)) ∙ ap (skips part list) (sym count)) in
                skip.put some begins ∙ (ap (λ (v : List ℕ). v ++ number ∷ []) are ∙ (append_assoc old (skips part list (skip_count n)) (number ∷ []) ∙ ap (λ (v : List ℕ). old ++ v) added))
          ]
      | inr none ↦
          let here : n ≡ 0 = omega (arith, none) in
          let count : skip_count n ≡ skip_count (n + 1) = omega (arith, here) in
          skip.kept (inl here) ∙ (are ∙ ap (λ (k : ℕ). old ++ skips part list k) count)
    ]

pub put_more : (list bytes_old befores_old offsets_old : List ℕ) (n before number offset : ℕ) (bytes befores offsets bytes_more befores_more offsets_more : List ℕ)
    → IsPut list bytes_old befores_old offsets_old n before bytes befores offsets → n < length list → number ≡ get_or list n 0
    → IsSkipped n before befores befores_more → IsSkipped n offset offsets offsets_more → offset ≡ length bytes - length bytes_old
    → bytes_more ≡ bytes ++ varint (number - before)
    → IsPut list bytes_old befores_old offsets_old (n + 1) (number + 1) bytes_more befores_more offsets_more
put_more list bytes_old befores_old offsets_old n before number offset bytes befores offsets bytes_more befores_more offsets_more put within same skip_before skip_offset at more =
    let size : length bytes ≡ length bytes_old + length (gaps 0 (take n list)) = ap length put.bytes_are ∙ length-append bytes_old (gaps 0 (take n list)) in
    let gap : varint (number - before) ≡ varint (get_or list n 0 - least 0 list n) = ap (λ (k : ℕ). varint (k - before)) same ∙ ap (λ (k : ℕ). varint (get_or list n 0 - k)) put.before_is in
    record {
      before_is = ap (λ (k : ℕ). k + 1) same ∙ sym (least-next 0 list n);
      bytes_are = more ∙ (ap (λ (b : List ℕ). b ++ varint (number - before)) put.bytes_are ∙ (append_assoc bytes_old (gaps 0 (take n list)) (varint (number - before)) ∙ ap (λ (b : List ℕ). bytes_old ++ b) (ap (λ (v : List ℕ). gaps 0 (take n list) ++ v) gap ∙ sym (gaps-more 0 list n within))));
      befores_are = skipped before_of list befores_old befores befores_more n before put.befores_are skip_before put.before_is;
      offsets_are = skipped bytes_of list offsets_old offsets offsets_more n offset put.offsets_are skip_offset (omega (arith, at, size));
    }

-- at first nothing is put
pub put_none : (list bytes befores offsets : List ℕ) → IsPut list bytes befores offsets 0 0 bytes befores offsets
unfolding skips
put_none list bytes befores offsets = record {
  before_is = refl;
  bytes_are = sym (append-nil bytes);
  befores_are = sym (append-nil befores);
  offsets_are = sym (append-nil offsets);
}

abbrev doc_of : Posting → ℕ
doc_of posting = posting.doc

-- the number of the next entry is at least the least that it can have
pub low_there : (postings : List Posting) (n before : ℕ) (bytes_old befores_old offsets_old bytes befores offsets : List ℕ) → IsPut (map doc_of postings) bytes_old befores_old offsets_old n before bytes befores offsets
    → n < length postings → AreDocuments (2 ^ 32 - 1) (map doc_of postings) → (d : Posting) → before ≤ (get_or postings n d).doc
low_there postings n before bytes_old befores_old offsets_old bytes befores offsets put within sound d =
    let size = length-map postings doc_of in
    omega (arith, put.before_is, least-low (map doc_of postings) n sound.rising (omega (arith, within, size)), get_or-map doc_of postings n d 0 within)

-- and one more than it has 32 bits
pub high_there : (postings : List Posting) (n : ℕ) → n < length postings → AreDocuments (2 ^ 32 - 1) (map doc_of postings) → (d : Posting) → (get_or postings n d).doc + 1 < 2 ^ 32
high_there postings n within sound d =
    let size = length-map postings doc_of in
    omega (arith, sound.below n 0 (omega (arith, within, size)), get_or-map doc_of postings n d 0 within)

-- what stands where all are put
pub record AllPut (list bytes_old befores_old offsets_old : List ℕ) (count : ℕ) (bytes befores offsets : List ℕ) : Type 0 where
  pub bytes_are : bytes ≡ bytes_old ++ gaps 0 list
  pub befores_are : befores ≡ befores_old ++ skips before_of list (skip_count count)
  pub offsets_are : offsets ≡ offsets_old ++ skips bytes_of list (skip_count count)

pub put_all : (postings : List Posting) (n before : ℕ) (bytes_old befores_old offsets_old bytes befores offsets : List ℕ) → IsPut (map doc_of postings) bytes_old befores_old offsets_old n before bytes befores offsets
    → n ≡ length postings → AllPut (map doc_of postings) bytes_old befores_old offsets_old (length postings) bytes befores offsets
put_all postings n before bytes_old befores_old offsets_old bytes befores offsets put all =
    let list = map doc_of postings in
    let whole : take n list ≡ list = take_all n list (omega (arith, all, length-map postings doc_of)) in
    record {
      bytes_are = put.bytes_are ∙ ap (λ (l : List ℕ). bytes_old ++ gaps 0 l) whole;
      befores_are = put.befores_are ∙ ap (λ (k : ℕ). befores_old ++ skips before_of list (skip_count k)) all;
      offsets_are = put.offsets_are ∙ ap (λ (k : ℕ). offsets_old ++ skips bytes_of list (skip_count k)) all;
    }
