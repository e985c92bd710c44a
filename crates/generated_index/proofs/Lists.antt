-- The lists of the terms that were drawn, cut from the table.
use Rattle.std.proofs.Common.{◌≡◌, ℕ, ℤ, zero, suc, pos, ◌+◌, ◌-◌, ◌<◌, ◌≤◌, ◌⊎◌, inl, inr, Bool, true, false, cond, List, [], ◌∷◌, ◌++◌, length, get_or, take, drop, map, All, nat_lt, refl, sym, ap, subst, ◌∙◌, arith, add-zero}
use Rattle.std.specs.List.{range_with_len, filter}
use Rattle.std.specs.List.Sorted.{IsStrictlyIncreasing}
use Rattle.std.proofs.lemmas.List.{map-append, append-nil, length-map}
use Rattle.std.proofs.lemmas.List.Elements.{filter-append, All-filter, All-map, All-from_get_or}
use Rattle.std.proofs.lemmas.List.Kept.{IsStrictlyIncreasing-filter}
use Rattle.std.proofs.lemmas.List.FromFn.{length-range_with_len, get_or-range_with_len}
use Rattle.std.proofs.lemmas.Bool.{false≢true}
use Rattle.rgb_base.specs.declared.parts.Posting.{Posting}
use Rattle.rgb_base.specs.declared.parts.TermList.{TermList}
use Rattle.rgb_base.specs.declared.parts.DocRecord.{DocRecord}
use Rattle.rgb_base.specs.Parts.{IsPostings, AreOrdered}
use Rattle.rgb_base.specs.Building.{Building, with_list, with_record}
use Rattle.std.proofs.lemmas.List.Sums.{length-filter, count_by-le-length}
use Rattle.rgb_base.specs.Table.{AreSplits, cut_at}
use Rattle.generated_index.specs.Generated.{tf_of, postings_of, list_of, is_drawn, all_terms, terms_drawn, record_of}
use Rattle.generated_index.specs.Steps.{begins, bare_list, ends_of, drawn_below}
use Rattle.generated_index.proofs.Ranges.{range_more, below, not_below}
use Rattle.generated_index.proofs.Steps.{begins_more}
use Rattle.generated_index.proofs.Counting.{all_terms_are}

-- ---- the terms that were drawn

pub drawn_none : (number documents : ℕ) → drawn_below number documents 0 ≡ []
unfolding drawn_below
drawn_none number documents = refl

pub drawn_all : (number documents : ℕ) → drawn_below number documents all_terms ≡ terms_drawn number documents
unfolding drawn_below terms_drawn
drawn_all number documents = refl

drawn_more : (number documents term : ℕ) → drawn_below number documents (term + 1) ≡ drawn_below number documents term ++ cond (is_drawn number documents term) (term ∷ []) []
unfolding drawn_below
drawn_more number documents term =
    ap (filter (is_drawn number documents)) (range_more term) ∙ filter-append (is_drawn number documents) (range_with_len 0 term) (term ∷ [])

pub drawn_hit : (number documents term : ℕ) → 0 < length (postings_of number documents term) → drawn_below number documents (term + 1) ≡ drawn_below number documents term ++ term ∷ []
drawn_hit number documents term some =
    drawn_more number documents term ∙ ap (λ (b : Bool). drawn_below number documents term ++ cond b (term ∷ []) []) (below 0 (length (postings_of number documents term)) some)

pub drawn_miss : (number documents term : ℕ) → length (postings_of number documents term) ≡ 0 → drawn_below number documents (term + 1) ≡ drawn_below number documents term
drawn_miss number documents term none =
    drawn_more number documents term ∙ ap (λ (b : Bool). drawn_below number documents term ++ cond b (term ∷ []) []) (not_below 0 (length (postings_of number documents term)) (omega (arith, none)))
    ∙ append-nil (drawn_below number documents term)

pub ends_hit : (number documents term : ℕ) → 0 < length (postings_of number documents term)
    → ends_of number documents (drawn_below number documents (term + 1)) ≡ ends_of number documents (drawn_below number documents term) ++ begins number documents (term + 1) ∷ []
ends_hit number documents term some =
    let end : ℕ → ℕ = λ t. begins number documents (t + 1) in
    ap (map end) (drawn_hit number documents term some) ∙ map-append end (drawn_below number documents term) (term ∷ [])

pub bare_hit : (number documents term : ℕ) → 0 < length (postings_of number documents term)
    → map (bare_list number documents) (drawn_below number documents (term + 1)) ≡ map (bare_list number documents) (drawn_below number documents term) ++ bare_list number documents term ∷ []
bare_hit number documents term some =
    ap (map (bare_list number documents)) (drawn_hit number documents term some) ∙ map-append (bare_list number documents) (drawn_below number documents term) (term ∷ [])

-- ---- the lists, cut from the table

-- the part of each term's postings in the table
abbrev There : ℕ → ℕ → List Posting → ℕ → Type 0
There number documents table term =
    take (length (postings_of number documents term)) (drop (begins number documents term) table) ≡ postings_of number documents term

not_drawn : (n : ℕ) → nat_lt 0 n ≡ false → n ≡ 0
not_drawn zero is = refl
not_drawn (suc n) is = absurd (false≢true (sym is ∙ below 0 (suc n) (omega arith)))

cut_nothing : (from : ℕ) (table : List Posting) → cut_at from [] [] table ≡ []
unfolding cut_at
cut_nothing from table = refl

cut_one : (number documents : ℕ) (table : List Posting) (term : ℕ) (rest : List ℕ) (b : Bool) → is_drawn number documents term ≡ b → There number documents table term
    → cut_at (begins number documents (term + 1)) (ends_of number documents rest) (map (bare_list number documents) rest) table ≡ map (list_of number documents) rest
    → cut_at (begins number documents term) (ends_of number documents (cond b (term ∷ rest) rest)) (map (bare_list number documents) (cond b (term ∷ rest) rest)) table
    ≡ map (list_of number documents) (cond b (term ∷ rest) rest)
unfolding cut_at
cut_one number documents table term rest true is there others =
    let from = begins number documents term in
    let end = begins number documents (term + 1) in
    let size : end - from ≡ length (postings_of number documents term) = omega (arith, begins_more number documents term) in
    let first : take (end - from) (drop from table) ≡ postings_of number documents term = ap (λ (n : ℕ). take n (drop from table)) size ∙ there in
    ap (λ (ps : List Posting). let list : TermList = record (bare_list number documents term) { postings = ps } in list ∷ cut_at end (ends_of number documents rest) (map (bare_list number documents) rest) table) first
    ∙ ap (λ (ls : List TermList). list_of number documents term ∷ ls) others
cut_one number documents table term rest false is there others =
    let none : length (postings_of number documents term) ≡ 0 = not_drawn (length (postings_of number documents term)) is in
    let same : begins number documents (term + 1) ≡ begins number documents term = omega (arith, begins_more number documents term, none) in
    subst (λ (from : ℕ). cut_at from (ends_of number documents rest) (map (bare_list number documents) rest) table ≡ map (list_of number documents) rest) same others

cut_from : (number documents : ℕ) (table : List Posting) (first count : ℕ) → ((term : ℕ) → first ≤ term → term < first + count → There number documents table term)
    → cut_at (begins number documents first) (ends_of number documents (filter (is_drawn number documents) (range_with_len first count))) (map (bare_list number documents) (filter (is_drawn number documents) (range_with_len first count))) table
    ≡ map (list_of number documents) (filter (is_drawn number documents) (range_with_len first count))
cut_from number documents table first zero there = cut_nothing (begins number documents first) table
cut_from number documents table first (suc count) there =
    let rest = filter (is_drawn number documents) (range_with_len (first + 1) count) in
    let others = cut_from number documents table (first + 1) count (λ term low high. there term (omega (arith, low)) (omega (arith, high))) in
    cut_one number documents table first rest (is_drawn number documents first) refl (there first (omega arith) (omega arith)) others

pub cut_all : (number documents : ℕ) (table : List Posting) → ((term : ℕ) → term < all_terms → There number documents table term)
    → cut_at (begins number documents 0) (ends_of number documents (terms_drawn number documents)) (map (bare_list number documents) (terms_drawn number documents)) table
    ≡ map (list_of number documents) (terms_drawn number documents)
unfolding terms_drawn
cut_all number documents table there = cut_from number documents table 0 all_terms (λ term low high. there term (omega (arith, high)))

-- ---- the ends split the table

split_one : (number documents term size : ℕ) (rest : List ℕ) (b : Bool) → is_drawn number documents term ≡ b → AreSplits (begins number documents (term + 1)) (ends_of number documents rest) size
    → AreSplits (begins number documents term) (ends_of number documents (cond b (term ∷ rest) rest)) size
split_one number documents term size rest true is others = (omega (arith, begins_more number documents term), others)
split_one number documents term size rest false is others =
    let none : length (postings_of number documents term) ≡ 0 = not_drawn (length (postings_of number documents term)) is in
    let same : begins number documents (term + 1) ≡ begins number documents term = omega (arith, begins_more number documents term, none) in
    subst (λ (from : ℕ). AreSplits from (ends_of number documents rest) size) same others

splits_from : (number documents first count : ℕ) → AreSplits (begins number documents first) (ends_of number documents (filter (is_drawn number documents) (range_with_len first count))) (begins number documents (first + count))
splits_from number documents first zero = ap (begins number documents) (sym (add-zero first))
splits_from number documents first (suc count) =
    let rest = filter (is_drawn number documents) (range_with_len (first + 1) count) in
    let place : (first + 1) + count ≡ first + suc count = omega arith in
    let others = subst (λ (n : ℕ). AreSplits (begins number documents (first + 1)) (ends_of number documents rest) (begins number documents n)) place (splits_from number documents (first + 1) count) in
    split_one number documents first (begins number documents (first + suc count)) rest (is_drawn number documents first) refl others

pub splits_all : (number documents : ℕ) → AreSplits (begins number documents 0) (ends_of number documents (terms_drawn number documents)) (begins number documents all_terms)
unfolding terms_drawn
splits_all number documents =
    let place : 0 + all_terms ≡ all_terms = omega arith in
    subst (λ (n : ℕ). AreSplits (begins number documents 0) (ends_of number documents (filter (is_drawn number documents) (range_with_len 0 all_terms))) (begins number documents n)) place (splits_from number documents 0 all_terms)

-- ---- the postings are such

docs_of : (f : ℕ → ℕ) (ds : List ℕ) → map (λ posting. posting.doc) (map (λ document. let p : Posting = record { doc = document; tf = pos (f document) } in p) ds) ≡ ds
docs_of f [] = refl
docs_of f (d ∷ ds) = ap (λ (rest : List ℕ). d ∷ rest) (docs_of f ds)

range_rises : (n : ℕ) → IsStrictlyIncreasing (range_with_len 0 n)
range_rises n k lt =
    let len = length-range_with_len 0 n in
    let one = get_or-range_with_len 0 n k 0 (omega (arith, lt, len)) in
    let two = get_or-range_with_len 0 n (k + 1) 0 (omega (arith, lt, len)) in
    omega (arith, one, two)

pub range_below : (n : ℕ) → All (λ k. k < n) (range_with_len 0 n)
range_below n = All-from_get_or (λ (k : ℕ). k < n) (range_with_len 0 n) 0 (λ i lt.
    let within : i < n = omega (arith, lt, length-range_with_len 0 n) in
    omega (arith, get_or-range_with_len 0 n i 0 within, within))

pub postings_are : (number documents term : ℕ) → IsPostings documents (postings_of number documents term)
unfolding postings_of
postings_are number documents term =
    let p : ℕ → Bool = λ document. nat_lt 0 (tf_of number term document) in
    let f : ℕ → Posting = λ document. record { doc = document; tf = pos (tf_of number term document) } in
    let kept = filter p (range_with_len 0 documents) in
    let P : Posting → Type 0 = λ posting. posting.doc < documents in
    record {
      rising = subst IsStrictlyIncreasing (sym (docs_of (tf_of number term) kept)) (IsStrictlyIncreasing-filter p (range_with_len 0 documents) (range_rises documents));
      below = All-map P f kept (All-filter p (λ (d : ℕ). d < documents) (range_with_len 0 documents) (range_below documents));
    }

pub lists_are : (number documents : ℕ) (terms : List ℕ) → AreOrdered documents (map (list_of number documents) terms)
lists_are number documents terms =
    let P : TermList → Type 0 = λ list. IsPostings documents list.postings in
    All-map P (list_of number documents) terms (All-from_get_or (λ (t : ℕ). P (list_of number documents t)) terms 0 (λ i lt. postings_are number documents (get_or terms i 0)))

-- ---- the pieces of an index

pub terms_few : (number documents : ℕ) → length (terms_drawn number documents) ≤ 2000
unfolding terms_drawn
terms_few number documents =
    let p = is_drawn number documents in
    let terms = range_with_len 0 all_terms in
    omega (arith, length-filter p terms, count_by-le-length p terms, length-range_with_len 0 all_terms, all_terms_are)

-- a list that is closed over no postings
pub list_pushed : (building : Building) (lists : List TermList) (term : List ℕ) (df cf : ℤ) (list : TermList) → building.postings ≡ [] → term ≡ list.term → df ≡ list.df → cf ≡ list.cf → list.postings ≡ []
    → with_list (record building { lists = lists }) term df cf ≡ record building { lists = lists ++ list ∷ [] }
list_pushed building lists term df cf list none same_term same_df same_cf bare =
    let made : List ℕ → ℤ → ℤ → List Posting → TermList = λ t d c ps. record { term = t; df = d; cf = c; postings = ps } in
    let with_one : TermList → List Posting → Building = λ l ps. record building { lists = lists ++ l ∷ []; postings = ps } in
    ap (λ (ps : List Posting). with_one (made term df cf ps) []) none
    ∙ ap (λ (t : List ℕ). with_one (made t df cf []) []) same_term
    ∙ ap (λ (d : ℤ). with_one (made list.term d cf []) []) same_df
    ∙ ap (λ (c : ℤ). with_one (made list.term list.df c []) []) same_cf
    ∙ ap (λ (ps : List Posting). with_one (made list.term list.df list.cf ps) []) (sym bare)
    ∙ ap (with_one list) (sym none)

-- one more record
pub record_pushed : (building : Building) (documents : ℕ) (name : List ℕ) → name ≡ (record_of documents).name
    → with_record (record building { records = map record_of (range_with_len 0 documents) }) name (pos 20) ≡ record building { records = map record_of (range_with_len 0 (documents + 1)) }
record_pushed building documents name same =
    let before = map record_of (range_with_len 0 documents) in
    let more : map record_of (range_with_len 0 (documents + 1)) ≡ before ++ record_of documents ∷ [] = ap (map record_of) (range_more documents) ∙ map-append record_of (range_with_len 0 documents) (documents ∷ []) in
    ap (λ (n : List ℕ). let one : DocRecord = record { name = n; length = pos 20 } in let b : Building = record building { records = before ++ one ∷ [] } in b) same
    ∙ ap (λ (rs : List DocRecord). let b : Building = record building { records = rs } in b) (sym more)
