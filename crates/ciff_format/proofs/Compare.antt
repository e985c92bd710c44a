-- Of two good beginnings of a file one goes on to the other: they are one, or the next message behind the shorter is good.
use Rattle.std.proofs.Common.{◌≡◌, ◌≢◌, ◌⊎◌, ℕ, ◌<◌, ◌≤◌, List, [], ◌∷◌, ◌++◌, length, map, sym, ap, subst, ◌∙◌, arith, inl, inr}
use Rattle.std.specs.List.{AllPairs, sum_by}
use Rattle.std.proofs.lemmas.Bool.{cases_lt}
use Rattle.std.proofs.lemmas.List.{length-append, map-append, append-nil}
use Rattle.std.proofs.lemmas.List.Sums.{sum_by-append, sum_by-cons, sum_by_push}
use Rattle.rgb_base.specs.declared.parts.TermList.{TermList}
use Rattle.rgb_base.specs.declared.parts.DocRecord.{DocRecord}
use Rattle.rgb_base.specs.declared.parts.Header.{Header}
use Rattle.rgb_base.specs.Parts.{IndexParts, terms_of, AreDifferent, AreSized, posting_count}
use Rattle.ciff_format.specs.Messages.{InARow, ListAt, RecordAt, Numbered}
use Rattle.ciff_format.specs.Accepted.{Front, with_list, with_document, parts_so_far, numbers_of, HasLists, ExpectsList, Good}
use Rattle.ciff_format.specs.Growing.{NextList, NextRecord}
use Rattle.ciff_format.proofs.Once.{Wire, header_once, list_once, record_once, row_split}
use Rattle.ciff_format.proofs.Growth.{not_before, none_yet}

-- the next message behind the front is good
pub data Next (bytes : List ℕ) (place : ℕ) (front : Front) : Type 0 where
  a_list : (list : TermList) (next : ℕ) → NextList bytes place front list next → Next bytes place front
  a_record : (one : Numbered) (next : ℕ) → NextRecord bytes place front one next → Next bytes place front

-- ---- headers

-- both have one header
record SameHeader (f g : Front) (a b : ℕ) : Type 0 where
  header : f.header ≡ g.header
  lists : f.list_count ≡ g.list_count
  documents : f.document_count ≡ g.document_count
  begin : a ≡ b

same_header : Wire → (bytes : List ℕ) (p q : ℕ) (f g : Front) (x : Good bytes p f) (y : Good bytes q g) → SameHeader f g x.lists_begin y.lists_begin
same_header wire bytes p q f g x y =
    let h = header_once wire bytes f.header g.header f.list_count g.list_count f.document_count g.document_count x.lists_begin y.lists_begin x.header y.header in
    record { header = h.0; lists = h.1; documents = h.2; begin = h.3 }

-- the second row of lists from the first one's place
lists_too : (bytes : List ℕ) (q : ℕ) (f g : Front) (a : ℕ) (y : Good bytes q g) → SameHeader f g a y.lists_begin → InARow (ListAt bytes f.document_count) a g.lists y.records_begin
lists_too bytes q f g a y same =
    subst (λ d. InARow (ListAt bytes d) a g.lists y.records_begin) (sym same.documents)
    (subst (λ k. InARow (ListAt bytes g.document_count) k g.lists y.records_begin) (sym same.begin) y.lists)

records_too : (bytes : List ℕ) (q : ℕ) (f g : Front) (a b : ℕ) (y : Good bytes q g) → SameHeader f g b y.lists_begin → a ≡ y.records_begin → InARow (RecordAt bytes f.document_count) a g.records q
records_too bytes q f g a b y same begin =
    subst (λ d. InARow (RecordAt bytes d) a g.records q) (sym same.documents)
    (subst (λ k. InARow (RecordAt bytes g.document_count) k g.records q) (sym begin) y.records)

-- ---- more lists

abbrev term_size : List TermList → ℕ
term_size lists = sum_by (λ list. length list.term) lists

abbrev name_size : List DocRecord → ℕ
name_size documents = sum_by (λ document. length document.name) documents

-- parts that are no larger
pub smaller : (a b : IndexParts) → a.header ≡ b.header → posting_count a.lists ≤ posting_count b.lists → term_size a.lists ≤ term_size b.lists → name_size a.documents ≤ name_size b.documents → AreSized b → AreSized a
smaller a b header postings terms names sized =
    let description : length a.header.description ≡ length b.header.description = ap (λ (h : Header). length h.description) header in
    record { postings = omega (arith, sized.postings, postings); text = omega (arith, sized.text, description, terms, names) }

sum_front : {X : Type 0} (size : X → ℕ) (xs : List X) (x : X) (zs ys : List X) → ys ≡ xs ++ x ∷ zs → sum_by size (xs ++ x ∷ []) ≤ sum_by size ys
sum_front size xs x zs ys same = omega (arith, ap (sum_by size) same, sum_by_push size xs x, sum_by-append size xs (x ∷ zs), sum_by-cons size x zs)

fewer_lists_sized : (f g : Front) (list : TermList) (lists : List TermList) → f.header ≡ g.header → f.records ≡ [] → g.lists ≡ f.lists ++ list ∷ lists → AreSized (parts_so_far g) → AreSized (parts_so_far (with_list f list))
fewer_lists_sized f g list lists header none same sized =
    let names : name_size (map (λ (r : Numbered). r.document) f.records) ≡ 0 = ap (λ (rs : List Numbered). name_size (map (λ (r : Numbered). r.document) rs)) none in
    smaller (parts_so_far (with_list f list)) (parts_so_far g) header
    (sum_front (λ (l : TermList). length l.postings) f.lists list lists g.lists same)
    (sum_front (λ (l : TermList). length l.term) f.lists list lists g.lists same)
    (subst (λ n. n ≤ name_size (map (λ (r : Numbered). r.document) g.records)) (sym names) (omega arith)) sized

next_list : (bytes : List ℕ) (p q : ℕ) (f g : Front) (x : Good bytes p f) (y : Good bytes q g) → SameHeader f g x.lists_begin y.lists_begin → length f.lists < length g.lists
    → (more : List TermList) → g.lists ≡ f.lists ++ more → InARow (ListAt bytes f.document_count) x.records_begin more y.records_begin → Next bytes p f
next_list bytes p q f g x y same fewer [] all row = absurd (omega (arith, fewer, ap length all, ap length (append-nil f.lists)))
next_list bytes p q f g x y same fewer (list ∷ lists) all row =
    let expected : ExpectsList f = omega (arith, fewer, y.rules.lists, same.lists) in
    let none = none_yet f expected x.rules.order in
    let begin : p ≡ x.records_begin = subst (λ (rs : List Numbered). InARow (RecordAt bytes f.document_count) x.records_begin rs p) none x.records in
    let terms : terms_of g.lists ≡ terms_of f.lists ++ list.term ∷ terms_of lists =
    ap terms_of all ∙ map-append (λ (l : TermList). l.term) f.lists (list ∷ lists) in
    a_list list row.0 (record {
      expected = expected;
      stands = subst (λ k. ListAt bytes f.document_count k list row.0) (sym begin) row.1;
      new_term = not_before (terms_of f.lists) list.term (terms_of lists) (subst AreDifferent terms y.rules.terms);
      sized = fewer_lists_sized f g list lists same.header none all y.rules.sized;
    })

more_lists : Wire → (bytes : List ℕ) (p q : ℕ) (f g : Front) → Good bytes p f → Good bytes q g → length f.lists < length g.lists → Next bytes p f
more_lists wire bytes p q f g x y fewer =
    let same = same_header wire bytes p q f g x y in
    let split = row_split (ListAt bytes f.document_count) (list_once wire bytes f.document_count) x.lists_begin f.lists g.lists x.records_begin y.records_begin
    x.lists (lists_too bytes q f g x.lists_begin y same) (omega (arith, fewer)) in
    next_list bytes p q f g x y same fewer split.0 split.1 split.2

-- ---- as many lists

record SameLists (f g : Front) (a b : ℕ) : Type 0 where
  lists : f.lists ≡ g.lists
  begin : a ≡ b

-- no more of a row
no_more : {A : Type 0} (Stands : ℕ → A → ℕ → Type 0) (xs ys zs : List A) (a b : ℕ) → length xs ≡ length ys → ys ≡ xs ++ zs → InARow Stands a zs b → (xs ≡ ys) × (a ≡ b)
no_more Stands xs ys [] a b len all row = (sym (append-nil xs) ∙ sym all, sym row)
no_more Stands xs ys (z ∷ zs) a b len all row = absurd (omega (arith, len, ap length all, length-append xs (z ∷ zs)))

same_lists : Wire → (bytes : List ℕ) (p q : ℕ) (f g : Front) (x : Good bytes p f) (y : Good bytes q g) → length f.lists ≡ length g.lists → SameLists f g x.records_begin y.records_begin
same_lists wire bytes p q f g x y len =
    let same = same_header wire bytes p q f g x y in
    let split = row_split (ListAt bytes f.document_count) (list_once wire bytes f.document_count) x.lists_begin f.lists g.lists x.records_begin y.records_begin
    x.lists (lists_too bytes q f g x.lists_begin y same) (omega (arith, len)) in
    let end = no_more (ListAt bytes f.document_count) f.lists g.lists split.0 x.records_begin y.records_begin len split.1 split.2 in
    record { lists = end.0; begin = end.1 }

-- ---- more records

fewer_records_sized : (f g : Front) (one : Numbered) (records : List Numbered) → f.header ≡ g.header → f.lists ≡ g.lists → g.records ≡ f.records ++ one ∷ records → AreSized (parts_so_far g) → AreSized (with_document (parts_so_far f) one.document)
fewer_records_sized f g one records header lists same sized =
    let doc = λ (r : Numbered). r.document in
    let documents : map doc g.records ≡ map doc f.records ++ one.document ∷ map doc records = ap (map doc) same ∙ map-append doc f.records (one ∷ records) in
    smaller (with_document (parts_so_far f) one.document) (parts_so_far g) header
    (omega (arith, ap posting_count lists)) (omega (arith, ap term_size lists))
    (sum_front (λ (d : DocRecord). length d.name) (map doc f.records) one.document (map doc records) (map doc g.records) documents) sized

-- where a record is there all lists are
all_lists : (g : Front) (one : Numbered) (records before : List Numbered) → g.records ≡ before ++ one ∷ records → (g.records ≡ []) ⊎ HasLists g → HasLists g
all_lists g one records before same (inl none) = absurd (omega (arith, ap length same, ap length none, length-append before (one ∷ records)))
all_lists g one records before same (inr all) = all

next_record : (bytes : List ℕ) (p q : ℕ) (f g : Front) (x : Good bytes p f) (y : Good bytes q g) → SameHeader f g x.lists_begin y.lists_begin → f.lists ≡ g.lists → length f.records < length g.records
    → (more : List Numbered) → g.records ≡ f.records ++ more → InARow (RecordAt bytes f.document_count) p more q → Next bytes p f
next_record bytes p q f g x y same lists fewer [] all row = absurd (omega (arith, fewer, ap length all, ap length (append-nil f.records)))
next_record bytes p q f g x y same lists fewer (one ∷ records) all row =
    let whole = all_lists g one records f.records all y.rules.order in
    let numbers : numbers_of g.records ≡ numbers_of f.records ++ one.number ∷ numbers_of records =
    ap numbers_of all ∙ map-append (λ (r : Numbered). r.number) f.records (one ∷ records) in
    a_record one row.0 (record {
      expected = (omega (arith, whole, same.lists, ap length lists), omega (arith, fewer, y.rules.records, same.documents));
      stands = row.1;
      new_number = not_before (numbers_of f.records) one.number (numbers_of records) (subst (AllPairs (λ a b. a ≢ b)) numbers y.rules.numbers);
      sized = fewer_records_sized f g one records same.header lists all y.rules.sized;
    })

more_records : Wire → (bytes : List ℕ) (p q : ℕ) (f g : Front) → Good bytes p f → Good bytes q g → length f.lists ≡ length g.lists → length f.records < length g.records → Next bytes p f
more_records wire bytes p q f g x y len fewer =
    let same = same_header wire bytes p q f g x y in
    let lists = same_lists wire bytes p q f g x y len in
    let split = row_split (RecordAt bytes f.document_count) (record_once wire bytes f.document_count) x.records_begin f.records g.records p q
    x.records (records_too bytes q f g x.records_begin x.lists_begin y same lists.begin) (omega (arith, fewer)) in
    next_record bytes p q f g x y same lists.lists fewer split.0 split.1 split.2

-- ---- as many of both

abbrev front_with : Header → ℕ → ℕ → List TermList → List Numbered → Front
front_with header lists documents all records = record { header = header; list_count = lists; document_count = documents; lists = all; records = records }

same_fronts : (f g : Front) → f.header ≡ g.header → f.list_count ≡ g.list_count → f.document_count ≡ g.document_count → f.lists ≡ g.lists → f.records ≡ g.records → f ≡ g
same_fronts f g a b c d e =
    ap (λ (h : Header). front_with h f.list_count f.document_count f.lists f.records) a
    ∙ ap (λ (n : ℕ). front_with g.header n f.document_count f.lists f.records) b
    ∙ ap (λ (n : ℕ). front_with g.header g.list_count n f.lists f.records) c
    ∙ ap (λ (ls : List TermList). front_with g.header g.list_count g.document_count ls f.records) d
    ∙ ap (front_with g.header g.list_count g.document_count g.lists) e

same_good : Wire → (bytes : List ℕ) (p q : ℕ) (f g : Front) → Good bytes p f → Good bytes q g → length f.lists ≡ length g.lists → length f.records ≡ length g.records → (p ≡ q) × (f ≡ g)
same_good wire bytes p q f g x y len count =
    let same = same_header wire bytes p q f g x y in
    let lists = same_lists wire bytes p q f g x y len in
    let split = row_split (RecordAt bytes f.document_count) (record_once wire bytes f.document_count) x.records_begin f.records g.records p q
    x.records (records_too bytes q f g x.records_begin x.lists_begin y same lists.begin) (omega (arith, count)) in
    let end = no_more (RecordAt bytes f.document_count) f.records g.records split.0 p q count split.1 split.2 in
    (end.1, same_fronts f g same.header same.lists same.documents lists.lists end.0)

-- ---- either way

pub data Compared (bytes : List ℕ) (p q : ℕ) (f g : Front) : Type 0 where
  same : p ≡ q → f ≡ g → Compared bytes p q f g
  goes_on : Next bytes p f → Compared bytes p q f g
  stops : Next bytes q g → Compared bytes p q f g

pub compare : Wire → (bytes : List ℕ) (p q : ℕ) (f g : Front) → Good bytes p f → Good bytes q g → Compared bytes p q f g
compare wire bytes p q f g x y =
    elim (cases_lt (length f.lists) (length g.lists)) [
      | inl fewer ↦ goes_on (more_lists wire bytes p q f g x y fewer)
      | inr most ↦ elim (cases_lt (length g.lists) (length f.lists)) [
        | inl more ↦ stops (more_lists wire bytes q p g f y x more)
        | inr least ↦
            let len : length f.lists ≡ length g.lists = omega (arith, most, least) in
            elim (cases_lt (length f.records) (length g.records)) [
              | inl fewer ↦ goes_on (more_records wire bytes p q f g x y len fewer)
              | inr few ↦ elim (cases_lt (length g.records) (length f.records)) [
                | inl more ↦ stops (more_records wire bytes q p g f y x (sym len) more)
                | inr many ↦
                    let end = same_good wire bytes p q f g x y len (omega (arith, few, many)) in
                    same end.0 end.1
              ]
            ]
      ]
    ]
