-- Lists and records as rows over their columns.
use Rattle.std.proofs.Common.{◌≡◌, ℕ, ℤ, zero, suc, pos, ◌+◌, ◌<◌, List, [], ◌∷◌, ◌++◌, length, get_or, take, drop, map, sum_by, All, inl, inr, refl, sym, ap, subst, ◌∙◌, arith}
use Rattle.std.proofs.lemmas.List.{drop_more}
use Rattle.std.proofs.lemmas.List.Sums.{sum_by-cons}
use Rattle.std.proofs.lemmas.Bool.{cases_lt}
use Rattle.std.proofs.lemmas.List.Elements.{All-head, All-tail, All-get_or}
use Rattle.std.proofs.lemmas.Option.{slice_get-map, slice_get-get_or, slice_get_past, none-some, same_Some}
use Rattle.std.specs.Prelude.{slice_get, option_map, Some}
use Rattle.rgb_base.specs.declared.parts.Posting.{Posting}
use Rattle.rgb_base.specs.declared.parts.TermList.{TermList}
use Rattle.rgb_base.specs.declared.parts.DocRecord.{DocRecord}
use Rattle.rgb_base.specs.declared.columns.Counts.{Counts}
use Rattle.rgb_base.specs.Table.{cut_anew, taken_at}
use Rattle.rgb_base.specs.Flat.{lists_of, records_of, cut_like}

no_record : DocRecord
no_record = record { name = []; length = pos 0 }

-- ---- lists

pub length-lists_of : (terms : List (List ℕ)) (counts : List Counts) (parts : List (List Posting))
    → length terms ≡ length counts → length parts ≡ length counts → length (lists_of terms counts parts) ≡ length counts
length-lists_of [] [] parts a b = refl
length-lists_of [] (count ∷ counts) parts a b = absurd (omega (arith, a))
length-lists_of (term ∷ terms) [] parts a b = absurd (omega (arith, a))
length-lists_of (term ∷ terms) (count ∷ counts) [] a b = absurd (omega (arith, b))
length-lists_of (term ∷ terms) (count ∷ counts) (part ∷ parts) a b =
    let h = length-lists_of terms counts parts (omega (arith, a)) (omega (arith, b)) in omega (arith, h)

pub lists_of-more : (terms : List (List ℕ)) (counts : List Counts) (parts : List (List Posting)) (term : List ℕ) (count : Counts) (part : List Posting)
    → length terms ≡ length counts → length parts ≡ length counts
    → lists_of (terms ++ term ∷ []) (counts ++ count ∷ []) (parts ++ part ∷ [])
    ≡ lists_of terms counts parts ++ record { term = term; df = count.df; cf = count.cf; postings = part } ∷ []
lists_of-more [] [] [] term count part a b = refl
lists_of-more [] [] (p ∷ parts) term count part a b = absurd (omega (arith, b))
lists_of-more [] (c ∷ counts) parts term count part a b = absurd (omega (arith, a))
lists_of-more (t ∷ terms) [] parts term count part a b = absurd (omega (arith, a))
lists_of-more (t ∷ terms) (c ∷ counts) [] term count part a b = absurd (omega (arith, b))
lists_of-more (t ∷ terms) (c ∷ counts) (p ∷ parts) term count part a b =
    let first : TermList = record { term = t; df = c.df; cf = c.cf; postings = p } in
    ap (λ (lists : List TermList). first ∷ lists) (lists_of-more terms counts parts term count part (omega (arith, a)) (omega (arith, b)))

pub terms_in : (terms : List (List ℕ)) (counts : List Counts) (parts : List (List Posting))
    → length terms ≡ length counts → length parts ≡ length counts → map (λ list. list.term) (lists_of terms counts parts) ≡ terms
terms_in [] [] parts a b = refl
terms_in [] (count ∷ counts) parts a b = absurd (omega (arith, a))
terms_in (term ∷ terms) [] parts a b = absurd (omega (arith, a))
terms_in (term ∷ terms) (count ∷ counts) [] a b = absurd (omega (arith, b))
terms_in (term ∷ terms) (count ∷ counts) (part ∷ parts) a b =
    ap (λ (rest : List (List ℕ)). term ∷ rest) (terms_in terms counts parts (omega (arith, a)) (omega (arith, b)))

pub parts_of_lists : (terms : List (List ℕ)) (counts : List Counts) (parts : List (List Posting))
    → length terms ≡ length counts → length parts ≡ length counts → map (λ list. list.postings) (lists_of terms counts parts) ≡ parts
parts_of_lists [] [] [] a b = refl
parts_of_lists [] [] (part ∷ parts) a b = absurd (omega (arith, b))
parts_of_lists [] (count ∷ counts) parts a b = absurd (omega (arith, a))
parts_of_lists (term ∷ terms) [] parts a b = absurd (omega (arith, a))
parts_of_lists (term ∷ terms) (count ∷ counts) [] a b = absurd (omega (arith, b))
parts_of_lists (term ∷ terms) (count ∷ counts) (part ∷ parts) a b =
    ap (λ (rest : List (List Posting)). part ∷ rest) (parts_of_lists terms counts parts (omega (arith, a)) (omega (arith, b)))

pub counts_in : (terms : List (List ℕ)) (counts : List Counts) (parts : List (List Posting))
    → length terms ≡ length counts → length parts ≡ length counts
    → map (λ (list : TermList). let count : Counts = record { df = list.df; cf = list.cf } in count) (lists_of terms counts parts) ≡ counts
counts_in [] [] parts a b = refl
counts_in [] (count ∷ counts) parts a b = absurd (omega (arith, a))
counts_in (term ∷ terms) [] parts a b = absurd (omega (arith, a))
counts_in (term ∷ terms) (count ∷ counts) [] a b = absurd (omega (arith, b))
counts_in (term ∷ terms) (count ∷ counts) (part ∷ parts) a b =
    ap (λ (rest : List Counts). count ∷ rest) (counts_in terms counts parts (omega (arith, a)) (omega (arith, b)))

-- what stands at a number of the columns stands in the list of that number
pub list_has : {X : Type 0} (f : TermList → X) (lists : List TermList) (column : List X) (k : ℕ) (x : X) → map f lists ≡ column → slice_get column k ≡ Some x → option_map f (slice_get lists k) ≡ Some x
list_has f lists column k x same given = sym (slice_get-map f lists k) ∙ ap (λ xs. slice_get xs k) same ∙ given

map-map : {X Y Z : Type 0} (g : Y → Z) (f : X → Y) (xs : List X) → map g (map f xs) ≡ map (λ x. g (f x)) xs
map-map g f [] = refl
map-map g f (x ∷ xs) = ap (λ ys. g (f x) ∷ ys) (map-map g f xs)

-- the same of its counts
pub list_counts : (g : Counts → ℤ) (lists : List TermList) (counts : List Counts) (k : ℕ) (count : Counts)
    → map (λ (list : TermList). let count : Counts = record { df = list.df; cf = list.cf } in count) lists ≡ counts → k < length counts → count ≡ get_or counts k count
    → option_map (λ (list : TermList). let count : Counts = record { df = list.df; cf = list.cf } in g count) (slice_get lists k) ≡ Some (g count)
list_counts g lists counts k count same within read =
    let wide : map (λ (list : TermList). let count : Counts = record { df = list.df; cf = list.cf } in g count) lists ≡ map g counts =
    sym (map-map g (λ (list : TermList). let count : Counts = record { df = list.df; cf = list.cf } in count) lists) ∙ ap (map g) same in
    let here : slice_get (map g counts) k ≡ Some (g count) = slice_get-map g counts k ∙ ap (option_map g) (slice_get-get_or counts k count within ∙ ap Some (sym read)) in
    list_has (λ (list : TermList). let count : Counts = record { df = list.df; cf = list.cf } in g count) lists (map g counts) k (g count) wide here

-- what holds of a field in each list holds of what stands there
pub list_keeps : {X : Type 0} (f : TermList → X) (P : X → Type 0) (lists : List TermList) (k : ℕ) (x : X) → All (λ list. P (f list)) lists → option_map f (slice_get lists k) ≡ Some x → P x
list_keeps f P lists k x all given =
    let within : k < length lists = elim (cases_lt k (length lists)) [ inl lt ↦ lt | inr ge ↦ absurd (none-some x (ap (option_map f) (sym (slice_get_past lists k ge)) ∙ given)) ] in
    let no_list : TermList = record { term = []; df = pos 0; cf = pos 0; postings = [] } in
    let same : f (get_or lists k no_list) ≡ x = same_Some _ _ (ap (option_map f) (sym (slice_get-get_or lists k no_list within)) ∙ given) in
    subst P same (All-get_or (λ list. P (f list)) lists k no_list within all)

pub record_has : {X : Type 0} (f : DocRecord → X) (documents : List DocRecord) (column : List X) (k : ℕ) (x : X) → map f documents ≡ column → slice_get column k ≡ Some x → option_map f (slice_get documents k) ≡ Some x
record_has f documents column k x same given = sym (slice_get-map f documents k) ∙ ap (λ xs. slice_get xs k) same ∙ given

pub record_keeps : {X : Type 0} (f : DocRecord → X) (P : X → Type 0) (documents : List DocRecord) (k : ℕ) (x : X) → All (λ document. P (f document)) documents → option_map f (slice_get documents k) ≡ Some x → P x
record_keeps f P documents k x all given =
    let within : k < length documents = elim (cases_lt k (length documents)) [ inl lt ↦ lt | inr ge ↦ absurd (none-some x (ap (option_map f) (sym (slice_get_past documents k ge)) ∙ given)) ] in
    let same : f (get_or documents k no_record) ≡ x = same_Some _ _ (ap (option_map f) (sym (slice_get-get_or documents k no_record within)) ∙ given) in
    subst P same (All-get_or (λ document. P (f document)) documents k no_record within all)

-- sums over a column
pub sum_by-mapped : {X Y : Type 0} (g : Y → ℕ) (f : X → Y) (xs : List X) → sum_by g (map f xs) ≡ sum_by (λ x. g (f x)) xs
sum_by-mapped g f [] = refl
sum_by-mapped {X} {Y} g f (x ∷ xs) = let rest = sum_by-mapped g f xs in omega (arith, rest, sum_by-cons g (f x) (map f xs), sum_by-cons (λ (y : X). g (f y)) x xs)

-- lists from their own columns
pub lists_of-columns : (lists : List TermList)
    → lists_of (map (λ list. list.term) lists) (map (λ (list : TermList). let count : Counts = record { df = list.df; cf = list.cf } in count) lists) (map (λ list. list.postings) lists) ≡ lists
lists_of-columns [] = refl
lists_of-columns (list ∷ lists) = ap (λ (rest : List TermList). list ∷ rest) (lists_of-columns lists)

pub lists_from_columns : (lists : List TermList) (terms : List (List ℕ)) (counts : List Counts) (parts : List (List Posting))
    → terms ≡ map (λ list. list.term) lists → counts ≡ map (λ (list : TermList). let count : Counts = record { df = list.df; cf = list.cf } in count) lists → parts ≡ map (λ list. list.postings) lists
    → lists_of terms counts parts ≡ lists
lists_from_columns lists terms counts parts a b d =
    ap (λ (ts : List (List ℕ)). lists_of ts counts parts) a ∙ ap (λ (ns : List Counts). lists_of (map (λ (list : TermList). list.term) lists) ns parts) b
    ∙ ap (λ (ps : List (List Posting)). lists_of (map (λ (list : TermList). list.term) lists) (map (λ (list : TermList). let count : Counts = record { df = list.df; cf = list.cf } in count) lists) ps) d ∙ lists_of-columns lists

-- another table cuts the parts alone
pub cut_anew-lists_of : (terms : List (List ℕ)) (counts : List Counts) (parts : List (List Posting)) (table : List Posting)
    → cut_anew (lists_of terms counts parts) table ≡ lists_of terms counts (cut_like parts table)
unfolding cut_anew
cut_anew-lists_of [] counts parts table = refl
cut_anew-lists_of (term ∷ terms) [] parts table = refl
cut_anew-lists_of (term ∷ terms) (count ∷ counts) [] table = refl
cut_anew-lists_of (term ∷ terms) (count ∷ counts) (part ∷ parts) table =
    let first : TermList = record { term = term; df = count.df; cf = count.cf; postings = take (length part) table } in
    ap (λ (rest : List TermList). first ∷ rest) (cut_anew-lists_of terms counts parts (drop (length part) table))

pub length-cut_like : (parts : List (List Posting)) (table : List Posting) → length (cut_like parts table) ≡ length parts
length-cut_like [] table = refl
length-cut_like (part ∷ parts) table = let h = length-cut_like parts (drop (length part) table) in omega (arith, h)

-- ---- records

pub length-records_of : (names : List (List ℕ)) (sizes : List ℤ) → length names ≡ length sizes → length (records_of names sizes) ≡ length sizes
length-records_of [] [] a = refl
length-records_of [] (size ∷ sizes) a = absurd (omega (arith, a))
length-records_of (name ∷ names) [] a = absurd (omega (arith, a))
length-records_of (name ∷ names) (size ∷ sizes) a = let h = length-records_of names sizes (omega (arith, a)) in omega (arith, h)

pub records_of-more : (names : List (List ℕ)) (sizes : List ℤ) (name : List ℕ) (size : ℤ) → length names ≡ length sizes
    → records_of (names ++ name ∷ []) (sizes ++ size ∷ []) ≡ records_of names sizes ++ record { name = name; length = size } ∷ []
records_of-more [] [] name size a = refl
records_of-more [] (s ∷ sizes) name size a = absurd (omega (arith, a))
records_of-more (n ∷ names) [] name size a = absurd (omega (arith, a))
records_of-more (n ∷ names) (s ∷ sizes) name size a =
    let first : DocRecord = record { name = n; length = s } in
    ap (λ (rest : List DocRecord). first ∷ rest) (records_of-more names sizes name size (omega (arith, a)))

pub names_in : (names : List (List ℕ)) (sizes : List ℤ) → length names ≡ length sizes → map (λ document. document.name) (records_of names sizes) ≡ names
names_in [] [] a = refl
names_in [] (size ∷ sizes) a = absurd (omega (arith, a))
names_in (name ∷ names) [] a = absurd (omega (arith, a))
names_in (name ∷ names) (size ∷ sizes) a = ap (λ (rest : List (List ℕ)). name ∷ rest) (names_in names sizes (omega (arith, a)))

pub sizes_in : (names : List (List ℕ)) (sizes : List ℤ) → length names ≡ length sizes → map (λ document. document.length) (records_of names sizes) ≡ sizes
sizes_in [] [] a = refl
sizes_in [] (size ∷ sizes) a = absurd (omega (arith, a))
sizes_in (name ∷ names) [] a = absurd (omega (arith, a))
sizes_in (name ∷ names) (size ∷ sizes) a = ap (λ (rest : List ℤ). size ∷ rest) (sizes_in names sizes (omega (arith, a)))

pub records_of-columns : (documents : List DocRecord) → records_of (map (λ document. document.name) documents) (map (λ document. document.length) documents) ≡ documents
records_of-columns [] = refl
records_of-columns (document ∷ documents) = ap (λ (rest : List DocRecord). document ∷ rest) (records_of-columns documents)

-- a record by its number
pub record_at : (names : List (List ℕ)) (sizes : List ℤ) (k : ℕ) (d : DocRecord) → length names ≡ length sizes → k < length names
    → get_or (records_of names sizes) k d ≡ record { name = get_or names k []; length = get_or sizes k (pos 0) }
record_at [] sizes k d a lt = absurd (omega (arith, lt))
record_at (name ∷ names) [] k d a lt = absurd (omega (arith, a))
record_at (name ∷ names) (size ∷ sizes) zero d a lt = refl
record_at (name ∷ names) (size ∷ sizes) (suc k) d a lt = record_at names sizes k d (omega (arith, a)) (omega (arith, lt))

-- records in another order, from their columns in that order
pub taken_at-records_of : (order : List ℕ) (names : List (List ℕ)) (sizes : List ℤ) → length names ≡ length sizes → All (λ old. old < length names) order
    → taken_at order (records_of names sizes) ≡ records_of (map (λ old. get_or names old []) order) (map (λ old. get_or sizes old (pos 0)) order)
taken_at-records_of [] names sizes a low = refl
taken_at-records_of (old ∷ order) names sizes a low =
    let documents = records_of names sizes in
    let lt : old < length names = All-head (λ (k : ℕ). k < length names) old order low in
    let within : old < length documents = omega (arith, lt, a, length-records_of names sizes a) in
    let here : drop old documents ≡ get_or documents old no_record ∷ drop (old + 1) documents = drop_more documents old no_record within in
    let first : take 1 (drop old documents) ≡ record { name = get_or names old []; length = get_or sizes old (pos 0) } ∷ [] =
    ap (take 1) here ∙ ap (λ (r : DocRecord). r ∷ []) (record_at names sizes old no_record a lt) in
    ap (λ (rs : List DocRecord). rs ++ taken_at order documents) first
    ∙ ap (λ (rs : List DocRecord). record { name = get_or names old []; length = get_or sizes old (pos 0) } ∷ rs) (taken_at-records_of order names sizes a (All-tail (λ (k : ℕ). k < length names) old order low))

pub records_from_columns : (documents : List DocRecord) (names : List (List ℕ)) (sizes : List ℤ)
    → names ≡ map (λ document. document.name) documents → sizes ≡ map (λ document. document.length) documents → records_of names sizes ≡ documents
records_from_columns documents names sizes a b =
    ap (λ (ns : List (List ℕ)). records_of ns sizes) a ∙ ap (λ (ss : List ℤ). records_of (map (λ (document : DocRecord). document.name) documents) ss) b ∙ records_of-columns documents

-- the bytes of terms and of names
pub terms_bytes : (terms : List (List ℕ)) (counts : List Counts) (parts : List (List Posting)) → length terms ≡ length counts → length parts ≡ length counts
    → sum_by (λ list. length list.term) (lists_of terms counts parts) ≡ sum_by (λ text. length text) terms
terms_bytes terms counts parts a b =
    sym (sum_by-mapped (λ (text : List ℕ). length text) (λ (list : TermList). list.term) (lists_of terms counts parts)) ∙ ap (sum_by (λ (text : List ℕ). length text)) (terms_in terms counts parts a b)

pub names_bytes : (names : List (List ℕ)) (sizes : List ℤ) → length names ≡ length sizes → sum_by (λ document. length document.name) (records_of names sizes) ≡ sum_by (λ text. length text) names
names_bytes names sizes a =
    sym (sum_by-mapped (λ (text : List ℕ). length text) (λ (document : DocRecord). document.name) (records_of names sizes)) ∙ ap (sum_by (λ (text : List ℕ). length text)) (names_in names sizes a)

pub parts_count : (terms : List (List ℕ)) (counts : List Counts) (parts : List (List Posting)) → length terms ≡ length counts → length parts ≡ length counts
    → sum_by (λ list. length list.postings) (lists_of terms counts parts) ≡ sum_by (λ part. length part) parts
parts_count terms counts parts a b =
    sym (sum_by-mapped (λ (part : List Posting). length part) (λ (list : TermList). list.postings) (lists_of terms counts parts)) ∙ ap (sum_by (λ (part : List Posting). length part)) (parts_of_lists terms counts parts a b)
