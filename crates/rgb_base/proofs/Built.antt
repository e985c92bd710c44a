-- What one more piece makes of a building, and what a whole one is.
use Rattle.std.proofs.Common.{◌≡◌, ◌≢◌, ℕ, ℤ, ◌+◌, ◌^◌, ◌<◌, ◌≤◌, List, [], ◌∷◌, ◌++◌, length, get_or, map, sum_by, All, Contains, inl, inr, refl, sym, ap, subst, ◌∙◌, arith}
use Rattle.std.specs.Prelude.{FitsSigned, IsUtf8}
use Rattle.std.specs.Int.{w32, w64}
use Rattle.std.specs.List.Sorted.{IsStrictlyIncreasing}
use Rattle.std.proofs.lemmas.Bool.{cases_lt}
use Rattle.std.proofs.lemmas.List.{map-append, length-map, length_push, get_or_append_left, get_or_push}
use Rattle.std.proofs.lemmas.List.Sums.{sum_by_push}
use Rattle.std.proofs.lemmas.List.Elements.{All-nil, All-push, All-contains, All-get_or, All-map, Contains-push, Contains-get_or}
use Rattle.std.proofs.lemmas.List.Quantifiers.{all_pairs_push}
use Rattle.rgb_base.specs.declared.parts.Posting.{Posting}
use Rattle.rgb_base.specs.declared.parts.TermList.{TermList}
use Rattle.rgb_base.specs.declared.parts.DocRecord.{DocRecord}
use Rattle.rgb_base.specs.declared.parts.Header.{Header}
use Rattle.rgb_base.specs.Parts.{IsIndex, IsPostings, AreDifferent, FitsHeader, FitsList, FitsRecord, terms_of, posting_count}
use Rattle.rgb_base.specs.Building.{Building, IsBuilding, IsWhole, IsNextDocument, HasTerm, IsFullOfPostings, IsFullOfText, begun, with_posting, with_list, with_record, closed, parts_of}
use Rattle.rgb_base.specs.declared.columns.Counts.{Counts}
use Rattle.rgb_base.specs.Flat.{lists_of}
use Rattle.rgb_base.specs.Kept.{IsLeast}

none_open : (documents : ℕ) → IsPostings documents []
none_open documents = record { rising = λ k lt. absurd (omega (arith, lt)); below = All-nil (λ posting. posting.doc < documents) }

pub IsBuilding-begun : (header : Header) (documents : ℕ) → FitsHeader header → documents < 2 ^ 31 → length header.description ≤ 2 ^ 40 → IsBuilding (begun header documents)
IsBuilding-begun header documents fits few little = record {
  few_documents = few;
  few_lists = omega arith;
  few_records = omega arith;
  ordered = All-nil (λ list. IsPostings documents list.postings);
  open_list = none_open documents;
  different = λ i j d lt within. absurd (omega (arith, within));
  few_postings = omega arith;
  little_text = omega (arith, little);
  header_fits = fits;
  lists_fit = All-nil FitsList;
  open_fits = All-nil (λ posting. FitsSigned w32 posting.tf);
  records_fit = All-nil FitsRecord;
}

-- what holds of each posting's document holds of the documents
docs_below : (postings : List Posting) (limit : ℕ) → All (λ p. p.doc < limit) postings → All (λ x. x < limit) (map (λ p. p.doc) postings)
docs_below postings limit all = All-map (λ (x : ℕ). x < limit) (λ (p : Posting). p.doc) postings all

nexts_below : (postings : List Posting) (doc : ℕ) → All (λ p. p.doc < doc) postings → All (λ n. n < doc + 1) (map (λ p. p.doc + 1) postings)
nexts_below postings doc all = All-map (λ (n : ℕ). n < doc + 1) (λ (p : Posting). p.doc + 1) postings (λ k d lt. omega (arith, all k d lt))

few_more : (count now more : ℕ) → more ≡ now + 1 → ¬ (2 ^ 32 ≤ count + (now + 1)) → count + more < 2 ^ 32
few_more count now more same room = elim (cases_lt (count + (now + 1)) (2 ^ 32)) [ inl lt ↦ omega (arith, lt, same) | inr ge ↦ absurd (room ge) ]

-- the bytes of text with one list, or one record, more
little_list : (description terms terms' names term : ℕ) → terms' ≡ terms + term → ¬ (2 ^ 40 < description + terms + names + term) → description + terms' + names ≤ 2 ^ 40
little_list description terms terms' names term same room = elim (cases_lt (2 ^ 40) (description + terms + names + term)) [ inl lt ↦ absurd (room lt) | inr ge ↦ omega (arith, ge, same) ]

little_record : (description terms names names' name : ℕ) → names' ≡ names + name → ¬ (2 ^ 40 < description + terms + names + name) → description + terms + names' ≤ 2 ^ 40
little_record description terms names names' name same room = elim (cases_lt (2 ^ 40) (description + terms + names + name)) [ inl lt ↦ absurd (room lt) | inr ge ↦ omega (arith, ge, same) ]

different_push : (texts : List (List ℕ)) (text : List ℕ) → AreDifferent texts → ¬ Contains texts text → AreDifferent (texts ++ text ∷ [])
different_push texts text h new = all_pairs_push (λ a b. a ≢ b) texts text h (λ k d lt same. new (subst (Contains texts) same (Contains-get_or texts k d lt)))

-- numbers that rise, and one above them all
rising_push : (xs : List ℕ) (y : ℕ) → IsStrictlyIncreasing xs → All (λ x. x < y) xs → (k : ℕ) → k + 1 < length (xs ++ y ∷ []) → get_or (xs ++ y ∷ []) k 0 < get_or (xs ++ y ∷ []) (k + 1) 0
rising_push xs y up low k lt =
    let within : k < length xs = omega (arith, lt, length_push xs y) in
    let here : get_or (xs ++ y ∷ []) k 0 ≡ get_or xs k 0 = get_or_append_left xs (y ∷ []) 0 k within in
    elim (cases_lt (k + 1) (length xs)) [
      | inl before ↦ omega (arith, here, get_or_append_left xs (y ∷ []) 0 (k + 1) before, up k before)
      | inr last ↦
          let at : length xs ≡ k + 1 = omega (arith, within, last) in
          omega (arith, here, get_or_push xs y 0 (k + 1) at, All-get_or (λ (x : ℕ). x < y) xs k 0 within low)
    ]

pub IsPostings-push : (documents : ℕ) (postings : List Posting) (posting : Posting) → IsPostings documents postings → All (λ p. p.doc < posting.doc) postings → posting.doc < documents
    → IsPostings documents (postings ++ posting ∷ [])
IsPostings-push documents postings posting h above below =
    let docs = map (λ (p : Posting). p.doc) postings in
    let same : map (λ (p : Posting). p.doc) (postings ++ posting ∷ []) ≡ docs ++ posting.doc ∷ [] = map-append (λ (p : Posting). p.doc) postings (posting ∷ []) in
    let low : All (λ (x : ℕ). x < posting.doc) docs = docs_below postings posting.doc above in
    record {
      rising = subst IsStrictlyIncreasing (sym same) (rising_push docs posting.doc h.rising low);
      below = All-push (λ (p : Posting). p.doc < documents) postings posting h.below below;
    }

pub IsBuilding-with_posting : (building : Building) (posting : Posting) → IsBuilding building → IsNextDocument building posting.doc → ¬ IsFullOfPostings building → FitsSigned w32 posting.tf
    → IsBuilding (with_posting building posting)
IsBuilding-with_posting building posting h next room fits = record {
  few_documents = h.few_documents;
  few_lists = h.few_lists;
  few_records = h.few_records;
  ordered = h.ordered;
  open_list = IsPostings-push building.documents building.postings posting h.open_list next.above next.below;
  different = h.different;
  few_postings = few_more (posting_count building.lists) (length building.postings) (length (building.postings ++ posting ∷ [])) (length_push building.postings posting) room;
  little_text = h.little_text;
  header_fits = h.header_fits;
  lists_fit = h.lists_fit;
  open_fits = All-push (λ (p : Posting). FitsSigned w32 p.tf) building.postings posting h.open_fits fits;
  records_fit = h.records_fit;
}

pub IsBuilding-with_list : (building : Building) (term : List ℕ) (df cf : ℤ) → IsBuilding building → length building.lists + 1 < 2 ^ 31 → ¬ HasTerm building term → ¬ IsFullOfText building term
    → IsUtf8 term → FitsSigned w64 df → FitsSigned w64 cf → IsBuilding (with_list building term df cf)
IsBuilding-with_list building term df cf h few new room utf8 df_fits cf_fits =
    let list = closed building term df cf in
    record {
      few_documents = h.few_documents;
      few_lists = omega (arith, few, length_push building.lists list);
      few_records = h.few_records;
      ordered = All-push (λ (l : TermList). IsPostings building.documents l.postings) building.lists list h.ordered h.open_list;
      open_list = none_open building.documents;
      different = subst AreDifferent (sym (map-append (λ (l : TermList). l.term) building.lists (list ∷ []))) (different_push (terms_of building.lists) term h.different new);
      few_postings = omega (arith, h.few_postings, sum_by_push (λ (l : TermList). length l.postings) building.lists list);
      little_text = little_list (length building.header.description) _ _ (sum_by (λ (d : DocRecord). length d.name) building.records) (length term) (sum_by_push (λ (l : TermList). length l.term) building.lists list) room;
      header_fits = h.header_fits;
      lists_fit = All-push FitsList building.lists list h.lists_fit (record { term = ∣ utf8 ∣₁; df = df_fits; cf = cf_fits; postings = h.open_fits });
      open_fits = All-nil (λ (p : Posting). FitsSigned w32 p.tf);
      records_fit = h.records_fit;
    }

pub IsBuilding-with_record : (building : Building) (name : List ℕ) (size : ℤ) → IsBuilding building → length building.records < building.documents → ¬ IsFullOfText building name
    → IsUtf8 name → FitsSigned w32 size → IsBuilding (with_record building name size)
IsBuilding-with_record building name size h some room utf8 fits =
    let document : DocRecord = record { name = name; length = size } in
    record {
      few_documents = h.few_documents;
      few_lists = h.few_lists;
      few_records = omega (arith, some, length_push building.records document);
      ordered = h.ordered;
      open_list = h.open_list;
      different = h.different;
      few_postings = h.few_postings;
      little_text = little_record (length building.header.description) (sum_by (λ (l : TermList). length l.term) building.lists) _ _ (length name) (sum_by_push (λ (d : DocRecord). length d.name) building.records document) room;
      header_fits = h.header_fits;
      lists_fit = h.lists_fit;
      open_fits = h.open_fits;
      records_fit = All-push FitsRecord building.records document h.records_fit (record { name = ∣ utf8 ∣₁; length = fits });
    }

pub IsIndex-whole : (building : Building) → IsBuilding building → IsWhole building → IsIndex (parts_of building)
IsIndex-whole building h whole = record {
  counted = record { lists = h.few_lists; documents = omega (arith, h.few_documents, whole.recorded) };
  ordered = subst (λ (n : ℕ). All (λ (l : TermList). IsPostings n l.postings) building.lists) (sym whole.recorded) h.ordered;
  different = h.different;
  sized = record { postings = omega (arith, h.few_postings); text = h.little_text };
  header = h.header_fits;
  lists = h.lists_fit;
  documents = h.records_fit;
}

-- ---- the least document

pub IsLeast-none : IsLeast 0 []
IsLeast-none = record { above = All-nil (λ posting. posting.doc < 0); reached = λ some. absurd (omega (arith, some)) }

pub IsLeast-push : (least : ℕ) (postings : List Posting) (posting : Posting) → IsLeast least postings → least ≤ posting.doc → IsLeast (posting.doc + 1) (postings ++ posting ∷ [])
IsLeast-push least postings posting h low = record {
  above = All-push (λ (p : Posting). p.doc < posting.doc + 1) postings posting (λ k d lt. omega (arith, h.above k d lt, low)) (omega arith);
  reached = λ some. subst (λ (ns : List ℕ). Contains ns (posting.doc + 1)) (sym (map-append (λ (p : Posting). p.doc + 1) postings (posting ∷ []))) (Contains-push (map (λ (p : Posting). p.doc + 1) postings) (posting.doc + 1));
}

pub next_from_least : (building : Building) (least doc : ℕ) → IsLeast least building.postings → least ≤ doc → doc < building.documents → IsNextDocument building doc
next_from_least building least doc h low high = record { above = λ k d lt. omega (arith, h.above k d lt, low); below = high }

pub not_next_below : (building : Building) (least doc : ℕ) → IsLeast least building.postings → doc < least → ¬ IsNextDocument building doc
not_next_below building least doc h low next =
    let all : All (λ (n : ℕ). n < doc + 1) (map (λ (p : Posting). p.doc + 1) building.postings) = nexts_below building.postings doc next.above in
    let reached : least < doc + 1 = All-contains (λ (n : ℕ). n < doc + 1) (map (λ (p : Posting). p.doc + 1) building.postings) least all (h.reached (omega (arith, low))) in
    omega (arith, reached, low)

-- the least document is 0 exactly where no posting stands in the open list
pub least_none : (postings : List Posting) → IsLeast 0 postings → postings ≡ []
least_none [] h = refl
least_none (posting ∷ postings) h = absurd (omega (arith, h.above 0 posting (omega arith)))

pub none_least : (least : ℕ) (postings : List Posting) → IsLeast least postings → postings ≡ [] → least ≡ 0
none_least least postings h none =
    elim (cases_lt 0 least) [
      | inl some ↦ let at = h.reached some in absurd (omega (arith, at.1, ap length none, length-map postings (λ (p : Posting). p.doc + 1)))
      | inr le ↦ omega (arith, le)
    ]

-- ---- the tables

abbrev pub building_of : Header → ℕ → List TermList → List Posting → List DocRecord → Building
building_of header documents lists postings records = record { header = header; documents = documents; lists = lists; postings = postings; records = records }

pub same_lists_of : (terms terms' : List (List ℕ)) (counts counts' : List Counts) (parts parts' : List (List Posting)) → terms' ≡ terms → counts' ≡ counts → parts' ≡ parts
    → lists_of terms' counts' parts' ≡ lists_of terms counts parts
same_lists_of terms terms' counts counts' parts parts' a b d =
    ap (λ (ts : List (List ℕ)). lists_of ts counts' parts') a ∙ ap (λ (ns : List Counts). lists_of terms ns parts') b ∙ ap (lists_of terms counts) d

pub same_building : (header : Header) (documents : ℕ) (lists lists' : List TermList) (postings postings' : List Posting) (records records' : List DocRecord) → lists' ≡ lists → postings' ≡ postings → records' ≡ records
    → building_of header documents lists' postings' records' ≡ building_of header documents lists postings records
same_building header documents lists lists' postings postings' records records' a b d =
    ap (λ (ls : List TermList). building_of header documents ls postings' records') a ∙ ap (λ (ps : List Posting). building_of header documents lists ps records') b
    ∙ ap (building_of header documents lists postings) d
