-- Records one after another, to the last.
use Rattle.std.proofs.Common.{◌≡◌, ◌≢◌, ◌⊎◌, inl, inr, ℕ, ◌+◌, ◌<◌, ◌≤◌, List, [], ◌∷◌, ◌++◌, length, get_or, Some, None, refl, sym, ap, subst, ◌∙◌, arith, sum_by}
use Rattle.std.specs.Prelude.{slice_get}
use Rattle.std.specs.List.{All, AllPairs, Contains}
use Rattle.std.proofs.lemmas.List.{length_push, length-map, get_or_default}
use Rattle.std.proofs.lemmas.List.Sums.{sum_by-cons}
use Rattle.std.proofs.lemmas.List.Elements.{All-nil, All-push, All-contains}
use Rattle.std.proofs.lemmas.Map.Made.{IsDistinct-from_AllPairs}
use Rattle.std.proofs.lemmas.Map.Views.{Contains-from_any}
use Rattle.std.proofs.lemmas.Map.Steps.{length-le_from_distinct_below}
use Rattle.std.proofs.lemmas.Bool.{cases_lt, eqb-true}
use Rattle.std.proofs.lemmas.Bool.Decides.{Decides-eqb}
use Rattle.std.proofs.lemmas.List.Quantifiers.{all_pairs_push}
use Rattle.rgb_base.specs.declared.parts.DocRecord.{DocRecord}
use Rattle.rgb_base.specs.declared.parts.TermList.{TermList}
use Rattle.rgb_base.specs.Parts.{terms_of, text_size}
use Rattle.rgb_base.specs.Building.{Building, IsBuilding, IsWhole, parts_of}
use Rattle.rgb_host.specs.Seen.{Seen}
use Rattle.ciff_format.specs.Messages.{Numbered}
use Rattle.ciff_format.specs.Accepted.{Front, numbers_of, with_record, HasLists, ExpectsRecord, HasRecord}
use Rattle.ciff_reader.specs.declared.waiting.Waiting.{Waiting}
use Rattle.ciff_reader.specs.Awaited.{found, HasReadAll, TakesRecord, EndsGood, with_lists}
use Rattle.ciff_reader.specs.Listing.{listing}
use Rattle.ciff_reader.specs.Steps.{AtGood}
use Rattle.ciff_reader.specs.Window.{Held}
use Rattle.ciff_reader.proofs.Placing.{is_new, some_is, numbers_push, number_there, nothing_waits}

-- so many records are read behind these lists, in each file in which the start is good
pub record Reads (host : Seen) (name : List ℕ) (lists : List TermList) (Starts : List ℕ → Type 0) (window : Held) (building : Building) (waiting : Waiting) (text count : ℕ) : Type 0 where
  pub front : Front
  pub lists_are : front.lists ≡ lists
  pub all_lists : HasLists front
  pub count_is : length front.records ≡ count
  pub read : HasReadAll front building waiting text
  pub different : AllPairs (λ a b. a ≢ b) (numbers_of front.records)
  pub below : All (λ n. n < front.document_count) (numbers_of front.records)
  pub at : (file : List ℕ) → Starts file → AtGood host name window front file

no_numbers : {A : Type 0} → AllPairs (λ (a b : A). a ≢ b) []
no_numbers i j d lt within = absurd (omega (arith, within))

-- the text of lists is that of their terms
term_text : (lists : List TermList) → sum_by (λ (l : TermList). length l.term) lists ≡ sum_by (λ (term : List ℕ). length term) (terms_of lists)
term_text [] = refl
term_text (l ∷ lists) =
    omega (arith, term_text lists, sum_by-cons (λ (one : TermList). length one.term) l lists, sum_by-cons (λ (term : List ℕ). length term) l.term (terms_of lists))

pub same_text : (lists others : List TermList) → terms_of lists ≡ terms_of others → sum_by (λ (l : TermList). length l.term) lists ≡ sum_by (λ (l : TermList). length l.term) others
same_text lists others same = term_text lists ∙ ap (λ (terms : List (List ℕ)). sum_by (λ (term : List ℕ). length term) terms) same ∙ sym (term_text others)

pub reads_begin : (host : Seen) (name : List ℕ) (window : Held) (lists : List TermList) (building : Building) (waiting : Waiting) (text : ℕ) → building.postings ≡ [] → building.records ≡ []
    → ((n : ℕ) → found waiting n ≡ None) → text ≡ text_size (parts_of building) → terms_of lists ≡ terms_of building.lists
    → Reads host name lists (AtGood host name window (listing (length lists) (with_lists lists building))) window building waiting text 0
reads_begin host name window lists building waiting text closed none nobody text_is same = record {
  front = listing (length lists) (with_lists lists building);
  lists_are = refl;
  all_lists = refl;
  count_is = refl;
  read = record {
    read = record {
      header = refl;
      documents = refl;
      terms = same;
      none_open = closed;
      placed = λ one there. absurd (omega (arith, there.1));
      standing = λ n lt. absurd (omega (arith, lt, ap length none));
      waits = λ n some. absurd (nothing_waits waiting nobody n some);
    };
    later = λ n some. absurd (nothing_waits waiting nobody n some);
    text_is = text_is ∙ ap (λ (ds : List DocRecord). text_size (record { header = building.header; lists = building.lists; documents = ds })) none
        ∙ ap (λ (n : ℕ). length building.header.description + n + 0) (sym (same_text lists building.lists same));
  };
  different = no_numbers;
  below = All-nil (λ n. n < building.documents);
  at = λ file at. at;
}

pub reads_go_on : (host mid : Seen) (name : List ℕ) (lists : List TermList) (Starts : List ℕ → Type 0) (window after : Held) (before building : Building) (waited waiting : Waiting) (text more count : ℕ) → mid ≡ host
    → (reads : Reads host name lists Starts window before waited text count) → TakesRecord mid name window after reads.front building waiting more
    → Reads host name lists Starts after building waiting more (count + 1)
reads_go_on host mid name lists Starts window after before building waited waiting text more count same reads takes = record {
  front = with_record reads.front takes.one;
  lists_are = reads.lists_are;
  all_lists = reads.all_lists;
  count_is = length_push reads.front.records takes.one ∙ ap (λ (n : ℕ). n + 1) reads.count_is;
  read = takes.read;
  different = subst (AllPairs (λ a b. a ≢ b)) (sym (numbers_push reads.front.records takes.one))
      (all_pairs_push (λ (a b : ℕ). a ≢ b) (numbers_of reads.front.records) takes.one.number reads.different
      (λ k d lt same. takes.new_number (k, lt, get_or_default (numbers_of reads.front.records) k takes.one.number d lt ∙ same)));
  below = subst (All (λ n. n < reads.front.document_count)) (sym (numbers_push reads.front.records takes.one))
      (All-push (λ n. n < reads.front.document_count) (numbers_of reads.front.records) takes.one.number reads.below takes.below);
  at = λ file starts.
      subst (λ (h : Seen). AtGood h name after (with_record reads.front takes.one) file) same
      (takes.at file (subst (λ (h : Seen). AtGood h name window reads.front file) (sym same) (reads.at file starts)));
}

-- ---- the last

-- different numbers below a number, without one of those, are fewer
few : (numbers : List ℕ) (n k : ℕ) → AllPairs (λ a b. a ≢ b) numbers → All (λ m. m < n) numbers → ¬ Contains numbers k → k < n → length numbers < n
few numbers n k apart below new lt =
    let all = numbers ++ k ∷ [] in
    let pairs = all_pairs_push (λ (a b : ℕ). a ≢ b) numbers k apart (λ i d within same. new (i, within, get_or_default numbers i k d within ∙ same)) in
    let small = All-push (λ m. m < n) numbers k below lt in
    omega (
      arith,
      length_push numbers k,
      length-le_from_distinct_below all n (IsDistinct-from_AllPairs Decides-eqb all pairs)
          (λ q is. All-contains (λ m. m < n) all q small (Contains-from_any eqb-true q all is)),
    )

module _ (host : Seen) (name : List ℕ) (lists : List TermList) (Starts : List ℕ → Type 0) (window : Held) (building : Building) (waiting : Waiting) (text : ℕ)
    (reads : Reads host name lists Starts window building waiting text building.documents) (sound : IsBuilding building) where
  pub stand_all : length building.records ≡ building.documents
  stand_all = by_cases (cases_lt (length building.records) building.documents)
    where
      by_cases : (length building.records < building.documents) ⊎ (building.documents ≤ length building.records) → length building.records ≡ building.documents
      by_cases (inr enough) = omega (arith, enough, sound.few_records)
      by_cases (inl lt) =
          let k = length building.records in
          let new = is_new reads.front building waiting reads.read.read k (omega arith) (λ some. omega (arith, reads.read.later k some)) in
          absurd (omega (
            arith,
            few (numbers_of reads.front.records) reads.front.document_count k reads.different reads.below new (omega (arith, lt, reads.read.read.documents)),
            length-map reads.front.records (λ (o : Numbered). o.number),
            reads.count_is,
            reads.read.read.documents,
          ))

  pub ends_whole : IsWhole building
  ends_whole = record { none_open = reads.read.read.none_open; recorded = stand_all }

  pub ends_good : (file : List ℕ) → Starts file → EndsGood host name window (with_lists lists building) file
  ends_good file starts = record {
    front = reads.front;
    at = reads.at file starts;
    whole = (reads.all_lists, reads.count_is ∙ sym reads.read.read.documents);
    header = sym reads.read.read.header;
    lists = sym reads.lists_are;
    count = stand_all ∙ sym reads.read.read.documents;
    documents = λ k d lt. let one = get_or reads.front.records k d in let there : Contains reads.front.records one = (k, lt, get_or_default reads.front.records k one d lt) in stands one there (reads.read.read.placed one there);
  }
    where
      stands : (one : Numbered) → Contains reads.front.records one → (slice_get building.records one.number ≡ Some one.document) ⊎ (found waiting one.number ≡ Some one.document) → HasRecord (parts_of building) one
      stands one there (inl is) = is
      stands one there (inr waits) =
          absurd (omega (
            arith,
            reads.read.later one.number (some_is (found waiting one.number) one.document waits),
            stand_all,
            reads.read.read.documents,
            All-contains (λ n. n < reads.front.document_count) (numbers_of reads.front.records) one.number reads.below (number_there reads.front.records one there),
          ))

pub reads_expect : (host : Seen) (name : List ℕ) (lists : List TermList) (Starts : List ℕ → Type 0) (window : Held) (building : Building) (waiting : Waiting) (text count documents : ℕ)
    → (reads : Reads host name lists Starts window building waiting text count) → building.documents ≡ documents → count < documents → ExpectsRecord reads.front
reads_expect host name lists Starts window building waiting text count documents reads same lt =
    (reads.all_lists, omega (arith, reads.count_is, reads.read.read.documents, same, lt))
