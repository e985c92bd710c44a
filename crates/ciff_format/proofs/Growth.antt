-- How good messages grow by one, and which is next where there are more of them.
use Rattle.std.proofs.Common.{◌≡◌, ◌≢◌, ◌⊎◌, ℕ, List, [], ◌∷◌, ◌++◌, length, refl, sym, subst, ◌∙◌, arith, inl, inr}
use Rattle.std.specs.List.{AllPairs, Contains}
use Rattle.std.proofs.lemmas.List.{length-append, map_push, get_or_append_left, get_or_at, get_or_default}
use Rattle.std.proofs.lemmas.List.Quantifiers.{all_pairs_push}
use Rattle.rgb_base.specs.declared.parts.TermList.{TermList}
use Rattle.rgb_base.specs.declared.parts.DocRecord.{DocRecord}
use Rattle.rgb_base.specs.Parts.{terms_of, AreDifferent, AreSized}
use Rattle.ciff_format.specs.Messages.{InARow, ListAt, RecordAt, Numbered}
use Rattle.ciff_format.specs.Accepted.{Front, numbers_of, HasLists, ExpectsList}
use Rattle.ciff_format.specs.Growing.{HeaderIsGood, ListIsAdded, RecordIsAdded}

-- ---- one more in a row

row_push : {A : Type 0} (Stands : ℕ → A → ℕ → Type 0) (place middle next : ℕ) (xs : List A) (x : A) → InARow Stands place xs middle → Stands middle x next → InARow Stands place (xs ++ x ∷ []) next
row_push Stands place middle next [] x row stands = (next, subst (λ k. Stands k x next) row stands, refl)
row_push Stands place middle next (y ∷ xs) x row stands = (row.0, row.1, row_push Stands row.0 middle next xs x row.2 stands)

-- ---- different ones

pub not_before : {A : Type 0} (xs : List A) (y : A) (zs : List A) → AllPairs (λ a b. a ≢ b) (xs ++ y ∷ zs) → ¬ Contains xs y
not_before {A} xs y zs apart = λ found.
    apart found.0 (length xs) y found.1 (omega (arith, length-append xs (y ∷ zs)))
    (get_or_append_left xs (y ∷ zs) y found.0 found.1 ∙ found.2 ∙ sym (get_or_at xs y zs y (length xs) refl))

apart_push : {A : Type 0} (xs : List A) (y : A) → AllPairs (λ a b. a ≢ b) xs → ¬ Contains xs y → AllPairs (λ a b. a ≢ b) (xs ++ y ∷ [])
apart_push {A} xs y apart new =
    all_pairs_push (λ (a b : A). a ≢ b) xs y apart (λ k d lt same. new (k, lt, get_or_default xs k y d lt ∙ same))

-- ---- growth

no_numbers : {A : Type 0} → AllPairs (λ (a b : A). a ≢ b) []
no_numbers i j d lt within = absurd (omega (arith, within))

pub header_is_good : HeaderIsGood
header_is_good bytes header lists documents next stands sized = record {
  lists_begin = next;
  records_begin = next;
  header = stands;
  lists = refl;
  records = refl;
  rules = record {
    lists = omega arith;
    records = omega arith;
    order = inl refl;
    terms = no_numbers;
    numbers = no_numbers;
    sized = sized;
  };
}

-- where a list is expected no record is there
pub none_yet : (front : Front) → ExpectsList front → (front.records ≡ []) ⊎ HasLists front → front.records ≡ []
none_yet front expects (inl none) = none
none_yet front expects (inr all) = absurd (omega (arith, expects, all))

pub list_is_added : ListIsAdded
list_is_added bytes place next front list good is =
    let none = none_yet front is.expected good.rules.order in
    let begin : place ≡ good.records_begin = subst (λ (rs : List Numbered). InARow (RecordAt bytes front.document_count) good.records_begin rs place) none good.records in
    let terms = map_push (λ (l : TermList). l.term) front.lists list in
    record {
      lists_begin = good.lists_begin;
      records_begin = next;
      header = good.header;
      lists = row_push (ListAt bytes front.document_count) good.lists_begin good.records_begin next front.lists list good.lists (subst (λ k. ListAt bytes front.document_count k list next) begin is.stands);
      records = subst (λ (rs : List Numbered). InARow (RecordAt bytes front.document_count) next rs next) (sym none) refl;
      rules = record {
        lists = omega (arith, length-append front.lists (list ∷ []), is.expected);
        records = good.rules.records;
        order = inl none;
        terms = subst AreDifferent (sym terms) (apart_push (terms_of front.lists) list.term good.rules.terms is.new_term);
        numbers = good.rules.numbers;
        sized = is.sized;
      };
    }

pub record_is_added : RecordIsAdded
record_is_added bytes place next front one good is =
    let numbers = map_push (λ (r : Numbered). r.number) front.records one in
    let documents = map_push (λ (r : Numbered). r.document) front.records one in
    record {
      lists_begin = good.lists_begin;
      records_begin = good.records_begin;
      header = good.header;
      lists = good.lists;
      records = row_push (RecordAt bytes front.document_count) good.records_begin place next front.records one good.records is.stands;
      rules = record {
        lists = good.rules.lists;
        records = omega (arith, length-append front.records (one ∷ []), is.expected.1);
        order = inr is.expected.0;
        terms = good.rules.terms;
        numbers = subst (AllPairs (λ a b. a ≢ b)) (sym numbers) (apart_push (numbers_of front.records) one.number good.rules.numbers is.new_number);
        sized = subst (λ (ds : List DocRecord). AreSized (record { header = front.header; lists = front.lists; documents = ds })) (sym documents) is.sized;
      };
    }
