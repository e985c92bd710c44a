-- Records that stand in the index or wait for their turn.
use Rattle.std.proofs.Common.{◌≡◌, ◌≢◌, ◌⊎◌, inl, inr, ℕ, zero, suc, ◌+◌, ◌<◌, ◌≤◌, ℤ, pos, List, [], ◌∷◌, ◌++◌, length, map, get_or, Option, Some, None, refl, sym, ap, subst, ◌∙◌, arith}
use Rattle.std.specs.Prelude.{slice_get}
use Rattle.std.specs.Option.{IsSome}
use Rattle.std.specs.List.{Contains}
use Rattle.std.proofs.lemmas.Int.{ints}
use Rattle.std.proofs.lemmas.Bool.{cases_eq, false≢true}
use Rattle.std.proofs.lemmas.Option.{slice_get_within}
use Rattle.std.proofs.lemmas.List.{map_push, length_push, length-map, get_or_default}
use Rattle.std.proofs.Math.ListN.{get_or-map}
use Rattle.std.proofs.lemmas.List.Elements.{Contains-push, Contains-append_left, Contains-push_cases}
use Rattle.std.proofs.lemmas.List.Sums.{sum_by-append}
use Rattle.rgb_base.specs.declared.parts.DocRecord.{DocRecord}
use Rattle.rgb_base.specs.Parts.{text_size}
use Rattle.rgb_base.specs.Building.{Building, with_record}
use Rattle.ciff_wire.specs.Field.{Entry}
use Rattle.ciff_format.specs.Fields.{int32_at, text_at}
use Rattle.ciff_format.specs.Messages.{Numbered, document_of}
use Rattle.ciff_format.specs.Accepted.{Front, numbers_of, parts_so_far, with_document}
use Rattle.ciff_format.specs.Accepted.{with_record as with_one}
use Rattle.ciff_format.specs.Refused.{IsBadNumber}
use Rattle.ciff_reader.specs.declared.waiting.Waiting.{Waiting}
use Rattle.ciff_reader.specs.Awaited.{found, StaysBut, IsPlaced, HasRead, WaitsFrom}

-- ---- elements

get_front : {A : Type 0} (xs ys : List A) (n : ℕ) (x : A) → slice_get xs n ≡ Some x → slice_get (xs ++ ys) n ≡ Some x
get_front [] ys n x is = absurd (some_none (sym is))
  where
    some_none : Some x ≡ None → ⊥
    some_none e = cc
get_front (y ∷ xs) ys zero x is = is
get_front (y ∷ xs) ys (suc n) x is = get_front xs ys n x is

get_last : {A : Type 0} (xs : List A) (x : A) → slice_get (xs ++ x ∷ []) (length xs) ≡ Some x
get_last [] x = refl
get_last (y ∷ xs) x = get_last xs x

pub some_is : {A : Type 0} (o : Option A) (x : A) → o ≡ Some x → IsSome o
some_is o x is = rw is refl

none_isnt : {A : Type 0} (o : Option A) → o ≡ None → ¬ IsSome o
none_isnt o is = λ some. false≢true (sym (rw is refl) ∙ some)

no_document : ℕ → Numbered
no_document n = record { number = n; document = record { name = []; length = pos 0 } }

-- a record's number is among the numbers
pub number_there : (records : List Numbered) (one : Numbered) → Contains records one → Contains (numbers_of records) one.number
number_there records one there = (
  there.0,
  omega (arith, there.1, length-map records (λ (o : Numbered). o.number)),
  get_or-map (λ (o : Numbered). o.number) records there.0 one ∙ ap (λ (o : Numbered). o.number) there.2,
)

-- and a number among them is a record's
record HasNumber (records : List Numbered) (n : ℕ) : Type 0 where
  one : Numbered
  there : Contains records one
  is : one.number ≡ n

record_of : (records : List Numbered) (n : ℕ) → Contains (numbers_of records) n → HasNumber records n
unfolding no_document
record_of records n there =
    let i = there.0 in
    let lt : i < length records = omega (arith, there.1, length-map records (λ (o : Numbered). o.number)) in
    record {
      one = get_or records i (no_document n);
      there = (i, lt, get_or_default records i (get_or records i (no_document n)) (no_document n) lt);
      is = sym (get_or-map (λ (o : Numbered). o.number) records i (no_document n)) ∙ there.2;
    }

as_numbers : (records : List Numbered) (n : ℕ) → Contains (numbers_of records) n → Contains (map (λ (o : Numbered). pos o.number) records) (pos n)
unfolding no_document
as_numbers records n there = (
  there.0,
  omega (arith, there.1, length-map records (λ (o : Numbered). o.number), length-map records (λ (o : Numbered). pos o.number)),
  get_or-map (λ (o : Numbered). pos o.number) records there.0 (no_document n)
      ∙ ap pos (sym (get_or-map (λ (o : Numbered). o.number) records there.0 (no_document n)) ∙ there.2),
)

from_numbers : (records : List Numbered) (n : ℕ) → Contains (map (λ (o : Numbered). pos o.number) records) (pos n) → Contains (numbers_of records) n
unfolding no_document
from_numbers records n there =
    let same : pos (get_or records there.0 (no_document n)).number ≡ pos n = sym (get_or-map (λ (o : Numbered). pos o.number) records there.0 (no_document n)) ∙ there.2 in (
      there.0,
      omega (arith, there.1, length-map records (λ (o : Numbered). o.number), length-map records (λ (o : Numbered). pos o.number)),
      get_or-map (λ (o : Numbered). o.number) records there.0 (no_document n) ∙ omega (arith, ints, same),
    )

pub numbers_push : (records : List Numbered) (one : Numbered) → numbers_of (records ++ one ∷ []) ≡ numbers_of records ++ one.number ∷ []
numbers_push records one = map_push (λ (o : Numbered). o.number) records one

-- ---- a record whose turn it is

pub no_turn : (front : Front) (building : Building) (before after : Waiting) (k : ℕ) → found before k ≡ None → found after k ≡ None → StaysBut k before after
    → HasRead front building before → HasRead front building after
no_turn front building before after k none gone others read = record {
  header = read.header;
  documents = read.documents;
  terms = read.terms;
  none_open = read.none_open;
  placed = λ one there. by_place one (read.placed one there);
  standing = read.standing;
  waits = λ n some. by_number n some (cases_eq n k);
}
  where
    by_place : (one : Numbered) → IsPlaced building before one → IsPlaced building after one
    by_place one (inl stands) = inl stands
    by_place one (inr waits) = elim (cases_eq one.number k) [
      | inl same ↦ absurd (none_isnt (found before k) none (some_is (found before k) one.document (subst (λ (n : ℕ). found before n ≡ Some one.document) same waits)))
      | inr other ↦ inr (others one.number other ∙ waits)
    ]

    by_number : (n : ℕ) → IsSome (found after n) → (n ≡ k) ⊎ (n ≢ k) → Contains (numbers_of front.records) n
    by_number n some (inl same) = absurd (none_isnt (found after n) (ap (found after) same ∙ gone) some)
    by_number n some (inr other) = read.waits n (subst IsSome (others n other) some)

pub turn : (front : Front) (building built : Building) (before after : Waiting) (document : DocRecord) (k : ℕ) → k ≡ length building.records → found before k ≡ Some document
    → found after k ≡ None → StaysBut k before after → built ≡ with_record building document.name document.length
    → HasRead front building before → HasRead front built after
turn front building built before after document k turn_is here gone others is read =
    subst (λ (b : Building). HasRead front b after) (sym is) (record {
      header = read.header;
      documents = read.documents;
      terms = read.terms;
      none_open = read.none_open;
      placed = λ one there. by_place one (read.placed one there);
      standing = λ n lt. by_turn n lt (cases_eq n k);
      waits = λ n some. by_number n some (cases_eq n k);
    })
  where
    by_place : (one : Numbered) → IsPlaced building before one → IsPlaced (with_record building document.name document.length) after one
    by_place one (inl stands) = inl (get_front building.records (document ∷ []) one.number one.document stands)
    by_place one (inr waits) = elim (cases_eq one.number k) [
      | inl same ↦
          let it : Some document ≡ Some one.document = sym here ∙ sym (ap (found before) same) ∙ waits in
          inl (ap (slice_get (building.records ++ document ∷ [])) (same ∙ turn_is) ∙ get_last building.records document ∙ it)
      | inr other ↦ inr (others one.number other ∙ waits)
    ]

    by_turn : (n : ℕ) → n < length (building.records ++ document ∷ []) → (n ≡ k) ⊎ (n ≢ k) → Contains (numbers_of front.records) n
    by_turn n lt (inl same) = read.waits n (some_is (found before n) document (ap (found before) same ∙ here))
    by_turn n lt (inr other) = read.standing n (omega (arith, lt, length_push building.records document, turn_is, other))

    by_number : (n : ℕ) → IsSome (found after n) → (n ≡ k) ⊎ (n ≢ k) → Contains (numbers_of front.records) n
    by_number n some (inl same) = absurd (none_isnt (found after n) (ap (found after) same ∙ gone) some)
    by_number n some (inr other) = read.waits n (subst IsSome (others n other) some)

-- ---- a new record

module _ (front : Front) (building : Building) (waiting : Waiting) (one : Numbered) (read : HasRead front building waiting) where
  more_numbers : (n : ℕ) → Contains (numbers_of front.records) n → Contains (numbers_of (front.records ++ one ∷ [])) n
  more_numbers n there = subst (λ (ns : List ℕ). Contains ns n) (sym (numbers_push front.records one)) (Contains-append_left (numbers_of front.records) (one.number ∷ []) n there)

  its_number : (n : ℕ) → n ≡ one.number → Contains (numbers_of (front.records ++ one ∷ [])) n
  its_number n same =
      subst (Contains (numbers_of (front.records ++ one ∷ []))) (sym same)
      (subst (λ (ns : List ℕ). Contains ns one.number) (sym (numbers_push front.records one)) (Contains-push (numbers_of front.records) one.number))

  -- its turn is now
  pub stands_next : (built : Building) → one.number ≡ length building.records → built ≡ with_record building one.document.name one.document.length → HasRead (with_one front one) built waiting
  stands_next built now is = subst (λ (b : Building). HasRead (with_one front one) b waiting) (sym is) (record {
    header = read.header;
    documents = read.documents;
    terms = read.terms;
    none_open = read.none_open;
    placed = λ other there. by_case other (Contains-push_cases front.records one other there);
    standing = λ n lt. by_number n lt (cases_eq n one.number);
    waits = λ n some. more_numbers n (read.waits n some);
  })
    where
      by_case : (other : Numbered) → Contains front.records other ⊎ (one ≡ other) → IsPlaced (with_record building one.document.name one.document.length) waiting other
      by_case other (inr same) =
          inl (subst (λ (o : Numbered). slice_get (building.records ++ one.document ∷ []) o.number ≡ Some o.document) same
          (ap (slice_get (building.records ++ one.document ∷ [])) now ∙ get_last building.records one.document))
      by_case other (inl before) = elim (read.placed other before) [
        | inl stands ↦ inl (get_front building.records (one.document ∷ []) other.number other.document stands)
        | inr waits ↦ inr waits
      ]

      by_number : (n : ℕ) → n < length (building.records ++ one.document ∷ []) → (n ≡ one.number) ⊎ (n ≢ one.number) → Contains (numbers_of (front.records ++ one ∷ [])) n
      by_number n lt (inl same) = its_number n same
      by_number n lt (inr other) = more_numbers n (read.standing n (omega (arith, lt, length_push building.records one.document, now, other)))

  -- it waits
  pub waits_now : (after : Waiting) → ¬ Contains (numbers_of front.records) one.number → found after one.number ≡ Some one.document → StaysBut one.number waiting after
      → HasRead (with_one front one) building after
  waits_now after new here others = record {
    header = read.header;
    documents = read.documents;
    terms = read.terms;
    none_open = read.none_open;
    placed = λ other there. by_case other (Contains-push_cases front.records one other there);
    standing = λ n lt. more_numbers n (read.standing n lt);
    waits = λ n some. by_number n some (cases_eq n one.number);
  }
    where
      by_case : (other : Numbered) → Contains front.records other ⊎ (one ≡ other) → IsPlaced building after other
      by_case other (inr same) = inr (subst (λ (o : Numbered). found after o.number ≡ Some o.document) same here)
      by_case other (inl before) = elim (read.placed other before) [
        | inl stands ↦ inl stands
        | inr waits ↦ inr (others other.number (λ same. new (subst (Contains (numbers_of front.records)) same (number_there front.records other before))) ∙ waits)
      ]

      by_number : (n : ℕ) → IsSome (found after n) → (n ≡ one.number) ⊎ (n ≢ one.number) → Contains (numbers_of (front.records ++ one ∷ [])) n
      by_number n some (inl same) = its_number n same
      by_number n some (inr other) = more_numbers n (read.waits n (subst IsSome (others n other) some))

-- ---- numbers

module _ (front : Front) (building : Building) (waiting : Waiting) (read : HasRead front building waiting) where
  -- a number that neither stands nor waits is new
  pub is_new : (n : ℕ) → length building.records ≤ n → ¬ IsSome (found waiting n) → ¬ Contains (numbers_of front.records) n
  is_new n late free = λ there.
      let it = record_of front.records n there in
      elim (read.placed it.one it.there) [
        | inl stands ↦ omega (arith, slice_get_within building.records it.one.number it.one.document stands, it.is, late)
        | inr waits ↦ free (some_is (found waiting n) it.one.document (sym (ap (found waiting) it.is) ∙ waits))
      ]

  pub is_low : (n : ℕ) (z : ℤ) → z ≡ pos n → n < length building.records → IsBadNumber front z
  is_low n z is lt = inr (inr (subst (Contains (map (λ (o : Numbered). pos o.number) front.records)) (sym is) (as_numbers front.records n (read.standing n lt))))

  pub is_waiting : (n : ℕ) (z : ℤ) → z ≡ pos n → IsSome (found waiting n) → IsBadNumber front z
  is_waiting n z is some = inr (inr (subst (Contains (map (λ (o : Numbered). pos o.number) front.records)) (sym is) (as_numbers front.records n (read.waits n some))))

  pub is_high : (n : ℕ) (z : ℤ) → z ≡ pos n → building.documents ≤ n → IsBadNumber front z
  is_high n z is le = inr (inl (omega (arith, ints, is, le, read.documents)))

  pub is_good : (n : ℕ) (z : ℤ) → z ≡ pos n → n < building.documents → length building.records ≤ n → ¬ IsSome (found waiting n) → ¬ IsBadNumber front z
  is_good n z is low late free = λ bad. by_case bad
    where
      by_case : IsBadNumber front z → ⊥
      by_case (inl negative) = omega (arith, ints, is, negative)
      by_case (inr (inl high)) = omega (arith, ints, is, high, low, read.documents)
      by_case (inr (inr there)) = is_new n late free (from_numbers front.records n (subst (Contains (map (λ (o : Numbered). pos o.number) front.records)) is there))

-- ---- text

pub one_more_text : (front : Front) (document : DocRecord) → text_size (with_document (parts_so_far front) document) ≡ text_size (parts_so_far front) + length document.name
one_more_text front document =
    omega (arith, sum_by-append (λ (d : DocRecord). length d.name) (map (λ (o : Numbered). o.document) front.records) (document ∷ []))

pub one_more_front : (front : Front) (one : Numbered) → text_size (parts_so_far (with_one front one)) ≡ text_size (parts_so_far front) + length one.document.name
one_more_front front one =
    ap (λ (ds : List DocRecord). text_size (record { header = front.header; lists = front.lists; documents = ds })) (map_push (λ (o : Numbered). o.document) front.records one)
    ∙ one_more_text front one.document

-- ---- what waits comes later

pub later_turn : (building built : Building) (name : List ℕ) (size : ℤ) (before after : Waiting) (k : ℕ) → k ≡ length building.records → found after k ≡ None → StaysBut k before after
    → built ≡ with_record building name size → WaitsFrom (length building.records) before → WaitsFrom (length built.records) after
later_turn building built name size before after k turn_is gone others is later = λ n some.
    by_number n some (cases_eq n k)
  where
    by_number : (n : ℕ) → IsSome (found after n) → (n ≡ k) ⊎ (n ≢ k) → length built.records ≤ n
    by_number n some (inl same) = absurd (none_isnt (found after n) (ap (found after) same ∙ gone) some)
    by_number n some (inr other) =
        omega (arith, ap (λ (b : Building). length b.records) is, length_push building.records (record { name = name; length = size }), later n (subst IsSome (others n other) some), turn_is, other)

-- a record is pushed by its name and its size
pub pushed : (building built : Building) (document : DocRecord) (name : List ℕ) (size : ℤ) → name ≡ document.name → size ≡ document.length
    → built ≡ with_record building name size → built ≡ with_record building document.name document.length
pushed building built document name size name_is size_is is = is ∙ ap (λ (n : List ℕ). with_record building n size) name_is ∙ ap (with_record building document.name) size_is

pub waits_shorter : (building built : Building) (name : List ℕ) (size : ℤ) (waiting : Waiting) → built ≡ with_record building name size
    → WaitsFrom (length building.records + 1) waiting → WaitsFrom (length built.records) waiting
waits_shorter building built name size waiting is later = λ n some.
    omega (arith, later n some, ap (λ (b : Building). length b.records) is, length_push building.records (record { name = name; length = size }))

pub waits_still : (k number : ℕ) (before after : Waiting) → k ≤ number → number ≢ k → StaysBut number before after → WaitsFrom (k + 1) before → WaitsFrom (k + 1) after
waits_still k number before after late other others later = λ n some. by_number n some (cases_eq n number)
  where
    by_number : (n : ℕ) → IsSome (found after n) → (n ≡ number) ⊎ (n ≢ number) → k + 1 ≤ n
    by_number n some (inl same) = omega (arith, late, other, same)
    by_number n some (inr apart) = later n (subst IsSome (others n apart) some)

module _ (front : Front) (building : Building) (waiting : Waiting) (one : Numbered) (number : ℕ) (name : List ℕ) (size : ℤ) (is_number : one.number ≡ number)
    (document : one.document ≡ record { name = name; length = size }) (read : HasRead front building waiting) where
  pub stands_now : (built : Building) (size' : ℤ) → number ≡ length building.records → size' ≡ size → built ≡ with_record building name size' → HasRead (with_one front one) built waiting
  stands_now built size' now size_is is =
      stands_next front building waiting one read built (is_number ∙ now)
      (pushed building built one.document name size' (sym (ap (λ (d : DocRecord). d.name) document)) (size_is ∙ sym (ap (λ (d : DocRecord). d.length) document)) is)

  pub put_now : (after : Waiting) (text : List ℕ) (size' : ℤ) → ¬ Contains (numbers_of front.records) number → text ≡ name → size' ≡ size
      → found after number ≡ Some (record { name = text; length = size' }) → StaysBut number waiting after → HasRead (with_one front one) building after
  put_now after text size' new text_is size_is here others =
      waits_now front building waiting one read after (λ there. new (subst (Contains (numbers_of front.records)) is_number there))
      (ap (found after) is_number ∙ here ∙ ap (λ (t : List ℕ). Some (record { name = t; length = size' })) text_is ∙ ap (λ (z : ℤ). Some (record { name = name; length = z })) size_is ∙ ap Some (sym document))
      (λ n apart. others n (λ same. apart (same ∙ sym is_number)))

pub same_document : (name : List ℕ) (size : ℤ) (fields : List Entry) → name ≡ text_at 2 fields → size ≡ int32_at 3 fields → record { name = name; length = size } ≡ document_of fields
same_document name size fields name_is size_is = ap (λ (t : List ℕ). record { name = t; length = size }) name_is ∙ ap (λ (z : ℤ). record { name = text_at 2 fields; length = z }) size_is

pub nothing_waits : (waiting : Waiting) → ((n : ℕ) → found waiting n ≡ None) → (n : ℕ) → ¬ IsSome (found waiting n)
nothing_waits waiting nobody n = none_isnt (found waiting n) (nobody n)
