-- Short postings in a row, which go into the open list together.
use Rattle.std.proofs.Common.{◌≡◌, ℕ, ◌+◌, ◌<◌, ◌≤◌, true, IsTrue, ℤ, pos, List, [], ◌∷◌, ◌++◌, length, map, get_or, take, drop, suc, refl, sym, ap, subst, ◌∙◌, arith, inl, inr, append_assoc}
use Rattle.std.specs.Prelude.{◌+ℤ◌, ◌≤ℤ◌, FitsSigned, slice_set}
use Rattle.std.specs.Int.{w32}
use Rattle.std.specs.List.{All}
use Rattle.std.specs.List.Sorted.{IsStrictlyIncreasing}
use Rattle.std.proofs.Math.Seq.{take-suc-set}
use Rattle.std.proofs.lemmas.Bool.{cases_lt}
use Rattle.std.proofs.lemmas.List.{append-nil, length_push, map-append, get_or_append_left, get_or_push}
use Rattle.std.proofs.lemmas.List.Elements.{All-nil, All-push, All-map, All-get_or}
use Rattle.ciff_wire.specs.Field.{Entry}
use Rattle.ciff_wire.specs.Laws.{FieldIsAdded}
use Rattle.rgb_base.specs.declared.parts.Posting.{Posting}
use Rattle.rgb_base.specs.Parts.{IsPostings}
use Rattle.rgb_base.specs.Building.{Building, with_posting, with_postings}
use Rattle.ciff_format.specs.Messages.{PostingRows}
use Rattle.ciff_format.specs.Growing.{LaterWins, EachIsAdded, TypesGrow, TextsGrow, SumsGrow, SumGrows, GapsGrow}
use Rattle.ciff_reader.specs.declared.gaps.Gaps.{Gaps}
use Rattle.ciff_reader.specs.declared.list.ListFields.{ListFields}
use Rattle.ciff_reader.specs.declared.posting.PostingFields.{PostingFields}
use Rattle.ciff_reader.specs.Says.{SaysPosting}
use Rattle.ciff_reader.specs.Listing.{SaysGaps, StartsWithPosting, ReadsList}
use Rattle.ciff_reader.proofs.Reading.{posting_goes_on}
use Rattle.ciff_reader.proofs.Rows.{pushed}

-- ---- the postings of a row

no_postings : (documents : ℕ) → IsPostings documents []
no_postings documents = record { rising = λ k lt. absurd (omega (arith, lt)); below = All-nil (λ posting. posting.doc < documents) }

rising_push : (xs : List ℕ) (y : ℕ) → IsStrictlyIncreasing xs → All (λ x. x < y) xs → IsStrictlyIncreasing (xs ++ y ∷ [])
rising_push xs y up low = λ k lt.
    let within : k < length xs = omega (arith, lt, length_push xs y) in
    let here : get_or (xs ++ y ∷ []) k 0 ≡ get_or xs k 0 = get_or_append_left xs (y ∷ []) 0 k within in
    elim (cases_lt (k + 1) (length xs)) [
      | inl before ↦ omega (arith, here, get_or_append_left xs (y ∷ []) 0 (k + 1) before, up k before)
      | inr last ↦
          let at : length xs ≡ k + 1 = omega (arith, within, last) in
          omega (arith, here, get_or_push xs y 0 (k + 1) at, All-get_or (λ (x : ℕ). x < y) xs k 0 within low)
    ]

postings_push : (documents : ℕ) (postings : List Posting) (posting : Posting) → IsPostings documents postings → All (λ (p : Posting). p.doc < posting.doc) postings → posting.doc < documents
    → IsPostings documents (postings ++ posting ∷ [])
postings_push documents postings posting h above below = record {
  rising = subst IsStrictlyIncreasing (sym (map-append (λ (p : Posting). p.doc) postings (posting ∷ [])))
      (rising_push (map (λ (p : Posting). p.doc) postings) posting.doc h.rising (All-map (λ (x : ℕ). x < posting.doc) (λ (p : Posting). p.doc) postings above));
  below = All-push (λ (p : Posting). p.doc < documents) postings posting h.below below;
}

-- the first postings of the room, with one more behind them
one_more : (room : List Posting) (count : ℕ) (posting : Posting) → count < length room → take (count + 1) (slice_set room count posting) ≡ take count room ++ posting ∷ []
one_more room count posting lt = let next : count + 1 ≡ suc count = omega arith in rw next (take-suc-set room count posting lt)

-- the gaps of postings that were all good and have room
abbrev pub good_gaps : ℕ → ℕ → Gaps
good_gaps least document = record { least = least; document = document; are_good = true; are_few = true }

pub are_good_gaps : (gaps : Gaps) → IsTrue gaps.are_good → IsTrue gaps.are_few → gaps ≡ good_gaps gaps.least gaps.document
are_good_gaps gaps good few = rw (good, few) refl

-- what is known of the postings in the room
pub record AreKept (documents : ℕ) (gaps : Gaps) (postings : List Posting) : Type 0 where
  pub rising : IsPostings documents postings
  pub below : All (λ posting. posting.doc < gaps.document + gaps.least) postings
  pub fit : All (λ posting. FitsSigned w32 posting.tf) postings

pub none_kept : (documents : ℕ) (gaps : Gaps) → AreKept documents gaps []
none_kept documents gaps = record {
  rising = no_postings documents;
  below = All-nil (λ posting. posting.doc < gaps.document + gaps.least);
  fit = All-nil (λ posting. FitsSigned w32 posting.tf);
}

one_kept : (documents : ℕ) (gaps next : Gaps) (postings : List Posting) (posting : Posting) → AreKept documents gaps postings → gaps.document + gaps.least ≤ posting.doc → posting.doc < documents
    → FitsSigned w32 posting.tf → next.document ≡ posting.doc → next.least ≡ 1 → AreKept documents next (postings ++ posting ∷ [])
one_kept documents gaps next postings posting kept low high fits document least =
    let above : All (λ (p : Posting). p.doc < posting.doc) postings = λ k d lt. omega (arith, kept.below k d lt, low) in
    record {
      rising = postings_push documents postings posting kept.rising above high;
      below = All-push (λ (p : Posting). p.doc < next.document + next.least) postings posting (λ k d lt. omega (arith, above k d lt, document, least)) (omega (arith, document, least));
      fit = All-push (λ (p : Posting). FitsSigned w32 p.tf) postings posting kept.fit fits;
    }

pub room_kept : (documents count : ℕ) (gaps next : Gaps) (room : List Posting) (posting : Posting) → count < length room → AreKept documents gaps (take count room)
    → gaps.document + gaps.least ≤ posting.doc → posting.doc < documents → FitsSigned w32 posting.tf → next.document ≡ posting.doc → next.least ≡ 1
    → AreKept documents next (take (count + 1) (slice_set room count posting))
room_kept documents count gaps next room posting lt kept low high fits document least =
    subst (AreKept documents next) (sym (one_more room count posting lt)) (one_kept documents gaps next (take count room) posting kept low high fits document least)

-- ---- the list that they stand in

pub run_begins : (message : List ℕ) (kept : ListFields) (gaps : Gaps) (building : Building) → ReadsList message kept gaps building → ReadsList message kept gaps (with_postings building [])
run_begins message kept gaps building reads =
    subst (λ (ps : List Posting). ReadsList message kept gaps (record building { postings = ps })) (sym (append-nil building.postings)) reads

pub run_goes_on : FieldIsAdded → TypesGrow → LaterWins → TextsGrow → EachIsAdded → SumsGrow → SumGrows → GapsGrow
    → (message rest : List ℕ) (at used end : ℕ) (posting : PostingFields) (kept : ListFields) (gaps : Gaps) (doc : ℕ) (tf : ℤ) (room : List Posting) (count : ℕ) (building : Building)
    → count < length room → rest ≡ drop at message → StartsWithPosting rest posting used → at + used ≡ end → IsTrue gaps.are_good → IsTrue gaps.are_few
    → pos gaps.least ≤ℤ posting.gap → pos doc ≡ pos gaps.document +ℤ posting.gap → doc < building.documents → tf ≡ posting.tf
    → ReadsList (take at message) kept gaps (with_postings building (take count room))
    → ReadsList (take end message) kept (good_gaps 1 doc)
    (with_postings building (take (count + 1) (slice_set room count (record { doc = doc; tf = tf }))))
run_goes_on added types wins texts each sums sum grow message rest at used end posting kept gaps doc tf room count building lt behind starts ends good few low is high tf_is reads =
    let one : Posting = record { doc = doc; tf = tf } in
    let next = good_gaps 1 doc in
    let postings = take count room in
    let before = with_postings building postings in
    let stands : building.postings ++ take (count + 1) (slice_set room count one) ≡ (building.postings ++ postings) ++ one ∷ [] =
    ap (λ (ps : List Posting). building.postings ++ ps) (one_more room count one lt) ∙ sym (append_assoc building.postings postings (one ∷ [])) in
    let step : (rows : PostingRows) (row : List Entry) → SaysPosting row posting → SaysGaps rows gaps before → SaysGaps (rows ++ row ∷ []) next (with_posting before one) = λ rows row says so_far.
    pushed sums sum grow rows row gaps doc tf true before (with_posting before one) good
    (subst (λ (gap : ℤ). pos gaps.least ≤ℤ gap) says.gap low) (is ∙ ap (λ (gap : ℤ). pos gaps.document +ℤ gap) says.gap) high (tf_is ∙ says.tf)
    few (λ _. refl) (λ isnt. absurd (isnt refl)) so_far in
    subst (λ (n : ℕ). ReadsList (take n message) kept next (with_postings building (take (count + 1) (slice_set room count one)))) ends
    (subst (λ (ps : List Posting). ReadsList (take (at + used) message) kept next (record building { postings = ps })) (sym stands)
    (posting_goes_on added types wins texts each message rest at used posting kept gaps next before (with_posting before one) behind starts step reads))
