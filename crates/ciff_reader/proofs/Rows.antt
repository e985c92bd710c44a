-- The rows of a list's postings: what their gaps lead to, and the postings that they say.
use Rattle.std.proofs.Common.{◌≡◌, ◌⊎◌, ℕ, ◌<◌, Bool, true, false, IsTrue, ℤ, pos, negsuc, List, [], ◌∷◌, ◌++◌, length, map, refl, sym, ap, subst, ◌∙◌, arith, inl, inr}
use Rattle.std.specs.Prelude.{◌+ℤ◌, ◌≤ℤ◌, ◌<ℤ◌}
use Rattle.std.specs.List.{All}
use Rattle.std.proofs.lemmas.Int.{ints}
use Rattle.std.proofs.lemmas.Bool.{false≢true}
use Rattle.std.proofs.lemmas.List.{map_push, length-map, length_push}
use Rattle.std.proofs.lemmas.List.Elements.{All-nil, All-cons, All-head, All-tail, All-weaker}
use Rattle.ciff_wire.specs.Field.{Entry}
use Rattle.rgb_base.specs.declared.parts.Posting.{Posting}
use Rattle.rgb_base.specs.Building.{Building, with_posting, IsNextDocument, IsFullOfPostings}
use Rattle.ciff_format.specs.Fields.{int32_at}
use Rattle.ciff_format.specs.Messages.{PostingRows, gaps_in, sums_from, AreGaps}
use Rattle.ciff_format.specs.Growing.{sum_after, least_gap, IsGapBehind, SumsGrow, SumGrows, GapsGrow}
use Rattle.ciff_reader.specs.declared.gaps.Gaps.{Gaps}
use Rattle.ciff_reader.specs.Listing.{ArePostings, SaysGaps}

-- ---- sums that rise

module _ {X : Type 0} (P : ℤ → Type 0) (f : X → ℤ) where
  pub All-unmap : (xs : List X) → All P (map f xs) → All (λ x. P (f x)) xs
  All-unmap [] all = All-nil (λ x. P (f x))
  All-unmap (x ∷ xs) all = All-cons (λ x. P (f x)) x xs (All-head P (f x) (map f xs) all) (All-unmap xs (All-tail P (f x) (map f xs) all))

rises : (before : ℤ) (gaps : List ℤ) → All (λ gap. pos 0 ≤ℤ gap) gaps → before ≤ℤ sum_after before gaps
unfolding sum_after
rises before [] all = omega (arith, ints)
rises before (gap ∷ gaps) all =
    let least = All-head (λ g. pos 0 ≤ℤ g) gap gaps all in
    let rest = rises (before +ℤ gap) gaps (All-tail (λ g. pos 0 ≤ℤ g) gap gaps all) in
    omega (arith, ints)

-- no sum lies above the last
below_last : (before : ℤ) (gaps : List ℤ) → All (λ gap. pos 0 ≤ℤ gap) gaps → All (λ sum. sum ≤ℤ sum_after before gaps) (sums_from before gaps)
unfolding sum_after sums_from
below_last before [] all = All-nil (λ sum. sum ≤ℤ before)
below_last before (gap ∷ gaps) all =
    let rest = All-tail (λ g. pos 0 ≤ℤ g) gap gaps all in
    All-cons (λ sum. sum ≤ℤ sum_after (before +ℤ gap) gaps) (before +ℤ gap) (sums_from (before +ℤ gap) gaps) (rises (before +ℤ gap) gaps rest) (below_last (before +ℤ gap) gaps rest)

none_negative : (documents : ℕ) (gaps : List ℤ) → AreGaps documents gaps → All (λ gap. pos 0 ≤ℤ gap) gaps
none_negative documents [] good = All-nil (λ gap. pos 0 ≤ℤ gap)
none_negative documents (gap ∷ gaps) good =
    All-cons (λ g. pos 0 ≤ℤ g) gap gaps (All-head (λ g. pos 0 ≤ℤ g) gap [] good.first)
    (All-weaker (λ g. pos 1 ≤ℤ g) (λ g. pos 0 ≤ℤ g) (λ g le. omega (arith, ints, le)) gaps good.later)

-- each sum lies below the next
below_next : (documents : ℕ) (gaps : List ℤ) (gap : ℤ) → AreGaps documents gaps → least_gap gaps ≤ℤ gap
    → All (λ sum. sum <ℤ (sum_after (pos 0) gaps +ℤ gap)) (sums_from (pos 0) gaps)
unfolding sums_from
below_next documents [] gap good least = All-nil (λ sum. sum <ℤ (sum_after (pos 0) [] +ℤ gap))
below_next documents (g ∷ gaps) gap good least =
    All-weaker (λ sum. sum ≤ℤ sum_after (pos 0) (g ∷ gaps)) (λ sum. sum <ℤ (sum_after (pos 0) (g ∷ gaps) +ℤ gap)) (λ sum le. omega (arith, ints, le, least))
    (sums_from (pos 0) (g ∷ gaps)) (below_last (pos 0) (g ∷ gaps) (none_negative documents (g ∷ gaps) good))

-- so the next posting's document lies above those of the open list
next_document : (documents doc : ℕ) (rows : PostingRows) (gap : ℤ) (building : Building) → building.documents ≡ documents → AreGaps documents (gaps_in rows) → IsGapBehind documents (gaps_in rows) gap
    → pos doc ≡ sum_after (pos 0) (gaps_in rows) +ℤ gap → ArePostings rows building.postings → IsNextDocument building doc
next_document documents doc rows gap building count good behind is postings = record {
  above = All-weaker (λ p. pos p.doc <ℤ pos doc) (λ p. p.doc < doc) (λ p lt. omega (arith, ints, lt)) building.postings
      (All-unmap (λ sum. sum <ℤ pos doc) (λ (p : Posting). pos p.doc) building.postings
      (subst (λ (sums : List ℤ). All (λ sum. sum <ℤ pos doc) sums) (sym postings.documents)
      (subst (λ (z : ℤ). All (λ sum. sum <ℤ z) (sums_from (pos 0) (gaps_in rows))) (sym is) (below_next documents (gaps_in rows) gap good behind.least))));
  below = omega (arith, ints, is, behind.below, count);
}

-- ---- one more row

gaps_push : (rows : PostingRows) (row : List Entry) → gaps_in (rows ++ row ∷ []) ≡ gaps_in rows ++ int32_at 1 row ∷ []
gaps_push rows row = map_push (int32_at 1) rows row

postings_push : SumsGrow → (rows : PostingRows) (row : List Entry) (postings : List Posting) (posting : Posting)
    → pos posting.doc ≡ sum_after (pos 0) (gaps_in rows) +ℤ int32_at 1 row → posting.tf ≡ int32_at 2 row
    → ArePostings rows postings → ArePostings (rows ++ row ∷ []) (postings ++ posting ∷ [])
postings_push grow rows row postings posting doc tf are =
    let gap = int32_at 1 row in
    record {
      documents = map_push (λ (p : Posting). pos p.doc) postings posting
          ∙ ap (λ (zs : List ℤ). zs ++ pos posting.doc ∷ []) are.documents
          ∙ ap (λ (z : ℤ). sums_from (pos 0) (gaps_in rows) ++ z ∷ []) doc
          ∙ sym (grow (pos 0) gap (gaps_in rows))
          ∙ sym (ap (sums_from (pos 0)) (gaps_push rows row));
      frequencies = map_push (λ (p : Posting). p.tf) postings posting
          ∙ ap (λ (zs : List ℤ). zs ++ posting.tf ∷ []) are.frequencies
          ∙ ap (λ (z : ℤ). map (int32_at 2) rows ++ z ∷ []) tf
          ∙ sym (map_push (int32_at 2) rows row);
    }

least_later : (gaps : List ℤ) (gap : ℤ) → least_gap (gaps ++ gap ∷ []) ≡ pos 1
least_later [] gap = refl
least_later (g ∷ gaps) gap = refl

-- as many postings as rows
pub as_many : (rows : PostingRows) (postings : List Posting) → ArePostings rows postings → length postings ≡ length rows
as_many rows postings are = sym (length-map postings (λ (p : Posting). p.tf)) ∙ ap length are.frequencies ∙ length-map rows (int32_at 2)

module _ (sums : SumsGrow) (sum : SumGrows) (grow : GapsGrow) (rows : PostingRows) (row : List Entry) where
  still_bad : (documents : ℕ) → ¬ AreGaps documents (gaps_in rows) → ¬ AreGaps documents (gaps_in (rows ++ row ∷ []))
  still_bad documents bad good = bad ((grow documents (gaps_in rows) (int32_at 1 row)).0 (subst (AreGaps documents) (gaps_push rows row) good)).0

  behind : (documents : ℕ) → AreGaps documents (gaps_in (rows ++ row ∷ [])) → IsGapBehind documents (gaps_in rows) (int32_at 1 row)
  behind documents good = ((grow documents (gaps_in rows) (int32_at 1 row)).0 (subst (AreGaps documents) (gaps_push rows row) good)).1

  -- a gap was bad before
  pub stays_bad : (kept : Gaps) (building : Building) → ¬ IsTrue kept.are_good → SaysGaps rows kept building → SaysGaps (rows ++ row ∷ []) kept building
  stays_bad kept building isnt says = record {
    good = λ was. absurd (isnt was);
    bad = λ _. still_bad building.documents (says.bad isnt);
  }

  -- this gap is bad
  pub turns_bad : (kept after : Gaps) (building : Building) → IsTrue kept.are_good → after.are_good ≡ false
      → (int32_at 1 row <ℤ pos kept.least) ⊎ (pos building.documents ≤ℤ (pos kept.document +ℤ int32_at 1 row))
      → SaysGaps rows kept building → SaysGaps (rows ++ row ∷ []) after building
  turns_bad kept after building was bad wrong says = record {
    good = λ good. absurd (false≢true (sym bad ∙ good));
    bad = λ _ good. fails (behind building.documents good);
  }
    where
      fails : IsGapBehind building.documents (gaps_in rows) (int32_at 1 row) → ⊥
      fails is =
          let before = says.good was in
          elim wrong [
            | inl low ↦ omega (arith, ints, low, before.least, is.least)
            | inr high ↦ omega (arith, ints, high, before.document, is.below)
          ]

  -- the gap is good
  pub more : (documents least document doc : ℕ) → AreGaps documents (gaps_in rows) → pos least ≡ least_gap (gaps_in rows) → pos document ≡ sum_after (pos 0) (gaps_in rows)
      → pos least ≤ℤ int32_at 1 row → pos doc ≡ pos document +ℤ int32_at 1 row → doc < documents
      → IsGapBehind documents (gaps_in rows) (int32_at 1 row) × AreGaps documents (gaps_in (rows ++ row ∷ []))
      × (pos doc ≡ sum_after (pos 0) (gaps_in rows) +ℤ int32_at 1 row)
      × (pos 1 ≡ least_gap (gaps_in (rows ++ row ∷ []))) × (pos doc ≡ sum_after (pos 0) (gaps_in (rows ++ row ∷ [])))
  more documents least document doc good least_is document_is low is high =
      let gap = int32_at 1 row in
      let sum_is : pos doc ≡ sum_after (pos 0) (gaps_in rows) +ℤ gap = is ∙ ap (λ (z : ℤ). z +ℤ gap) document_is in
      let next : IsGapBehind documents (gaps_in rows) gap = record {
        least = subst (λ (z : ℤ). z ≤ℤ gap) least_is low;
        below = omega (arith, ints, sum_is, high);
      } in (
        next,
        subst (AreGaps documents) (sym (gaps_push rows row)) ((grow documents (gaps_in rows) gap).1 (good, next)),
        sum_is,
        sym (ap least_gap (gaps_push rows row) ∙ least_later (gaps_in rows) gap),
        sum_is ∙ sym (sum (pos 0) gap (gaps_in rows)) ∙ sym (ap (sum_after (pos 0)) (gaps_push rows row)),
      )

  enter : (before : Building) (doc : ℕ) (tf : ℤ) (kept : Gaps) → IsTrue kept.are_good → pos kept.least ≤ℤ int32_at 1 row → pos doc ≡ pos kept.document +ℤ int32_at 1 row → doc < before.documents
      → SaysGaps rows kept before
      → IsGapBehind before.documents (gaps_in rows) (int32_at 1 row) × AreGaps before.documents (gaps_in (rows ++ row ∷ []))
      × (pos doc ≡ sum_after (pos 0) (gaps_in rows) +ℤ int32_at 1 row)
      × (pos 1 ≡ least_gap (gaps_in (rows ++ row ∷ []))) × (pos doc ≡ sum_after (pos 0) (gaps_in (rows ++ row ∷ [])))
  enter before doc tf kept was low is high says =
      let good = says.good was in
      more before.documents kept.least kept.document doc good.good good.least good.document low is high

  -- and the posting is pushed, or there are too many
  pub pushed : (kept : Gaps) (doc : ℕ) (tf : ℤ) (few : Bool) (before after : Building)
      → IsTrue kept.are_good → pos kept.least ≤ℤ int32_at 1 row → pos doc ≡ pos kept.document +ℤ int32_at 1 row → doc < before.documents → tf ≡ int32_at 2 row
      → IsTrue kept.are_few
      → (IsTrue few → after ≡ with_posting before (record { doc = doc; tf = tf }))
      → (¬ IsTrue few → (after ≡ before) × (IsNextDocument before doc → IsFullOfPostings before))
      → SaysGaps rows kept before → SaysGaps (rows ++ row ∷ []) (record { least = 1; document = doc; are_good = true; are_few = few }) after
  pushed kept doc tf true before after was low is high tf_is few_before taken full says =
      let good = says.good was in
      let next = enter before doc tf kept was low is high says in
      subst (SaysGaps (rows ++ row ∷ []) (record { least = 1; document = doc; are_good = true; are_few = true })) (sym (taken refl)) (record {
        good = λ _. record {
          good = next.1;
          least = next.3;
          document = next.4;
          few = λ _. postings_push sums rows row before.postings (record { doc = doc; tf = tf }) next.2 tf_is (good.few few_before);
          many = λ isnt. absurd (isnt refl);
        };
        bad = λ isnt. absurd (isnt refl);
      })
  pushed kept doc tf false before after was low is high tf_is few_before taken full says =
      let good = says.good was in
      let next = enter before doc tf kept was low is high says in
      let left = full (λ isnt. false≢true isnt) in
      let postings = good.few few_before in
      let many = left.1 (next_document before.documents doc rows (int32_at 1 row) before refl good.good next.0 next.2 postings) in
      subst (SaysGaps (rows ++ row ∷ []) (record { least = 1; document = doc; are_good = true; are_few = false })) (sym left.0) (record {
        good = λ _. record {
          good = next.1;
          least = next.3;
          document = next.4;
          few = λ isnt. absurd (false≢true isnt);
          many = λ _. omega (arith, many, length_push rows row, as_many rows before.postings postings);
        };
        bad = λ isnt. absurd (isnt refl);
      })

  -- or there were too many before
  pub passed : (kept : Gaps) (doc : ℕ) (before : Building)
      → IsTrue kept.are_good → pos kept.least ≤ℤ int32_at 1 row → pos doc ≡ pos kept.document +ℤ int32_at 1 row → doc < before.documents
      → ¬ IsTrue kept.are_few
      → SaysGaps rows kept before → SaysGaps (rows ++ row ∷ []) (record { least = 1; document = doc; are_good = true; are_few = kept.are_few }) before
  passed kept doc before was low is high full says =
      let good = says.good was in
      let next = enter before doc (pos 0) kept was low is high says in
      record {
        good = λ _. record {
          good = next.1;
          least = next.3;
          document = next.4;
          few = λ few. absurd (full few);
          many = λ isnt. omega (arith, good.many isnt, length_push rows row);
        };
        bad = λ isnt. absurd (isnt refl);
      }

-- ---- the postings that rows say

number : ℤ → ℕ
number (pos n) = n
number (negsuc n) = 0

number_is : (z : ℤ) → pos 0 ≤ℤ z → pos (number z) ≡ z
unfolding number
number_is (pos n) low = refl
number_is (negsuc n) low = absurd (omega (arith, ints, low))

postings_from : ℤ → PostingRows → List Posting
postings_from before [] = []
postings_from before (row ∷ rows) =
    record { doc = number (before +ℤ int32_at 1 row); tf = int32_at 2 row } ∷ postings_from (before +ℤ int32_at 1 row) rows

documents_from : (before : ℤ) (rows : PostingRows) → pos 0 ≤ℤ before → All (λ gap. pos 0 ≤ℤ gap) (gaps_in rows)
    → map (λ (p : Posting). pos p.doc) (postings_from before rows) ≡ sums_from before (gaps_in rows)
unfolding postings_from sums_from
documents_from before [] low all = refl
documents_from before (row ∷ rows) low all =
    let gap = int32_at 1 row in
    let least = All-head (λ g. pos 0 ≤ℤ g) gap (gaps_in rows) all in
    let next : pos 0 ≤ℤ (before +ℤ gap) = omega (arith, ints, low, least) in
    ap (λ (z : ℤ). z ∷ map (λ (p : Posting). pos p.doc) (postings_from (before +ℤ gap) rows)) (number_is (before +ℤ gap) next)
    ∙ ap (λ (zs : List ℤ). (before +ℤ gap) ∷ zs) (documents_from (before +ℤ gap) rows next (All-tail (λ g. pos 0 ≤ℤ g) gap (gaps_in rows) all))

frequencies_from : (before : ℤ) (rows : PostingRows) → map (λ (p : Posting). p.tf) (postings_from before rows) ≡ map (int32_at 2) rows
unfolding postings_from
frequencies_from before [] = refl
frequencies_from before (row ∷ rows) = ap (λ (zs : List ℤ). int32_at 2 row ∷ zs) (frequencies_from (before +ℤ int32_at 1 row) rows)

pub postings_of : (documents : ℕ) (rows : PostingRows) → AreGaps documents (gaps_in rows) → (postings : List Posting) × ArePostings rows postings
postings_of documents rows good = (
  postings_from (pos 0) rows,
  record {
    documents = documents_from (pos 0) rows (omega (arith, ints)) (none_negative documents (gaps_in rows) good);
    frequencies = frequencies_from (pos 0) rows;
  },
)
