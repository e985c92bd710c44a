-- A list's postings rise as far as a loop has come.
use Rattle.std.proofs.Common.{◌≡◌, ℕ, ◌+◌, ◌-◌, ◌<◌, ◌≤◌, ◌⊎◌, List, length, get_or, map, arith, inl, inr, sym, subst, ap, ◌∙◌}
use Rattle.std.specs.Prelude.{pos}
use Rattle.std.proofs.lemmas.Bool.{cases_lt}
use Rattle.std.proofs.lemmas.List.{length-map}
use Rattle.std.proofs.lemmas.List.Elements.{All-from_get_or}
use Rattle.std.proofs.Math.ListN.{get_or-map}
use Rattle.rgb_base.specs.declared.parts.Posting.{Posting}
use Rattle.rgb_base.specs.Parts.{IsPostings}

-- the document of posting k
abbrev pub doc_at : List Posting → ℕ → ℕ
doc_at postings k = get_or (map (λ posting. posting.doc) postings) k 0

-- the first i postings rise and lie below the number of documents, and the next document is to be at least this
pub record RisesTo (documents : ℕ) (postings : List Posting) (i least : ℕ) : Type 0 where
  pub rising : (k : ℕ) → k + 1 < i → doc_at postings k < doc_at postings (k + 1)
  pub below : (k : ℕ) → k < i → doc_at postings k < documents
  pub lower : (k : ℕ) → k < i → doc_at postings k < least

abbrev pub no_posting : Posting
no_posting = record { doc = 0; tf = pos 0 }

-- the next document is to be above the last one, where there is a last one
abbrev pub IsLeast : List Posting → ℕ → ℕ → Type 0
IsLeast postings i least = (least ≡ 0) ⊎ ((0 < i) × (doc_at postings (i - 1) + 1 ≡ least))

pub doc_read : (postings : List Posting) (k : ℕ) → doc_at postings k ≡ (get_or postings k no_posting).doc
doc_read postings k = get_or-map (λ (posting : Posting). posting.doc) postings k no_posting

step_at : (f : ℕ → ℕ) (i least : ℕ) → ((k : ℕ) → k + 1 < i → f k < f (k + 1)) → ((k : ℕ) → k < i → f k < least) → least ≤ f i
    → (k : ℕ) → k + 1 < i + 1 → f k < f (k + 1)
step_at f i least up low here k h =
    elim (cases_lt (k + 1) i) [
      | inl lt ↦ up k lt
      | inr ge ↦ let e : k + 1 ≡ i = omega arith in subst (λ (n : ℕ). f k < f n) (sym e) (omega (arith, low k (omega arith)))
    ]

below_at : (f : ℕ → ℕ) (i limit : ℕ) → ((k : ℕ) → k < i → f k < limit) → f i < limit → (k : ℕ) → k < i + 1 → f k < limit
below_at f i limit low here k h =
    elim (cases_lt k i) [
      | inl lt ↦ low k lt
      | inr ge ↦ let e : k ≡ i = omega arith in subst (λ (n : ℕ). f n < limit) (sym e) here
    ]

pub RisesTo-more : (documents : ℕ) (postings : List Posting) (i least doc : ℕ) → RisesTo documents postings i least → doc_at postings i ≡ doc → least ≤ doc → doc < documents
    → RisesTo documents postings (i + 1) (doc + 1)
RisesTo-more documents postings i least doc h e low high = record {
  rising = step_at (doc_at postings) i least h.rising h.lower (omega arith);
  below = below_at (doc_at postings) i documents h.below (omega arith);
  lower = below_at (doc_at postings) i (doc + 1) (λ k lt. omega (arith, h.lower k lt)) (omega arith);
}

pub IsLeast-more : (postings : List Posting) (i doc : ℕ) → doc_at postings i ≡ doc → IsLeast postings (i + 1) (doc + 1)
IsLeast-more postings i doc e = let same : i + 1 - 1 ≡ i = omega arith in inr (omega arith, ap (λ (n : ℕ). doc_at postings n + 1) same ∙ ap (λ (n : ℕ). n + 1) e)

pub IsPostings-from_RisesTo : (documents : ℕ) (postings : List Posting) (i least : ℕ) → RisesTo documents postings i least → length postings ≤ i → IsPostings documents postings
IsPostings-from_RisesTo documents postings i least h whole = record {
  rising = λ k lt. h.rising k (omega (arith, length-map postings (λ posting. posting.doc)));
  below = All-from_get_or (λ posting. posting.doc < documents) postings no_posting (λ k lt. subst (λ (doc : ℕ). doc < documents) (doc_read postings k) (h.below k (omega arith)));
}
