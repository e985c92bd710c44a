-- Postings behind those of the open list.
use Rattle.std.proofs.Common.{◌≡◌, ℕ, ◌+◌, ◌-◌, ◌^◌, ◌<◌, ◌≤◌, List, ◌++◌, length, map, get_or, inl, inr, refl, sym, ap, subst, arith}
use Rattle.std.specs.Prelude.{FitsSigned}
use Rattle.std.specs.Int.{w32}
use Rattle.std.specs.List.{All}
use Rattle.std.specs.List.Sorted.{IsStrictlyIncreasing}
use Rattle.std.proofs.lemmas.Bool.{cases_lt}
use Rattle.std.proofs.lemmas.List.{map-append, length-append, length-map, get_or_append_left, get_or-append_right}
use Rattle.std.proofs.lemmas.List.Elements.{All-append, All-get_or}
use Rattle.std.proofs.Math.ListN.{get_or-map}
use Rattle.rgb_base.specs.declared.parts.Posting.{Posting}
use Rattle.rgb_base.specs.Parts.{IsPostings}
use Rattle.ciff_reader.specs.Open.{IsOpen, no_posting, alone}

rising_append : (xs ys : List ℕ) → IsStrictlyIncreasing xs → IsStrictlyIncreasing ys → (0 < length xs → get_or xs (length xs - 1) 0 < get_or ys 0 0) → IsStrictlyIncreasing (xs ++ ys)
rising_append xs ys up more seam = λ k lt.
    let n = length xs in
    let whole = length-append xs ys in
    elim (cases_lt (k + 1) n) [
      | inl before ↦ omega (arith, up k before, get_or_append_left xs ys 0 k (omega (arith, before)), get_or_append_left xs ys 0 (k + 1) before)
      | inr le ↦ elim (cases_lt k n) [
        | inl last ↦
            let here : n - 1 ≡ k = omega (arith, le, last) in
            let next : k + 1 - n ≡ 0 = omega (arith, le, last) in
            let step : get_or xs k 0 < get_or ys 0 0 = subst (λ (i : ℕ). get_or xs i 0 < get_or ys 0 0) here (seam (omega (arith, last))) in
            omega (arith, step, get_or_append_left xs ys 0 k last, get_or-append_right xs ys n (k + 1) 0 refl le, ap (λ (i : ℕ). get_or ys i 0) next)
        | inr behind ↦
            let next : k + 1 - n ≡ (k - n) + 1 = omega (arith, behind) in
            omega (
              arith,
              more (k - n) (omega (arith, lt, whole, behind)),
              get_or-append_right xs ys n k 0 refl behind,
              get_or-append_right xs ys n (k + 1) 0 refl le,
              ap (λ (i : ℕ). get_or ys i 0) next,
            )
      ]
    ]

doc_read : (postings : List Posting) (k : ℕ) → get_or (map (λ (p : Posting). p.doc) postings) k 0 ≡ (get_or postings k no_posting).doc
doc_read postings k = get_or-map (λ (p : Posting). p.doc) postings k no_posting

postings_append : (documents : ℕ) (xs ys : List Posting) → IsPostings documents xs → IsPostings documents ys
    → (0 < length xs → (get_or xs (length xs - 1) no_posting).doc + 1 ≤ (get_or ys 0 no_posting).doc) → IsPostings documents (xs ++ ys)
postings_append documents xs ys first second seam =
    let doc = λ (p : Posting). p.doc in
    record {
      rising = subst IsStrictlyIncreasing (sym (map-append doc xs ys))
          (rising_append (map doc xs) (map doc ys) first.rising second.rising
          (λ some. omega (
            arith,
            seam (omega (arith, some, length-map xs doc)),
            ap (λ (n : ℕ). get_or (map doc xs) (n - 1) 0) (length-map xs doc),
            doc_read xs (length xs - 1),
            doc_read ys 0,
          )));
      below = All-append (λ (p : Posting). p.doc < documents) xs ys first.below second.below;
    }

-- the open list with more postings, the first of which is at least this
pub is_open_with : (documents least : ℕ) (xs ys : List Posting) → IsOpen (alone documents xs) → IsPostings documents ys → All (λ (p : Posting). FitsSigned w32 p.tf) ys
    → (0 < length xs → least ≡ (get_or xs (length xs - 1) no_posting).doc + 1) → least ≤ (get_or ys 0 no_posting).doc → length xs + length ys < 2 ^ 32
    → IsOpen (alone documents (xs ++ ys))
is_open_with documents least xs ys sound rising fit is low few = record {
  no_list = refl;
  narrow = sound.narrow;
  few = omega (arith, few, length-append xs ys);
  rising = postings_append documents xs ys sound.rising rising (λ some. omega (arith, is some, low));
  fit = All-append (λ (p : Posting). FitsSigned w32 p.tf) xs ys sound.fit fit;
}

pub last_below : (documents : ℕ) (xs : List Posting) (k : ℕ) → IsPostings documents xs → k < length xs → (get_or xs k no_posting).doc < documents
last_below documents xs k h lt = All-get_or (λ (p : Posting). p.doc < documents) xs k no_posting lt h.below
