-- Where a text may be cut, once another stands behind it.
use Rattle.std.proofs.Common.{◌≡◌, ℕ, ◌-◌, ◌<◌, ◌≤◌, List, [], ◌∷◌, ◌++◌, length, get_or, refl, ap, ◌∙◌, arith, length-append, inl, inr}
use Rattle.std.specs.Str.{IsUtf8, IsCharBoundary}
use Rattle.std.proofs.lemmas.Bool.{cases_lt}
use Rattle.std.proofs.lemmas.List.{get_or_append_left, get_or-append_right}
use Rattle.std.proofs.lemmas.List.Elements.{All-weaker, All-push}
use Rattle.std.proofs.lemmas.Str.{IsCharBoundary-start}
use Rattle.rgb_base.specs.Flat.{IsTextTable}
use Rattle.rgb_base.proofs.Cuts.{AreCuts-pushed, last_end-more}

pub boundary_more : (bytes more : List ℕ) (i : ℕ) → IsUtf8 more → IsCharBoundary bytes i → IsCharBoundary (bytes ++ more) i
boundary_more bytes more i text h = (
  let low : i ≤ length bytes = h.0 in omega (arith, low, length-append bytes more),
  λ lt big.
      elim (cases_lt i (length bytes)) [
        | inl within ↦
            let same = get_or_append_left bytes more 0 i within in
            let big' : 128 ≤ get_or bytes i 0 = omega (arith, big, same) in
            let answer : 192 ≤ get_or bytes i 0 = h.1 within big' in
            omega (arith, same, answer)
        | inr past ↦
            let low : i ≤ length bytes = h.0 in
            let at : i ≡ length bytes = omega (arith, low, past) in
            let none : i - length bytes ≡ 0 = omega (arith, at) in
            let same : get_or (bytes ++ more) i 0 ≡ get_or more 0 0 = get_or-append_right bytes more (length bytes) i 0 refl past ∙ ap (λ (n : ℕ). get_or more n 0) none in
            let big' : 128 ≤ get_or more 0 0 = omega (arith, big, same) in
            let within : 0 < length more = omega (arith, lt, at, length-append bytes more) in
            let start : IsCharBoundary more 0 = IsCharBoundary-start more text in
            let answer : 192 ≤ get_or more 0 0 = start.1 within big' in
            omega (arith, same, answer)
      ],
)

pub boundary_end : (bytes : List ℕ) (end : ℕ) → end ≡ length bytes → IsCharBoundary bytes end
boundary_end bytes end same = (omega (arith, same), λ lt big. absurd (omega (arith, lt, same)))

-- one text more
pub IsTextTable-pushed : (ends bytes text : List ℕ) → IsUtf8 text → IsTextTable ends bytes → IsTextTable (ends ++ length (bytes ++ text) ∷ []) (bytes ++ text)
IsTextTable-pushed ends bytes text utf8 h = record {
  cuts = AreCuts-pushed ends (length bytes) (length (bytes ++ text)) h.cuts (omega (arith, length-append bytes text));
  whole = last_end-more 0 ends (length (bytes ++ text));
  boundaries = All-push (IsCharBoundary (bytes ++ text)) ends (length (bytes ++ text)) (All-weaker (IsCharBoundary bytes) (IsCharBoundary (bytes ++ text)) (λ i at. boundary_more bytes text i utf8 at) ends h.boundaries) (boundary_end (bytes ++ text) (length (bytes ++ text)) refl);
}
