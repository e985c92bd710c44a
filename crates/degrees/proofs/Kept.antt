-- What a table keeps when it is cleared, loaded and moved.
use Rattle.std.proofs.Common.{◌≡◌, ◌++◌, ℕ, ◌+◌, ◌^◌, ◌<◌, ◌≤◌, List, [], length, get_or, replicate, sum, sum_by, All, refl, sym, ap, ◌∙◌, arith}
use Rattle.std.proofs.lemmas.List.{length-append, length-replicate, get_or-replicate, get_or_default}
use Rattle.std.proofs.lemmas.List.Sums.{sum_by-append}
use Rattle.rgb_base.specs.declared.parts.Side.{Side}
use Rattle.rgb_base.specs.declared.parts.Side.TheVariants.{A, B}
use Rattle.rgb_base.specs.Order.{AreNumbers}
use Rattle.forward_index.specs.Forward.{ForwardIndex, IsForward, row_at}
use Rattle.degrees.specs.Counts.{Counted, IsCounted, IsCountedIn, cleared, loaded, with_less, with_more, moved_across}
use Rattle.degrees.specs.Steps.{Both, half_of, other_of}
use Rattle.degrees.proofs.Distinct.{places_within, different_short}
use Rattle.degrees.proofs.Rows.{more_at, more_len, less_at, less_len, degrees_at, degrees_len, degree_le}
use Rattle.degrees.proofs.Sums.{sum_degrees, sum_zeros, sums_agree, one_if_le}

abbrev pub counts_as : List ℕ → List ℕ → ℕ → ℕ → ℕ → Counted
counts_as a b len_a len_b loads = record { a = a; b = b; len_a = len_a; len_b = len_b; loads = loads }

pub IsCounted-cleared : (terms loads : ℕ) → terms < 2 ^ 32 → loads < 2 ^ 64 → IsCounted (cleared terms loads)
IsCounted-cleared terms loads few_terms few_loads =
    let zeros : List ℕ = replicate terms 0 in
    let len : length zeros ≡ terms = length-replicate {A = ℕ} terms 0 in
    record {
      few_terms = omega arith;
      len = refl;
      len_a = omega arith;
      len_b = omega arith;
      both = λ term lt. let zero : get_or zeros term 0 ≡ 0 = get_or-replicate {A = ℕ} terms term 0 0 (omega arith) in omega arith;
      few = omega (arith, sum_zeros terms);
      loads = few_loads;
    }

pub IsCounted-loaded : (forward : ForwardIndex) (a b : List ℕ) (loads : ℕ) → IsForward forward → AreNumbers (length forward.rows) (a ++ b) → loads < 2 ^ 64
    → IsCounted (loaded forward a b loads)
IsCounted-loaded forward a b loads sound places few_loads =
    let rows = forward.rows in
    let size : ℕ → ℕ = λ p. length (row_at rows p) in
    let short : length (a ++ b) ≤ length rows = different_short (a ++ b) (length rows) places.below places.different in
    let joined : length (a ++ b) ≡ length a + length b = length-append a b in
    let limit : length a + length b < 2 ^ 31 = omega (arith, sound.len, sound.ordered.small) in
    let within : sum_by size (a ++ b) ≤ sum_by (λ (row : List ℕ). length row) rows = places_within (λ (row : List ℕ). length row) [] refl (a ++ b) rows places.below places.different in
    let both_sums : sum_by size (a ++ b) ≡ sum_by size a + sum_by size b = sum_by-append size a b in
    record {
      few_terms = omega (arith, degrees_len forward a, sound.few_terms);
      len = degrees_len forward b ∙ sym (degrees_len forward a);
      len_a = omega arith;
      len_b = omega arith;
      both = λ term lt.
          let low : term < forward.terms = omega (arith, degrees_len forward a) in
          omega (arith, degrees_at forward a term low, degrees_at forward b term low, degree_le forward a term, degree_le forward b term);
      few = omega (arith, sum_degrees forward a, sum_degrees forward b, sound.few);
      loads = few_loads;
    }

-- a document is moved from the one list of counts to the other
moved_at : (row from to : List ℕ) (n : ℕ) → length from ≡ n → length to ≡ n → All (λ (x : ℕ). 0 < get_or from x 0) row
    → (k : ℕ) → k < n → get_or (with_less row from) k 0 + get_or (with_more row to) k 0 ≡ get_or from k 0 + get_or to k 0
moved_at row from to n from_len to_len some k lt =
    omega (arith, less_at row from k (omega arith), more_at row to k (omega arith), one_if_le row from k some)

moved_sum : (row from to : List ℕ) (n : ℕ) → length from ≡ n → length to ≡ n → All (λ (x : ℕ). 0 < get_or from x 0) row
    → sum (with_less row from) + sum (with_more row to) ≡ sum from + sum to
moved_sum row from to n from_len to_len some =
    sums_agree (with_less row from) (with_more row to) from to n (less_len row from ∙ from_len) (more_len row to ∙ to_len) from_len to_len (moved_at row from to n from_len to_len some)

pub IsCounted-moved : (side : Side) (row : List ℕ) (table : Counted) → IsCounted table → IsCountedIn side row table → IsCounted (moved_across side row table)
unfolding moved_across
IsCounted-moved A row table h counted =
    let n = length table.a in
    record {
      few_terms = omega (arith, less_len row table.a, h.few_terms);
      len = more_len row table.b ∙ h.len ∙ sym (less_len row table.a);
      len_a = h.len_a;
      len_b = h.len_b;
      both = λ term lt.
          let low : term < n = omega (arith, less_len row table.a) in
          omega (arith, h.both term low, moved_at row table.a table.b n refl h.len counted term low);
      few = omega (arith, h.few, moved_sum row table.a table.b n refl h.len counted);
      loads = h.loads;
    }
IsCounted-moved B row table h counted =
    let n = length table.a in
    record {
      few_terms = omega (arith, more_len row table.a, h.few_terms);
      len = less_len row table.b ∙ h.len ∙ sym (more_len row table.a);
      len_a = h.len_a;
      len_b = h.len_b;
      both = λ term lt.
          let low : term < n = omega (arith, more_len row table.a) in
          omega (arith, h.both term low, moved_at row table.b table.a n h.len refl counted term low);
      few = omega (arith, h.few, moved_sum row table.b table.a n h.len refl counted);
      loads = h.loads;
    }

pub counted_same : (a a' b b' : List ℕ) (len_a len_b loads loads' : ℕ) → a ≡ a' → b ≡ b' → loads ≡ loads'
    → counts_as a b len_a len_b loads ≡ counts_as a' b' len_a len_b loads'
counted_same a a' b b' len_a len_b loads loads' same_a same_b same_loads =
    ap (λ (xs : List ℕ). counts_as xs b len_a len_b loads) same_a
    ∙ ap (λ (xs : List ℕ). counts_as a' xs len_a len_b loads) same_b
    ∙ ap (λ (n : ℕ). counts_as a' b' len_a len_b n) same_loads

-- each half's places are few
pub half_short : (forward : ForwardIndex) (a b : List ℕ) → IsForward forward → AreNumbers (length forward.rows) (a ++ b) → length a + length b < 2 ^ 31
half_short forward a b sound places =
    omega (arith, different_short (a ++ b) (length forward.rows) places.below places.different, length-append {A = ℕ} a b, sound.len, sound.ordered.small)

abbrev pub table_of : Both → ℕ → ℕ → ℕ → Counted
table_of both len_a len_b loads = counts_as both.a both.b len_a len_b loads

-- what a half has in a table is what it has in the counts
pub counted_half : (side : Side) (row : List ℕ) (both : Both) (len_a len_b loads : ℕ) → IsCountedIn side row (table_of both len_a len_b loads)
    → All (λ (term : ℕ). 0 < get_or (half_of side both) term 0) row
counted_half A row both len_a len_b loads h = h
counted_half B row both len_a len_b loads h = h

pub across_few : (side : Side) (both : Both) (len_a len_b loads : ℕ) → IsCounted (table_of both len_a len_b loads)
    → All (λ (count : ℕ). count < 2 ^ 31) (other_of side both)
across_few A both len_a len_b loads h k d lt = omega (arith, get_or_default both.b k d 0 lt, h.len, h.both k (omega (arith, h.len)))
across_few B both len_a len_b loads h k d lt = omega (arith, get_or_default both.a k d 0 lt, h.both k lt)

-- a table whose halves were shifted
pub moved_same : (side : Side) (row : List ℕ) (old new : Both) (len_a len_b loads : ℕ)
    → half_of side new ≡ with_less row (half_of side old) → other_of side new ≡ with_more row (other_of side old)
    → table_of new len_a len_b loads ≡ moved_across side row (table_of old len_a len_b loads)
unfolding moved_across
moved_same A row old new len_a len_b loads half other = counted_same new.a (with_less row old.a) new.b (with_more row old.b) len_a len_b loads loads half other refl
moved_same B row old new len_a len_b loads half other = counted_same new.a (with_more row old.a) new.b (with_less row old.b) len_a len_b loads loads other half refl
