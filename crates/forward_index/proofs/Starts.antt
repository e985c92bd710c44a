-- The start orders.
use Rattle.std.proofs.Common.{◌≡◌, ℕ, ◌^◌, ◌<◌, List, length, get_or, sym, ◌∙◌, arith, zero-add}
use Rattle.std.specs.List.{range_with_len}
use Rattle.std.proofs.lemmas.List.{ext_get_or}
use Rattle.std.proofs.lemmas.List.FromFn.{length-range_with_len, get_or-range_with_len}
use Rattle.rgb_base.specs.Order.{IsOrder, Renumbers}
use Rattle.rgb_base.specs.Laws.{NumbersUndoTheOrder}

-- the order that leaves each number where it is lists the numbers in order
pub identity_range : NumbersUndoTheOrder → (order : List ℕ) (n : ℕ) → IsOrder order → Renumbers order n (λ old. old) → order ≡ range_with_len 0 n
identity_range undo order n ordered same =
    let len : length order ≡ n = same.len in
    ext_get_or 0 order (range_with_len 0 n) (len ∙ sym (length-range_with_len 0 n)) (λ i lt.
    let at = (undo order ordered).1 i lt in
    let low : get_or order i 0 < n = omega (arith, at.0, len) in
    let here : get_or order i 0 ≡ i = sym (same.each (get_or order i 0) low) ∙ at.1 in
    here ∙ sym (get_or-range_with_len 0 n i 0 (omega (arith, lt, len)) ∙ zero-add i))

-- the numbers in order are an order
pub IsOrder-range : (n : ℕ) → n < 2 ^ 31 → IsOrder (range_with_len 0 n)
IsOrder-range n small =
    let len = length-range_with_len 0 n in
    record {
      small = omega (arith, small, len);
      numbers = record {
        below = λ k d lt. omega (arith, get_or-range_with_len 0 n k d (omega (arith, lt, len)), lt);
        different = λ i j d less within same. absurd (omega (arith, get_or-range_with_len 0 n i d (omega (arith, less, within, len)), get_or-range_with_len 0 n j d (omega (arith, within, len)), same, less));
      };
      each = λ old lt. (old, lt, get_or-range_with_len 0 n old old (omega (arith, lt, len)) ∙ zero-add old);
    }

pub range_from_each : (numbers : List ℕ) (n : ℕ) → length numbers ≡ n → ((k : ℕ) → k < n → get_or numbers k 0 ≡ k) → numbers ≡ range_with_len 0 n
range_from_each numbers n len each =
    ext_get_or 0 numbers (range_with_len 0 n) (len ∙ sym (length-range_with_len 0 n)) (λ k lt.
    let lt' : k < n = omega (arith, lt, len) in
    each k lt' ∙ sym (get_or-range_with_len 0 n k 0 lt' ∙ zero-add k))
