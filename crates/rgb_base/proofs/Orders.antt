-- The laws of orders.
use Rattle.std.proofs.Common.{◌≡◌, ℕ, ◌<◌, length, get_or, sym, ap, ◌∙◌, arith}
use Rattle.std.proofs.lemmas.List.{ext_get_or}
use Rattle.rgb_base.specs.Order.{new_of}
use Rattle.rgb_base.specs.Laws.{NewNumbersTellTheOrder, InverseOfInverse, InverseBothWays, AfterIdentity, IdentityAfter}
use Rattle.rgb_base.proofs.Tables.{new_of-order, new_of-below, order-new_of, order-below}

pub told : NewNumbersTellTheOrder
told a b a_order b_order len same = ext_get_or 0 b a len (λ new lt.
    let within : new < length a = omega arith in
    let old = get_or a new 0 in
    let below : old < length a = order-below a new a_order within in
    let place : new_of b old ≡ new = same old below ∙ new_of-order a new a_order within in
    ap (λ (n : ℕ). get_or b n 0) (sym place) ∙ order-new_of b old b_order (omega arith))

pub twice : InverseOfInverse
twice a b c ab bc = told a c ab.ordered bc.other_ordered (bc.len ∙ ab.len) (λ old lt.
    let new = new_of a old in
    let below : new < length b = omega (arith, ab.len, new_of-below a old ab.ordered lt) in
    ap (new_of c) (sym (ab.undoes old lt)) ∙ bc.undoes new below)

pub both_ways : InverseBothWays
both_ways a b ab = record {
  ordered = ab.other_ordered;
  other_ordered = ab.ordered;
  len = sym ab.len;
  undoes = λ old lt.
      let within : old < length a = omega (arith, ab.len) in
      -- `old` is the new number by a of its entry there
      let entry = get_or a old 0 in
      let below : entry < length a = order-below a old ab.ordered within in
      let is_new : new_of a entry ≡ old = new_of-order a old ab.ordered within in
      ap (λ (n : ℕ). new_of a (new_of b n)) (sym is_new) ∙ ap (new_of a) (ab.undoes entry below) ∙ is_new;
}

pub after_same : AfterIdentity
after_same a same both a_order same_order both_order leaves joins = told a both a_order both_order joins.len (λ old lt. joins.each old lt ∙ ap (new_of a) (leaves.each old lt))

pub same_after : IdentityAfter
same_after a same both a_order same_order both_order leaves joins = told a both a_order both_order joins.len (λ old lt. joins.each old lt ∙ leaves.each (new_of a old) (new_of-below a old a_order lt))
