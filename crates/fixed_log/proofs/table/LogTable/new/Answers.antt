use Rattle.std.proofs.Common.{◌≡◌, ◌+◌, ◌-◌, pos, ℕ, ℤ, ◌-ℤ◌, to_z, of_z, w64, length, sym, ap, ◌∙◌, arith}
use Rattle.std.proofs.lemmas.Int.{ints}
use Rattle.fixed_log.specs.Log.{lg}
use Rattle.fixed_log.specs.Growth.{log_product, growth}
use Rattle.fixed_log.proofs.Growths.{log_product-none, growth-next, pushed}
use Rattle.fixed_log.proofs.table.LogTable.new.Goals as goal

pub loop-below-init : goal.loop-below-init
loop-below-init c = record {
  len = omega (arith, c.in_ok-logs.ensures.len);
  room = omega (arith, c.in_ok-logs.ensures.capacity);
  entries = λ i below. absurd (omega (arith, below));
  growths_len = omega (arith, c.in_ok-growths.ensures.len);
  growths_room = omega (arith, c.in_ok-growths.ensures.capacity);
  growths = λ i below. absurd (omega (arith, below));
  before = ap pos (sym log_product-none);
  small = omega (arith, log_product-none);
}

pub loop-below-preserved : goal.loop-below-preserved
loop-below-preserved c =
    let n = c.loop-below.below in
    let kept = c.loop-below.invariant in
    let product = c.log_product-product in
    let before = to_z w64 c.loop-below.before-bits in
    let same : log_product (n + 1 - 1) ≡ log_product n = ap log_product (omega arith) in
    let z = to_z w64 (of_z w64 (to_z w64 (of_z w64 product.result) -ℤ before)) in
    let z_is : z ≡ product.result -ℤ before = omega (arith, ints, product.ensures.same, kept.before, kept.small, product.ensures.small) in
    record {
      len = omega (arith, c.push_reserved.ensures.len, kept.len);
      room = omega (arith, c.push_reserved.ensures.capacity, kept.room);
      entries = pushed (λ (i l : ℕ). l ≡ lg (i + 1)) c.loop-below.logs.items c.push_reserved.new.self.items c.lg-log.result 0 n c.push_reserved.ensures.items (omega (arith, kept.len, c.loop-below.logs.ok.0)) kept.entries (c.lg-log.ensures.same ∙ ap (λ (k : ℕ). lg (k + 1)) c.from.ensures);
      growths_len = omega (arith, c.push_reserved-in-loop-below.ensures.len, kept.growths_len);
      growths_room = omega (arith, c.push_reserved-in-loop-below.ensures.capacity, kept.growths_room);
      growths = pushed (λ (i : ℕ) (g : ℤ). g ≡ growth i) c.loop-below.growths.items c.push_reserved-in-loop-below.new.self.items z (pos 0) n c.push_reserved-in-loop-below.ensures.items (omega (arith, kept.growths_len, c.loop-below.growths.ok.0)) kept.growths
          (growth-next n before product.result z (omega arith) kept.before product.ensures.same z_is);
      before = omega (arith, ints, product.ensures.same, product.ensures.small, same);
      small = omega (arith, same, product.ensures.small);
    }

pub invariant_of-result : goal.invariant_of-result
invariant_of-result c =
    let n = c.loop-below.below in
    let kept = c.loop-below.invariant in
    let last = c.log_product-last in
    let end : n ≡ c.args.n = omega arith in
    let before = to_z w64 c.loop-below.before-bits in
    let z = to_z w64 (of_z w64 (to_z w64 (of_z w64 last.result) -ℤ before)) in
    let z_is : z ≡ last.result -ℤ before = omega (arith, ints, last.ensures.same, kept.before, kept.small, last.ensures.small) in
    let logs : length c.loop-below.logs.items ≡ n = omega (arith, kept.len, c.loop-below.logs.ok.0) in
    let growths : length c.loop-below.growths.items ≡ n = omega (arith, kept.growths_len, c.loop-below.growths.ok.0) in (
      record {
        some = omega (arith, logs, end, c.requires.some);
        most = omega (arith, logs, end, c.requires.most);
        entries = λ i below. kept.entries i (omega (arith, logs, below));
      },
      record {
        len = omega (arith, c.push_reserved-2.ensures.len, c.push_reserved-2.new.self.ok.0, kept.growths_len, logs);
        entries = λ count below.
            pushed (λ (i : ℕ) (g : ℤ). g ≡ growth i) c.loop-below.growths.items c.push_reserved-2.new.self.items z (pos 0) n c.push_reserved-2.ensures.items growths kept.growths
            (growth-next n before last.result z (omega (arith, end, c.requires.most)) kept.before (last.ensures.same ∙ ap (λ (k : ℕ). pos (log_product k)) (sym end)) z_is)
            count (omega (arith, below, c.push_reserved-2.ensures.len, c.push_reserved-2.new.self.ok.0, kept.growths_len));
      },
    )
