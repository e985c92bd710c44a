use Rattle.std.proofs.Common.{◌≡◌, ℕ, ◌+◌, ◌-◌, ◌*◌, ◌/◌, ◌<◌, ◌≤◌, List, length, get_or, sym, ap, subst, ◌∙◌, arith}
use Rattle.std.specs.List.Sorted.{IsStrictlyIncreasing}
use Rattle.postings_rewrite.specs.declared.store.Place.{Place}
use Rattle.postings_rewrite.specs.Blocks.{skips, before_of, bytes_of, skip_count, IsBefore, place_before}
use Rattle.postings_rewrite.specs.BlockTables.{IsRegionOf}
use Rattle.postings_rewrite.proofs.Gapped.{skips-at, skips_rise, leap_found, block_ahead}
use Rattle.postings_rewrite.proofs.region.Region.leap.Goals as goal

pub first_from-next-requires-clause-rising : goal.first_from-next-requires-clause-rising
first_from-next-requires-clause-rising c =
    let list = c.args.self.now in
    let is = subst (IsRegionOf c.self.inside) c.self.view_is c.self.invariant in
    subst IsStrictlyIncreasing (sym is.befores) (skips_rise list (skip_count c.self.inside.len) is.sound.rising (omega (arith, is.len)))

pub overflow_cast-result : goal.overflow_cast-result
overflow_cast-result c =
    let is = subst (IsRegionOf c.self.inside) c.self.view_is c.self.invariant in
    let leap = leap_found c.args.self.now _ _ c.self.inside.len _ _ _ is.befores is.offsets c.first_from-next.ensures.first c.if-next-block.false in
    record { fits = omega (arith, leap.whole, is.few) }

pub overflow_mul-result : goal.overflow_mul-result
overflow_mul-result c =
    let is = subst (IsRegionOf c.self.inside) c.self.view_is c.self.invariant in
    let leap = leap_found c.args.self.now _ _ c.self.inside.len _ _ _ is.befores is.offsets c.first_from-next.ensures.first c.if-next-block.false in
    record { fits = omega (arith, leap.whole, is.few) }

pub bounds-self-inside-next : goal.bounds-self-inside-next
bounds-self-inside-next c =
    let is = subst (IsRegionOf c.self.inside) c.self.view_is c.self.invariant in
    let leap = leap_found c.args.self.now _ _ c.self.inside.len _ _ _ is.befores is.offsets c.first_from-next.ensures.first c.if-next-block.false in
    leap.inside

pub returns : goal.returns
returns c = record {
  ahead = λ n stands.
      let list = c.args.self.now in
      let count = skip_count c.self.inside.len in
      let next = c.first_from-next.result in
      let is = subst (IsRegionOf c.self.inside) c.self.view_is c.self.invariant in
      let leap = leap_found list _ _ c.self.inside.len _ _ _ is.befores is.offsets c.first_from-next.ensures.first c.if-next-block.false in
      let entry : c.args.place.entry ≡ n = ap (λ (p : Place). p.entry) stands in
      let same : next - 1 + 1 ≡ next = omega (arith, leap.ahead) in
      let within : next - 1 < count = omega (arith, leap.ahead, leap.few) in
      let befores : get_or c.self.inside.befores.now (next - 1) 0 ≡ before_of (place_before list (128 * next)) =
      ap (λ (xs : List ℕ). get_or xs (next - 1) 0) is.befores ∙ (skips-at before_of list count (next - 1) within ∙ ap (λ (k : ℕ). before_of (place_before list (128 * k))) same) in
      let offsets : get_or c.self.inside.offsets.now (next - 1) 0 ≡ bytes_of (place_before list (128 * next)) =
      ap (λ (xs : List ℕ). get_or xs (next - 1) 0) is.offsets ∙ (skips-at bytes_of list count (next - 1) within ∙ ap (λ (k : ℕ). bytes_of (place_before list (128 * k))) same) in
      let low : get_or c.self.inside.befores.now (next - 1) 0 < c.args.target + 1 = omega (arith, c.saturating_add.ensures, c.first_from-next.ensures.first.passed (next - 1) (omega (arith, leap.ahead)) (omega (arith, leap.ahead))) in
      block_ahead list n c.args.target next _ _ is.sound.rising (omega (arith, leap.ahead)) (omega (arith, leap.ahead, entry)) (omega (arith, leap.whole, is.len)) low offsets befores;
}
